-- The faults of the layers, among those of synthesis.
use Rattle.blif_read.specs.declared.fault.ReadFault.{ReadFault}
use Rattle.blif_read.specs.declared.fault.ReadFault.TheVariants as read
use Rattle.blif_check.specs.declared.fault.OrderFault.{OrderFault}
use Rattle.blif_check.specs.declared.fault.OrderFault.TheVariants as order
use Rattle.subject_graph.specs.declared.fault.GraphFault.{GraphFault}
use Rattle.subject_graph.specs.declared.fault.GraphFault.TheVariants as graph
use Rattle.balance_map.specs.declared.fault.MapFault.{MapFault}
use Rattle.balance_map.specs.declared.fault.MapFault.TheVariants as cover
use Rattle.dro_chains.specs.declared.chain.ChainFault.{ChainFault}
use Rattle.dro_chains.specs.declared.chain.ChainFault.TheVariants as chain
use Rattle.synth.specs.declared.fault.SynthFault.{SynthFault}
use Rattle.synth.specs.declared.fault.SynthFault.TheVariants.{Blif, DuplicateDriver, Undriven, Cycle, TooManyNodes, TooManyGates, TooManyDros, NoMemory}

-- a line's
abbrev pub of_read : ReadFault → SynthFault
of_read (read.Blif fault) = Blif fault
of_read read.NoMemory = NoMemory

-- the whole text's
abbrev pub of_order : OrderFault → SynthFault
of_order (order.DuplicateDriver name) = DuplicateDriver name
of_order (order.Undriven name) = Undriven name
of_order (order.Cycle line) = Cycle line
of_order order.NoMemory = NoMemory

-- the graph's
abbrev pub of_graph : GraphFault → SynthFault
of_graph graph.TooManyNodes = TooManyNodes
of_graph graph.NoMemory = NoMemory

-- the gates'
abbrev pub of_map : MapFault → SynthFault
of_map cover.TooManyGates = TooManyGates
of_map cover.NoMemory = NoMemory

-- the chains'
abbrev pub of_chain : ChainFault → SynthFault
of_chain (chain.TooManyDros count) = TooManyDros count
of_chain chain.NoMemory = NoMemory
