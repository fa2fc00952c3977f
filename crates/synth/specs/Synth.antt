-- Synthesis: what becomes of a text with n phases, layer by layer, or what the first layer that refuses it says.
use Rattle.std.specs.Prelude.{ℕ, List, length, cond, nat_lt, Option, Some, None, Result, Ok, Err}
use Rattle.net_base.specs.Answers.{◌>>=◌}
use Rattle.net_base.specs.declared.graph.Subject.{Subject}
use Rattle.net_base.specs.declared.graph.TheConstants.{MAX_NODES}
use Rattle.blif_model.specs.declared.design.Design.{Design}
use Rattle.blif_model.specs.declared.design.Ordered.{Ordered}
use Rattle.blif_model.specs.Order.{Refusal, DuplicateDriver as DrivenTwice, Undriven as NotDriven, Cycle as OnCycle, table_order}
use Rattle.blif_read.specs.Reading.{design_of}
use Rattle.subject_graph.specs.Tables.{subject_of}
use Rattle.balance_map.specs.Cover.{cover_of}
use Rattle.gate_net.specs.declared.net.GateNet.{GateNet}
use Rattle.flow_net.specs.declared.net.Flow.{Flow}
use Rattle.dro_chains.specs.declared.chain.Chained.{Chained}
use Rattle.pulse_net.specs.declared.net.PulseNet.{PulseNet}
use Rattle.pulse_net.specs.Dros.{dros}
use Rattle.splitters.specs.Elements.{elements_of}
use Rattle.synth.specs.declared.fault.SynthFault.{SynthFault}
use Rattle.synth.specs.declared.fault.SynthFault.TheVariants.{Blif, DuplicateDriver, Undriven, Cycle, TooManyNodes, TooManyGates, TooManyDros, NoMemory}
use Rattle.synth.specs.declared.made.Made.{Made}
use Rattle.synth.specs.declared.made.TheConstants.{MAX_GATES}
use Rattle.synth.specs.Clocking.{clocks, clock_flow}
use Rattle.synth.specs.Counts.{is_gate, is_split, element_junctions, counted}
use Rattle.synth.specs.Meaning.{names_of}

-- a layer's answer, with its refusal among those of synthesis
abbrev pub refused_as : {A E : Type 0} → (E → SynthFault) → Result A E → Result A SynthFault
refused_as tell (Ok answer) = Ok answer
refused_as tell (Err refusal) = Err (tell refusal)

-- what refuses an order
abbrev pub order_fault : Refusal → SynthFault
order_fault (DrivenTwice name) = DuplicateDriver name
order_fault (NotDriven name) = Undriven name
order_fault (OnCycle line) = Cycle line

-- the design of a text
abbrev pub reads : List ℕ → Result Design SynthFault
reads text = refused_as Blif (design_of text)

-- a design with the order of its tables
abbrev pub orders : Design → Result Ordered SynthFault
orders design = refused_as order_fault (table_order design) >>= λ order. Ok (record { design = design; order = order })

-- a subject, unless its graph has too many nodes
abbrev pub within_nodes : Subject → Result Subject SynthFault
within_nodes subject = cond (nat_lt MAX_NODES (length subject.graph.nodes)) (Err TooManyNodes) (Ok subject)

-- gates, unless there are too many
abbrev pub within_gates : Option GateNet → Result GateNet SynthFault
within_gates None = Err TooManyGates
within_gates (Some gates) = Ok gates

-- a netlist and a flow, with the numbers of what the netlist is made of and of what it was made from
abbrev pub made_of : Design → Subject → PulseNet → Flow → Made
made_of design subject net flow = record {
  net = net;
  flow = flow;
  tables = length design.tables;
  nodes = length subject.graph.nodes;
  gates = counted is_gate net.elements;
  dros = dros net.elements;
  splits = counted is_split net.elements;
  junctions = counted element_junctions net.elements;
}

-- a text's design with the order of its tables
abbrev pub ordered_in : List ℕ → Result Ordered SynthFault
ordered_in text = reads text >>= orders

-- the gates of a subject, unless there are too many
abbrev pub covers : Subject → Result GateNet SynthFault
covers subject = within_gates (cover_of MAX_GATES subject)

-- the chains of gates with n phases, unless they have too many DROs
abbrev pub chains_within : ℕ → GateNet → Result Chained SynthFault
chains_within n gates = refused_as TooManyDros (clocks n gates)

-- the netlist of gates with n phases, with the names of a design
abbrev pub nets_within : ℕ → Design → GateNet → Result PulseNet SynthFault
nets_within n design gates = chains_within n gates >>= λ chained. Ok (elements_of chained (names_of design))

-- What becomes of a text with n phases: the netlist of its gates with shared chains and splitter trees, at the least optimal epochs,
-- with the flow of the rounds, or what refuses it first: a line, then the whole text, then the number of nodes, of gates, of DROs.
unfoldable pub synth_of : ℕ → List ℕ → Result Made SynthFault
synth_of n text =
    ordered_in text >>= λ ordered.
    within_nodes (subject_of ordered) >>= λ subject.
    covers subject >>= λ gates.
    nets_within n ordered.design gates >>= λ net.
    Ok (made_of ordered.design subject net (clock_flow n gates))

-- the answer that a fault tells; want of memory tells none
abbrev pub told : {A : Type 0} → SynthFault → Option (Result A SynthFault)
told NoMemory = None
told fault = Some (Err fault)
