-- What is said of netlist texts beside the reading and writing of one.
use Rattle.std.specs.Prelude.{◌≡◌, ◌↔◌, ◌++◌, ℕ, List, All, Ok, Err}
use Rattle.net_base.specs.Name.{IsName}
use Rattle.flow_net.specs.declared.net.Flow.{Flow}
use Rattle.flow_net.specs.declared.net.Units.{Units}
use Rattle.pulse_net.specs.declared.net.PulseNet.{PulseNet}
use Rattle.pulse_net.specs.Formed.{IsFormed}
use Rattle.netlist_text.specs.declared.fault.TextFault.{TextFault}
use Rattle.netlist_text.specs.declared.fault.TextReadFault.TheVariants.{Text}
use Rattle.netlist_text.specs.Spelling.{spelling_of}
use Rattle.netlist_text.specs.Lines.{IsSmall, IsSmallWire, IsSmallOutlet, numbers_of}
use Rattle.netlist_text.specs.Read.{line_count, line_feeds}
use Rattle.netlist_text.specs.Faults.{IsFaultOf, IsFaultOfPrefix}
use Rattle.netlist_text.specs.Parsing.{parsed, parsed_prefix}

-- the units of a pin are numbers of 32 bits
abbrev pub AreSmallUnits : Units → Type 0
AreSmallUnits units = IsSmall units.forward × IsSmall units.back

-- A netlist and a flow as the types have them: names are names, and numbers have 32 bits.
pub record IsTyped (net : PulseNet) (flow : Flow) : Type 0 where
  pub model : IsName net.names.model
  pub inputs : All IsName net.names.inputs
  pub outputs : All IsName net.names.outputs
  pub latency : IsSmall net.latency
  pub wires : All IsSmallWire net.inputs
  pub elements : All (λ element. All IsSmall (numbers_of element)) net.elements
  pub outlets : All IsSmallOutlet net.outputs
  pub pins : All AreSmallUnits flow.pins

-- Where two spellings, with what follows them, are the same bytes, the netlists, the flows and what follows are the same.
abbrev pub SpellingsDiffer : Type 0
SpellingsDiffer =
    (net other : PulseNet) (flow more : Flow) (rest others : List ℕ) → IsFormed net → IsTyped net flow → IsFormed other → IsTyped other more
    → spelling_of net flow ++ rest ≡ spelling_of other more ++ others → (net ≡ other) × (flow ≡ more) × (rest ≡ others)

-- Bytes that begin with a spelling have no fault up to its end, and bytes that are one have none.
abbrev pub SpellingsHaveNoFault : Type 0
SpellingsHaveNoFault =
    (net : PulseNet) (flow : Flow) (rest : List ℕ) (fault : TextFault) → IsFormed net → IsTyped net flow
    → (IsFaultOfPrefix (spelling_of net flow ++ rest) (Text fault) → ⊥) × (IsFaultOf (spelling_of net flow) (Text fault) → ⊥)

-- Bytes are read as a netlist and a flow exactly where they are their spelling.
abbrev pub SpellingsAreParsed : Type 0
SpellingsAreParsed =
    (bytes : List ℕ) (net : PulseNet) (flow : Flow)
    → parsed bytes ≡ Ok (net, flow) ↔ (bytes ≡ spelling_of net flow) × IsFormed net × IsTyped net flow

-- The fault that is read of bytes is their first one, of the whole as of the front.
abbrev pub FirstFaultsAreParsed : Type 0
FirstFaultsAreParsed =
    (bytes : List ℕ) (fault : TextFault)
    → (parsed bytes ≡ Err fault ↔ IsFaultOf bytes (Text fault)) × (parsed_prefix bytes ≡ Err fault ↔ IsFaultOfPrefix bytes (Text fault))

-- A spelling has as many line feeds as it is said to have lines.
abbrev pub LinesEndWithLineFeeds : Type 0
LinesEndWithLineFeeds = (net : PulseNet) (flow : Flow) → IsFormed net → IsTyped net flow → line_feeds (spelling_of net flow) ≡ line_count net flow
