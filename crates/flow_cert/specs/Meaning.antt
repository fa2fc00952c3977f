-- What a yes means: these epochs need the fewest DROs.
use Rattle.std.specs.Prelude.{◌≡◌, ℕ, List, length, pos}
use Rattle.gate_net.specs.declared.net.GateNet.{GateNet}
use Rattle.gate_net.specs.Net.{IsGateNet}
use Rattle.flow_net.specs.declared.net.Net.{Net}
use Rattle.flow_net.specs.declared.net.Epochs.{Epochs}
use Rattle.flow_net.specs.declared.net.Flow.{Flow}
use Rattle.flow_net.specs.Network.{network_of, HasNetwork}
use Rattle.flow_net.specs.Flows.{IsFullFlow, flow_value}
use Rattle.flow_net.specs.Epochs.{dro_count, IsBalanced, HasFewestDros}
use Rattle.flow_cert.specs.declared.verdict.Verdict.{Verdict}
use Rattle.flow_cert.specs.declared.verdict.Verdict.TheVariants.{Fewest, Bad}
use Rattle.flow_cert.specs.Verdicts.{verdict_of}

-- the network of some gate netlist, as `net_of` answers it
abbrev pub IsNetwork : Net → Type 0
IsNetwork net = (gates : GateNet) × (phases : List ℕ) × HasNetwork gates phases × (net ≡ network_of gates phases)

-- what a verdict says of epochs: `Fewest`, that no balanced epochs have a lower DRO count, and what theirs is; a cause, nothing
abbrev pub Means : Net → Epochs → Verdict → Type 0
Means net epochs (Fewest count) = HasFewestDros net epochs × (dro_count net epochs ≡ count)
Means net epochs (Bad cause) = Unit {0}

-- In the network of every well-formed netlist, with any phases, a flow that gets a yes shows that the epochs, one per gate,
-- need the fewest DROs.
abbrev pub AYesMeansFewest : Type 0
AYesMeansFewest =
    (gates : GateNet) (phases : List ℕ) (epochs : Epochs) (flow : Flow)
    → IsGateNet gates
    → length epochs.gates ≡ length gates.gates
    → Means (network_of gates phases) epochs (verdict_of (network_of gates phases) epochs flow)

-- In any network, a full flow that is worth what balanced epochs cost gets a yes for them.
abbrev pub FullFlowsGetAYes : Type 0
FullFlowsGetAYes =
    (net : Net) (epochs : Epochs) (flow : Flow)
    → IsBalanced net epochs
    → IsFullFlow net flow
    → flow_value net flow ≡ pos (dro_count net epochs)
    → verdict_of net epochs flow ≡ Fewest (dro_count net epochs)
