-- The uses of a well-formed netlist: their drivers are there.
use Rattle.std.proofs.Common.{◌≡◌, ◌<◌, ◌≤◌, ◌∙◌, ℕ, length, get_or, All, sym, ap, subst, arith}
use Rattle.std.proofs.lemmas.List.{length-map, get_or-map}
use Rattle.std.proofs.lemmas.List.Elements.{All-weaker}
use Rattle.gate_net.specs.declared.row.Driver.{Driver}
use Rattle.gate_net.specs.declared.row.Driver.TheVariants.{Input, Gate}
use Rattle.gate_net.specs.declared.net.GateNet.{GateNet}
use Rattle.gate_net.specs.Net.{IsThere, IsGateNet, pin_drivers}
use Rattle.gate_net.proofs.CallerLemmas.{IsThere-more, pin_drivers-there}
use Rattle.flow_net.specs.declared.uses.Use.{Use}
use Rattle.flow_net.specs.Uses.{uses_of, IsInputBelow}
use Rattle.flow_net.proofs.NetworkLemmas.{use_drivers-are-pin_drivers}

-- The driver of each use is there.
pub uses-there : (net : GateNet) (most : ℕ) → length net.gates ≤ most → IsGateNet net → All (λ (one : Use). IsThere net.inputs most one.driver) (uses_of net)
uses-there net most few formed = λ k d within.
    let uses = uses_of net in
    let drivers = use_drivers-are-pin_drivers net in
    let same : get_or (pin_drivers net) k d.driver ≡ (get_or uses k d).driver =
    ap (λ ds. get_or ds k d.driver) (sym drivers) ∙ get_or-map (λ (one : Use). one.driver) uses k d d.driver within in
    let place : k < length (pin_drivers net) = omega (arith, length-map uses (λ (one : Use). one.driver), ap length drivers) in
    IsThere-more net.inputs (length net.gates) most few (get_or uses k d).driver
    (subst (IsThere net.inputs (length net.gates)) same (pin_drivers-there net formed k d.driver place))

-- So it is no input past the last.
pub uses-inputs : (net : GateNet) → IsGateNet net → All (λ (one : Use). IsInputBelow net.inputs one.driver) (uses_of net)
uses-inputs net formed =
    All-weaker (λ (one : Use). IsThere net.inputs (length net.gates) one.driver) (λ (one : Use). IsInputBelow net.inputs one.driver)
    (λ one. below net.inputs (length net.gates) one.driver) (uses_of net) (uses-there net (length net.gates) (omega arith) formed)
  where
    below : (inputs gates : ℕ) (driver : Driver) → IsThere inputs gates driver → IsInputBelow inputs driver
    below inputs gates (Input i) there = there
    below inputs gates (Gate k) there = tt
