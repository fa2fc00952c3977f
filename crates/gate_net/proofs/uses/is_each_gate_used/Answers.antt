use Rattle.std.proofs.Common.{◌≡◌, ◌<◌, ◌↔◌, ◌∙◌, ℕ, Bool, true, false, List, length, get_or, All, IsTrue, sym, ap, subst, arith}
use Rattle.std.specs.List.{list_any}
use Rattle.std.specs.Cmp.{decided}
use Rattle.std.proofs.lemmas.List.{get_or_default}
use Rattle.std.proofs.lemmas.Map.Views.{Contains-from_any, list_any-from_Contains}
use Rattle.gate_net.specs.declared.row.Driver.TheVariants.{Gate}
use Rattle.gate_net.specs.declared.net.GateNet.{GateNet}
use Rattle.gate_net.specs.Rows.{same_driver}
use Rattle.gate_net.specs.Net.{pin_drivers, EachGateIsUsed}
use Rattle.gate_net.proofs.CallerLemmas.{same_driver-decides}
use Rattle.gate_net.proofs.uses.is_each_gate_used.Goals as goal

-- Marks that say which gates are among the drivers of pins say whether all are.
each_marked : (net : GateNet) (marks : List Bool) (set : Bool) → length marks ≡ length net.gates → ((k : ℕ) → k < length net.gates → get_or marks k false ≡ list_any (same_driver (Gate k)) (pin_drivers net)) → (IsTrue set ↔ All (λ mark. mark ≡ true) marks) → IsTrue set ↔ EachGateIsUsed net
each_marked net marks set each says tells = (
  λ all k within. Contains-from_any (λ a b. (same_driver-decides a b).0) (Gate k) (pin_drivers net) (sym (says k within) ∙ tells.0 all k false (omega arith)),
  λ used. tells.1 (λ k d within.
      get_or_default marks k d false within ∙ says k (omega arith) ∙ list_any-from_Contains (decided same_driver same_driver-decides) (Gate k) (pin_drivers net) (used k (omega arith))),
)

pub returns : goal.returns
returns c =
    let net = c.args.net.now in
    let marks = c.in_ok-marks.marks.items in
    let drivers : c.as_slice.result.now ≡ pin_drivers net = c.as_slice.ensures ∙ c.in_ok-drivers.ensures in
    let gates = c.len.ensures in
    each_marked net marks c.are_set.result (c.in_ok-marks.ensures.each ∙ gates)
    (λ k within. c.in_ok-marks.ensures.value k (subst (λ n. k < n) (sym gates) within) ∙ ap (list_any (same_driver (Gate k))) drivers)
    (subst (λ seen. IsTrue c.are_set.result ↔ All (λ mark. mark ≡ true) seen) c.as_slice-2.ensures.value c.are_set.ensures)
