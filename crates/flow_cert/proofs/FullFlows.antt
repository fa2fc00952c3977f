-- A full flow that is worth what balanced epochs cost gets a yes: each cause in turn doesn't hold.
use Rattle.std.proofs.Common.{◌≡◌, ◌≤◌, ◌+◌, ◌==◌, ◌∙◌, ℕ, zero, suc, pos, true, false, cond, nat_lt, Some, None, List, [], ◌∷◌, length, All, refl, ap, arith}
use Rattle.std.proofs.lemmas.Bool.Decides.{nat_tests, Decides-int_eq}
use Rattle.flow_net.specs.declared.net.Pin.{Pin}
use Rattle.flow_net.specs.declared.net.Net.{Net}
use Rattle.flow_net.specs.declared.net.Flow.{Flow}
use Rattle.flow_net.specs.declared.net.Epochs.{Epochs}
use Rattle.flow_net.specs.Flows.{out_minus_in, wants, flow_value}
use Rattle.flow_net.specs.Epochs.{epoch_at, dro_count, IsPinBalanced}
use Rattle.flow_cert.specs.declared.verdict.Cause.TheVariants.{Length, Unbalanced, Balance, Value}
use Rattle.flow_cert.specs.Verdicts.{length_cause, gap_of, pin_cause, vertices, vertex_cause, value_cause, first_of, cause_of, verdict_by}
use Rattle.flow_cert.specs.Meaning.{FullFlowsGetAYes}

same_number : (a b : ℕ) → a ≡ b → (a == b) ≡ true
same_number a b same = grind (arith, nat_tests)

not_below : (a b : ℕ) → b ≤ a → nat_lt a b ≡ false
not_below a b reached = grind (arith, nat_tests)

-- Balanced pins have no cause,
pin_cause-none : (epochs : Epochs) (place : ℕ) (pins : List Pin) → All (IsPinBalanced epochs) pins → pin_cause epochs place pins ≡ None
pin_cause-none epochs place [] balanced = refl
pin_cause-none epochs place (pin ∷ pins) balanced =
    let passes = not_below (epoch_at epochs pin.to) (epoch_at epochs pin.from + pin.weight) (balanced 0 pin (omega arith)) in
    ap (λ b. cond b (Some (Unbalanced place (gap_of epochs pin) pin.weight)) (pin_cause epochs (place + 1) pins)) passes
    ∙ pin_cause-none epochs (place + 1) pins (λ k d within. balanced (suc k) d (omega arith))

-- and no vertex has one that has what it wants.
vertex_cause-none : (net : Net) (flow : Flow) (vertex more : ℕ) → ((v : ℕ) → out_minus_in net flow v ≡ wants net v) → vertex_cause net flow vertex more ≡ None
vertex_cause-none net flow vertex zero wanted = refl
vertex_cause-none net flow vertex (suc more) wanted =
    let has = (Decides-int_eq (out_minus_in net flow vertex) (wants net vertex)).1 (wanted vertex) in
    ap (λ b. cond b (vertex_cause net flow (vertex + 1) more) (Some (Balance vertex (out_minus_in net flow vertex) (wants net vertex)))) has
    ∙ vertex_cause-none net flow (vertex + 1) more wanted

pub full_flows-yes : FullFlowsGetAYes
full_flows-yes net epochs flow balanced full worth =
    let lines : length_cause net flow ≡ None = ap (λ b. cond b None (Some (Length (length flow.pins) (length net.pins)))) (same_number (length flow.pins) (length net.pins) full.each) in
    let pins = pin_cause-none epochs 0 net.pins balanced.pins in
    let vertices_have = vertex_cause-none net flow 0 (vertices net) full.wanted in
    let value : value_cause (flow_value net flow) (dro_count net epochs) ≡ None =
    ap (λ b. cond b None (Some (Value (flow_value net flow) (pos (dro_count net epochs))))) ((Decides-int_eq (flow_value net flow) (pos (dro_count net epochs))).1 worth) in
    let none : cause_of net epochs flow ≡ None =
    ap (λ cause. first_of cause (first_of (pin_cause epochs 0 net.pins) (first_of (vertex_cause net flow 0 (vertices net)) (value_cause (flow_value net flow) (dro_count net epochs))))) lines
    ∙ ap (λ cause. first_of cause (first_of (vertex_cause net flow 0 (vertices net)) (value_cause (flow_value net flow) (dro_count net epochs)))) pins
    ∙ ap (λ cause. first_of cause (value_cause (flow_value net flow) (dro_count net epochs))) vertices_have
    ∙ value in
    ap (λ cause. verdict_by cause (dro_count net epochs)) none
