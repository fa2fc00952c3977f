use Rattle.std.proofs.Common.{◌++◌, ◌∷◌, [], List, ap₂, sym, ◌∙◌, arith}
use Rattle.std.proofs.lemmas.List.FromFn.{map-range_with_len_more}
use Rattle.pulse_sim.specs.declared.wakes.Firing.{Firing}
use Rattle.pulse_sim.specs.declared.wakes.Delivery.{Delivery}
use Rattle.pulse_sim.specs.declared.wakes.Wakes.{Wakes}
use Rattle.pulse_sim.specs.Roots.{parts_of}
use Rattle.pulse_sim.specs.Wakes.{phase_wakes}
use Rattle.pulse_sim.proofs.wakes.all_wakes.Goals as goal

-- one phase more
pub loop-phase-preserved : goal.loop-phase-preserved
loop-phase-preserved c =
    let phase = c.loop-phase.phase in
    let wakes : List Firing → List Delivery → Wakes = λ firings deliveries. record { firings = firings; deliveries = deliveries } in
    c.in_ok-push.ensures.ok
    ∙ ap₂ (λ (all : List Wakes) (its : Wakes). all ++ its ∷ []) c.loop-phase.invariant (ap₂ wakes c.in_ok-firings.ensures c.in_ok-deliveries.ensures)
    ∙ sym (map-range_with_len_more (phase_wakes c.args.inputs (parts_of c.args.sites.now)) 0 phase phase (omega arith))
