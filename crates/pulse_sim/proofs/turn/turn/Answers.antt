use Rattle.std.proofs.Common.{Some, None, List, length, sym, ap, ◌∙◌, arith, subst, if◌then◌else◌}
use Rattle.std.specs.Prelude.{All}
use Rattle.std.specs.List.{fold}
use Rattle.pulse_sim.specs.declared.wakes.Delivery.{Delivery}
use Rattle.pulse_sim.specs.declared.wakes.Wakes.{Wakes}
use Rattle.pulse_sim.specs.Roots.{input_roots}
use Rattle.pulse_sim.specs.Wakes.{fired, delivered}
use Rattle.pulse_sim.proofs.FiredSites.{so_far}
use Rattle.pulse_sim.proofs.ListedWakes.{Fits, Reaches, firings-fit, deliveries-reach}
use Rattle.pulse_sim.proofs.TurnIsRight.{turn-right, turn-parts, wires-of_parts}
use Rattle.pulse_sim.proofs.turn.turn.Goals as goal

pub fire-requires : goal.fire-requires
fire-requires c =
    let firings = c.as_slice.ensures ∙ ap (λ (w : Wakes). w.firings) c.requires.wakes in
    subst (All (Fits c.args.phase (length c.args.sites.now) (length c.args.pulses.now))) (sym firings) (firings-fit c.args.phase (length c.args.sites.now) (length c.args.pulses.now) c.args.sites.now 0 c.args.inputs (omega arith) (omega (arith, c.requires.room)))

pub deliver-requires : goal.deliver-requires
deliver-requires c =
    let deliveries = c.as_slice-2.ensures ∙ ap (λ (w : Wakes). w.deliveries) c.requires.wakes in
    subst (All (Reaches (Some c.args.phase) (length c.fire.new.sites))) (sym deliveries) (deliveries-reach (Some c.args.phase) (length c.fire.new.sites) c.args.sites.now 0 (input_roots c.args.inputs) (omega (arith, c.fire.auto.sites)))

pub deliver_some-requires : goal.deliver_some-requires
deliver_some-requires c =
    subst (All (Reaches None (length c.deliver.new.sites))) (sym c.requires.from_inputs) (deliveries-reach None (length c.deliver.new.sites) c.args.sites.now 0 (input_roots c.args.inputs) (omega (arith, c.fire.auto.sites, c.deliver.auto.sites)))

pub returns-clause-swept : goal.returns-clause-swept
returns-clause-swept c =
    let fires = ap (fold fired (so_far c.args.pulses.now c.args.sites.now)) (sym (c.as_slice.ensures ∙ ap (λ (w : Wakes). w.firings) c.requires.wakes)) ∙ c.fire.ensures in
    let delivers = ap (fold (delivered c.fire.new.pulses) c.fire.new.sites) (sym (c.as_slice-2.ensures ∙ ap (λ (w : Wakes). w.deliveries) c.requires.wakes)) ∙ c.deliver.ensures in
    let feeds = ap (λ (d : List Delivery). if c.args.is_fed then fold (delivered c.fire.new.pulses) c.deliver.new.sites d else c.deliver.new.sites) (sym c.requires.from_inputs) ∙ c.deliver_some.ensures in
    turn-right c.args.phase c.args.inputs c.args.sites.now c.args.pulses.now c.requires.room c.fire.new.pulses c.fire.new.sites c.deliver.new.sites c.deliver_some.new.sites fires delivers c.args.is_fed c.requires.fed feeds

pub returns-clause-parts : goal.returns-clause-parts
returns-clause-parts c =
    let fires = ap (fold fired (so_far c.args.pulses.now c.args.sites.now)) (sym (c.as_slice.ensures ∙ ap (λ (w : Wakes). w.firings) c.requires.wakes)) ∙ c.fire.ensures in
    let delivers = ap (fold (delivered c.fire.new.pulses) c.fire.new.sites) (sym (c.as_slice-2.ensures ∙ ap (λ (w : Wakes). w.deliveries) c.requires.wakes)) ∙ c.deliver.ensures in
    let feeds = ap (λ (d : List Delivery). if c.args.is_fed then fold (delivered c.fire.new.pulses) c.deliver.new.sites d else c.deliver.new.sites) (sym c.requires.from_inputs) ∙ c.deliver_some.ensures in
    turn-parts c.args.phase c.args.inputs c.args.sites.now c.args.pulses.now c.requires.room c.fire.new.pulses c.fire.new.sites c.deliver.new.sites c.deliver_some.new.sites fires delivers c.args.is_fed c.requires.fed feeds

pub returns-clause-wires : goal.returns-clause-wires
returns-clause-wires c = wires-of_parts c.deliver_some.new.sites c.args.sites.now (returns-clause-parts c)
