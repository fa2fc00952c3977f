use Rattle.std.proofs.Common.{◌≡◌, ℕ, ◌++◌, Bool, Option, None, List, [], length, map, take, drop, sym, ap, ap₂, ◌∙◌, arith}
use Rattle.std.proofs.lemmas.Grind.{common_steps}
use Rattle.pulse_sim.specs.declared.site.Part.{Part}
use Rattle.pulse_sim.specs.declared.site.Site.{Site}
use Rattle.pulse_sim.specs.declared.root.Root.{Root}
use Rattle.pulse_sim.specs.declared.root.Shown.{Shown}
use Rattle.pulse_sim.specs.declared.plan.Plan.{Plan}
use Rattle.pulse_sim.specs.Sites.{Sweep, sweep}
use Rattle.pulse_sim.specs.Roots.{parts_of, roots_of, root_pulse, shown_pulse}
use Rattle.pulse_sim.specs.Wakes.{phase_wakes, deliveries_of, plan_of}
use Rattle.pulse_sim.specs.Simulators.{SimState, input_pulses, tap_pulse, tap_pulses, next_state}
use Rattle.pulse_sim.proofs.ListedWakes.{wakes-counted, wakes-taken}
use Rattle.pulse_sim.proofs.FiredSites.{so_far}
use Rattle.pulse_sim.proofs.ShownPulses.{all-shown, none-written}
use Rattle.pulse_sim.proofs.sim.Sim.advance.Goals as goal

pub get-requires : goal.get-requires
get-requires c =
    let sim = c.self.inside in
    let count = ap (λ (plan : Plan). length plan.wakes) c.self.invariant.2 ∙ wakes-counted sim.phases (length sim.inputs) (parts_of sim.sites.items) in
    omega (arith, c.self.invariant.0, count)

pub turn-requires-clause-wakes : goal.turn-requires-clause-wakes
turn-requires-clause-wakes c =
    let sim = c.self.inside in
    wakes-taken sim.phases (length sim.inputs) (parts_of sim.sites.items) sim.tick sim.plan.wakes c.get.result.now (ap (λ (plan : Plan). plan.wakes) c.self.invariant.2) c.self.invariant.0 c.get.ensures
    ∙ ap₂ (λ inputs (sites : List Site). phase_wakes inputs (parts_of sites) sim.tick) (sym c.len.ensures) (sym c.deref_mut-2.ensures.value)

pub turn-requires-clause-from_inputs : goal.turn-requires-clause-from_inputs
turn-requires-clause-from_inputs c = c.as_slice-2.ensures ∙ ap (λ (plan : Plan). plan.from_inputs) c.self.invariant.2 ∙ ap₂ (λ inputs (sites : List Site). deliveries_of None inputs (parts_of sites)) (sym c.len.ensures) (sym c.deref_mut-2.ensures.value)

pub turn-requires-clause-fed : goal.turn-requires-clause-fed
turn-requires-clause-fed c = λ off place below.
    let written : c.deref_mut-3.result.now ≡ c.write_inputs.new.pulses = grind (arith, common_steps) in
    none-written c.args.inputs.now (c.any_pulse.ensures off) c.len.result c.deref_mut-3.result.now c.self.inside.inputs
    (ap₂ (λ n (p : List Bool). take n p) (c.len.ensures ∙ sym (ap length c.as_slice.ensures)) written ∙ c.write_inputs.ensures ∙ ap (input_pulses c.args.inputs.now) c.as_slice.ensures) place below

-- what the parts are behind the tick
pub invariant_of-self : goal.invariant_of-self
invariant_of-self c =
    let sim = c.self.inside in
    let inputs = length sim.inputs in
    let now : take sim.sites.len (c.turn.new.sites ++ drop (length c.turn.new.sites) sim.sites.items) ≡ c.turn.new.sites = grind (arith, common_steps) in
    let parts = sym (ap parts_of now ∙ c.turn.ensures.parts ∙ ap parts_of c.deref_mut-2.ensures.value) in (
      c.next_tick-self-inside.ensures.below,
      grind (arith, common_steps, c.self.invariant.1, c.turn.ensures.wires),
      c.self.invariant.2 ∙ ap (λ (its : List Part). plan_of sim.phases inputs its sim.taps) parts,
    )

pub returns-clause-state : goal.returns-clause-state
returns-clause-state c =
    let sim = c.self.inside in
    let row = c.args.inputs.now in
    let view : SimState = record { phases = sim.phases; tick = sim.tick; inputs = sim.inputs; sites = sim.sites.items; taps = sim.taps } in
    let written : c.deref_mut-3.result.now ≡ c.write_inputs.new.pulses = grind (arith, common_steps) in
    let first : take c.len.result c.deref_mut-3.result.now ≡ input_pulses row sim.inputs = ap₂ (λ n (p : List Bool). take n p) (c.len.ensures ∙ sym (ap length c.as_slice.ensures)) written ∙ c.write_inputs.ensures ∙ ap (input_pulses row) c.as_slice.ensures in
    let so = ap₂ (λ (seen : List Bool) (sites : List Site). sweep sim.tick sites (so_far seen [])) (sym first) (sym c.deref_mut-2.ensures.value) ∙ c.turn.ensures.swept in
    let now : take sim.sites.len (c.turn.new.sites ++ drop (length c.turn.new.sites) sim.sites.items) ≡ c.turn.new.sites = grind (arith, common_steps) in
    ap₂ (λ (tick : ℕ) (sites : List Site). let after : SimState = record { phases = sim.phases; tick = tick; inputs = sim.inputs; sites = sites; taps = sim.taps } in after) c.next_tick-self-inside.ensures.value (now ∙ sym (ap (λ (s : Sweep). s.sites) so))
    ∙ ap (λ (s : SimState). next_state s row) c.self.view_is

pub returns-clause-outputs : goal.returns-clause-outputs
returns-clause-outputs c =
    let sim = c.self.inside in
    let row = c.args.inputs.now in
    let roots = roots_of (length sim.inputs) (parts_of sim.sites.items) in
    let written : c.deref_mut-3.result.now ≡ c.write_inputs.new.pulses = grind (arith, common_steps) in
    let first : take c.len.result c.deref_mut-3.result.now ≡ input_pulses row sim.inputs = ap₂ (λ n (p : List Bool). take n p) (c.len.ensures ∙ sym (ap length c.as_slice.ensures)) written ∙ c.write_inputs.ensures ∙ ap (input_pulses row) c.as_slice.ensures in
    let so = ap₂ (λ (seen : List Bool) (sites : List Site). sweep sim.tick sites (so_far seen [])) (sym first) (sym c.deref_mut-2.ensures.value) ∙ c.turn.ensures.swept in
    let its = ap₂ (λ n (sites : List Site). roots_of n (parts_of sites)) c.len.ensures c.deref_mut-2.ensures.value in
    let pulses : c.deref.result.now ≡ c.turn.new.pulses = grind (arith, common_steps) in
    c.write_shown.ensures
    ∙ ap₂ (λ (p : List Bool) (shown : List Shown). map (shown_pulse sim.tick p) shown) pulses (c.as_slice-3.ensures ∙ ap (λ (plan : Plan). plan.shown) c.self.invariant.2)
    ∙ all-shown sim.tick c.turn.new.pulses roots sim.taps
    ∙ sym (ap (λ (s : Sweep). map (tap_pulse sim.tick s.seen) sim.taps) so ∙ ap (λ (roots : List (Option Root)). map (tap_pulse sim.tick (map (root_pulse sim.tick c.turn.new.pulses) roots)) sim.taps) its)
    ∙ ap (λ (s : SimState). tap_pulses s row) c.self.view_is
