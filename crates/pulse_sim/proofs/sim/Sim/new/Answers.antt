use Rattle.std.proofs.Common.{List, length, ap, ap₂, ◌∙◌, arith}
use Rattle.pulse_sim.specs.Sites.{site_wires}
use Rattle.pulse_sim.specs.Roots.{parts_of}
use Rattle.pulse_sim.specs.Wakes.{plan_of}
use Rattle.pulse_sim.specs.Simulators.{used_inputs}
use Rattle.pulse_sim.specs.declared.site.Site.{Site}
use Rattle.pulse_sim.proofs.MadeWires.{wires-counted}
use Rattle.pulse_sim.proofs.sim.Sim.new.Goals as goal

pub plan_of-requires : goal.plan_of-requires
plan_of-requires c =
    let used = ap length (c.in_ok-inputs.ensures ∙ ap (used_inputs 0) c.as_slice.ensures) in
    let sites = ap site_wires (c.deref.ensures.value ∙ c.in_ok-sites.ensures) in
    let made = ap length c.in_ok-wires.ensures in
    omega (arith, used, sites, made, wires-counted c.args.net.now, c.len.ensures.len, c.len-2.ensures, c.if-len-gt-MAX_WIRES.false)

pub invariant_of-result : goal.invariant_of-result
invariant_of-result c =
    let used = ap length (c.in_ok-inputs.ensures ∙ ap (used_inputs 0) c.as_slice.ensures) in
    let sites = ap site_wires c.in_ok-sites.ensures in
    let made = ap length c.in_ok-wires.ensures in
    let net = c.args.net.now in (
      omega (arith, c.requires.valid.formed.some_phases),
      omega (arith, used, sites, made, wires-counted c.args.net.now, c.in_ok-pulses.ensures.len, c.len-3.ensures.len),
      c.in_ok-plan.ensures
          ∙ ap₂ (λ inputs (sites : List Site). plan_of net.phases inputs (parts_of sites) c.as_slice-2.result.now) c.len-2.ensures c.deref.ensures.value
          ∙ ap (plan_of net.phases (length c.in_ok-inputs.inputs) (parts_of c.in_ok-sites.sites.items)) c.as_slice-2.ensures,
    )
