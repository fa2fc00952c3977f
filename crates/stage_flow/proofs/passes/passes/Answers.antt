use Rattle.std.proofs.Common.{◌≡◌, ◌∙◌, ℕ, ℤ, List, length, refl, ap, arith, rules}
use Rattle.std.proofs.lemmas.List.{take_at}
use Rattle.stage_flow.specs.Given.{at_vertex, count_at}
use Rattle.stage_flow.specs.Passes.{mark_at}
use Rattle.stage_flow.proofs.PassRounds.{come-first, come-last}
use Rattle.stage_flow.proofs.passes.passes.Goals as goal

pub returns-clause-come : goal.returns-clause-come
returns-clause-come c = λ far hops target vertex low.
    let first_far : c.as_mut_slice.result.now ≡ c.in_ok-far.far.items = search rules in
    let first_hops : c.as_mut_slice-2.result.now ≡ c.in_ok-hops.hops.items = search rules in
    let far_sized : length c.pass_all.new.far ≡ c.in_ok-far.far.len = omega (arith, c.pass_all.ensures.each.0, c.in_ok-far.ensures.each, c.requires.each, c.as_mut_slice.ensures.len, ap (λ (xs : List ℤ). length xs) first_far) in
    let hops_sized : length c.pass_all.new.hops ≡ c.in_ok-hops.hops.len = omega (arith, c.pass_all.ensures.each.1, c.in_ok-hops.ensures.each, c.requires.each, c.as_mut_slice-2.ensures.len, ap (λ (xs : List ℕ). length xs) first_hops) in
    let far_is : c.from_vec.result ≡ c.pass_all.new.far = c.from_vec.ensures ∙ take_at _ _ _ far_sized in
    let hops_is : c.from_vec-2.result ≡ c.pass_all.new.hops = c.from_vec-2.ensures ∙ take_at _ _ _ hops_sized in
    let many = ap (λ (xs : List ℤ). length xs) first_far in
    let come = come-first c.args.net.now c.args.flow.now (mark_at c.args.starts.now) far hops c.requires.net c.requires.pins target c.args.starts.now c.as_mut_slice.result.now c.as_mut_slice-2.result.now
    refl c.requires.each (omega (arith, many, c.in_ok-far.ensures.each))
    (λ v within. ap (λ (xs : List ℤ). at_vertex xs v) first_far ∙ c.in_ok-far.ensures.own v within)
    (λ v within is. ap (λ (xs : List ℕ). count_at xs v) first_hops ∙ c.in_ok-hops.ensures.own v within is) in
    let last = come-last c.args.net.now c.args.flow.now (mark_at c.args.starts.now) far hops c.pass_all.new.far c.pass_all.new.hops target c.pass_all.ensures.each.0
    (c.pass_all.ensures.come (mark_at c.args.starts.now) far hops target come) vertex low in
    (ap (λ (xs : List ℤ). at_vertex xs vertex) far_is ∙ last.0, ap (λ (xs : List ℕ). count_at xs vertex) hops_is ∙ last.1)
