use Rattle.std.proofs.Common.{◌≡◌, ◌-ℤ◌, ◌∙◌, ℤ, w64, to_z, of_z, pos, cond, length, get_or, ap, arith}
use Rattle.std.proofs.lemmas.Int.{ints}
use Rattle.std.proofs.lemmas.List.{length_push}
use Rattle.stage_flow.specs.Beginning.{most_at}
use Rattle.stage_flow.specs.Passes.{mark_at}
use Rattle.stage_flow.proofs.FirstLabels.{numbers-on}
use Rattle.stage_flow.proofs.beginning.first_lengths.Goals as goal

pub loop-vertex-preserved : goal.loop-vertex-preserved
loop-vertex-preserved c =
    let marks = c.args.marks.now in
    let potentials = c.args.potentials.now in
    let before = c.loop-vertex.far.items in
    let n = c.loop-vertex.vertex in
    let top : ℤ = to_z w64 (of_z w64 c.args.top) in
    let number : ℤ = to_z w64 (of_z w64 c.most.result) in
    let grown = c.in_ok-push.ensures.items in
    let read : number ≡ c.most.result = omega (arith, ints, c.most.type_inv) in
    let potential : to_z w64 (of_z w64 (get_or potentials n (pos 0))) ≡ get_or potentials n (pos 0) = omega (arith, ints, c.requires.low n, c.requires.high n) in
    let own : number ≡ most_at marks potentials top n = read ∙ c.most.ensures ∙ ap (λ (z : ℤ). cond (mark_at marks n) (pos 0) (top -ℤ z)) potential in
    record {
      long = omega (arith, ap length grown, length_push before number, c.loop-vertex.invariant.long);
      most = numbers-on (most_at marks potentials top) before c.push.new.self.items n number grown c.loop-vertex.invariant.long own c.loop-vertex.invariant.most;
    }
