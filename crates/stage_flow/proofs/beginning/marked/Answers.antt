use Rattle.std.proofs.Common.{◌≡◌, ◌<◌, ◌+◌, ◌++◌, ◌∙◌, [], ◌∷◌, All, Contains, ap, sym, subst, arith}
use Rattle.std.proofs.lemmas.List.Elements.{All-weaker, All-push}
use Rattle.stage_flow.proofs.FirstLabels.{marked-on, unmarked-on}
use Rattle.stage_flow.proofs.beginning.marked.Goals.{then-marks-vertex+in_ok-push, else-marks-vertex}
use Rattle.stage_flow.proofs.beginning.marked.Goals as goal

pub loop-vertex-preserved : goal.loop-vertex-preserved
loop-vertex-preserved c =
    let marks = c.args.marks.now in
    let before = c.loop-vertex.vertices.items in
    let n = c.loop-vertex.vertex in
    let low = All-weaker (λ v. v < n) (λ v. v < n + 1) (λ v h. omega (arith, h)) before c.loop-vertex.invariant.low in
    elim c.if-marks-vertex.branch [
      | then-marks-vertex+in_ok-push w ↦
          let grown : c.if-marks-vertex.vertices.items ≡ before ++ n ∷ [] = ap (λ v. v.items) w.vertices-is ∙ w.in_ok-push.ensures.items in
          record {
            low = subst (All (λ v. v < n + 1)) (sym grown) (All-push (λ v. v < n + 1) before n low (omega arith));
            all = λ v within is. subst (λ xs. Contains xs v) (sym grown) (marked-on marks before n c.loop-vertex.invariant.all v within is);
          }
      | else-marks-vertex w ↦
          let same : c.if-marks-vertex.vertices.items ≡ before = ap (λ v. v.items) w.vertices-is in
          record {
            low = subst (All (λ v. v < n + 1)) (sym same) low;
            all = λ v within is. subst (λ xs. Contains xs v) (sym same) (unmarked-on marks before n w.if-marks-vertex.false c.loop-vertex.invariant.all v within is);
          }
    ]
