use Rattle.std.proofs.Common.{◌≡◌, ◌∙◌, ◌++◌, List, [], ◌∷◌, ap, length, arith}
use Rattle.cut_word.specs.Cut.{CutView, trivial_cut}
use Rattle.cut_lists.specs.Steps.{with_kept}
use Rattle.cut_lists.specs.Rows.{row_with, words_of}
use Rattle.cut_lists.proofs.NodeRows.{with_kept-list}
use Rattle.cut_lists.proofs.node.listed.Goals as goal

pub row_with_cuts-requires : goal.row_with_cuts-requires
row_with_cuts-requires c = omega (arith, ap length c.as_slice-2.ensures, c.keep.ensures.few)

pub returns : goal.returns
returns c =
    let first : c.push.new.self ≡ trivial_cut c.args.i ∷ [] =
    c.push.ensures ∙ ap (λ (cuts : List CutView). cuts ++ c.trivial.result ∷ []) c.new-list.ensures ∙ ap (λ (cut : CutView). cut ∷ []) c.trivial.ensures.value in
    let two : c.push-2.new.self ≡ trivial_cut c.args.i ∷ c.args.fan_in ∷ [] = c.push-2.ensures ∙ ap (λ (cuts : List CutView). cuts ++ c.args.fan_in ∷ []) first in
    c.row_with_cuts.ensures
    ∙ ap (λ (cuts : List CutView). row_with (words_of cuts))
    (
    c.as_slice-2.ensures ∙ c.keep.ensures.value ∙ ap (λ (cuts : List CutView). with_kept cuts c.as_slice.result.now) two
    ∙ ap (with_kept (trivial_cut c.args.i ∷ c.args.fan_in ∷ [])) (c.as_slice.ensures ∙ c.sort.ensures) ∙ with_kept-list c.args.i c.args.fan_in c.args.pool
    )
