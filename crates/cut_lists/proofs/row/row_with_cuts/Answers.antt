use Rattle.std.proofs.Common.{◌≡◌, ◌-◌, ◌*◌, ◌++◌, ◌∙◌, length, replicate, refl, ap, arith}
use Rattle.std.proofs.lemmas.List.{take_all}
use Rattle.cut_lists.specs.Rows.{words_of}
use Rattle.cut_lists.proofs.RowWords.{row_with-made, length-words_of}
use Rattle.cut_lists.proofs.row.row_with_cuts.Goals as goal

pub returns : goal.returns
returns c =
    let all : c.loop-k.k ≡ length c.args.cuts.now = omega arith in
    row_with-made (words_of c.args.cuts.now) c.loop-k.words (length c.args.cuts.now) (length c.args.cuts.now) (length-words_of c.args.cuts.now) refl c.requires
    (c.loop-k.invariant ∙ ap (λ cuts. words_of cuts ++ replicate (16 - 2 * c.loop-k.k) 0) (take_all c.loop-k.k c.args.cuts.now (omega arith))
    ∙ ap (λ n. words_of c.args.cuts.now ++ replicate (16 - 2 * n) 0) all)
