use Rattle.std.proofs.Common.{◌≡◌, ◌<◌, ◌∙◌, List, length, get_or, sym, arith, true, false}
use Rattle.std.proofs.lemmas.List.Elements.{All-get_or}
use Rattle.cut_word.specs.Cut.{CutView, IsCut, trivial_cut}
use Rattle.cut_word.proofs.CallerLemmas.{same_cut-words}
use Rattle.cut_lists.specs.Rows.{IsRowOf}
use Rattle.cut_lists.proofs.CallerLemmas.{len-IsRowOf, first-IsRowOf, second-IsRowOf}
use Rattle.cell_match.proofs.matching.cut_at.Goals as goal

pub bounds-row-first : goal.bounds-row-first
bounds-row-first c =
    omega (arith, len-IsRowOf c.requires.cuts.0 c.args.row.now c.requires.cuts.1, c.requires.cuts.1.few)

pub bounds-row-first-2 : goal.bounds-row-first-2
bounds-row-first-2 c =
    omega (arith, len-IsRowOf c.requires.cuts.0 c.args.row.now c.requires.cuts.1, c.requires.cuts.1.few)

pub unreachable-requires : goal.unreachable-requires
unreachable-requires c =
    let cuts : List CutView = c.requires.cuts.0 in
    let is : IsRowOf cuts c.args.row.now = c.requires.cuts.1 in
    let within : c.args.place < length cuts = omega (arith, len-IsRowOf cuts c.args.row.now is) in
    let cut : CutView = get_or cuts c.args.place (trivial_cut 0) in
    let none : false ≡ true =
    c.in-None.ensures.words.1
    (cut, All-get_or IsCut cuts c.args.place (trivial_cut 0) within is.each, sym (first-IsRowOf cuts c.args.row.now c.args.place (trivial_cut 0) is within), sym (second-IsRowOf cuts c.args.row.now c.args.place (trivial_cut 0) is within)) in
    cc

pub returns : goal.returns
returns c = λ cuts d is.
    let within : c.args.place < length cuts = omega (arith, len-IsRowOf cuts c.args.row.now is) in
    same_cut-words c.in-Some.cut (get_or cuts c.args.place d) c.in-Some.ensures.cut (All-get_or IsCut cuts c.args.place d within is.each)
    (c.in-Some.ensures.some.0 ∙ first-IsRowOf cuts c.args.row.now c.args.place d is within)
    (c.in-Some.ensures.some.1 ∙ second-IsRowOf cuts c.args.row.now c.args.place d is within)
