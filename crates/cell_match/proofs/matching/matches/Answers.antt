use Rattle.std.proofs.Common.{rules, ◌<◌, ◌∙◌, ◌++◌, List, length, ap, arith}
use Rattle.std.proofs.lemmas.List.{take_all}
use Rattle.cut_lists.proofs.CallerLemmas.{len-IsRowOf}
use Rattle.cell_match.specs.declared.matching.Match.{Match}
use Rattle.cell_match.specs.Candidates.{cut_matches, candidates}
use Rattle.cell_match.proofs.Steps.{cut-more, first_cut}
use Rattle.cell_match.proofs.matching.matches.Goals as goal

pub loop-place-init : goal.loop-place-init
loop-place-init c = λ cuts is. c.new-found.ensures ∙ search (rules, first_cut)

pub loop-place-preserved : goal.loop-place-preserved
loop-place-preserved c = λ cuts is.
    let within : c.loop-place.place < length cuts = omega (arith, len-IsRowOf cuts c.args.row.now is) in
    c.in_ok-add_matches.ensures
    ∙ ap (λ (found : List Match). found ++ cut_matches c.cut_at.result) (c.loop-place.invariant cuts is)
    ∙ cut-more cut_matches cuts c.loop-place.place c.cut_at.result (omega arith) within (c.cut_at.ensures cuts c.cut_at.result is)

pub returns : goal.returns
returns c = λ cuts is. c.loop-place.invariant cuts is ∙ ap candidates (take_all c.loop-place.place cuts (omega (arith, len-IsRowOf cuts c.args.row.now is)))
