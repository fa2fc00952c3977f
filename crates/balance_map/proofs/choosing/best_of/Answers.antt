use Rattle.std.proofs.Common.{◌≡◌, ◌+◌, ◌∙◌, List, ◌∷◌, ℕ, length, drop, map, All, sym, ap, subst}
use Rattle.std.proofs.lemmas.List.{at_drop_all, at_drop_more}
use Rattle.std.proofs.lemmas.List.Elements.{All-head, All-tail, All-get_or}
use Rattle.cell_match.specs.declared.matching.Match.{Match}
use Rattle.balance_map.specs.declared.choice.Choice.{Choice}
use Rattle.balance_map.specs.Choices.{choice_of, lesser, least_of, best_of}
use Rattle.balance_map.specs.Steps.{IsOver}
use Rattle.balance_map.proofs.choosing.best_of.Goals as goal

none : Match
none = record { leaves = 0; table = 0; depth = 0; cost = 0 }

-- all candidates, the first and the rest
each : (nodes : ℕ) (all rest : List Match) (first : Match) → all ≡ first ∷ rest → All (IsOver nodes) all → All (IsOver nodes) (first ∷ rest)
each nodes all rest first is = subst (All (IsOver nodes)) is

pub choice_of-best-requires-clause-candidate : goal.choice_of-best-requires-clause-candidate
choice_of-best-requires-clause-candidate c = All-head (IsOver (length c.args.choices.now)) c.in-Some.first.now c.in-Some.rest.now
    (each (length c.args.choices.now) c.args.candidates.now c.in-Some.rest.now c.in-Some.first.now c.in-Some.ensures.cases.0 c.requires.candidates)

pub choice_of-requires-clause-candidate : goal.choice_of-requires-clause-candidate
unfolding none
choice_of-requires-clause-candidate c =
    All-get_or (IsOver (length c.args.choices.now)) c.in-Some.rest.now c.loop-candidate.candidate-index none c.loop-candidate-test.true
    (All-tail (IsOver (length c.args.choices.now)) c.in-Some.first.now c.in-Some.rest.now
    (each (length c.args.choices.now) c.args.candidates.now c.in-Some.rest.now c.in-Some.first.now c.in-Some.ensures.cases.0 c.requires.candidates))

pub loop-candidate-init : goal.loop-candidate-init
loop-candidate-init c = λ subject are.
    let would_be : Match → Choice = choice_of subject c.args.choices.now in
    ap (λ (best : Choice). least_of best (map would_be c.in-Some.rest.now)) (c.choice_of-best.ensures subject are)
    ∙ ap (λ (candidates : List Match). best_of c.args.node (map would_be candidates)) (sym c.in-Some.ensures.cases.0)

pub loop-candidate-preserved : goal.loop-candidate-preserved
unfolding none
loop-candidate-preserved c = λ subject are.
    let would_be : Match → Choice = choice_of subject c.args.choices.now in
    let rest : List Match = drop (c.loop-candidate.candidate-index + 1) c.in-Some.rest.now in
    ap (λ (best : Choice). least_of best (map would_be rest))
    (c.lesser-best.ensures ∙ ap (lesser c.loop-candidate.best) (c.choice_of.ensures subject are))
    ∙ sym (at_drop_more (λ (candidates : List Match). least_of c.loop-candidate.best (map would_be candidates)) c.in-Some.rest.now c.loop-candidate.candidate-index none c.loop-candidate-test.true)
    ∙ c.loop-candidate.invariant subject are

pub returns : goal.returns
returns c = λ subject are.
    sym (at_drop_all (λ (candidates : List Match). least_of c.loop-candidate.best (map (choice_of subject c.args.choices.now) candidates)) c.in-Some.rest.now c.loop-candidate.candidate-index c.loop-candidate-test.false)
    ∙ c.loop-candidate.invariant subject are
