use Rattle.std.proofs.Common.{◌≡◌, true, false, ◌+◌, ◌-◌, ◌∙◌, ◌++◌, List, [], ◌∷◌, Option, ap, sym, arith, take}
use Rattle.std.specs.List.{filter_map, cons_option}
use Rattle.std.proofs.lemmas.List.{append_assoc, append-nil, take_all}
use Rattle.cell_match.specs.declared.matching.Match.{Match}
use Rattle.cell_match.specs.Candidates.{match_at, is_plain_table}
use Rattle.cell_match.proofs.Steps.{depths, depth-more, cut_matches-plain, cut_matches-other}
use Rattle.cell_match.proofs.matching.add_matches.Goals as goal
use Rattle.cell_match.proofs.matching.add_matches.Goals.{in-Some+in_ok-push, in_default}

pub returns-then-is_plain : goal.returns-then-is_plain
returns-then-is_plain c =
    let plain : is_plain_table c.args.cut.table ≡ true = ap is_plain_table (sym c.unpack.ensures.table) ∙ sym c.is_plain.ensures ∙ c.if-is_plain.true in
    sym (append-nil c.args.found.now) ∙ ap (λ (found : List Match). c.args.found.now ++ found) (sym (cut_matches-plain c.args.cut plain))

pub loop-depth-init : goal.loop-depth-init
loop-depth-init c = sym (append-nil c.args.found.now)

next : (c : goal.Joined-match_at) → filter_map (match_at c.args.cut) (take (c.loop-depth.depth - 1) depths) ++ cons_option c.match_at.result [] ≡ filter_map (match_at c.args.cut) (take (c.loop-depth.depth + 1 - 1) depths)
next c =
    ap (λ (o : Option Match). filter_map (match_at c.args.cut) (take (c.loop-depth.depth - 1) depths) ++ cons_option o []) c.match_at.ensures
    ∙ depth-more (match_at c.args.cut) c.loop-depth.depth (omega arith) (omega arith)

pub loop-depth-preserved : goal.loop-depth-preserved
loop-depth-preserved c =
    let done : List Match = filter_map (match_at c.args.cut) (take (c.loop-depth.depth - 1) depths) in
    elim c.match-match_at.branch [
      | in-Some+in_ok-push w ↦
          w.found-is ∙ w.in_ok-push.ensures.ok
          ∙ ap (λ (found : List Match). found ++ w.in-Some.candidate ∷ []) c.loop-depth.invariant
          ∙ append_assoc c.args.found.now done (w.in-Some.candidate ∷ [])
          ∙ ap (λ (found : List Match). c.args.found.now ++ found) (ap (λ (o : Option Match). done ++ cons_option o []) (sym w.in-Some.is) ∙ next c)
      | in_default w ↦
          w.found-is ∙ c.loop-depth.invariant
          ∙ ap (λ (found : List Match). c.args.found.now ++ found) (sym (append-nil done) ∙ ap (λ (o : Option Match). done ++ cons_option o []) (sym w.in_default.is) ∙ next c)
    ]

pub returns : goal.returns
returns c =
    let other : is_plain_table c.args.cut.table ≡ false = ap is_plain_table (sym c.unpack.ensures.table) ∙ sym c.is_plain.ensures ∙ c.if-is_plain.false in
    c.loop-depth.invariant
    ∙ ap (λ (found : List Match). c.args.found.now ++ found) (ap (filter_map (match_at c.args.cut)) (take_all (c.loop-depth.depth - 1) depths (omega arith)) ∙ sym (cut_matches-other c.args.cut other))
