use Rattle.std.proofs.Common.{◌≡◌, ◌∙◌, ap, arith}
use Rattle.std.specs.List.{filter_map, range_with_len}
use Rattle.pattern_table.specs.Steps.{part_in, parts_in}
use Rattle.pattern_table.proofs.Depths.{parts-some, parts-none}
use Rattle.pattern_table.proofs.patterns.parts_of.Goals as goal
use Rattle.pattern_table.proofs.patterns.parts_of.Goals.{in-Some+in_ok-push, in_default}

pub loop-table-preserved : goal.loop-table-preserved
loop-table-preserved c = elim c.match-least.branch [
  | in-Some+in_ok-push w ↦
      rw w.parts-is (w.in_ok-push.ensures.items ∙ parts-some c.args.level.now c.loop-table.table w.in-Some.head c.loop-table.parts.items w.in-Some.is c.loop-table.invariant)
  | in_default w ↦ rw w.parts-is (parts-none c.args.level.now c.loop-table.table c.loop-table.parts.items w.in_default.is c.loop-table.invariant)
]

pub returns : goal.returns
unfolding parts_in
returns c =
    let all : c.loop-table.table ≡ 256 = omega (arith, c.told-level) in
    c.loop-table.invariant ∙ ap (λ n. filter_map (part_in c.args.level.now) (range_with_len 0 n)) all
