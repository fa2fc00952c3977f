use Rattle.std.proofs.Common.{◌≤◌, arith}
use Rattle.splitters.proofs.Trees.{spread_lines-joined, spread_wires-joined}
use Rattle.splitters.proofs.spread.+spread.Goals as goal

pub returns-clause-lines : goal.returns-clause-lines
returns-clause-lines t c =
    let many : 2 ≤ c.args.targets = omega arith in
    cc (spread_lines-joined c.args.wire c.args.next c.args.targets c.args.elements.now.items many, c.in_ok-spread-2.ensures.lines, c.in_ok-spread.ensures.lines, c.in_ok-push-2.ensures.items)

pub returns-clause-aligned : goal.returns-clause-aligned
returns-clause-aligned t c =
    let many : 2 ≤ c.args.targets = omega arith in
    cc (spread_wires-joined c.args.wire c.args.next c.args.targets c.args.wires.now.items many, c.in_ok-spread-2.ensures.aligned, c.in_ok-spread.ensures.aligned)
