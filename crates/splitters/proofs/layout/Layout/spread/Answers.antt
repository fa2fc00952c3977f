use Rattle.std.proofs.Common.{◌≡◌, ap, ◌∙◌, length, arith}
use Rattle.std.proofs.lemmas.Grind.{common_steps}
use Rattle.splitters.specs.Spread.{spread_wires}
use Rattle.splitters.proofs.Trees.{length-spread_wires}
use Rattle.splitters.proofs.layout.Layout.spread.Goals as goal

pub returns-clause-count : goal.returns-clause-count
returns-clause-count c =
    let aligned : c.spread.new.wires.items ≡ spread_wires c.args.wire c.args.self.now.next c.args.targets = grind (arith, common_steps) in
    ap length aligned ∙ length-spread_wires c.args.wire c.args.self.now.next c.args.targets
