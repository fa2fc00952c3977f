use Rattle.std.proofs.Common.{◌<◌, ◌==◌, ℤ, pos, ◌-ℤ◌, get_or, to_z, of_z, w64, arith}
use Rattle.std.proofs.lemmas.Int.{ints}
use Rattle.flow_cert.proofs.Sending.{sent, sent-near}
use Rattle.flow_cert.proofs.vertices.send.Goals as goal

pub returns-clause-sent : goal.returns-clause-sent
returns-clause-sent c v within =
    let more : ℤ = to_z w64 (of_z w64 c.from.result) in
    let less : ℤ = to_z w64 (of_z w64 (pos 0 -ℤ to_z w64 (of_z w64 c.from-2.result))) in
    sent c.args.balances.now c.add.new.balances c.add-2.new.balances c.args.tail c.args.head c.args.units more less c.requires.tail c.requires.head
    (omega (arith, ints, c.from.ensures)) (omega (arith, ints, c.from-2.ensures)) c.add.ensures c.add-2.ensures v

pub returns-clause-near : goal.returns-clause-near
returns-clause-near c v within =
    let small : c.args.units < 4294967296 = omega (arith, c.ranges.units) in
    sent-near (c.args.tail == v) (c.args.head == v) c.args.units (get_or c.args.balances.now v (pos 0)) (get_or c.add-2.new.balances v (pos 0)) small
    (returns-clause-sent c v within)
