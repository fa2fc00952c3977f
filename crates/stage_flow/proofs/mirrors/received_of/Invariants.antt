use Rattle.stage_flow.specs.Search.{SayWhoReceived}
use Rattle.stage_flow.proofs.mirrors.received_of.Given as goal

abbrev pub invariant-loop-place : goal.invariant-loop-place
invariant-loop-place l = SayWhoReceived l.net l.flow l.place l.marks.items
