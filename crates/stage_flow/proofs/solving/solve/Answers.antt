use Rattle.std.proofs.Common.{sym, subst}
use Rattle.flow_net.specs.Flows.{IsFullFlow}
use Rattle.stage_flow.proofs.RoundsSent.{flow-full}
use Rattle.stage_flow.proofs.RoundEpochs.{least-are_of_rounds}
use Rattle.stage_flow.proofs.solving.solve.Goals as goal

pub returns-clause-lengths : goal.returns-clause-lengths
returns-clause-lengths c = least-are_of_rounds c.args.net.now c.in_ok-epochs.epochs c.requires c.in_ok-epochs.ensures.epochs

pub least_epochs-requires-clause-full : goal.least_epochs-requires-clause-full
least_epochs-requires-clause-full c = subst (IsFullFlow c.args.net.now) (sym c.in_ok-rounds.ensures.flow) (flow-full c.args.net.now c.requires)

pub returns-clause-full : goal.returns-clause-full
returns-clause-full c = subst (IsFullFlow c.args.net.now) (sym c.in_ok-rounds.ensures.flow) (flow-full c.args.net.now c.requires)
