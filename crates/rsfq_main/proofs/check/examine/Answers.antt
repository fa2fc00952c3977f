use Rattle.std.proofs.Common.{sym, subst, arith}
use Rattle.flow_net.specs.Network.{HasNetwork}
use Rattle.pulse_net.specs.declared.unfolding.Unfolded.{Unfolded}
use Rattle.pulse_net.proofs.UnfoldedNetwork.{unfolded-has_network}
use Rattle.rsfq_main.proofs.Certificates.{judged-examined, judged-fewest, judged-count}
use Rattle.rsfq_main.proofs.check.examine.Goals as goal

-- Three pins an element, and one an output, are few where the text's bytes are.
pub judge-requires-clause-network : goal.judge-requires-clause-network
judge-requires-clause-network c =
    let few = c.requires.few in
    subst (λ (u : Unfolded). HasNetwork u.gates u.phases) (sym c.in_ok-unfolded.ensures.value) (unfolded-has_network c.args.net.now c.in_ok-valid.ensures.valid (omega arith))

pub returns-clause-examined : goal.returns-clause-examined
returns-clause-examined c =
    judged-examined c.args.net.now c.args.flow.now c.in_ok-unfolded.unfolded c.judge.result c.in_ok-valid.ensures.valid c.in_ok-unfolded.ensures.value c.judge.ensures.judged

pub returns-clause-fewest : goal.returns-clause-fewest
returns-clause-fewest c =
    judged-fewest c.args.net.now c.in_ok-unfolded.unfolded c.judge.result c.in_ok-valid.ensures.valid c.in_ok-unfolded.ensures.value c.judge.ensures.fewest c.judge.ensures.count

pub returns-clause-count : goal.returns-clause-count
returns-clause-count c = judged-count c.args.net.now c.in_ok-unfolded.unfolded c.judge.result c.in_ok-unfolded.ensures.value c.judge.ensures.count
