use Rattle.trials.proofs.of_flow_cert.verdict.Goals as goal

pub verify-requires-clause-network : goal.verify-requires-clause-network
verify-requires-clause-network c = (c.requires.gates, c.requires.phases, c.requires.formed, c.requires.is)
