use Rattle.flow_cert.proofs.FullFlows.{full_flows-yes}
use Rattle.flow_cert.proofs.laws.full_flows_get_a_yes.Goals as goal

pub returns : goal.returns
returns c = full_flows-yes
