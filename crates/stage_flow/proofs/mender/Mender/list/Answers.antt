use Rattle.stage_flow.proofs.ProgressNetworks.{vertices-few}
use Rattle.stage_flow.proofs.mender.Mender.list.Goals as goal

pub marked-requires-clause-few : goal.marked-requires-clause-few
marked-requires-clause-few c = vertices-few c.args.net.now c.requires.net
