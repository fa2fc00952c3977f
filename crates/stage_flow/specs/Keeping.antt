-- What a mender keeps in order from round to round.
use Rattle.std.specs.Prelude.{◌≡◌, length}
use Rattle.flow_net.specs.declared.net.Net.{Net}
use Rattle.stage_flow.specs.declared.mender.Mender.{Mender}
use Rattle.stage_flow.specs.Residual.{vertex_count}
use Rattle.stage_flow.specs.Mending.{AreMarked}
use Rattle.stage_flow.specs.Raising.{AreAtRest}

-- a mark for each vertex, a list with each marked one, and heights at rest
pub record IsInOrder (net : Net) (mender : Mender) : Type 0 where
  pub each : length mender.marks.items ≡ vertex_count net
  pub marked : AreMarked net mender.marks.items mender.vertices.items
  pub rest : AreAtRest net mender.room.heights.items
