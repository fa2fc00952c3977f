use Rattle.splitters.proofs.wires.Count.{wires-fit}
use Rattle.splitters.proofs.build.tapped_parts.Goals as goal

pub lay_out-requires-clause-room : goal.lay_out-requires-clause-room
lay_out-requires-clause-room c = wires-fit c.args.chained.now c.requires.fits
