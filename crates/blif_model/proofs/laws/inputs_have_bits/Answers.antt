use Rattle.blif_model.proofs.Values.{inputs_have_bits}
use Rattle.blif_model.proofs.laws.inputs_have_bits.Goals as goal

pub returns : goal.returns
returns c = inputs_have_bits
