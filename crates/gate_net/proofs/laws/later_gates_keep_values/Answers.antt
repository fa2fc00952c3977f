use Rattle.gate_net.specs.Values.{gate_value}
use Rattle.net_base.proofs.CallerLemmas.{take-per_item-append}
use Rattle.gate_net.proofs.laws.later_gates_keep_values.Goals as goal

pub returns : goal.returns
returns c = λ bits rows more. take-per_item-append (gate_value bits) rows more
