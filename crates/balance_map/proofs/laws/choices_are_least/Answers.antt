use Rattle.balance_map.proofs.LeastChoices.{choices_are_least}
use Rattle.balance_map.proofs.laws.choices_are_least.Goals as goal

pub returns : goal.returns
returns c = choices_are_least
