use Rattle.gen_laws.proofs.RandomOrder as random
use Rattle.gen_laws.proofs.laws.generated_texts_are_accepted.Goals as goal

pub returns : goal.returns
returns c = random.generated_texts_are_accepted c.designs_in_order_are_accepted.ensures
