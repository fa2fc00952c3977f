use Rattle.gen_laws.proofs.AcceptedDesigns as accepted
use Rattle.gen_laws.proofs.laws.designs_in_order_are_accepted.Goals as goal

pub returns : goal.returns
returns c = accepted.designs_in_order_are_accepted c.spelled_designs_are_read.ensures
