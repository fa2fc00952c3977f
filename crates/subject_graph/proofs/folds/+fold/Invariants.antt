use Rattle.std.proofs.Common.{length}
use Rattle.subject_graph.proofs.folds.+fold.Given as goal

abbrev pub decreases-fold : goal.decreases-fold
decreases-fold l = length l.signals.now
