use Rattle.std.proofs.Common.{◌≡◌, map, drop}
use Rattle.net_base.specs.declared.graph.Subject.{Subject as TheSubject}
use Rattle.balance_map.specs.FanOuts.{reads_of}
use Rattle.balance_map.specs.Choices.{choice_of, least_of, best_of}
use Rattle.balance_map.specs.Steps.{AreCounts}
use Rattle.balance_map.proofs.choosing.best_of.Given as goal

abbrev pub invariant-loop-candidate : goal.invariant-loop-candidate
invariant-loop-candidate l =
    (subject : TheSubject) → AreCounts (reads_of subject) l.fan_outs
    → least_of l.best (map (choice_of subject l.choices) (drop l.candidate-index l.rest)) ≡ best_of l.node (map (choice_of subject l.choices) l.candidates)
