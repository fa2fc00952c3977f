use Rattle.std.proofs.Common.{◌∙◌, ℕ, List, sym, ap, subst, arith, nat_eq}
use Rattle.std.specs.List.{list_any, count_by}
use Rattle.cut_core.specs.declared.event.NodeState.{NodeState}
use Rattle.cut_core.specs.Machine.{is_free, has_claim}
use Rattle.cut_core.specs.Sound.{IsSound}
use Rattle.cut_core.specs.Cores.{AreRowsOf}
use Rattle.cut_core.proofs.Soundness.{sound-start}
use Rattle.cut_core.proofs.Claimants.{has_claim-start, free-start}
use Rattle.cut_core.proofs.machine.Core.new.Goals as goal

pub returns-clause-core : goal.returns-clause-core
returns-clause-core c =
    let graph = c.args.graph.now in
    let start = sym c.in_ok-states.ensures in
    record {
      proper = c.requires;
      sound = subst (IsSound graph) start (sound-start graph c.requires);
      rows = subst (λ (states : List NodeState). AreRowsOf graph states c.in_ok-rows.rows.items) start c.in_ok-rows.ensures;
      claimants = λ (q : ℕ).
          ap (λ (keys : List ℕ). list_any (nat_eq q) keys) c.in_ok-claimants.ensures.empty
          ∙ sym (ap (λ (states : List NodeState). has_claim states q) c.in_ok-states.ensures ∙ has_claim-start graph.nodes q);
      room = omega (arith, ap (count_by is_free) c.in_ok-states.ensures, free-start graph, c.in_ok-claimants.ensures.spare, c.len.ensures);
    }
