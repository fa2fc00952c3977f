-- Candidates as choices: the leaves of a candidate, and what the choice that it would be is made of.
use Rattle.std.proofs.Common.{◌≡◌, ◌≤◌, ◌<◌, ◌+◌, ◌∙◌, ℕ, List, length, map, sum, min, All, sym, ap, subst, arith}
use Rattle.net_base.specs.declared.graph.Subject.{Subject}
use Rattle.cut_word.specs.Word.{leaves_in}
use Rattle.cut_word.proofs.CallerLemmas.{leaves_in-first_word}
use Rattle.cell_match.specs.declared.matching.Match.{Match}
use Rattle.balance_map.specs.declared.choice.Choice.{Choice}
use Rattle.balance_map.specs.declared.choice.TheConstants.{MAX_COST}
use Rattle.balance_map.specs.Choices.{latest, leaf_cost, choice_over, choice_of}
use Rattle.balance_map.specs.Steps.{IsOver}

-- ---- The leaves
-- Leaves of a candidate over some nodes are among these, and they are three at most.
leaves-is : (nodes : ℕ) (candidate : Match) (is : IsOver nodes candidate) → leaves_in candidate.leaves ≡ is.cut.0.leaves
leaves-is nodes candidate is = ap leaves_in is.cut.3 ∙ leaves_in-first_word is.cut.0.leaves is.cut.1.few is.cut.1.low

pub leaves-there : (nodes : ℕ) (candidate : Match) → IsOver nodes candidate → All (λ leaf. leaf < nodes) (leaves_in candidate.leaves)
leaves-there nodes candidate is = subst (All (λ leaf. leaf < nodes)) (sym (leaves-is nodes candidate is)) is.cut.2

pub leaves-few : (nodes : ℕ) (candidate : Match) → IsOver nodes candidate → length (leaves_in candidate.leaves) ≤ 3
leaves-few nodes candidate is = omega (arith, ap length (leaves-is nodes candidate is), is.cut.1.few)

-- ---- The choice
-- the choice that a candidate is at this cost, where its leaves are there from this level on
abbrev made : Match → ℕ → ℕ → Choice
made candidate cost last = record { cost = cost; arrival = last + candidate.depth; leaves = candidate.leaves; table = candidate.table; depth = candidate.depth }

pub choice_of-made : (subject : Subject) (choices : List Choice) (candidate : Match) (leaves : List ℕ) (last below cost : ℕ) → leaves ≡ leaves_in candidate.leaves → last ≡ latest choices leaves → below ≡ sum (map (leaf_cost subject choices last) leaves) → cost ≡ min MAX_COST (candidate.cost + below) → record { cost = cost; arrival = last + candidate.depth; leaves = candidate.leaves; table = candidate.table; depth = candidate.depth } ≡ choice_of subject choices candidate
unfolding choice_of
choice_of-made subject choices candidate leaves last below cost over last-is below-is cost-is =
    ap (λ k. made candidate k last) (cost-is ∙ ap (λ k. min MAX_COST (candidate.cost + k)) below-is)
    ∙ ap (choice_over subject choices candidate leaves) last-is
    ∙ ap (λ ls. choice_over subject choices candidate ls (latest choices ls)) over
