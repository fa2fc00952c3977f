-- The lemmas that other crates cite: what the answer of `chains` says of the DRO count, and the stages of gates.
use Rattle.std.proofs.Common.{◌≡◌, ◌≤◌, ◌<◌, ◌/◌, ℕ, zero, suc, List, [], ◌∷◌, length, get_or, map, All, Ok, Err, refl, ap, arith, ⊎_elim}
use Rattle.std.proofs.lemmas.Bool.{cases_lt}
use Rattle.std.proofs.lemmas.Bool.Decides.{nat_tests}
use Rattle.std.proofs.lemmas.List.Elements.{All-head, All-tail}
use Rattle.gate_net.specs.declared.net.GateNet.{GateNet}
use Rattle.phase_rule.specs.Levels.{phases_of}
use Rattle.phase_rule.specs.Stages.{stage_of}
use Rattle.phase_rule.proofs.CallerLemmas.{phase-back, epoch-back}
use Rattle.flow_net.specs.declared.net.Epochs.{Epochs}
use Rattle.flow_net.specs.Network.{network_of}
use Rattle.flow_net.specs.Epochs.{dro_count}
use Rattle.dro_chains.specs.declared.chain.Chained.{Chained}
use Rattle.dro_chains.specs.declared.chain.TheConstants.{MAX_DROS}
use Rattle.dro_chains.specs.Chains.{stages_of, chained_of, chains_of}

module _ (net : GateNet) (phases : List ℕ) (n : ℕ) (epochs : Epochs) where
  -- As many DROs as may be are chained,
  chains_of-few : dro_count (network_of net phases) epochs ≤ MAX_DROS → chains_of net phases n epochs ≡ Ok (chained_of net phases n epochs)
  chains_of-few few = grind (arith, nat_tests)

  -- and more are refused with their number.
  chains_of-many : MAX_DROS < dro_count (network_of net phases) epochs → chains_of net phases n epochs ≡ Err (dro_count (network_of net phases) epochs)
  chains_of-many many = grind (arith, nat_tests)

  -- Chains that are answered have as many DROs as may be,
  pub chains_of-Ok : (chained : Chained) → chains_of net phases n epochs ≡ Ok chained → (chained ≡ chained_of net phases n epochs) × (dro_count (network_of net phases) epochs ≤ MAX_DROS)
  chains_of-Ok chained answer =
      ⊎_elim {C = (chained ≡ chained_of net phases n epochs) × (dro_count (network_of net phases) epochs ≤ MAX_DROS)}
      (λ many. let refused = chains_of-many many in cc)
      (λ few. let given = chains_of-few few in (cc, few))
      (cases_lt MAX_DROS (dro_count (network_of net phases) epochs))

  -- and a refusal tells how many more there would be.
  pub chains_of-Err : (count : ℕ) → chains_of net phases n epochs ≡ Err count → (count ≡ dro_count (network_of net phases) epochs) × (MAX_DROS < count)
  chains_of-Err count answer =
      ⊎_elim {C = (count ≡ dro_count (network_of net phases) epochs) × (MAX_DROS < count)}
      (λ many. let refused = chains_of-many many in let same : count ≡ dro_count (network_of net phases) epochs = cc in (same, omega arith))
      (λ few. let given = chains_of-few few in cc)
      (cases_lt MAX_DROS (dro_count (network_of net phases) epochs))

-- A gate's stage is that of its epoch and its phase,
pub get_or-stages : (n : ℕ) (epochs phases : List ℕ) (k d : ℕ) → k < length epochs → k < length phases → get_or (stages_of n epochs phases) k 0 ≡ stage_of n (get_or epochs k d) (get_or phases k 0)
get_or-stages n [] phases k d low within = absurd (omega arith)
get_or-stages n (epoch ∷ epochs) [] k d low within = absurd (omega arith)
get_or-stages n (epoch ∷ epochs) (phase ∷ phases) zero d low within = refl
get_or-stages n (epoch ∷ epochs) (phase ∷ phases) (suc k) d low within = get_or-stages n epochs phases k d (omega arith) (omega arith)

-- and there are as many as gates.
pub length-stages : (n : ℕ) (epochs phases : List ℕ) → length epochs ≡ length phases → length (stages_of n epochs phases) ≡ length epochs
length-stages n [] phases each = refl
length-stages n (epoch ∷ epochs) [] each = absurd (omega arith)
length-stages n (epoch ∷ epochs) (phase ∷ phases) each = ap suc (length-stages n epochs phases (omega arith))

-- The stages give back the phases,
pub phases-back : (n : ℕ) (epochs phases : List ℕ) → length epochs ≡ length phases → All (λ phase. phase < n) phases → phases_of n (stages_of n epochs phases) ≡ phases
phases-back n [] [] each low = refl
phases-back n [] (phase ∷ phases) each low = absurd (omega arith)
phases-back n (epoch ∷ epochs) [] each low = absurd (omega arith)
phases-back n (epoch ∷ epochs) (phase ∷ phases) each low =
    (λ i. phase-back n epoch phase (All-head (λ phase. phase < n) phase phases low) i ∷ phases-back n epochs phases (omega arith) (All-tail (λ phase. phase < n) phase phases low) i)

-- and the epochs.
pub epochs-back : (n : ℕ) (epochs phases : List ℕ) → length epochs ≡ length phases → All (λ phase. phase < n) phases → map (λ stage. stage / n) (stages_of n epochs phases) ≡ epochs
epochs-back n [] phases each low = refl
epochs-back n (epoch ∷ epochs) [] each low = absurd (omega arith)
epochs-back n (epoch ∷ epochs) (phase ∷ phases) each low =
    (λ i. epoch-back n epoch phase (All-head (λ phase. phase < n) phase phases low) i ∷ epochs-back n epochs phases (omega arith) (All-tail (λ phase. phase < n) phase phases low) i)
