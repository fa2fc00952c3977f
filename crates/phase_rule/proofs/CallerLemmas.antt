-- The lemmas that other crates cite: levels and their bounds, phases and weights. The laws on gaps stand in `Gaps`.
use Rattle.std.proofs.Common.{◌≡◌, ◌<◌, ◌≤◌, ◌+◌, ◌/◌, ◌%◌, ◌++◌, ◌∙◌, ℕ, Bool, true, false, cond, nat_lt, max, List, [], ◌∷◌, length, get_or, take, map, All, ap, arith, ⊎_elim}
use Rattle.std.proofs.lemmas.Bool.{cases_lt}
use Rattle.std.proofs.Math.Nat.{mul_comm}
use Rattle.std.proofs.lemmas.Nat.{mod_below, div-mul-add, mod-mul-add}
use Rattle.std.proofs.lemmas.List.{length-map, length_push, get_or_default, get_or_append_left, get_or_push, get_or_past}
use Rattle.std.proofs.lemmas.List.Elements.{All-nil, All-cons, All-map, All-weaker}
use Rattle.gate_net.specs.declared.row.Driver.{Driver}
use Rattle.gate_net.specs.declared.row.GateRow.{GateRow}
use Rattle.gate_net.specs.declared.net.GateNet.{GateNet}
use Rattle.gate_net.specs.Net.{IsThere, IsGateNet}
use Rattle.gate_net.specs.Entries.{entry_of}
use Rattle.gate_net.proofs.CallerLemmas.{entry_of-le, entry_of-take, entry_of-map, map-same}
use Rattle.net_base.specs.PerItem.{per_item}
use Rattle.net_base.proofs.CallerLemmas.{length-per_item, get_or-per_item}
use Rattle.phase_rule.specs.Levels.{largest, level_of, levels_of, phases_of, ArePhases, LevelsFollowDrivers, LevelsAreFew}
use Rattle.phase_rule.specs.Stages.{stage_of, weight_of}
pub use Rattle.phase_rule.proofs.Gaps.{need_gaps_agree, need_leaves_window}

-- Each of some numbers is at most the largest,
pub largest-ge : {X : Type 0} (f : X → ℕ) (xs : List X) → All (λ x. f x ≤ largest (map f xs)) xs
largest-ge f [] = All-nil (λ x. f x ≤ 0)
largest-ge f (x ∷ xs) =
    All-cons (λ y. f y ≤ max (f x) (largest (map f xs))) x xs (omega arith)
    (All-weaker (λ y. f y ≤ largest (map f xs)) (λ y. f y ≤ max (f x) (largest (map f xs))) (λ y h. omega arith) xs (largest-ge f xs))

-- and the largest of some entries is at most what all are at most.
pub largest-entries-le : (entries : List ℕ) (most : ℕ) (drivers : List Driver) → All (λ entry. entry ≤ most) entries → largest (map (entry_of entries) drivers) ≤ most
largest-entries-le entries most [] bound = omega arith
largest-entries-le entries most (driver ∷ drivers) bound =
    omega (arith, entry_of-le entries most driver bound, largest-entries-le entries most drivers bound)

-- There is one level per gate,
pub length-levels_of : (net : GateNet) → length (levels_of net) ≡ length net.gates
length-levels_of net = omega (arith, length-per_item level_of [] net.gates)

-- which is 1 more than the largest level of its drivers,
pub levels_follow_drivers : LevelsFollowDrivers
levels_follow_drivers net gate d formed within =
    let levels = levels_of net in
    let row = get_or net.gates gate d in
    get_or-per_item level_of net.gates gate 0 d within
    ∙ ap (λ ns. 1 + largest ns)
    (map-same (entry_of (take gate levels)) (entry_of levels) row.pins
    (All-weaker (IsThere net.inputs gate) (λ driver. entry_of (take gate levels) driver ≡ entry_of levels driver) (entry_of-take net.inputs gate levels) row.pins (formed.gates gate d within).drivers))

-- so it is above each of them,
pub entry_of-levels-lt : (net : GateNet) (k : ℕ) (d : GateRow) → IsGateNet net → k < length net.gates → All (λ driver. entry_of (levels_of net) driver < get_or (levels_of net) k 0) (get_or net.gates k d).pins
entry_of-levels-lt net k d formed within = λ i e inside.
    omega (arith, levels_follow_drivers net k d formed within, largest-ge (entry_of (levels_of net)) (get_or net.gates k d).pins i e inside)

-- and at most its place, counted from 1: all levels before it are at most the number of gates before it.
levels-few : (done : List ℕ) (rows : List GateRow) → ((k : ℕ) → get_or done k 0 ≤ k + 1) → (k : ℕ) → get_or (per_item level_of done rows) k 0 ≤ k + 1
levels-few done [] few k = few k
levels-few done (row ∷ rows) few k = levels-few (done ++ level_of done row ∷ []) rows more k
  where
    more : (k : ℕ) → get_or (done ++ level_of done row ∷ []) k 0 ≤ k + 1
    more k =
        let level = level_of done row in
        let below : All (λ entry. entry ≤ length done) done = λ i d within. omega (arith, few i, get_or_default done i d 0 within) in
        let low = largest-entries-le done (length done) row.pins below in
        let one : length done ≡ k → get_or (done ++ level ∷ []) k 0 ≤ k + 1 = λ last. omega (arith, get_or_push done level 0 k last) in
        ⊎_elim {C = get_or (done ++ level ∷ []) k 0 ≤ k + 1}
        (λ within. omega (arith, few k, get_or_append_left done (level ∷ []) 0 k within))
        (λ behind. ⊎_elim {C = get_or (done ++ level ∷ []) k 0 ≤ k + 1}
        (λ next. omega (arith, get_or_past (done ++ level ∷ []) k 0 (omega (arith, length_push done level))))
        (λ last. one (omega arith))
        (cases_lt (length done) k))
        (cases_lt k (length done))

pub levels_are_few : LevelsAreFew
levels_are_few net gate = levels-few [] net.gates (λ k. omega arith) gate

-- So no level is above the number of gates.
pub levels-le : (net : GateNet) → All (λ level. level ≤ length net.gates) (levels_of net)
levels-le net k d within = omega (arith, levels_are_few net k, get_or_default (levels_of net) k d 0 within, length-levels_of net)

-- The phase of a driver is its level's,
pub entry_of-phases : (n : ℕ) (levels : List ℕ) (driver : Driver) (inputs : ℕ) → 0 < n → IsThere inputs (length levels) driver → entry_of (phases_of n levels) driver ≡ entry_of levels driver % n
entry_of-phases n levels driver inputs some there = entry_of-map (λ level. level % n) inputs levels driver (omega arith) there

-- and phases of levels are phases.
pub ArePhases-levels : (n : ℕ) (net : GateNet) → 0 < n → ArePhases n net (phases_of n (levels_of net))
ArePhases-levels n net some = record {
  each = length-map (levels_of net) (λ level. level % n) ∙ length-levels_of net;
  below = All-map (λ phase. phase < n) (λ level. level % n) (levels_of net) (λ k d within. mod_below (get_or (levels_of net) k d) n some);
}

-- A weight is at most 1,
pub weight_of-le : (user driver : ℕ) → weight_of user driver ≤ 1
weight_of-le user driver = by (nat_lt driver user)
  where
    by : (b : Bool) → cond b 0 1 ≤ 1
    by true = omega arith
    by false = omega arith

-- and two levels in order are balanced, each split into an epoch and a phase.
pub balanced_from_levels : (n low high : ℕ) → 0 < n → low < high → low / n + weight_of (high % n) (low % n) ≤ high / n
balanced_from_levels n low high some apart =
    (need_gaps_agree n (high / n) (high % n) (low / n) (low % n) (mod_below high n some) (mod_below low n some)).0.0 (omega arith)

-- A stage has its phase and its epoch.
pub phase-back : (n epoch phase : ℕ) → phase < n → stage_of n epoch phase % n ≡ phase
phase-back n epoch phase low = ap (λ k. (k + phase) % n) (mul_comm n epoch) ∙ mod-mul-add epoch n phase low

pub epoch-back : (n epoch phase : ℕ) → phase < n → stage_of n epoch phase / n ≡ epoch
epoch-back n epoch phase low = ap (λ k. (k + phase) / n) (mul_comm n epoch) ∙ div-mul-add epoch n phase low
