-- Stages, weights and needs: what a gap in time costs in DROs, counted in stages and counted in epochs.
use Rattle.std.specs.Prelude.{◌≡◌, ◌<◌, ◌≤◌, ◌+◌, ◌-◌, ◌*◌, ◌/◌, ◌↔◌, ℕ, cond, nat_lt}

-- The stage of what has this epoch and phase, with n phases: the tick at which it first gives a value.
abbrev pub stage_of : ℕ → ℕ → ℕ → ℕ
stage_of n epoch phase = n * epoch + phase

-- The weight of a pin: the least gap in epochs from its driver to its user. It is 0 where the user's phase is greater,
-- since the pulse then comes in the same epoch, and else 1.
abbrev pub weight_of : ℕ → ℕ → ℕ
weight_of user driver = cond (nat_lt driver user) 0 1

-- the DROs that a pin needs whose user is `gap` stages behind its driver: the gap over n, rounded up, less 1
abbrev pub need_over_stages : ℕ → ℕ → ℕ
need_over_stages n gap = (gap + n - 1) / n - 1

-- the DROs that a pin of this weight needs, from the epochs of its user and its driver
abbrev pub need_over_epochs : ℕ → ℕ → ℕ → ℕ
need_over_epochs user driver weight = user - driver - weight

-- A gap in stages and a gap in epochs give the same need: the user comes later exactly where its epoch is the weight
-- or more above the driver's, and the DROs between them are then the same by both counts.
abbrev pub GapsAgree : Type 0
GapsAgree =
    (n user_epoch user_phase driver_epoch driver_phase : ℕ)
    → user_phase < n
    → driver_phase < n
    → (stage_of n driver_epoch driver_phase < stage_of n user_epoch user_phase ↔ driver_epoch + weight_of user_phase driver_phase ≤ user_epoch)
    × (driver_epoch + weight_of user_phase driver_phase ≤ user_epoch
    → need_over_stages n (stage_of n user_epoch user_phase - stage_of n driver_epoch driver_phase)
    ≡ need_over_epochs user_epoch driver_epoch (weight_of user_phase driver_phase))

-- Behind as many DROs as a gap needs, each n stages after the last, 1 to n stages are left.
abbrev pub NeedLeavesOneWindow : Type 0
NeedLeavesOneWindow = (n gap : ℕ) → 0 < n → 0 < gap → (n * need_over_stages n gap < gap) × (gap ≤ n * need_over_stages n gap + n)
