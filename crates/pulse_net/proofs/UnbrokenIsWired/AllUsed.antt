-- At the close no unused wire is found exactly where each wire that is made is used.
use Rattle.std.proofs.Common.{◌≡◌, ℕ, Bool, true, false, cond, nat_eq, List, [], ◌∷◌, refl, sym, ap, ◌∙◌, ⊎_elim}
use Rattle.std.specs.Prelude.{Option, Some, None}
use Rattle.std.specs.Cmp.{nat_eq_equiv}
use Rattle.std.proofs.lemmas.Bool.{or_cases, or_left, or_right, true≢false, eqb-true}
use Rattle.net_base.specs.Keys.{is_among}
use Rattle.pulse_net.specs.Validity.{lesser, with_unused, least_unused}

-- where no unused wire is found, each wire is used
pub record AreUsed (used wires : List ℕ) (least : Option ℕ) : Type 0 where
  pub none : least ≡ None
  pub each : (wire : ℕ) → is_among nat_eq wire wires ≡ true → is_among nat_eq wire used ≡ true

pub least_unused-none : (used : List ℕ) (wires : List ℕ) (least : Option ℕ) → least_unused used least wires ≡ None → AreUsed used wires least
least_unused-none used [] least h = record { none = h; each = λ wire e. absurd (true≢false (sym e)) }
least_unused-none used (one ∷ wires) least h = let rest = least_unused-none used wires (with_unused used one least) h in by (is_among nat_eq one used) refl rest rest.none
  where
    by : (fine : Bool) → is_among nat_eq one used ≡ fine → AreUsed used wires (with_unused used one least) → cond fine least (Some (lesser one least)) ≡ None → AreUsed used (one ∷ wires) least
    by true e rest n = record { none = n; each = λ wire among. ⊎_elim (λ same. ap (λ wire. is_among nat_eq wire used) (eqb-true wire one same) ∙ e) (rest.each wire) (or_cases (nat_eq wire one) (is_among nat_eq wire wires) among) }
    by false e rest n = cc

-- and where each wire is used, none is found
pub least_unused-used : (used : List ℕ) (wires : List ℕ) → ((wire : ℕ) → is_among nat_eq wire wires ≡ true → is_among nat_eq wire used ≡ true) → least_unused used None wires ≡ None
least_unused-used used [] h = refl
least_unused-used used (one ∷ wires) h =
    let here : is_among nat_eq one used ≡ true = h one (or_left (nat_eq one one) (is_among nat_eq one wires) (nat_eq_equiv.refl one)) in
    ap (λ b. least_unused used (cond b None (Some (lesser one None))) wires) here ∙ least_unused-used used wires (λ wire e. h wire (or_right (nat_eq wire one) (is_among nat_eq wire wires) e))
