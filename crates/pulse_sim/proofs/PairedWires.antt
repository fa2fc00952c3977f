-- Two readings of the same wires, in one order, in which what a wire carries is related: stages and signals, say.
use Rattle.std.proofs.Common.{◌≡◌, ℕ, Bool, true, false, [], ◌∷◌, ◌++◌, refl, subst}
use Rattle.std.specs.Prelude.{Some, unwrap_or, ◌==◌, if◌then◌else◌}
use Rattle.pulse_net.specs.Wires.{Wires, found, carried}

pub data Paired {A B : Type 0} (R : A → B → Type 0) : Wires A → Wires B → Type 0 where
  none : Paired R [] []
  more : (wire : ℕ) (a : A) (b : B) (xs : Wires A) (ys : Wires B) → R a b → Paired R xs ys → Paired R ((wire, a) ∷ xs) ((wire, b) ∷ ys)

-- more wires go behind
pub paired-append : {A B : Type 0} {R : A → B → Type 0} {xs xs' : Wires A} {ys ys' : Wires B} → Paired R xs ys → Paired R xs' ys' → Paired R (xs ++ xs') (ys ++ ys')
paired-append none q = q
paired-append (more wire a b xs ys h p) q = more wire a b _ _ h (paired-append p q)

-- a wire carries what is related, whether it is made or not
pub paired-carried : {A B : Type 0} {R : A → B → Type 0} {xs : Wires A} {ys : Wires B} (a0 : A) (b0 : B) (wire : ℕ) → R a0 b0 → Paired R xs ys → R (carried a0 xs wire) (carried b0 ys wire)
paired-carried a0 b0 wire h none = h
paired-carried {A} {B} {R} a0 b0 wire h (more other a b xs ys r p) = by (wire == other) (paired-carried a0 b0 wire h p)
  where
    by : (same : Bool) → R (carried a0 xs wire) (carried b0 ys wire) → R (unwrap_or (if same then Some a else found xs wire) a0) (unwrap_or (if same then Some b else found ys wire) b0)
    by true rest = r
    by false rest = rest

-- a wire that is made in the one reading is made in the other
pub paired-found : {A B : Type 0} {R : A → B → Type 0} {xs : Wires A} {ys : Wires B} (wire : ℕ) (a : A) → Paired R xs ys → found xs wire ≡ Some a → (b : B) × (found ys wire ≡ Some b) × R a b
paired-found wire a none e = absurd (cc)
paired-found {A} {B} {R} wire a (more other x y xs ys r p) e = by (wire == other) (λ e. paired-found wire a p e) e
  where
    by : (same : Bool) → (found xs wire ≡ Some a → (b : B) × (found ys wire ≡ Some b) × R a b) → (if same then Some x else found xs wire) ≡ Some a → (b : B) × ((if same then Some y else found ys wire) ≡ Some b) × R a b
    by true rest e = let same : x ≡ a = cc in (y, refl, subst (λ (a : A). R a y) same r)
    by false rest e = rest e
