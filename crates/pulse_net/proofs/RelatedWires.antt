-- Three readings of the same wires, in one order, in which what a wire carries is related: stages, values and signals, say.
use Rattle.std.proofs.Common.{◌≡◌, ℕ, Bool, true, false, [], ◌∷◌, ◌++◌, refl, sym, subst}
use Rattle.std.specs.Prelude.{Some, None, unwrap_or, ◌==◌, if◌then◌else◌}
use Rattle.gate_net.specs.declared.row.Driver.{Driver}
use Rattle.pulse_net.specs.Wires.{Wires, found, carried}
use Rattle.pulse_net.specs.Unfolding.{with_wire}
use Rattle.pulse_net.proofs.InsertedWires.{with_wire-new}

pub data Related {A B C : Type 0} (R : A → B → C → Type 0) : Wires A → Wires B → Wires C → Type 0 where
  none : Related R [] [] []
  more : (wire : ℕ) (a : A) (b : B) (c : C) (xs : Wires A) (ys : Wires B) (zs : Wires C) → R a b c → Related R xs ys zs → Related R ((wire, a) ∷ xs) ((wire, b) ∷ ys) ((wire, c) ∷ zs)

-- where one relation gives another, so do the readings
pub related-weaker : {A B C : Type 0} {R S : A → B → C → Type 0} {xs : Wires A} {ys : Wires B} {zs : Wires C} → ((a : A) (b : B) (c : C) → R a b c → S a b c) → Related R xs ys zs → Related S xs ys zs
related-weaker f none = none
related-weaker f (more wire a b c xs ys zs h p) = more wire a b c xs ys zs (f a b c h) (related-weaker f p)

-- more wires go behind
pub related-append : {A B C : Type 0} {R : A → B → C → Type 0} {xs xs' : Wires A} {ys ys' : Wires B} {zs zs' : Wires C} → Related R xs ys zs → Related R xs' ys' zs' → Related R (xs ++ xs') (ys ++ ys') (zs ++ zs')
related-append none q = q
related-append (more wire a b c xs ys zs h p) q = more wire a b c _ _ _ h (related-append p q)

-- a wire that is made carries what is related
pub related-found : {A B C : Type 0} {R : A → B → C → Type 0} {xs : Wires A} {ys : Wires B} {zs : Wires C} (b0 : B) (c0 : C) (wire : ℕ) (a : A) → Related R xs ys zs → found xs wire ≡ Some a → R a (carried b0 ys wire) (carried c0 zs wire)
related-found b0 c0 wire a none e = cc
related-found {A} {B} {C} {R} b0 c0 wire a (more other x y z xs ys zs h p) e = by (wire == other) (λ e. related-found b0 c0 wire a p e) e
  where
    by : (same : Bool) → (found xs wire ≡ Some a → R a (carried b0 ys wire) (carried c0 zs wire)) → (if same then Some x else found xs wire) ≡ Some a → R a (unwrap_or (if same then Some y else found ys wire) b0) (unwrap_or (if same then Some z else found zs wire) c0)
    by true rest e = let same : x ≡ a = cc in subst (λ (a : A). R a y z) same h
    by false rest e = rest e

-- and is made in each reading;
pub related-made : {A B C : Type 0} {R : A → B → C → Type 0} {xs : Wires A} {ys : Wires B} {zs : Wires C} (c0 : C) (wire : ℕ) (a : A) → Related R xs ys zs → found xs wire ≡ Some a → found zs wire ≡ Some (carried c0 zs wire)
related-made c0 wire a none e = cc
related-made {A} {B} {C} {R} c0 wire a (more other x y z xs ys zs h p) e = by (wire == other) (λ e. related-made c0 wire a p e) e
  where
    by : (same : Bool) → (found xs wire ≡ Some a → found zs wire ≡ Some (carried c0 zs wire)) → (if same then Some x else found xs wire) ≡ Some a → (if same then Some z else found zs wire) ≡ Some (unwrap_or (if same then Some z else found zs wire) c0)
    by true rest e = refl
    by false rest e = rest e

-- and one that isn't made in the one reading isn't in the others
pub related-absent : {A B C : Type 0} {R : A → B → C → Type 0} {xs : Wires A} {ys : Wires B} {zs : Wires C} (wire : ℕ) → Related R xs ys zs → found xs wire ≡ None → (found ys wire ≡ None) × (found zs wire ≡ None)
related-absent wire none e = (refl, refl)
related-absent wire (more other x y z xs ys zs h p) e = by (wire == other) (λ e. related-absent wire p e) e
  where
    by : (same : Bool) → (found xs wire ≡ None → (found ys wire ≡ None) × (found zs wire ≡ None)) → (if same then Some x else found xs wire) ≡ None → ((if same then Some y else found ys wire) ≡ None) × ((if same then Some z else found zs wire) ≡ None)
    by true rest e = absurd (cc)
    by false rest e = rest e

-- a wire that is new is made with its driver
pub related-make : {A B : Type 0} {R : A → B → Driver → Type 0} {xs : Wires A} {ys : Wires B} {drivers : Wires Driver} (wire : ℕ) (a : A) (b : B) (driver : Driver) → Related R xs ys drivers → found xs wire ≡ None → R a b driver → Related R (xs ++ (wire, a) ∷ []) (ys ++ (wire, b) ∷ []) (with_wire drivers wire driver)
related-make {A} {B} {R} {xs} {ys} {drivers} wire a b driver p new h =
    subst (λ (made : Wires Driver). Related R (xs ++ (wire, a) ∷ []) (ys ++ (wire, b) ∷ []) made) (sym (with_wire-new drivers wire driver (related-absent wire p new).1))
    (related-append p (more wire a b driver [] [] [] h none))
