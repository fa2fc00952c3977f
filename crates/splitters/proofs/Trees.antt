-- Trees of splitters: the bound on the depth doesn't matter, and each target has one wire.
use Rattle.std.proofs.Common.{◌≡◌, ◌≤◌, ℕ, zero, suc, ◌+◌, ◌-◌, ◌*◌, List, [], ◌∷◌, ◌++◌, length, refl, ap, sym, arith, length-append, append_assoc}
use Rattle.pulse_net.specs.declared.net.Element.{Element}
use Rattle.pulse_net.specs.declared.net.Element.TheVariants.{Split}
use Rattle.splitters.specs.Spread.{first_half, tree_lines, tree_wires, spread_lines, spread_wires}

-- halves are smaller
pub half-below : (more : ℕ) → first_half (suc (suc more)) ≤ suc more
half-below more = omega arith

pub rest-below : (more : ℕ) → suc (suc more) - first_half (suc (suc more)) ≤ suc more
rest-below more = omega arith

-- Two depths that are both large enough give one tree.
tree_lines-depth : (d e wire next targets : ℕ) → targets ≤ d → targets ≤ e → tree_lines d wire next targets ≡ tree_lines e wire next targets
tree_lines-depth zero zero wire next targets low high = refl
tree_lines-depth zero (suc e) wire next zero low high = refl
tree_lines-depth zero (suc e) wire next (suc t) low high = absurd (omega arith)
tree_lines-depth (suc d) zero wire next zero low high = refl
tree_lines-depth (suc d) zero wire next (suc t) low high = absurd (omega arith)
tree_lines-depth (suc d) (suc e) wire next zero low high = refl
tree_lines-depth (suc d) (suc e) wire next (suc zero) low high = refl
tree_lines-depth (suc d) (suc e) wire next (suc (suc more)) low high =
    let h = first_half (suc (suc more)) in
    let left : tree_lines d next (next + 2) h ≡ tree_lines e next (next + 2) h =
    tree_lines-depth d e next (next + 2) h (omega (arith, half-below more)) (omega (arith, half-below more)) in
    let right : tree_lines d (next + 1) (next + 2 * h) (suc (suc more) - h) ≡ tree_lines e (next + 1) (next + 2 * h) (suc (suc more) - h) =
    tree_lines-depth d e (next + 1) (next + 2 * h) (suc (suc more) - h) (omega (arith, rest-below more)) (omega (arith, rest-below more)) in
    λ i. Split wire next (next + 1) ∷ (left i ++ right i)

tree_wires-depth : (d e wire next targets : ℕ) → targets ≤ d → targets ≤ e → tree_wires d wire next targets ≡ tree_wires e wire next targets
tree_wires-depth zero zero wire next targets low high = refl
tree_wires-depth zero (suc e) wire next zero low high = refl
tree_wires-depth zero (suc e) wire next (suc t) low high = absurd (omega arith)
tree_wires-depth (suc d) zero wire next zero low high = refl
tree_wires-depth (suc d) zero wire next (suc t) low high = absurd (omega arith)
tree_wires-depth (suc d) (suc e) wire next zero low high = refl
tree_wires-depth (suc d) (suc e) wire next (suc zero) low high = refl
tree_wires-depth (suc d) (suc e) wire next (suc (suc more)) low high =
    let h = first_half (suc (suc more)) in
    let left : tree_wires d next (next + 2) h ≡ tree_wires e next (next + 2) h =
    tree_wires-depth d e next (next + 2) h (omega (arith, half-below more)) (omega (arith, half-below more)) in
    let right : tree_wires d (next + 1) (next + 2 * h) (suc (suc more) - h) ≡ tree_wires e (next + 1) (next + 2 * h) (suc (suc more) - h) =
    tree_wires-depth d e (next + 1) (next + 2 * h) (suc (suc more) - h) (omega (arith, rest-below more)) (omega (arith, rest-below more)) in
    λ i. left i ++ right i

-- One splitter, then the trees of the two halves.
spread_lines-halves : (wire next targets : ℕ) → 2 ≤ targets →
    spread_lines wire next targets ≡ Split wire next (next + 1) ∷ (spread_lines next (next + 2) (first_half targets) ++ spread_lines (next + 1) (next + 2 * first_half targets) (targets - first_half targets))
spread_lines-halves wire next zero many = absurd (omega arith)
spread_lines-halves wire next (suc zero) many = absurd (omega arith)
spread_lines-halves wire next (suc (suc more)) many =
    let h = first_half (suc (suc more)) in
    let r = suc (suc more) - h in
    let left : tree_lines (suc more) next (next + 2) h ≡ tree_lines h next (next + 2) h =
    tree_lines-depth (suc more) h next (next + 2) h (half-below more) (omega arith) in
    let right : tree_lines (suc more) (next + 1) (next + 2 * h) r ≡ tree_lines r (next + 1) (next + 2 * h) r =
    tree_lines-depth (suc more) r (next + 1) (next + 2 * h) r (rest-below more) (omega arith) in
    λ i. Split wire next (next + 1) ∷ (left i ++ right i)

spread_wires-halves : (wire next targets : ℕ) → 2 ≤ targets →
    spread_wires wire next targets ≡ spread_wires next (next + 2) (first_half targets) ++ spread_wires (next + 1) (next + 2 * first_half targets) (targets - first_half targets)
spread_wires-halves wire next zero many = absurd (omega arith)
spread_wires-halves wire next (suc zero) many = absurd (omega arith)
spread_wires-halves wire next (suc (suc more)) many =
    let h = first_half (suc (suc more)) in
    let r = suc (suc more) - h in
    let left : tree_wires (suc more) next (next + 2) h ≡ tree_wires h next (next + 2) h =
    tree_wires-depth (suc more) h next (next + 2) h (half-below more) (omega arith) in
    let right : tree_wires (suc more) (next + 1) (next + 2 * h) r ≡ tree_wires r (next + 1) (next + 2 * h) r =
    tree_wires-depth (suc more) r (next + 1) (next + 2 * h) r (rest-below more) (omega arith) in
    λ i. left i ++ right i

-- Each target has one wire.
length-tree_wires : (depth wire next targets : ℕ) → targets ≤ depth → length (tree_wires depth wire next targets) ≡ targets
length-tree_wires zero wire next targets few = omega arith
length-tree_wires (suc depth) wire next zero few = refl
length-tree_wires (suc depth) wire next (suc zero) few = refl
length-tree_wires (suc depth) wire next (suc (suc more)) few =
    let h = first_half (suc (suc more)) in
    let r = suc (suc more) - h in
    let left : length (tree_wires depth next (next + 2) h) ≡ h =
    length-tree_wires depth next (next + 2) h (omega (arith, half-below more)) in
    let right : length (tree_wires depth (next + 1) (next + 2 * h) r) ≡ r =
    length-tree_wires depth (next + 1) (next + 2 * h) r (omega (arith, rest-below more)) in
    omega (arith, left, right, length-append (tree_wires depth next (next + 2) h) (tree_wires depth (next + 1) (next + 2 * h) r))

-- A splitter and the trees of the two halves, one after the other, are the tree.
pub spread_lines-joined : (wire next targets : ℕ) (old : List Element) → 2 ≤ targets →
    ((old ++ Split wire next (next + 1) ∷ []) ++ spread_lines next (next + 2) (first_half targets)) ++ spread_lines (next + 1) (next + 2 * first_half targets) (targets - first_half targets)
    ≡ old ++ spread_lines wire next targets
spread_lines-joined wire next targets old many =
    simp append_assoc (ap (λ (xs : List Element). old ++ xs) (sym (spread_lines-halves wire next targets many)))

pub spread_wires-joined : (wire next targets : ℕ) (old : List ℕ) → 2 ≤ targets →
    (old ++ spread_wires next (next + 2) (first_half targets)) ++ spread_wires (next + 1) (next + 2 * first_half targets) (targets - first_half targets)
    ≡ old ++ spread_wires wire next targets
spread_wires-joined wire next targets old many =
    simp append_assoc (ap (λ (xs : List ℕ). old ++ xs) (sym (spread_wires-halves wire next targets many)))

pub length-spread_wires : (wire next targets : ℕ) → length (spread_wires wire next targets) ≡ targets
length-spread_wires wire next targets = length-tree_wires targets wire next targets (omega arith)
