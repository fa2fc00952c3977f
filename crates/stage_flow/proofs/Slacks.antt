-- Lengths to the wanting mirrors, from potentials that fit, by a search backwards over slacks. Raise the potential at all wanting
-- mirrors to one that none of them exceeds: no residual arc leaves them, so it still fits, and no slack is below nothing. The slacks of
-- a walk add up to what its ends differ in potential, less its length. So the least sum of slacks to a wanting mirror tells the
-- greatest length.
use Rattle.std.proofs.Common.{◌≡◌, ℕ, ℤ, pos, ◌+ℤ◌, ◌-ℤ◌, ◌≤ℤ◌, Bool, true, false, cond, List, get_or, All, refl, ap, arith}
use Rattle.std.proofs.lemmas.Int.{ints}
use Rattle.stage_flow.specs.Residual.{Way}
use Rattle.stage_flow.specs.LawsOfWalks.{FitsWay, IsLevel, potential_by}

-- the potential, raised at the vertices that pass a test
abbrev pub raised : (ℕ → Bool) → ℤ → (ℕ → ℤ) → ℕ → ℤ
raised test top p vertex = cond (test vertex) top (p vertex)

-- It still fits where no residual arc leaves such a vertex.
pub raised-fits : (ways : List Way) (test : ℕ → Bool) (top : ℤ) (p : ℕ → ℤ) → All (FitsWay p) ways → All (λ way. test way.tail ≡ false) ways → ((v : ℕ) → test v ≡ true → p v ≤ℤ top) → All (FitsWay (raised test top p)) ways
raised-fits ways test top p fits leaves below k d within =
    let way = get_or ways k d in
    let rises : FitsWay p way = fits k d within in
    let start : raised test top p way.tail ≡ p way.tail = ap (λ b. cond b top (p way.tail)) (leaves k d within) in
    let end : p way.head ≤ℤ raised test top p way.head = by way.head (test way.head) refl in
    omega (arith, ints, rises, start, end)
  where
    by : (v : ℕ) (own : Bool) → test v ≡ own → p v ≤ℤ cond own top (p v)
    by v true passes = below v passes
    by v false passes = omega (arith, ints)

-- how much more the potential rises on a residual arc than its length
abbrev pub slack : (ℕ → ℤ) → Way → ℤ
slack p way = (p way.head -ℤ p way.tail) -ℤ way.length

-- What a search backwards finds, from the vertices that pass a test: no residual arc makes a vertex nearer.
pub record AreDistances (ways : List Way) (test : ℕ → Bool) (p distance : ℕ → ℤ) : Type 0 where
  pub nothing : (v : ℕ) → test v ≡ true → distance v ≡ pos 0
  pub nearer : All (λ way. distance way.tail ≤ℤ (slack p way +ℤ distance way.head)) ways

-- the greatest length from a vertex, by its distance
abbrev pub far_by : ℤ → (ℕ → ℤ) → (ℕ → ℤ) → ℕ → ℤ
far_by top p distance vertex = (top -ℤ p vertex) -ℤ distance vertex

pub far_by-fits : (ways : List Way) (test : ℕ → Bool) (top : ℤ) (p distance : ℕ → ℤ) → AreDistances ways test p distance → All (FitsWay (potential_by (far_by top p distance))) ways
far_by-fits ways test top p distance distances k d within =
    let way = get_or ways k d in
    let near : distance way.tail ≤ℤ (slack p way +ℤ distance way.head) = distances.nearer k d within in
    omega (arith, ints, near)

pub far_by-nothing : (ways : List Way) (test : ℕ → Bool) (top : ℤ) (p distance : ℕ → ℤ) → AreDistances ways test p distance → (v : ℕ) → test v ≡ true → p v ≡ top → far_by top p distance v ≡ pos 0
far_by-nothing ways test top p distance distances v passes same =
    let none = distances.nothing v passes in
    omega (arith, ints, none, same)

-- A residual arc is level just where it is on a way of least slacks.
pub far_by-level : (top : ℤ) (p distance : ℕ → ℤ) (way : Way) → distance way.tail ≡ slack p way +ℤ distance way.head → IsLevel (potential_by (far_by top p distance)) way
far_by-level top p distance way same = omega (arith, ints, same)

pub level-far_by : (top : ℤ) (p distance : ℕ → ℤ) (way : Way) → IsLevel (potential_by (far_by top p distance)) way → distance way.tail ≡ slack p way +ℤ distance way.head
level-far_by top p distance way level = omega (arith, ints, level)
