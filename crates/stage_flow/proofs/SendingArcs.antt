-- Arcs by their numbers, as the code reads them: the arc at a place in the list of arcs is the one that its pin tells.
use Rattle.std.proofs.Common.{◌≡◌, ◌<◌, ◌+◌, ◌*◌, ◌/◌, ◌%◌, ◌==◌, ◌∙◌, ◌+ℤ◌, ℕ, zero, suc, ℤ, Bool, true, false, List, [], ◌∷◌, length, get_or, Contains, refl, ap, sym, subst, arith}
use Rattle.std.proofs.lemmas.Bool.Decides.{nat_tests}
use Rattle.std.proofs.lemmas.List.Elements.{All-contains}
use Rattle.flow_net.specs.declared.net.Pin.{Pin}
use Rattle.flow_net.specs.declared.net.Net.{Net}
use Rattle.flow_net.specs.Arcs.{Arc, mirror_of, arcs_from, arcs_of}
use Rattle.stage_flow.specs.Residual.{Way, vertex_count}
use Rattle.stage_flow.specs.Longest.{Reach}
use Rattle.stage_flow.specs.LawsOfWalks.{EndsAreVertices, led_by, label, IsTight}
use Rattle.stage_flow.specs.Search.{arc_by, pin_at, arc_at}
use Rattle.stage_flow.proofs.Walks.{reach-same}
use Rattle.stage_flow.proofs.Units.{length-arcs_from, arc-same, arc-low}

-- the arc of pins with a number that counts from a place
arcs_from-at : (net : Net) (place : ℕ) (pins : List Pin) (k : ℕ) (d : Arc) (p : Pin) → k < length (arcs_from net place pins) → get_or (arcs_from net place pins) k d ≡ arc_by (k % 2 == 0) net (get_or pins (k / 2) p) (2 * place + k)
arcs_from-at net place [] k d p within = absurd (omega arith)
arcs_from-at net place (pin ∷ pins) zero d p within = ap (arc_by true net pin) (let h : 2 * place ≡ 2 * place + 0 = omega arith in h)
arcs_from-at net place (pin ∷ pins) (suc zero) d p within = refl
arcs_from-at net place (pin ∷ pins) (suc (suc k)) d p within =
    let half : suc (suc k) / 2 ≡ suc (k / 2) = omega arith in
    let even : suc (suc k) % 2 ≡ k % 2 = omega arith in
    let number : 2 * (place + 1) + k ≡ 2 * place + suc (suc k) = omega arith in
    arcs_from-at net (place + 1) pins k d p (omega arith)
    ∙ ap (arc_by (k % 2 == 0) net (get_or pins (k / 2) p)) number
    ∙ ap (λ n. arc_by (n == 0) net (get_or pins (k / 2) p) (2 * place + suc (suc k))) (sym even)
    ∙ ap (λ n. arc_by (suc (suc k) % 2 == 0) net (get_or (pin ∷ pins) n p) (2 * place + suc (suc k))) (sym half)

-- An arc has its number.
pub arc_at-number : (net : Net) (number : ℕ) → (arc_at net number).number ≡ number
arc_at-number net number = by (number % 2 == 0)
  where
    by : (even : Bool) → (arc_by even net (pin_at net (number / 2)) number).number ≡ number
    by true = refl
    by false = refl

-- Each number whose half is a place of a pin is an arc's,
pub arc_at-there : (net : Net) (number : ℕ) → number / 2 < length net.pins → Contains (arcs_of net) (arc_at net number)
arc_at-there net number within =
    let long = length-arcs_from net 0 net.pins in
    let inside : number < length (arcs_of net) = omega (arith, long) in
    let d : Arc = arc_at net number in
    let is = arcs_from-at net 0 net.pins number d (record { driver = 0; from = 0; to = 0; weight = 0 }) inside in
    let same : 2 * 0 + number ≡ number = omega arith in
    (number, inside, is ∙ ap (arc_by (number % 2 == 0) net (pin_at net (number / 2))) same)

-- and an arc is the one with its number.
pub arc_at-is : (net : Net) (arc : Arc) → Contains (arcs_of net) arc → arc_at net arc.number ≡ arc
arc_at-is net arc there = arc-same net (arc_at net arc.number) arc (arc_at-there net arc.number (arc-low net arc there)) there (arc_at-number net arc.number)

-- The mirror of a pin's driver is a vertex.
pub back-low : (net : Net) (number : ℕ) → EndsAreVertices net → number / 2 < length net.pins → (number % 2 ≡ 0 → ⊥) → mirror_of net (pin_at net (number / 2)).driver < vertex_count net
back-low net number ends within odd =
    let low = All-contains (λ (arc : Arc). (arc.tail < vertex_count net) × (arc.head < vertex_count net)) (arcs_of net) (arc_at net number) ends (arc_at-there net number within) in
    let test : (number % 2 == 0) ≡ false = grind (arith, nat_tests) in
    subst (λ b. (arc_by b net (pin_at net (number / 2)) number).head < vertex_count net) test low.1

-- ---- Tight arcs
-- A residual arc is tight where lengths and numbers of arcs come about exactly.
pub tight-from_parts : (far : ℕ → ℤ) (hops : ℕ → ℕ) (way : Way) → way.length +ℤ far way.head ≡ far way.tail → hops way.head + 1 ≡ hops way.tail → IsTight far hops way
tight-from_parts far hops way long many = reach-same (led_by way (label far hops way.head)) (label far hops way.tail) long many

pub tight-length : (far : ℕ → ℤ) (hops : ℕ → ℕ) (way : Way) → IsTight far hops way → way.length +ℤ far way.head ≡ far way.tail
tight-length far hops way tight = ap (λ (reach : Reach). reach.length) tight

pub tight-hops : (far : ℕ → ℤ) (hops : ℕ → ℕ) (way : Way) → IsTight far hops way → hops way.head + 1 ≡ hops way.tail
tight-hops far hops way tight = ap (λ (reach : Reach). reach.hops) tight
