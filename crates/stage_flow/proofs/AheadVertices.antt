-- The vertices of a list that are still stale stand from a place on. The place moves on past a vertex that isn't stale, stays where a
-- vertex is put right, and where it comes to the end, no vertex is stale.
use Rattle.std.proofs.Common.{◌≡◌, ◌<◌, ◌≤◌, ◌+◌, ◌⊎◌, inl, inr, ℕ, zero, suc, Bool, true, false, List, [], ◌∷◌, length, set, drop, get_or, Contains, refl, ap, sym, ◌∙◌, subst, arith, ⊎_elim}
use Rattle.std.proofs.lemmas.Bool.{both_ways}
use Rattle.std.proofs.lemmas.List.{drop_more, drop_all}
use Rattle.stage_flow.specs.Passes.{mark_at}
use Rattle.stage_flow.specs.Mending.{AreAhead}
use Rattle.stage_flow.proofs.HalfwaySteps.{marked-before}

-- What a list has is its first item, or among the rest.
pub head-or-rest : (first : ℕ) (rest : List ℕ) (vertex : ℕ) → Contains (first ∷ rest) vertex → (vertex ≡ first) ⊎ Contains rest vertex
head-or-rest first rest vertex (zero, within, is) = inl (sym is)
head-or-rest first rest vertex (suc k, within, is) = inr (k, omega arith, is)

pub ahead-more : (marks : List Bool) (vertices : List ℕ) (place : ℕ) → place < length vertices → mark_at marks (get_or vertices place 0) ≡ false → AreAhead marks vertices place → AreAhead marks vertices (place + 1)
ahead-more marks vertices place within fresh ahead vertex marked =
    ⊎_elim {C = Contains (drop (place + 1) vertices) vertex}
    (λ same. absurd (both_ways (mark_at marks vertex) (ap (mark_at marks) same ∙ fresh) marked))
    (λ there. there)
    (head-or-rest (get_or vertices place 0) (drop (place + 1) vertices) vertex (subst (λ l. Contains l vertex) (drop_more vertices place 0 within) (ahead vertex marked)))

pub ahead-none : (marks : List Bool) (vertices : List ℕ) (place : ℕ) → length vertices ≤ place → AreAhead marks vertices place → (vertex : ℕ) → mark_at marks vertex ≡ false
ahead-none marks vertices place past ahead vertex = by (mark_at marks vertex) refl
  where
    nothing : Contains [] vertex → mark_at marks vertex ≡ false
    nothing (k, within, is) = absurd (omega (arith, within))

    by : (test : Bool) → mark_at marks vertex ≡ test → mark_at marks vertex ≡ false
    by false fresh = fresh
    by true marked = nothing (subst (λ l. Contains l vertex) (drop_all place vertices past) (ahead vertex marked))

pub ahead-cleared : (marks marks' : List Bool) (vertices : List ℕ) (place cleared : ℕ) → marks' ≡ set marks cleared false → AreAhead marks vertices place → AreAhead marks' vertices place
ahead-cleared marks marks' vertices place cleared is ahead vertex marked =
    ahead vertex (marked-before marks cleared vertex (sym (ap (λ xs. mark_at xs vertex) is) ∙ marked))
