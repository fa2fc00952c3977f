-- Answers that may be faults: definitions that refuse with a cause, and calls that answer by them.
use Rattle.std.specs.Prelude.{◌≡◌, Option, Some, None, Result, Ok, Err, MatchResult}

-- a definition goes on unless it has refused
infixl 10 ◌>>=◌
abbrev pub ◌>>=◌ : {A B E : Type 0} → Result A E → (A → Result B E) → Result B E
Ok a >>= go = go a
Err e >>= go = Err e

-- What a fault tells of the definition's answer. Want of memory tells nothing, so it is None.
abbrev pub Tells : {D : Type 0} → Option D → D → Type 0
Tells None answer = Unit {0}
Tells (Some told) answer = answer ≡ told

-- A call gives what the definition says: its value, as it is seen, or a fault that tells the definition's cause, or want of
-- memory.
abbrev pub Gives : {X F D : Type 0} → (X → D) → (F → Option D) → Result X F → D → Type 0
Gives seen told result answer = MatchResult result (λ x. answer ≡ seen x) (λ fault. Tells (told fault) answer)
