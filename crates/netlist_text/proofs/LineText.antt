-- The lines of a text, spread out to one byte behind another, so that each is scanned from its front.
use Rattle.std.proofs.Common.{◌≡◌, ℕ, List, [], ◌∷◌, ◌++◌, codes, decimal, refl, ap, ◌∙◌, append_assoc}
use Rattle.netlist_text.specs.Spelling.{fields, line, model_line, name_line}
use Rattle.netlist_text.proofs.FrontOfBytes.{Stops}

-- numbers, each behind a space, and what follows them
abbrev pub spread : List ℕ → List ℕ → List ℕ
spread [] rest = rest
spread (number ∷ numbers) rest = 32 ∷ (decimal number ++ spread numbers rest)

pub fields-spread : (numbers rest : List ℕ) → fields numbers ++ rest ≡ spread numbers rest
fields-spread [] rest = refl
fields-spread (number ∷ numbers) rest =
    append_assoc (codes " " ++ decimal number) (fields numbers) rest
    ∙ ap (λ more. (codes " " ++ decimal number) ++ more) (fields-spread numbers rest)

pub line-spread : (word numbers rest : List ℕ) → line word numbers ++ rest ≡ word ++ spread numbers (10 ∷ rest)
unfolding line
line-spread word numbers rest =
    append_assoc (word ++ fields numbers) (codes "\n") rest
    ∙ append_assoc word (fields numbers) (10 ∷ rest)
    ∙ ap (λ more. word ++ more) (fields-spread numbers (10 ∷ rest))

pub spread-append : (xs ys rest : List ℕ) → spread (xs ++ ys) rest ≡ spread xs (spread ys rest)
spread-append [] ys rest = refl
spread-append (x ∷ xs) ys rest = ap (λ more. 32 ∷ (decimal x ++ more)) (spread-append xs ys rest)

pub spread-Stops : (numbers rest : List ℕ) → Stops rest → Stops (spread numbers rest)
spread-Stops [] rest stops = stops
spread-Stops (number ∷ numbers) rest stops = refl

pub model_line-spread : (name rest : List ℕ) → model_line name ++ rest ≡ codes "model" ++ (32 ∷ (name ++ (10 ∷ rest)))
unfolding model_line
model_line-spread name rest =
    append_assoc ((codes "model" ++ codes " ") ++ name) (codes "\n") rest
    ∙ append_assoc (codes "model" ++ codes " ") name (10 ∷ rest)

pub name_line-spread : (word name last rest : List ℕ) → name_line word name last ++ rest ≡ word ++ (32 ∷ (name ++ (last ++ (10 ∷ rest))))
name_line-spread word name last rest =
    append_assoc (((word ++ codes " ") ++ name) ++ last) (codes "\n") rest
    ∙ append_assoc ((word ++ codes " ") ++ name) last (10 ∷ rest)
    ∙ append_assoc (word ++ codes " ") name (last ++ (10 ∷ rest))
    ∙ append_assoc word (codes " ") (name ++ (last ++ (10 ∷ rest)))
