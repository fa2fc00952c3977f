-- The words that aren't read here are short, so each may be a name.
use Rattle.std.proofs.Common.{◌≡◌, ◌≤◌, ◌||◌, ℕ, Bool, true, false, List, [], ◌∷◌, length, codes, nat_eq, if◌then◌else◌, refl, sym, subst, arith, ⊎_elim}
use Rattle.std.specs.Str.{bytes_eq}
use Rattle.std.proofs.lemmas.Bool.{or_cases}
use Rattle.std.proofs.lemmas.Slice.Eq.{bytes_eq-Decides}
use Rattle.blif_read.specs.declared.word.Word.{Word}
use Rattle.blif_read.specs.declared.word.Word.TheVariants.{Model, Inputs, Outputs, Names, End, Unsupported, Unknown, Row}
use Rattle.blif_read.specs.Words.{is_unsupported_word, other_word, word_of}

module _ (token : List ℕ) where
  as_long : (word : List ℕ) → length word ≤ 255 → bytes_eq token word ≡ true → length token ≤ 255
  as_long word few same = subst (λ bytes. length bytes ≤ 255) (sym ((bytes_eq-Decides token word).0 same)) few

  either : (a b : Bool) → (a ≡ true → length token ≤ 255) → (b ≡ true → length token ≤ 255) → (a || b) ≡ true → length token ≤ 255
  either a b first second is = ⊎_elim {C = length token ≤ 255} first second (or_cases a b is)

  unsupported_is_short : is_unsupported_word token ≡ true → length token ≤ 255
  unfolding is_unsupported_word
  unsupported_is_short =
      either _ _
      (either _ _
      (either _ _
      (either _ _
      (either _ _
      (either _ _
      (either _ _ (as_long (codes ".latch") (omega arith)) (as_long (codes ".mlatch") (omega arith)))
      (as_long (codes ".subckt") (omega arith)))
      (as_long (codes ".gate") (omega arith)))
      (as_long (codes ".search") (omega arith)))
      (as_long (codes ".exdc") (omega arith)))
      (as_long (codes ".clock") (omega arith)))
      (as_long (codes ".start_kiss") (omega arith))

  behind : (b : Bool) (word other : Word) → (word ≡ Unsupported → length token ≤ 255) → (other ≡ Unsupported → length token ≤ 255) → (if b then word else other) ≡ Unsupported → length token ≤ 255
  behind true word other first second is = first is
  behind false word other first second is = second is

  last : (b : Bool) → (b ≡ true → length token ≤ 255) → (other : Word) → (other ≡ Unsupported → length token ≤ 255) → (if b then Unsupported else other) ≡ Unsupported → length token ≤ 255
  last true short other second is = short refl
  last false short other second is = second is

  other_is_none : (bytes : List ℕ) → other_word bytes ≡ Unsupported → length token ≤ 255
  other_is_none [] is = cc
  other_is_none (byte ∷ bytes) is = behind (nat_eq byte 46) Unknown Row (λ e. cc) (λ e. cc) is

  pub Unsupported-is_short : word_of token ≡ Unsupported → length token ≤ 255
  unfolding word_of
  Unsupported-is_short =
      behind (bytes_eq token (codes ".model")) Model _ (λ e. cc)
      (behind (bytes_eq token (codes ".inputs")) Inputs _ (λ e. cc)
      (behind (bytes_eq token (codes ".outputs")) Outputs _ (λ e. cc)
      (behind (bytes_eq token (codes ".names")) Names _ (λ e. cc)
      (behind (bytes_eq token (codes ".end")) End _ (λ e. cc)
      (last (is_unsupported_word token) unsupported_is_short _ (other_is_none token))))))
