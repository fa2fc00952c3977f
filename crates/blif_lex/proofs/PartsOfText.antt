-- The parts that a text is cut into, found again in the text: the first one at its front, and each later one behind a separator.
use Rattle.std.proofs.Common.{◌≡◌, ◌+◌, ◌++◌, ◌∷◌, ℕ, Bool, true, false, not, List, [], length, refl, ap, arith}
use Rattle.std.specs.List.{list_all, AllByRecursion}
use Rattle.blif_lex.specs.Parts.{Part, cut_at, with_byte}
use Rattle.blif_lex.specs.Separators.{BeginsBy}

module _ (is_separator : ℕ → Bool) where
  pub record IsFirst (start : ℕ) (text : List ℕ) (part : Part) : Type 0 where
    pub behind : List ℕ
    pub whole : text ≡ part.bytes ++ behind
    pub place : part.start ≡ start
    pub inside : list_all (λ byte. not (is_separator byte)) part.bytes ≡ true
    pub back : BeginsBy is_separator behind

  pub record IsLater (start : ℕ) (text : List ℕ) (part : Part) : Type 0 where
    pub front : List ℕ
    pub separator : ℕ
    pub behind : List ℕ
    pub whole : text ≡ front ++ (separator ∷ (part.bytes ++ behind))
    pub place : part.start ≡ start + (length front + 1)
    pub is_one : is_separator separator ≡ true
    pub inside : list_all (λ byte. not (is_separator byte)) part.bytes ≡ true
    pub back : BeginsBy is_separator behind

  -- what is known of the parts of a text
  abbrev pub AreCut : ℕ → List ℕ → List Part → Type 0
  AreCut start text [] = text ≡ []
  AreCut start text (part ∷ parts) = IsFirst start text part × AllByRecursion (IsLater start text) parts

  -- a byte more at the front of the text
  behind_byte : (start byte : ℕ) (text : List ℕ) (part : Part) → IsLater (start + 1) text part → IsLater start (byte ∷ text) part
  behind_byte start byte text part later = record {
    front = byte ∷ later.front;
    separator = later.separator;
    behind = later.behind;
    whole = ap (λ bytes. byte ∷ bytes) later.whole;
    place = omega (arith, later.place);
    is_one = later.is_one;
    inside = later.inside;
    back = later.back;
  }

  all_behind_byte : (start byte : ℕ) (text : List ℕ) (parts : List Part) → AllByRecursion (IsLater (start + 1) text) parts → AllByRecursion (IsLater start (byte ∷ text)) parts
  all_behind_byte start byte text [] later = tt
  all_behind_byte start byte text (part ∷ parts) later = (behind_byte start byte text part later.0, all_behind_byte start byte text parts later.1)

  behind_separator : (start byte : ℕ) (text : List ℕ) (parts : List Part) → is_separator byte ≡ true → AreCut (start + 1) text parts → AllByRecursion (IsLater start (byte ∷ text)) parts
  behind_separator start byte text [] is are = tt
  behind_separator start byte text (part ∷ parts) is are =
      let first : IsLater start (byte ∷ text) part = record {
        front = [];
        separator = byte;
        behind = are.0.behind;
        whole = ap (λ bytes. byte ∷ bytes) are.0.whole;
        place = omega (arith, are.0.place);
        is_one = is;
        inside = are.0.inside;
        back = are.0.back;
      } in
      (first, all_behind_byte start byte text parts are.1)

  with_byte-AreCut : (start byte : ℕ) (text : List ℕ) (parts : List Part) → is_separator byte ≡ false → AreCut (start + 1) text parts → AreCut start (byte ∷ text) (with_byte start byte parts)
  with_byte-AreCut start byte text [] is are =
      let first : IsFirst start (byte ∷ text) (record { start = start; bytes = byte ∷ [] }) =
      record { behind = []; whole = ap (λ bytes. byte ∷ bytes) are; place = refl; inside = rw is refl; back = tt } in
      (first, tt)
  with_byte-AreCut start byte text (part ∷ parts) is are =
      let first : IsFirst start (byte ∷ text) (record { start = start; bytes = byte ∷ part.bytes }) = record {
        behind = are.0.behind;
        whole = ap (λ bytes. byte ∷ bytes) are.0.whole;
        place = refl;
        inside = rw is are.0.inside;
        back = are.0.back;
      } in
      (first, all_behind_byte start byte text parts are.1)

  cut_by : (start byte : ℕ) (text : List ℕ) (is_one : Bool) → is_separator byte ≡ is_one → AreCut (start + 1) text (cut_at is_separator (start + 1) text) → AreCut start (byte ∷ text) (cut_at is_separator start (byte ∷ text))
  cut_by start byte text true is are =
      let first : IsFirst start (byte ∷ text) (record { start = start; bytes = [] }) =
      record { behind = byte ∷ text; whole = refl; place = refl; inside = refl; back = is } in
      rw is (first, behind_separator start byte text (cut_at is_separator (start + 1) text) is are)
  cut_by start byte text false is are = rw is (with_byte-AreCut start byte text (cut_at is_separator (start + 1) text) is are)

  pub cut_at-AreCut : (start : ℕ) (text : List ℕ) → AreCut start text (cut_at is_separator start text)
  cut_at-AreCut start [] = refl
  cut_at-AreCut start (byte ∷ text) = cut_by start byte text (is_separator byte) refl (cut_at-AreCut (start + 1) text)
