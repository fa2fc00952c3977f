-- A generated design is in order: the pins of each table are signals of lower numbers than its target.
--
-- The signals are numbered: the inputs, then the targets in order. Before a table the names of those below its target are
-- driven, and none of the others is, since names of other numbers differ.
use Rattle.std.proofs.Common.{◌≡◌, ◌<◌, ◌≤◌, ◌+◌, ◌-◌, ◌/◌, ◌%◌, ◌^◌, ◌==◌, ◌||◌, ◌⊎◌, inl, inr, ℕ, zero, suc, min, nat_lt, Bool, true, false, List, [], ◌∷◌, ◌++◌, length, map, All, codes, refl, sym, ap, subst, ◌∙◌, arith, if◌then◌else◌}
use Rattle.std.specs.Str.{bytes_eq}
use Rattle.std.proofs.lemmas.Bool.{or_from, or_left, or_right, cases_lt}
use Rattle.std.proofs.lemmas.Bool.Decides.{nat_tests}
use Rattle.std.proofs.lemmas.List.Elements.{All-nil, All-cons}
use Rattle.std.proofs.lemmas.List.Folds.{list_any-append}
use Rattle.std.proofs.lemmas.List.Sums.{AllPass-from_list_all}
use Rattle.net_base.specs.Keys.{is_among}
use Rattle.blif_model.specs.declared.design.Bit.{Bit}
use Rattle.blif_model.specs.declared.design.Bit.TheVariants.{Zero, One}
use Rattle.blif_model.specs.declared.design.Cube.{Cube}
use Rattle.blif_read.specs.Spelling.{is_plain_byte, IsPlainName}
use Rattle.rand_xoshiro.specs.SplitMix64.{mix_u64}
use Rattle.gen_blif.specs.declared.random.TheConstants.{MAX_TABLES}
use Rattle.gen_blif.specs.Lines.{name_of}
use Rattle.gen_laws.specs.Named.{NamedTable, FollowDrivers, IsNamedTable, IsInOrder, IsAccepted, DesignsInOrderAreAccepted}
use Rattle.gen_laws.specs.Random.{signal_name, pin_name, row_of, names_from, drawn_rows, drawn_table, drawn_tables, gen_design, GeneratedTextsAreAccepted}
use Rattle.gen_laws.proofs.RandomNames.{name-IsPlainName, other_number, same_name, length-names_from, names_from-All, names_from-distinct, among-names_from, other-names_from}
use Rattle.gen_laws.proofs.RandomTexts.{gen_text-named}

-- the name of a signal from the inputs on is that of a target
signal-target : (number : ℕ) → 16 ≤ number → signal_name number ≡ name_of 116 (number - 16)
signal-target number behind =
    let target : nat_lt number 16 ≡ false = grind (arith, nat_tests) in
    rw target refl

signal-input : (number : ℕ) → number < 16 → signal_name number ≡ name_of 105 number
signal-input number below =
    let input : nat_lt number 16 ≡ true = grind (arith, nat_tests) in
    rw input refl

-- names of which those of the signals below a number are, and no others
record AreThose (names : List (List ℕ)) (count : ℕ) : Type 0 where
  below : (number : ℕ) → number < count → is_among bytes_eq (signal_name number) names ≡ true
  behind : (number : ℕ) → count ≤ number → number < 2 ^ 32 → is_among bytes_eq (signal_name number) names ≡ false

inputs-AreThose : AreThose (names_from 105 0 16) 16
inputs-AreThose = record {
  below = λ number below.
      ap (λ name. is_among bytes_eq name (names_from 105 0 16)) (signal-input number below)
      ∙ among-names_from 105 0 16 number (omega arith) (omega arith);
  behind = λ number behind small.
      ap (λ name. is_among bytes_eq name (names_from 105 0 16)) (signal-target number behind)
      ∙ other-names_from (name_of 116 (number - 16)) 105 0 16 (λ other. refl);
}

-- the next signal's name comes behind
next-AreThose : (names : List (List ℕ)) (count next : ℕ) → 16 ≤ count → count < 2 ^ 32 → next ≡ count + 1 → AreThose names count → AreThose (names ++ signal_name count ∷ []) next
next-AreThose names count next some small is_next those = record { below = at_below; behind = at_behind }
  where
    -- a name is among them if it was before, or if it is the last
    pushed : (name : List ℕ) → is_among bytes_eq name (names ++ signal_name count ∷ []) ≡ (is_among bytes_eq name names || (bytes_eq name (signal_name count) || false))
    pushed name = list_any-append (bytes_eq name) names (signal_name count ∷ [])

    at_below : (number : ℕ) → number < next → is_among bytes_eq (signal_name number) (names ++ signal_name count ∷ []) ≡ true
    at_below number below = pushed (signal_name number) ∙ by (cases_lt number count)
      where
        by : (number < count) ⊎ (count ≤ number) → (is_among bytes_eq (signal_name number) names || (bytes_eq (signal_name number) (signal_name count) || false)) ≡ true
        by (inl less) = or_left _ _ (those.below number less)
        by (inr le) =
            let same : number ≡ count = omega arith in
            let equal : bytes_eq (signal_name number) (signal_name count) ≡ true = ap (λ n. bytes_eq (signal_name n) (signal_name count)) same ∙ same_name (signal_name count) in
            or_right _ _ (or_left _ false equal)

    at_behind : (number : ℕ) → next ≤ number → number < 2 ^ 32 → is_among bytes_eq (signal_name number) (names ++ signal_name count ∷ []) ≡ false
    at_behind number behind fits =
        let other : bytes_eq (signal_name number) (signal_name count) ≡ false =
        ap (λ name. bytes_eq name (signal_name count)) (signal-target number (omega arith))
        ∙ ap (bytes_eq (name_of 116 (number - 16))) (signal-target count some)
        ∙ other_number 116 (number - 16) (count - 16) (omega arith) (omega arith) (λ e. omega arith) in
        pushed (signal_name number) ∙ or_from _ _ (those.behind number (omega arith) fits) (or_from _ false other refl)

-- a pin is a signal below the table's target
pin-driven : (names : List (List ℕ)) (table choice : ℕ) → AreThose names (16 + table) → is_among bytes_eq (pin_name table choice) names ≡ true
pin-driven names table choice those = those.below (16 + table - 1 - choice % min (16 + table) 64) (omega arith)

drawn_tables-FollowDrivers : (count table state : ℕ) (driven : List (List ℕ)) → table + count ≤ MAX_TABLES → AreThose driven (16 + table) → FollowDrivers driven (drawn_tables count table state)
unfolding drawn_tables
drawn_tables-FollowDrivers zero table state driven few those = tt
drawn_tables-FollowDrivers (suc count) table state driven few those =
    let word = (mix_u64 state).0 in
    let drawn = drawn_table table word in
    let Driven = λ (name : List ℕ). is_among bytes_eq name driven ≡ true in
    let first : Driven (pin_name table (word % 2 ^ 32 / 4)) = pin-driven driven table (word % 2 ^ 32 / 4) those in
    let second : Driven (pin_name table (word / 2 ^ 32)) = pin-driven driven table (word / 2 ^ 32) those in (
      All-cons Driven (pin_name table (word % 2 ^ 32 / 4)) (pin_name table (word / 2 ^ 32) ∷ []) first
          (All-cons Driven (pin_name table (word / 2 ^ 32)) [] second (All-nil Driven)),
      those.behind (16 + table) (omega arith) (omega arith),
      drawn_tables-FollowDrivers count (table + 1) (mix_u64 state).1 (driven ++ drawn.target ∷ []) (omega arith)
          (next-AreThose driven (16 + table) (16 + (table + 1)) (omega arith) (omega arith) (omega arith) those),
    )

-- what the rows of each choice have, drawn rows have
drawn_rows-each : (P : List Cube → Type 0) (choice : ℕ) → P (row_of One One ∷ []) → P (row_of Zero Zero ∷ []) → P (row_of Zero One ∷ row_of One Zero ∷ []) → P (row_of One Zero ∷ []) → P (drawn_rows choice)
drawn_rows-each P choice conjunction nor exclusive without = by (choice == 0) (choice == 1) (choice == 2)
  where
    by : (both neither one : Bool) → P (if both then row_of One One ∷ [] else if neither then row_of Zero Zero ∷ [] else if one then row_of Zero One ∷ row_of One Zero ∷ [] else row_of One Zero ∷ [])
    by true neither one = conjunction
    by false true one = nor
    by false false true = exclusive
    by false false false = without

-- they ask something of both pins,
abbrev AsksBoth : Cube → Type 0
AsksBoth row = length row.bits ≡ 2

one_row : (first second : Bit) → All AsksBoth (row_of first second ∷ [])
one_row first second = All-cons AsksBoth (row_of first second) [] refl (All-nil AsksBoth)

drawn_rows-fit : (choice : ℕ) → All AsksBoth (drawn_rows choice)
drawn_rows-fit choice =
    drawn_rows-each (All AsksBoth) choice (one_row One One) (one_row Zero Zero)
    (All-cons AsksBoth (row_of Zero One) (row_of One Zero ∷ []) refl (one_row One Zero)) (one_row One Zero)

-- and there is one at least
drawn_rows-some : (choice : ℕ) → 0 < length (drawn_rows choice)
drawn_rows-some choice = drawn_rows-each (λ drawn. 0 < length drawn) choice (omega arith) (omega arith) (omega arith) (omega arith)

drawn_table-IsNamedTable : (table word : ℕ) → table < MAX_TABLES → IsNamedTable (drawn_table table word)
drawn_table-IsNamedTable table word below =
    let target : signal_name (16 + table) ≡ name_of 116 (16 + table - 16) = signal-target (16 + table) (omega arith) in
    record {
      target = subst IsPlainName (sym target) (name-IsPlainName 116 (16 + table - 16) refl (omega arith));
      few = omega arith;
      rows = drawn_rows-fit (word % 4);
      on = λ none. absurd (omega (arith, drawn_rows-some (word % 4)));
    }

drawn_tables-AreNamed : (count table state : ℕ) → table + count ≤ MAX_TABLES → All IsNamedTable (drawn_tables count table state)
unfolding drawn_tables
drawn_tables-AreNamed zero table state few = All-nil IsNamedTable
drawn_tables-AreNamed (suc count) table state few =
    All-cons IsNamedTable (drawn_table table (mix_u64 state).0) (drawn_tables count (table + 1) (mix_u64 state).1)
    (drawn_table-IsNamedTable table (mix_u64 state).0 (omega arith)) (drawn_tables-AreNamed count (table + 1) (mix_u64 state).1 (omega arith))

length-drawn_tables : (count table state : ℕ) → length (drawn_tables count table state) ≡ count
unfolding drawn_tables
length-drawn_tables zero table state = refl
length-drawn_tables (suc count) table state = omega (arith, length-drawn_tables count (table + 1) (mix_u64 state).1)

-- the targets are `t0` and so on
targets-names : (count table state : ℕ) → map (λ (drawn : NamedTable). drawn.target) (drawn_tables count table state) ≡ names_from 116 table count
unfolding drawn_tables names_from
targets-names zero table state = refl
targets-names (suc count) table state =
    let same : 16 + table - 16 ≡ table = omega arith in
    let target : signal_name (16 + table) ≡ name_of 116 table = signal-target (16 + table) (omega arith) ∙ ap (name_of 116) same in
    ap (λ name. name ∷ map (λ (drawn : NamedTable). drawn.target) (drawn_tables count (table + 1) (mix_u64 state).1)) target
    ∙ ap (λ names. name_of 116 table ∷ names) (targets-names count (table + 1) (mix_u64 state).1)

-- an output is a target
output-driven : (seed tables number : ℕ) → number < tables → is_among bytes_eq (name_of 116 number) (names_from 105 0 16 ++ map (λ (drawn : NamedTable). drawn.target) (drawn_tables tables 0 seed)) ≡ true
output-driven seed tables number below =
    let targets = map (λ (drawn : NamedTable). drawn.target) (drawn_tables tables 0 seed) in
    let name = name_of 116 number in
    let among : is_among bytes_eq name targets ≡ true = ap (λ names. is_among bytes_eq name names) (targets-names tables 0 seed) ∙ among-names_from 116 0 tables number (omega arith) (omega arith) in
    list_any-append (bytes_eq name) (names_from 105 0 16) targets ∙ or_right (is_among bytes_eq name (names_from 105 0 16)) (is_among bytes_eq name targets) among

gen_design-IsInOrder : (seed tables : ℕ) → tables ≤ MAX_TABLES → IsInOrder (gen_design seed tables)
unfolding gen_design
gen_design-IsInOrder seed tables few =
    let first = tables - min tables 16 in
    let count = min tables 16 in
    record {
      name = record { some = omega arith; short = omega arith; plain = AllPass-from_list_all is_plain_byte (codes "gen") refl };
      inputs = names_from-All IsPlainName 105 0 16 (λ number from below. name-IsPlainName 105 number refl (omega arith));
      distinct_inputs = names_from-distinct 105 0 16 (omega arith);
      few_inputs = omega (arith, length-names_from 105 0 16);
      distinct_outputs = names_from-distinct 116 first count (omega arith);
      few_outputs = omega (arith, length-names_from 116 first count);
      driven_outputs =
          names_from-All (λ output. is_among bytes_eq output (names_from 105 0 16 ++ map (λ (drawn : NamedTable). drawn.target) (drawn_tables tables 0 seed)) ≡ true) 116 first count
          (λ number from below. output-driven seed tables number (omega arith));
      tables = drawn_tables-AreNamed tables 0 seed (omega arith);
      few_tables = omega (arith, length-drawn_tables tables 0 seed);
      order = drawn_tables-FollowDrivers tables 0 seed (names_from 105 0 16) (omega arith) inputs-AreThose;
    }

-- Where designs in order are accepted, generated ones are.
pub generated_texts_are_accepted : DesignsInOrderAreAccepted → GeneratedTextsAreAccepted
generated_texts_are_accepted accepted seed tables some few = subst IsAccepted (sym (gen_text-named seed tables)) (accepted (gen_design seed tables) (gen_design-IsInOrder seed tables few))
