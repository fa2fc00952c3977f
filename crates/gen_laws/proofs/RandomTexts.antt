-- A generated text is the text of the generated design.
use Rattle.std.proofs.Common.{◌≡◌, ◌+◌, ◌-◌, ◌%◌, ◌==◌, ℕ, zero, suc, min, Bool, true, false, List, [], ◌∷◌, ◌++◌, flat_map, codes, refl, sym, ap, ◌∙◌, append_assoc, if◌then◌else◌}
use Rattle.std.proofs.lemmas.Grind.{flat_map-append}
use Rattle.rand_xoshiro.specs.SplitMix64.{mix_u64}
use Rattle.blif_model.specs.declared.design.Bit.TheVariants.{Zero, One}
use Rattle.blif_read.specs.Spelling.{line_text, lines_text, row_lines}
use Rattle.gen_blif.specs.Lines.{fields, names_line}
use Rattle.gen_blif.specs.Random.{rows, table_text, table_texts, input_line, output_line, gen_text}
use Rattle.gen_laws.specs.Named.{named_table_lines, named_text}
use Rattle.gen_laws.specs.Random.{row_of, names_from, drawn_rows, drawn_on, drawn_table, drawn_tables, gen_design}
use Rattle.gen_laws.proofs.RandomNames.{fields-words}

rows-text : (choice : ℕ) → lines_text (row_lines (drawn_on choice) (drawn_rows choice)) ≡ rows choice
rows-text choice = by (choice == 0) (choice == 1) (choice == 2)
  where
    by : (both neither one : Bool) →
        lines_text (row_lines (if both then true else if neither then false else true)
        (if both then row_of One One ∷ []
        else if neither then row_of Zero Zero ∷ []
        else if one then row_of Zero One ∷ row_of One Zero ∷ []
        else row_of One Zero ∷ []))
        ≡ (if both then codes "11 1\n" else if neither then codes "00 0\n" else if one then codes "01 1\n10 1\n" else codes "10 1\n")
    by true neither one = refl
    by false true one = refl
    by false false true = refl
    by false false false = refl

table-text : (table word : ℕ) → lines_text (named_table_lines (drawn_table table word)) ≡ table_text table word
unfolding table_text names_line
table-text table word = ap (λ after. line_text (codes ".names" ∷ ((drawn_table table word).pins ++ (drawn_table table word).target ∷ [])) ++ after) (rows-text (word % 4))

tables-text : (count table state : ℕ) → lines_text (flat_map named_table_lines (drawn_tables count table state)) ≡ table_texts count table state
unfolding drawn_tables table_texts
tables-text zero table state = refl
tables-text (suc count) table state =
    let word = (mix_u64 state).0 in
    let next = (mix_u64 state).1 in
    let others = drawn_tables count (table + 1) next in
    flat_map-append line_text (named_table_lines (drawn_table table word)) (flat_map named_table_lines others)
    ∙ ap (λ text. text ++ lines_text (flat_map named_table_lines others)) (table-text table word)
    ∙ ap (λ text. table_text table word ++ text) (tables-text count (table + 1) next)

-- a line of a keyword and names
line-names : (keyword : List ℕ) (letter first count : ℕ) → line_text (keyword ∷ names_from letter first count) ≡ keyword ++ fields letter first count ++ codes "\n"
line-names keyword letter first count = ap (λ words. keyword ++ words ++ codes "\n") (sym (fields-words letter first count))

regroup : (a b c d e : List ℕ) → (((a ++ b) ++ c) ++ d) ++ e ≡ a ++ (b ++ (c ++ (d ++ e)))
regroup a b c d e = simp append_assoc

pub gen_text-named : (seed tables : ℕ) → gen_text seed tables ≡ named_text (gen_design seed tables)
unfolding gen_text gen_design input_line output_line
gen_text-named seed tables =
    let first = tables - min tables 16 in
    let count = min tables 16 in
    let texts = table_texts tables 0 seed in
    let drawn = flat_map named_table_lines (drawn_tables tables 0 seed) in
    let behind : texts ++ codes ".end\n" ≡ lines_text (drawn ++ (codes ".end" ∷ []) ∷ []) =
    ap (λ text. text ++ codes ".end\n") (sym (tables-text tables 0 seed)) ∙ sym (flat_map-append line_text drawn ((codes ".end" ∷ []) ∷ [])) in
    let inputs = sym (line-names (codes ".inputs") 105 0 16) in
    let outputs = sym (line-names (codes ".outputs") 116 first count) in
    regroup (codes ".model gen\n") (input_line 16) (output_line tables) texts (codes ".end\n")
    ∙ ap (λ line. codes ".model gen\n" ++ (line ++ (output_line tables ++ (texts ++ codes ".end\n")))) inputs
    ∙ ap (λ line. codes ".model gen\n" ++ (line_text (codes ".inputs" ∷ names_from 105 0 16) ++ (line ++ (texts ++ codes ".end\n")))) outputs
    ∙ ap (λ text. codes ".model gen\n" ++ (line_text (codes ".inputs" ∷ names_from 105 0 16) ++ (line_text (codes ".outputs" ∷ names_from 116 first count) ++ text))) behind
