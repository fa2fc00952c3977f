-- The text of an adder is that of its design.
use Rattle.std.proofs.Common.{◌≡◌, ◌+◌, ◌-◌, ◌++◌, ℕ, zero, suc, List, [], ◌∷◌, codes, refl, sym, ap, ◌∙◌, append_assoc, flat_map}
use Rattle.std.specs.List.{range_with_len}
use Rattle.std.proofs.lemmas.List.Concat.{flat_map-append}
use Rattle.blif_read.specs.Spelling.{words_of, line_text, lines_text}
use Rattle.gen_blif.specs.Lines.{name_of, field, fields, names_line}
use Rattle.gen_blif.specs.RippleCarry.{bit_of, carry, first_bit, next_bit, next_bits, bit_texts, header, adder_text}
use Rattle.gen_laws.specs.Named.{NamedTable, named_table_lines, named_text}
use Rattle.gen_laws.specs.RippleCarry.{bit_names, first_tables, next_tables, adder_design}

-- names of one letter, each behind a space
fields-words : (letter first count : ℕ) → fields letter first count ≡ words_of (bit_names letter first count)
unfolding fields
fields-words letter first zero = refl
fields-words letter first (suc count) = ap (λ words. field (name_of letter first) ++ words) (fields-words letter (first + 1) count)

regroup : (a b c d rest : List ℕ) → (((a ++ b) ++ c) ++ d) ++ rest ≡ a ++ (b ++ (c ++ (d ++ rest)))
regroup a b c d rest = simp append_assoc

-- the text of tables
abbrev tables_text : List NamedTable → List ℕ
tables_text tables = lines_text (flat_map named_table_lines tables)

first_bit-text : (bits : ℕ) (tables : List NamedTable) → first_bit bits ++ tables_text tables ≡ tables_text (first_tables bits ++ tables)
unfolding first_bit names_line
first_bit-text bits tables =
    regroup (names_line (bit_of 97 0 ∷ bit_of 98 0 ∷ bit_of 115 0 ∷ [])) (codes "10 1\n01 1\n") (names_line (bit_of 97 0 ∷ bit_of 98 0 ∷ carry bits 0 ∷ [])) (codes "11 1\n") (tables_text tables)

next_bit-text : (bits bit : ℕ) (tables : List NamedTable) → next_bit bits bit ++ tables_text tables ≡ tables_text (next_tables bits bit ++ tables)
unfolding next_bit names_line
next_bit-text bits bit tables =
    regroup
    (names_line (bit_of 97 bit ∷ bit_of 98 bit ∷ bit_of 99 bit ∷ bit_of 115 bit ∷ []))
    (codes "100 1\n010 1\n001 1\n111 1\n")
    (names_line (bit_of 97 bit ∷ bit_of 98 bit ∷ bit_of 99 bit ∷ carry bits bit ∷ []))
    (codes "11- 1\n1-1 1\n-11 1\n")
    (tables_text tables)

next_bits-text : (bits count bit : ℕ) → next_bits bits count bit ≡ tables_text (flat_map (next_tables bits) (range_with_len bit count))
unfolding next_bits
next_bits-text bits zero bit = refl
next_bits-text bits (suc count) bit =
    ap (λ text. next_bit bits bit ++ text) (next_bits-text bits count (bit + 1))
    ∙ next_bit-text bits bit (flat_map (next_tables bits) (range_with_len (bit + 1) count))

-- the texts of all bits, and the end
abbrev end_line : List (List (List ℕ))
end_line = (codes ".end" ∷ []) ∷ []

bits-text : (bits : ℕ) → bit_texts bits ++ codes ".end\n" ≡ lines_text (flat_map named_table_lines (adder_design bits).tables ++ end_line)
bits-text bits =
    let others = flat_map (next_tables bits) (range_with_len 1 (bits - 1)) in
    ap (λ text. first_bit bits ++ text ++ codes ".end\n") (next_bits-text bits (bits - 1) 1)
    ∙ ap (λ text. text ++ codes ".end\n") (first_bit-text bits others)
    ∙ sym (flat_map-append line_text (flat_map named_table_lines (first_tables bits ++ others)) end_line)

regroup_all : (model a b outputs sum feed tables end : List ℕ) → model ++ a ++ b ++ outputs ++ sum ++ feed ++ tables ++ end ≡ model ++ ((a ++ b) ++ (outputs ++ (sum ++ (feed ++ (tables ++ end)))))
regroup_all model a b outputs sum feed tables end = simp append_assoc

inputs-text : (bits : ℕ) → fields 97 0 bits ++ fields 98 0 bits ≡ words_of (adder_design bits).inputs
inputs-text bits =
    let joined : words_of (adder_design bits).inputs ≡ words_of (bit_names 97 0 bits) ++ words_of (bit_names 98 0 bits) = flat_map-append (λ token. codes " " ++ token) (bit_names 97 0 bits) (bit_names 98 0 bits) in
    ap (λ words. words ++ fields 98 0 bits) (fields-words 97 0 bits) ∙ ap (λ words. words_of (bit_names 97 0 bits) ++ words) (fields-words 98 0 bits) ∙ sym joined

pub adder-text : (bits : ℕ) → adder_text bits ≡ named_text (adder_design bits)
unfolding adder_text header
adder-text bits =
    let design = adder_design bits in
    let tables = lines_text (flat_map named_table_lines design.tables ++ end_line) in
    let behind = λ (text : List ℕ). codes "\n.outputs" ++ (fields 115 0 (bits + 1) ++ (codes "\n" ++ text)) in
    regroup_all (codes ".model adder\n.inputs") (fields 97 0 bits) (fields 98 0 bits) (codes "\n.outputs") (fields 115 0 (bits + 1)) (codes "\n") (bit_texts bits) (codes ".end\n")
    ∙ ap (λ words. codes ".model adder\n.inputs" ++ (words ++ behind (bit_texts bits ++ codes ".end\n"))) (inputs-text bits)
    ∙ ap (λ text. codes ".model adder\n.inputs" ++ (words_of design.inputs ++ behind text)) (bits-text bits)
    ∙ ap (λ words. codes ".model adder\n.inputs" ++ (words_of design.inputs ++ (codes "\n.outputs" ++ (words ++ (codes "\n" ++ tables))))) (fields-words 115 0 (bits + 1))
    ∙ ap (λ text. codes ".model adder\n.inputs" ++ (words_of design.inputs ++ (codes "\n.outputs" ++ text))) (sym (append_assoc (words_of design.outputs) (codes "\n") tables))
    ∙ ap (λ text. codes ".model adder\n.inputs" ++ text) (sym (append_assoc (words_of design.inputs) (codes "\n") (codes ".outputs" ++ (words_of design.outputs ++ codes "\n" ++ tables))))
