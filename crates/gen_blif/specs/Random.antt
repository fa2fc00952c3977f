-- Designs whose tables are drawn at random: which signals a table reads, and its rows, are chosen by a word of 64 bits.
use Rattle.std.specs.Prelude.{ℕ, ◌+◌, ◌-◌, ◌/◌, ◌%◌, ◌^◌, ◌==◌, nat_lt, zero, suc, min, List, [], ◌∷◌, ◌++◌, codes, if◌then◌else◌}
use Rattle.rand_xoshiro.specs.SplitMix64.{mix_u64}
use Rattle.gen_blif.specs.declared.lines.Signal.{Signal}
use Rattle.gen_blif.specs.Lines.{fields, names_line}

-- the signal of a number: the inputs `i0` to `i15` come first, then the targets of the tables, `t0` and so on
abbrev pub signal : ℕ → Signal
signal number =
    if nat_lt number 16
    then record { letter = 105; number = number }
    else record { letter = 116; number = number - 16 }

-- The pin of a table that a number chooses: of the signals before the table's target, the last 64 or all where there are
-- fewer, counted back from the last.
abbrev pub pin : ℕ → ℕ → Signal
pin table choice = signal (16 + table - 1 - choice % min (16 + table) 64)

-- the rows that a number chooses: a conjunction, a NOR, an exclusive or, the first pin without the second
abbrev pub rows : ℕ → List ℕ
rows choice =
    if choice == 0 then codes "11 1\n"
    else if choice == 1 then codes "00 0\n"
    else if choice == 2 then codes "01 1\n10 1\n"
    else codes "10 1\n"

-- a table, as a word chooses: its two lowest bits the rows, the rest of its low half the first pin, its high half the second
unfoldable pub table_text : ℕ → ℕ → List ℕ
table_text table word =
    names_line (pin table (word % 2 ^ 32 / 4) ∷ pin table (word / 2 ^ 32) ∷ signal (16 + table) ∷ [])
    ++ rows (word % 4)

-- so many tables from a place on, each by the next word behind a state of the generator
unfoldable pub table_texts : ℕ → ℕ → ℕ → List ℕ
table_texts zero table state = []
table_texts (suc count) table state =
    table_text table (mix_u64 state).0 ++ table_texts count (table + 1) (mix_u64 state).1

-- the inputs, so many of them
unfoldable pub input_line : ℕ → List ℕ
input_line inputs = codes ".inputs" ++ fields 105 0 inputs ++ codes "\n"

-- its outputs: the targets of the last tables, 16 at most
unfoldable pub output_line : ℕ → List ℕ
output_line tables = codes ".outputs" ++ fields 116 (tables - min tables 16) (min tables 16) ++ codes "\n"

-- the text of a design of so many tables, from a seed
unfoldable pub gen_text : ℕ → ℕ → List ℕ
gen_text seed tables = codes ".model gen\n" ++ input_line 16 ++ output_line tables ++ table_texts tables 0 seed ++ codes ".end\n"
