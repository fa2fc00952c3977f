-- Small texts, with the design or the fault that the profile gives them: a false definition fails here.
use Rattle.std.proofs.Common.{◌≡◌, ℕ, true, false, replicate, List, [], ◌∷◌, ◌++◌, Result, Ok, Err, codes, refl}
use Rattle.std.specs.List.{flat_map}
use Rattle.blif_lex.specs.PhysicalLines.{without_carriage_return, without_comment, without_last_blanks, kept, is_joined, content}
use Rattle.blif_lex.specs.LogicalLines.{tokens_at, line_of, all_from, lines_from}
use Rattle.blif_model.specs.declared.design.Bit.TheVariants.{Zero, One, Any}
use Rattle.blif_model.specs.declared.design.Design.{Design}
use Rattle.blif_read.specs.declared.fault.BlifFault.{BlifFault}
use Rattle.blif_read.specs.declared.fault.BlifKind.{BlifKind}
use Rattle.blif_read.specs.declared.fault.BlifKind.TheVariants as kind
use Rattle.blif_read.specs.Words.{is_unsupported_word, word_of}
use Rattle.blif_read.specs.State.{with_line}
use Rattle.blif_read.specs.Faults.{fault_of}
use Rattle.blif_read.specs.Reading.{reads, reads_lines, design_of}

unfoldable read : List ℕ → Result Design BlifFault
unfolding without_carriage_return without_comment without_last_blanks kept is_joined content tokens_at line_of all_from lines_from is_unsupported_word word_of with_line fault_of reads reads_lines design_of
read text = design_of text

-- a fault of a line of a number
abbrev fault : ℕ → BlifKind → Result Design BlifFault
fault line told = Err (record { line = line; kind = told })

-- an empty text is the design named `top` without signals
an_empty_text : read [] ≡ Ok (record { name = codes "top"; names = []; inputs = []; outputs = []; tables = [] })
unfolding read
an_empty_text = refl

-- an AND of two inputs; signals are numbered as they come
an_and : read (codes ".model m\n.inputs a b\n.outputs f\n.names a b f\n11 1\n.end\n")
    ≡ Ok (record {
      name = codes "m";
      names = codes "a" ∷ (codes "b" ∷ (codes "f" ∷ []));
      inputs = 0 ∷ (1 ∷ []);
      outputs = 2 ∷ [];
      tables = record { line = 4; pins = 0 ∷ (1 ∷ []); target = 2; rows = record { bits = One ∷ (One ∷ []) } ∷ []; on = true } ∷ [];
    })
unfolding read
an_and = refl

-- rows with output 0 make a table that isn't on; a table without rows is on
two_tables : read (codes ".names a f\n0 0\n- 0\n.names g\n.outputs g f\n")
    ≡ Ok (record {
      name = codes "top";
      names = codes "a" ∷ (codes "f" ∷ (codes "g" ∷ []));
      inputs = [];
      outputs = 2 ∷ (1 ∷ []);
      tables =
          record { line = 1; pins = 0 ∷ []; target = 1; rows = record { bits = Zero ∷ [] } ∷ (record { bits = Any ∷ [] } ∷ []); on = false }
          ∷ (record { line = 4; pins = []; target = 2; rows = []; on = true } ∷ []);
    })
unfolding read
two_tables = refl

-- a table without pins has rows of the output alone
a_constant : read (codes ".names f\n1\n1\n")
    ≡ Ok (record {
      name = codes "top";
      names = codes "f" ∷ [];
      inputs = [];
      outputs = [];
      tables = record { line = 1; pins = []; target = 0; rows = record { bits = [] } ∷ (record { bits = [] } ∷ []); on = true } ∷ [];
    })
unfolding read
a_constant = refl

-- a `.model` line of one token names the model `top`, and one of three by its second
a_model_without_name : read (codes ".model\n") ≡ Ok (record { name = codes "top"; names = []; inputs = []; outputs = []; tables = [] })
unfolding read
a_model_without_name = refl

-- the first `.model` names the model wherever it stands, and further tokens of it and of `.end` are ignored
a_late_model : read (codes ".inputs x\n.model m n\n.end e\n") ≡ Ok (record { name = codes "m"; names = codes "x" ∷ []; inputs = 0 ∷ []; outputs = []; tables = [] })
unfolding read
a_late_model = refl

-- a pin may repeat, and be the target
a_pin_twice : read (codes ".names a a a\n")
    ≡ Ok (record {
      name = codes "top";
      names = codes "a" ∷ [];
      inputs = [];
      outputs = [];
      tables = record { line = 1; pins = 0 ∷ (0 ∷ []); target = 0; rows = []; on = true } ∷ [];
    })
unfolding read
a_pin_twice = refl

-- a bad byte comes first, also behind the end
a_bad_byte : read (codes ".end\n.model \r x\n") ≡ fault 2 kind.BadByte
unfolding read
a_bad_byte = refl

a_second_model : read (codes ".model a\n.model b\n") ≡ fault 2 kind.SecondModel
unfolding read
a_second_model = refl

a_model_behind_the_end : read (codes ".end\n.model b\n") ≡ fault 2 kind.SecondModel
unfolding read
a_model_behind_the_end = refl

a_line_behind_the_end : read (codes ".end\n\n1 1\n") ≡ fault 3 kind.AfterEnd
unfolding read
a_line_behind_the_end = refl

-- of a line of inputs the first token with a fault decides
an_input_twice : read (codes ".inputs a b a\n") ≡ fault 1 kind.DuplicateInput
unfolding read
an_input_twice = refl

an_input_of_two_lines : read (codes ".inputs a\n.inputs b a\n") ≡ fault 2 kind.DuplicateInput
unfolding read
an_input_of_two_lines = refl

an_output_twice : read (codes ".inputs a\n.outputs a b b\n") ≡ fault 2 kind.DuplicateOutput
unfolding read
an_output_twice = refl

a_table_without_target : read (codes ".names\n") ≡ fault 1 kind.NoTarget
unfolding read
a_table_without_target = refl

a_latch : read (codes ".latch a b 0\n") ≡ fault 1 (kind.Unsupported (codes ".latch"))
unfolding read
a_latch = refl

an_unknown_word : read (codes ".latches\n") ≡ fault 1 kind.UnknownWord
unfolding read
an_unknown_word = refl

a_lone_dot : read (codes ".\n") ≡ fault 1 kind.UnknownWord
unfolding read
a_lone_dot = refl

-- a dot word ends the current table
a_row_outside : read (codes ".names a f\n.inputs a\n1 1\n") ≡ fault 3 kind.RowOutsideTable
unfolding read
a_row_outside = refl

a_short_row : read (codes ".names a b f\n1 1\n") ≡ fault 2 kind.RowShape
unfolding read
a_short_row = refl

a_row_of_one_token : read (codes ".names a f\n11\n") ≡ fault 2 kind.RowShape
unfolding read
a_row_of_one_token = refl

a_row_of_two_tokens : read (codes ".names f\n1 1\n") ≡ fault 2 kind.RowShape
unfolding read
a_row_of_two_tokens = refl

a_wrong_bit : read (codes ".names a f\n2 1\n") ≡ fault 2 kind.RowChar
unfolding read
a_wrong_bit = refl

an_output_that_is_open : read (codes ".names a f\n1 -\n") ≡ fault 2 kind.RowChar
unfolding read
an_output_that_is_open = refl

two_outputs : read (codes ".names a f\n1 0\n0 1\n") ≡ fault 3 kind.MixedOutput
unfolding read
two_outputs = refl

-- a name of 255 bytes, and one more; and as many pins as a table may have, and one more
a_long_name : read (codes ".inputs " ++ replicate 255 97) ≡ Ok (record { name = codes "top"; names = replicate 255 97 ∷ []; inputs = 0 ∷ []; outputs = []; tables = [] })
unfolding read
a_long_name = refl

too_long_a_name : read (codes ".names f " ++ replicate 256 97) ≡ fault 1 kind.NameTooLong
unfolding read
too_long_a_name = refl

too_many_pins : read (codes ".names" ++ flat_map (λ byte. 32 ∷ (byte ∷ [])) (replicate 258 97)) ≡ fault 1 kind.TooManyPins
unfolding read
too_many_pins = refl
