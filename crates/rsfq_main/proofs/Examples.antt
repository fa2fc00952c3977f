-- Small texts, words and netlists by hand, with what the definitions say of them by evaluation: a false definition fails here.
use Rattle.std.proofs.Common.{◌≡◌, ℕ, List, [], ◌∷◌, Result, Ok, Err, Some, None, codes, refl}
use Rattle.std.specs.Fmt.{digits}
use Rattle.blif_lex.specs.PhysicalLines.{without_carriage_return, without_comment, without_last_blanks, kept, is_joined, content}
use Rattle.blif_lex.specs.LogicalLines.{tokens_at, line_of, all_from, lines_from}
use Rattle.blif_read.specs.declared.fault.BlifKind.TheVariants.{RowChar}
use Rattle.blif_read.specs.Words.{is_unsupported_word, word_of}
use Rattle.blif_read.specs.State.{with_line}
use Rattle.blif_read.specs.Faults.{fault_of as line_fault_of}
use Rattle.blif_read.specs.Reading.{reads, reads_lines, design_of}
use Rattle.cell_lib.specs.declared.cell.Cell.TheVariants.{Dro, Not, And}
use Rattle.pulse_net.specs.declared.net.Element.TheVariants.{Clocked}
use Rattle.pulse_net.specs.declared.net.Outlet.TheVariants.{Wire}
use Rattle.pulse_net.specs.declared.net.PulseNet.{PulseNet}
use Rattle.netlist_text.specs.Spelling.{line, model_line, header_lines, input_lines, output_lines}
use Rattle.synth.specs.declared.fault.SynthFault.TheVariants.{Blif, TooManyDros}
use Rattle.synth.specs.declared.made.Made.{Made}
use Rattle.netlist_text.specs.Lines.{no_flow}
use Rattle.synth.specs.Synth.{synth_of}
use Rattle.rsfq_main.specs.declared.words.Command.TheVariants.{Map, Check, Sim, Bench}
use Rattle.rsfq_main.specs.Words.{number_in, number_for, command_of}
use Rattle.rsfq_main.specs.Summary.{part_lines, size_lines, summary_of}
use Rattle.rsfq_main.specs.Notes.{note_of}
use Rattle.rsfq_main.specs.Faults.{Refusal, fault_of, fault_line}
use Rattle.rsfq_main.specs.Commands.{output_of}

-- the note that there is of an output: none, or the refusal's
abbrev note : Result (List ℕ) Refusal → List ℕ
note (Ok bytes) = []
note (Err refusal) = fault_line (fault_of refusal)

-- the note of `map` over a text that is refused
unfoldable map_note : List ℕ → List ℕ
unfolding digits without_carriage_return without_comment without_last_blanks kept is_joined content tokens_at line_of all_from lines_from is_unsupported_word word_of with_line line_fault_of reads reads_lines design_of synth_of
map_note text = note (output_of (Map 1) text)

-- a word of BLIF that isn't taken, with its dot
a_latch : map_note (codes ".model m\n.inputs a\n.outputs f\n.names a f\n.latch a b re clk 0\n") ≡ codes "line 5: unsupported .latch\n"
unfolding map_note
a_latch = refl

mixed_output : map_note (codes ".model m\n.inputs a\n.outputs f g\n.names a f\n1 1\n0 0\n.names a f\n0 1\n.end\n") ≡ codes "line 6: mixed output\n"
unfolding map_note
mixed_output = refl

-- a fault of a line goes before all of the whole text
duplicate_driver : map_note (codes ".model m\n.inputs a\n.outputs f g\n.names a f\n1 1\n.names a f\n0 1\n.end\n") ≡ codes "duplicate driver f\n"
unfolding map_note
duplicate_driver = refl

undriven : map_note (codes ".model m\n.inputs a\n.outputs f g\n.names a f\n1 1\n") ≡ codes "undriven g\n"
unfolding map_note
undriven = refl

cycle : map_note (codes ".outputs x\n.names y x\n1 1\n.names x y\n1 1\n") ≡ codes "cycle at line 2\n"
unfolding map_note
cycle = refl

row_shape : map_note (codes ".inputs a b\n.outputs f\n.names a b f\n1") ≡ codes "line 4: row shape\n"
unfolding map_note
row_shape = refl

-- the notes of what is counted, and of a line of several digits
too_many : note_of (TooManyDros 1048577) ≡ Some (codes "too many dros 1048577\n")
unfolding digits
too_many = refl

a_far_line : note_of (Blif (record { line = 120; kind = RowChar })) ≡ Some (codes "line 120: row character\n")
unfolding digits
a_far_line = refl

map_alone : command_of (codes "map" ∷ []) ≡ Some (Map 1)
unfolding digits number_in number_for command_of
map_alone = refl

one_phase : command_of (codes "map" ∷ codes "phases=1" ∷ []) ≡ Some (Map 1)
unfolding digits number_in number_for command_of
one_phase = refl

sixteen_phases : command_of (codes "map" ∷ codes "phases=16" ∷ []) ≡ Some (Map 16)
unfolding digits number_in number_for command_of
sixteen_phases = refl

no_phase : command_of (codes "map" ∷ codes "phases=0" ∷ []) ≡ None
unfolding digits number_in number_for command_of
no_phase = refl

too_many_phases : command_of (codes "map" ∷ codes "phases=17" ∷ []) ≡ None
unfolding digits number_in number_for command_of
too_many_phases = refl

leading_zero : command_of (codes "map" ∷ codes "phases=01" ∷ []) ≡ None
unfolding digits number_in number_for command_of
leading_zero = refl

no_number : command_of (codes "map" ∷ codes "phases=" ∷ []) ≡ None
unfolding digits number_in number_for command_of
no_number = refl

two_keys : command_of (codes "map" ∷ codes "phases=1" ∷ codes "phases=1" ∷ []) ≡ None
unfolding digits number_in number_for command_of
two_keys = refl

capital : command_of (codes "Map" ∷ []) ≡ None
unfolding digits number_in number_for command_of
capital = refl

no_words : command_of [] ≡ None
unfolding digits number_in number_for command_of
no_words = refl

check_alone : command_of (codes "check" ∷ []) ≡ Some Check
unfolding digits number_in number_for command_of
check_alone = refl

check_with_phases : command_of (codes "check" ∷ codes "phases=1" ∷ []) ≡ None
unfolding digits number_in number_for command_of
check_with_phases = refl

sim_alone : command_of (codes "sim" ∷ []) ≡ Some Sim
unfolding digits number_in number_for command_of
sim_alone = refl

sim_with_phases : command_of (codes "sim" ∷ codes "phases=1" ∷ []) ≡ None
unfolding digits number_in number_for command_of
sim_with_phases = refl

bench_of_one_phase : command_of (codes "bench" ∷ codes "tables=2" ∷ codes "seed=0" ∷ []) ≡ Some (Bench 0 2 1)
unfolding digits number_in number_for command_of
bench_of_one_phase = refl

bench_of_four_phases : command_of (codes "bench" ∷ codes "phases=4" ∷ codes "seed=7" ∷ codes "tables=500" ∷ []) ≡ Some (Bench 7 500 4)
unfolding digits number_in number_for command_of
bench_of_four_phases = refl

bench_without_tables : command_of (codes "bench" ∷ codes "seed=1" ∷ codes "phases=1" ∷ []) ≡ None
unfolding digits number_in number_for command_of
bench_without_tables = refl

bench_of_an_adder : command_of (codes "bench" ∷ codes "adder=1" ∷ []) ≡ None
unfolding digits number_in number_for command_of
bench_of_an_adder = refl

seed_given_twice : command_of (codes "bench" ∷ codes "seed=1" ∷ codes "tables=1" ∷ codes "seed=1" ∷ []) ≡ None
unfolding digits number_in number_for command_of
seed_given_twice = refl

-- the netlist of the two tables at one phase
abbrev one_phase_net : PulseNet
one_phase_net =
    record {
      names = record { model = codes "t"; inputs = codes "a" ∷ codes "b" ∷ []; outputs = codes "f" ∷ [] };
      phases = 1;
      latency = 3;
      inputs = Some 0 ∷ Some 1 ∷ [];
      elements = Clocked Dro 1 (0 ∷ []) 2 ∷ Clocked Not 1 (1 ∷ []) 3 ∷ Clocked And 2 (2 ∷ 3 ∷ []) 4 ∷ [];
      outputs = Wire 4 ∷ [];
    }

-- the summary of this netlist, with a flow of no pins: its text has 101 bytes, and a DRO 6 junctions, a NOT 9 and an AND 11
abbrev one_phase_made : Made
one_phase_made = record { net = one_phase_net; flow = no_flow; tables = 2; nodes = 4; gates = 2; dros = 1; splits = 0; junctions = 26 }

summary_of_one_phase_net : summary_of one_phase_made ≡ codes "tables 2\nnodes 4\ngates 2\ndros 1\nsplits 0\nlatency 3\njunctions 26\nbytes 101\n"
unfolding digits line model_line header_lines input_lines output_lines part_lines size_lines
summary_of_one_phase_net = refl
