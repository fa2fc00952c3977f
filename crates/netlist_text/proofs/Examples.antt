-- Small netlists by hand, with what the definitions say of them by evaluation: a false definition fails here.
use Rattle.std.proofs.Common.{◌≡◌, [], ◌∷◌, Some, None, codes, refl}
use Rattle.std.specs.Fmt.{digits}
use Rattle.cell_lib.specs.declared.cell.Cell.TheVariants.{Dro, Not, And, Maj}
use Rattle.flow_net.specs.declared.net.Flow.{Flow}
use Rattle.pulse_net.specs.declared.net.Element.TheVariants.{Clocked, Split}
use Rattle.pulse_net.specs.declared.net.Outlet.TheVariants.{Zero, One, Wire}
use Rattle.pulse_net.specs.declared.net.PulseNet.{PulseNet}
use Rattle.netlist_text.specs.declared.fault.TextKind.TheVariants.{BadLine, NoEnd}
use Rattle.netlist_text.specs.Spelling.{line, model_line, header_lines, input_lines, output_lines, spelling_of}
use Rattle.netlist_text.specs.Lines.{FormatLine, ElementLine, OutputLine, Nothing, Format, Model, Phases, Body, no_net, no_flow, with_element}
use Rattle.netlist_text.specs.Faults.{IsFirst}
use Rattle.netlist_text.specs.Scanning.{behind, number_of, number_at, field_at, name_word_at, name_at, number_line_at, model_at, outlet_at, output_at, pins_from, clocked_at, word_from, body_line_at, line_at}
use Rattle.netlist_text.proofs.HeaderRead.{format-read, no-format, no-model}

-- a netlist at one phase, without flow lines
abbrev one_phase_net : PulseNet
one_phase_net =
    record {
      names = record { model = codes "t"; inputs = codes "a" ∷ codes "b" ∷ []; outputs = codes "f" ∷ [] };
      phases = 1;
      latency = 3;
      inputs = Some 0 ∷ Some 1 ∷ [];
      elements = Clocked Dro 1 (0 ∷ []) 2 ∷ Clocked Not 1 (1 ∷ []) 3 ∷ Clocked And 2 (2 ∷ 3 ∷ []) 4 ∷ [];
      outputs = Wire 4 ∷ [];
    }

spelling_of_one_phase_net : spelling_of one_phase_net no_flow ≡ codes "rsfq 1\nmodel t\nphases 1\nlatency 3\ninput a 0\ninput b 1\ndro 1 0 2\nnot 1 1 3\nand 2 2 3 4\noutput f 4\nend\n"
unfolding digits line model_line header_lines input_lines output_lines
spelling_of_one_phase_net = refl

-- every other form of a line: a splitter, an input without a wire, constants, and a flow
abbrev other_lines : PulseNet
other_lines =
    record {
      names = record { model = codes "m"; inputs = codes "a" ∷ codes "b" ∷ []; outputs = codes "f" ∷ codes "g" ∷ codes "h" ∷ [] };
      phases = 16;
      latency = 20;
      inputs = None ∷ Some 0 ∷ [];
      elements = Split 0 1 12 ∷ [];
      outputs = Zero ∷ One ∷ Wire 12 ∷ [];
    }

abbrev two_pins : Flow
two_pins = record { pins = record { forward = 2; back = 1 } ∷ record { forward = 0; back = 10 } ∷ [] }

spelling_of_other_lines : spelling_of other_lines two_pins ≡ codes "rsfq 1\nmodel m\nphases 16\nlatency 20\ninput a -\ninput b 0\nsplit 0 1 12\noutput f zero\noutput g one\noutput h 12\nflow 2 1\nflow 0 10\nend\n"
unfolding digits line model_line header_lines input_lines output_lines
spelling_of_other_lines = refl

-- a majority cell has a line of its own, and its text is of format 2
abbrev majority : PulseNet
majority =
    record {
      names = record { model = codes "top"; inputs = codes "a" ∷ codes "b" ∷ codes "c" ∷ []; outputs = codes "f" ∷ [] };
      phases = 1;
      latency = 2;
      inputs = Some 0 ∷ Some 1 ∷ Some 2 ∷ [];
      elements = Clocked Maj 1 (0 ∷ 1 ∷ 2 ∷ []) 3 ∷ [];
      outputs = Wire 3 ∷ [];
    }

abbrev majority_flow : Flow
majority_flow = record { pins = record { forward = 3; back = 1 } ∷ record { forward = 0; back = 1 } ∷ record { forward = 0; back = 1 } ∷ record { forward = 1; back = 1 } ∷ [] }

spelling_of_majority : spelling_of majority majority_flow ≡ codes "rsfq 2\nmodel top\nphases 1\nlatency 2\ninput a 0\ninput b 1\ninput c 2\nmaj 1 0 1 2 3\noutput f 3\nflow 3 1\nflow 0 1\nflow 0 1\nflow 1 1\nend\n"
unfolding digits line model_line header_lines input_lines output_lines
spelling_of_majority = refl

-- ---- lines that fit, and lines that don't

format_line : line_at Nothing (codes "rsfq 2\nmodel m\n") ≡ Some (FormatLine 2, codes "model m\n")
unfolding digits line_at number_line_at field_at number_at number_of behind
format_line = refl

format_3 : line_at Nothing (codes "rsfq 3\n") ≡ None
unfolding digits line_at number_line_at field_at number_at number_of behind
format_3 = refl

leading_zero : line_at (Model 1 (codes "m")) (codes "phases 01\n") ≡ None
unfolding digits line_at number_line_at field_at number_at number_of behind
leading_zero = refl

phases_17 : line_at (Model 1 (codes "m")) (codes "phases 17\n") ≡ None
unfolding digits line_at number_line_at field_at number_at number_of behind
phases_17 = refl

latency_0 : line_at (Phases 1 (codes "m") 4) (codes "latency 0\n") ≡ None
unfolding digits line_at number_line_at field_at number_at number_of behind
latency_0 = refl

-- 2^32 has more than 32 bits
large_latency : line_at (Phases 1 (codes "m") 4) (codes "latency 4294967296\n") ≡ None
unfolding digits line_at number_line_at field_at number_at number_of behind
large_latency = refl

two_spaces : line_at (Model 1 (codes "m")) (codes "phases  4\n") ≡ None
unfolding digits line_at number_line_at field_at number_at number_of behind
two_spaces = refl

carriage_return : line_at (Format 1) (codes "model m\r\n") ≡ None
unfolding line_at model_at name_at name_word_at behind
carriage_return = refl

no_line_feed : line_at (Format 1) (codes "model m") ≡ None
unfolding line_at model_at name_at name_word_at behind
no_line_feed = refl

-- a majority cell has no line in format 1
majority_in_format_1 : line_at (Body 1 (no_net (codes "m") 1 1) no_flow) (codes "maj 1 0 1 2 3\n") ≡ None
unfolding line_at word_from body_line_at behind
majority_in_format_1 = refl

majority_in_format_2 : line_at (Body 2 (no_net (codes "m") 1 1) no_flow) (codes "maj 1 0 1 2 3\nend\n") ≡ Some (ElementLine (Clocked Maj 1 (0 ∷ 1 ∷ 2 ∷ []) 3), codes "end\n")
unfolding digits line_at word_from body_line_at clocked_at pins_from field_at number_at number_of behind
majority_in_format_2 = refl

-- an input line stands before all elements
late_input : line_at (Body 1 (with_element (no_net (codes "m") 1 1) (Split 0 1 2)) no_flow) (codes "input a 3\n") ≡ None
unfolding line_at word_from body_line_at behind
late_input = refl

constant_output : line_at (Body 1 (no_net (codes "m") 1 1) no_flow) (codes "output f one\n") ≡ Some (OutputLine (codes "f") One, [])
unfolding line_at word_from body_line_at output_at outlet_at name_at name_word_at behind
constant_output = refl

-- ---- faults

-- an empty text has no end on its first line
empty_text : IsFirst NoEnd [] 1
unfolding number_line_at behind
empty_text = (no-format [] refl).0

-- the end may not stand in the header
end_in_header : IsFirst BadLine (codes "rsfq 1\nend\n") 2
unfolding digits number_line_at model_at field_at number_at number_of behind
end_in_header = (no-model (codes "rsfq 1\nend\n") 1 (codes "end\n") (format-read (codes "rsfq 1\nend\n") 1 (codes "end\n") refl) refl).0
