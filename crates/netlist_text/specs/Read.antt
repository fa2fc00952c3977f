-- What is said of a text that was read.
use Rattle.std.specs.Prelude.{ℕ, Bool, cond, ◌+◌, ◌==◌, List, [], ◌∷◌, length}
use Rattle.flow_net.specs.declared.net.Flow.{Flow}
use Rattle.pulse_net.specs.declared.net.PulseNet.{PulseNet}
use Rattle.netlist_text.specs.declared.reader.Reader.{Reader}
use Rattle.netlist_text.specs.Lines.{SoFar, Body}

-- the lines of a spelling: four of the header, one for each input, element, output and pin of the flow, and the end
abbrev pub line_count : PulseNet → Flow → ℕ
line_count net flow = 5 + length net.inputs + length net.elements + length net.outputs + length flow.pins

-- the byte at the end of each line, and how many of them there are
abbrev pub is_line_feed : ℕ → Bool
is_line_feed byte = byte == 10

abbrev pub line_feeds : List ℕ → ℕ
line_feeds [] = 0
line_feeds (byte ∷ bytes) = cond (is_line_feed byte) 1 0 + line_feeds bytes

-- what a reader of the body has read so far
abbrev pub said : Reader → SoFar
said reader = Body reader.format reader.net reader.flow
