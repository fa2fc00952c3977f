-- What `sim` makes of a netlist text with rows of input bits behind it: what is read at the outputs for each row.
use Rattle.std.specs.Prelude.{◌≡◌, ◌+◌, ◌++◌, ℕ, Bool, List, length, drop, Result, Ok}
use Rattle.net_base.specs.Answers.{◌>>=◌}
use Rattle.flow_net.specs.declared.net.Flow.{Flow}
use Rattle.pulse_net.specs.declared.net.PulseNet.{PulseNet}
use Rattle.pulse_net.specs.Validity.{IsValid, wiring_of}
use Rattle.pulse_sim.specs.Rows.{rows_of}
use Rattle.pulse_sim.specs.Reading.{lines_read}
use Rattle.netlist_text.specs.declared.reading.Prefix.{Prefix}
use Rattle.netlist_text.specs.Spelling.{spelling_of}
use Rattle.netlist_text.specs.Read.{line_count}
use Rattle.netlist_text.specs.Parsing.{parsed_prefix}
use Rattle.rsfq_main.specs.Faults.{Refusal, Text, Rows, Broken, refused_as}

-- what is read for rows on a netlist, unless it isn't valid
abbrev pub lines_of : PulseNet → List (List Bool) → Result (List ℕ) Refusal
lines_of net rows = refused_as Broken (wiring_of net) >>= λ wiring. Ok (lines_read net rows)

-- what is read on the netlist at the front of a text for the rows behind it; their lines go on in number
abbrev pub lines_behind : Prefix → List ℕ → Result (List ℕ) Refusal
lines_behind prefix behind = refused_as Rows (rows_of behind (length prefix.net.inputs) (prefix.lines + 1)) >>= lines_of prefix.net

-- what `sim` makes of a text
abbrev pub sim_of : List ℕ → Result (List ℕ) Refusal
sim_of text = refused_as Text (parsed_prefix text) >>= λ prefix. lines_behind prefix (drop prefix.bytes text)

-- Bytes are the lines for a text of rows behind a netlist that takes so many lines: the netlist is valid, the text has rows, and the bytes
-- are what is read at the outputs for each.
pub record AreLinesFor (net : PulseNet) (behind : List ℕ) (lines : ℕ) (bytes : List ℕ) : Type 0 where
  pub rows : List (List Bool)
  pub are_rows : rows_of behind (length net.inputs) (lines + 1) ≡ Ok rows
  pub valid : IsValid net
  pub answer : bytes ≡ lines_read net rows

-- Bytes simulate a text: it spells a netlist with rows behind it, and they are the lines for these.
pub record IsSimulated (text bytes : List ℕ) : Type 0 where
  pub net : PulseNet
  pub flow : Flow
  pub behind : List ℕ
  pub spelled : text ≡ spelling_of net flow ++ behind
  pub answer : AreLinesFor net behind (line_count net flow) bytes
