-- The summary of a netlist: eight lines of a word and a number.
use Rattle.std.specs.Prelude.{ℕ, List, ◌++◌, length, codes, decimal}
use Rattle.synth.specs.declared.made.Made.{Made}
use Rattle.netlist_text.specs.Spelling.{spelling_of}

-- a line of a word and a number
abbrev pub count_line : List ℕ → ℕ → List ℕ
count_line word number = word ++ codes " " ++ decimal number ++ codes "\n"

-- what the netlist was made from, and how many clocked elements of each kind and splitters it has
unfoldable pub part_lines : Made → List ℕ
part_lines made =
    count_line (codes "tables") made.tables
    ++ count_line (codes "nodes") made.nodes
    ++ count_line (codes "gates") made.gates
    ++ count_line (codes "dros") made.dros
    ++ count_line (codes "splits") made.splits

-- the epochs that its answers take, its Josephson junctions, and the bytes of its text
unfoldable pub size_lines : Made → List ℕ
size_lines made =
    count_line (codes "latency") made.net.latency
    ++ count_line (codes "junctions") made.junctions
    ++ count_line (codes "bytes") (length (spelling_of made.net made.flow))

-- the summary of a netlist
abbrev pub summary_of : Made → List ℕ
summary_of made = part_lines made ++ size_lines made
