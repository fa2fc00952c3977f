-- The words of the command line: a command, and behind it its keys, each with a number.
use Rattle.std.specs.Prelude.{◌≡◌, ◌≤◌, ◌==◌, ◌&&◌, ◌↔◌, ℕ, nat_le, List, [], ◌∷◌, ◌++◌, length, take, drop, Option, Some, None, if◌then◌else◌, codes, decimal}
use Rattle.std.specs.Option.{option_or}
use Rattle.std.specs.Str.{bytes_eq}
use Rattle.std.specs.Str.Parse.{digits_value}
use Rattle.phase_rule.specs.declared.level.TheConstants.{MAX_PHASES}
use Rattle.gen_blif.specs.declared.random.TheConstants.{MAX_TABLES}
use Rattle.gen_blif.specs.declared.ripple_carry.TheConstants.{MAX_BITS}
use Rattle.rsfq_main.specs.declared.keys.Key.{Key}
use Rattle.rsfq_main.specs.declared.keys.Key.TheVariants as key
use Rattle.rsfq_main.specs.declared.words.Command.{Command}
use Rattle.rsfq_main.specs.declared.words.Command.TheVariants.{Map, Check, Sim, Gen, GenAdder, Bench}

-- how a word begins that gives a key a number
abbrev pub key_front : Key → List ℕ
key_front key.Phases = codes "phases="
key_front key.Seed = codes "seed="
key_front key.Tables = codes "tables="
key_front key.Adder = codes "adder="

-- the least number that a key may have, and the greatest
abbrev pub least_of : Key → ℕ
least_of key.Phases = 1
least_of key.Seed = 0
least_of key.Tables = 1
least_of key.Adder = 1

abbrev pub most_of : Key → ℕ
most_of key.Phases = MAX_PHASES
most_of key.Seed = 18446744073709551615
most_of key.Tables = MAX_TABLES
most_of key.Adder = MAX_BITS

-- The number that bytes are in decimal, without a sign or a leading zero, where it lies between two others.
unfoldable pub number_in : ℕ → ℕ → List ℕ → Option ℕ
number_in least most bytes =
    let n = digits_value 10 bytes in
    if bytes_eq bytes (decimal n) && (nat_le least n && nat_le n most) then Some n else None

-- the number that a word gives a key
unfoldable pub number_for : Key → List ℕ → Option ℕ
number_for key word =
    let front = key_front key in
    if bytes_eq (take (length front) word) front then number_in (least_of key) (most_of key) (drop (length front) word) else None

-- a word gives a key a number: the key, and the number in decimal, in its range
pub record GivesKey (key : Key) (word : List ℕ) (n : ℕ) : Type 0 where
  pub spelled : word ≡ key_front key ++ decimal n
  pub some : least_of key ≤ n
  pub few : n ≤ most_of key

-- The number that is read of a word is the one that the word gives.
abbrev pub WordsSpellNumbers : Type 0
WordsSpellNumbers = (key : Key) (word : List ℕ) (n : ℕ) → number_for key word ≡ Some n ↔ GivesKey key word n

-- the number that the first word which gives the key one gives it
abbrev pub given : Key → List (List ℕ) → Option ℕ
given key [] = None
given key (word ∷ words) = option_or (number_for key word) (given key words)

-- what the words are where they are so many
abbrev pub of_words : ℕ → List (List ℕ) → Command → Option Command
of_words count words command = if length words == count then Some command else None

-- `map`, with a number of phases or with one. A word gives one key at most: where as many keys are given as there are words,
-- each word gives one of them, and none is given twice.
abbrev pub map_with : Option ℕ → List (List ℕ) → Option Command
map_with None words = of_words 0 words (Map 1)
map_with (Some phases) words = of_words 1 words (Map phases)

-- `gen`, with the bits of an adder, or with a seed and a number of tables
abbrev pub gen_with : Option ℕ → Option ℕ → Option ℕ → List (List ℕ) → Option Command
gen_with (Some bits) seed tables words = of_words 1 words (GenAdder bits)
gen_with None (Some seed) (Some tables) words = of_words 2 words (Gen seed tables)
gen_with None None tables words = None
gen_with None (Some seed) None words = None

-- `bench`, with a seed and a number of tables, and with a number of phases or with one
abbrev pub bench_with : Option ℕ → Option ℕ → Option ℕ → List (List ℕ) → Option Command
bench_with (Some seed) (Some tables) None words = of_words 2 words (Bench seed tables 1)
bench_with (Some seed) (Some tables) (Some phases) words = of_words 3 words (Bench seed tables phases)
bench_with (Some seed) None phases words = None
bench_with None tables phases words = None

-- the command that the words spell
unfoldable pub command_of : List (List ℕ) → Option Command
command_of [] = None
command_of (command ∷ words) =
    if bytes_eq command (codes "map") then map_with (given key.Phases words) words
    else if bytes_eq command (codes "check") then of_words 0 words Check
    else if bytes_eq command (codes "sim") then of_words 0 words Sim
    else if bytes_eq command (codes "gen") then gen_with (given key.Adder words) (given key.Seed words) (given key.Tables words) words
    else if bytes_eq command (codes "bench") then bench_with (given key.Seed words) (given key.Tables words) (given key.Phases words) words
    else None

-- the numbers of a command are in their ranges
abbrev pub IsInRange : Command → Type 0
IsInRange (Map phases) = (1 ≤ phases) × (phases ≤ MAX_PHASES)
IsInRange Check = Unit {0}
IsInRange Sim = Unit {0}
IsInRange (Gen seed tables) = (1 ≤ tables) × (tables ≤ MAX_TABLES)
IsInRange (GenAdder bits) = (1 ≤ bits) × (bits ≤ MAX_BITS)
IsInRange (Bench seed tables phases) = (1 ≤ tables) × (tables ≤ MAX_TABLES) × (1 ≤ phases) × (phases ≤ MAX_PHASES)
