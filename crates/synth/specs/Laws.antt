-- What is promised of synthesis.
use Rattle.std.specs.Prelude.{ℕ, ◌≢◌, List, Err}
use Rattle.synth.specs.declared.fault.SynthFault.TheVariants.{NoMemory}
use Rattle.synth.specs.Synth.{synth_of}

-- Where a text has no netlist there is a cause in it: the definition refuses none for want of memory.
abbrev pub RefusalsHaveCauses : Type 0
RefusalsHaveCauses = (n : ℕ) (text : List ℕ) → synth_of n text ≢ Err NoMemory
