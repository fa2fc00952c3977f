-- How the code answers for the definitions.
use Rattle.std.specs.Prelude.{ℕ, Option, Some, None, Result, Err}
use Rattle.net_base.specs.Answers.{Gives}
use Rattle.blif_read.specs.declared.fault.BlifFault.{BlifFault}
use Rattle.blif_read.specs.declared.fault.BlifKind.{BlifKind}
use Rattle.blif_read.specs.declared.fault.LineFault.{LineFault}
use Rattle.blif_read.specs.declared.fault.LineFault.TheVariants as line
use Rattle.blif_read.specs.declared.fault.ReadFault.{ReadFault}
use Rattle.blif_read.specs.declared.fault.ReadFault.TheVariants as whole

-- What a fault of a line tells: the kind that the definition has. Want of memory tells nothing.
abbrev pub line_told : LineFault → Option (Option BlifKind)
line_told (line.Kind kind) = Some (Some kind)
line_told line.NoMemory = None

-- a step answers where the definition has no fault, and refuses with its kind where it has one
abbrev pub Finds : {X : Type 0} → Result X LineFault → Option BlifKind → Type 0
Finds result fault = Gives (λ _. None) line_told result fault

-- What a fault of a text tells: the line and the kind that the definition has.
abbrev pub read_told : {A : Type 0} → ReadFault → Option (Result A BlifFault)
read_told (whole.Blif fault) = Some (Err fault)
read_told whole.NoMemory = None

-- a fault of a line, in a text whose line has this number
abbrev pub fault_at : ℕ → LineFault → ReadFault
fault_at number (line.Kind kind) = whole.Blif (record { line = number; kind = kind })
fault_at number line.NoMemory = whole.NoMemory
