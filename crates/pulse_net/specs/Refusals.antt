-- What a refusal in the code tells of one in the rules. Want of memory tells nothing of them.
use Rattle.std.specs.Prelude.{Option, Some, None, Result, Ok, Err}
use Rattle.net_base.specs.Answers.{Gives}
use Rattle.pulse_net.specs.declared.fault.Place.{Place}
use Rattle.pulse_net.specs.declared.fault.Wrong.{Wrong}
use Rattle.pulse_net.specs.declared.fault.Invalid.{Invalid}
use Rattle.pulse_net.specs.declared.fault.ValidFault.{ValidFault}
use Rattle.pulse_net.specs.declared.fault.ValidFault.TheVariants.{Invalid as Broken, NoMemory as NoRoom}
use Rattle.pulse_net.specs.declared.fault.Stop.{Stop}
use Rattle.pulse_net.specs.declared.fault.Stop.TheVariants.{Wrong as Breaks, NoMemory as Stopped}
use Rattle.pulse_net.specs.Validity.{Wiring}

-- a fault tells that the rules refuse with its place and cause
abbrev pub told_by : ValidFault → Option (Result Wiring Invalid)
told_by NoRoom = None
told_by (Broken invalid) = Some (Err invalid)

-- a stop at one place tells that the rules of that place refuse with its cause
abbrev pub told_by_stop : Stop → Option (Result Wiring Wrong)
told_by_stop Stopped = None
told_by_stop (Breaks cause) = Some (Err cause)

-- a step in the code obeys the rules of one place: `Ok` with what they make of the wiring, and else as they refuse
abbrev pub ObeysRule : Result Unit Stop → Result Wiring Wrong → Wiring → Type 0
ObeysRule result rules after = Gives (λ _. Ok after) told_by_stop result rules

-- the same of the rules of several places
abbrev pub ObeysRules : Result Unit ValidFault → Result Wiring Invalid → Wiring → Type 0
ObeysRules result rules after = Gives (λ _. Ok after) told_by result rules

-- what a step at a place answers
abbrev pub placed : Place → Result Unit Stop → Result Unit ValidFault
placed place (Ok u) = Ok u
placed place (Err (Breaks cause)) = Err (Broken (record { place = place; cause = cause }))
placed place (Err Stopped) = Err NoRoom
