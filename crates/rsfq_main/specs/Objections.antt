-- What objects to a netlist.
use Rattle.pulse_net.specs.declared.fault.ValidFault.{ValidFault}
use Rattle.pulse_net.specs.declared.fault.ValidFault.TheVariants as valid
use Rattle.rsfq_main.specs.declared.objection.Objection.TheVariants.{Breaks}
use Rattle.rsfq_main.specs.declared.objection.ExamineFault.{ExamineFault}
use Rattle.rsfq_main.specs.declared.objection.ExamineFault.TheVariants.{Objects, NoMemory}

-- a rule that is broken objects; want of memory is what it was
abbrev pub of_valid : ValidFault → ExamineFault
of_valid (valid.Invalid invalid) = Objects (Breaks invalid)
of_valid valid.NoMemory = NoMemory
