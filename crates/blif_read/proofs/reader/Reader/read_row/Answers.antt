use Rattle.blif_read.specs.Readers.{state_of}
use Rattle.blif_read.proofs.FaultRows.{fault_of-row, fault_of-outside}
use Rattle.blif_read.proofs.reader.Reader.read_row.Goals as goal

pub returns-in-Some-clause-fault : goal.returns-in-Some-clause-fault
returns-in-Some-clause-fault c =
    rw (fault_of-row c.args.line.now (state_of c.args.self.now) c.requires.ready.good c.requires.open c.in-Some.table c.in-Some.is) c.add_row.ensures.fault

pub returns-in-None-clause-fault : goal.returns-in-None-clause-fault
returns-in-None-clause-fault c = fault_of-outside c.args.line.now (state_of c.args.self.now) c.requires.ready.good c.requires.open c.in-None.is
