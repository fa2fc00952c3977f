use Rattle.std.proofs.Common.{◌≡◌, take, length}
use Rattle.blif_check.proofs.DriverPlaces.{AreDriversAmong}
use Rattle.blif_check.proofs.lookup.drivers.Given as goal

-- the places of the drivers among the tables so far
abbrev pub invariant-loop-place : goal.invariant-loop-place
invariant-loop-place l = (length l.drivers.items ≡ l.names) × AreDriversAmong l.drivers.items l.tables (take l.place l.tables)
