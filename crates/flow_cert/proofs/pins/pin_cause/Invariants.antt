use Rattle.std.proofs.Common.{◌≡◌, drop}
use Rattle.flow_cert.specs.Verdicts.{pin_cause as pin_cause_of}
use Rattle.flow_cert.proofs.pins.pin_cause.Given as goal

abbrev pub invariant-loop-place : goal.invariant-loop-place
invariant-loop-place l = pin_cause_of l.epochs 0 l.pins ≡ pin_cause_of l.epochs l.place (drop l.place l.pins)
