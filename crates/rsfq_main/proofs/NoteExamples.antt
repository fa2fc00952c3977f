-- A note of each kind for netlist texts, rows, netlists and answers, by evaluation: a false definition fails here.
use Rattle.std.proofs.Common.{◌≡◌, pos, negsuc, codes, refl}
use Rattle.std.specs.Fmt.{digits}
use Rattle.flow_cert.specs.declared.verdict.Cause.TheVariants.{Length, Unbalanced, Balance, Value}
use Rattle.netlist_text.specs.declared.fault.TextKind.TheVariants.{BadLine, NoEnd, AfterEnd}
use Rattle.pulse_net.specs.declared.fault.Place.TheVariants.{Input, Element, Output, Latency, Close}
use Rattle.pulse_net.specs.declared.fault.Wrong.TheVariants.{Unmade, MadeTwice, UsedTwice, Gap, Unused, NoWires}
use Rattle.pulse_sim.specs.declared.fault.RowKind.TheVariants.{RowShape, RowChar, TooManyRows}
use Rattle.rsfq_main.specs.declared.objection.Objection.TheVariants.{Breaks, Shows, Differs}
use Rattle.rsfq_main.specs.NetlistNotes.{text_note, row_note, invalid_note, objection_note}

-- ---- netlist texts

bad_first_line : text_note (record { line = 1; kind = BadLine }) ≡ codes "line 1: bad line\n"
unfolding digits
bad_first_line = refl

no_end : text_note (record { line = 10; kind = NoEnd }) ≡ codes "line 10: no end\n"
unfolding digits
no_end = refl

-- the greatest number that a line of a text within the limit has
after_end : text_note (record { line = 268435456; kind = AfterEnd }) ≡ codes "line 268435456: text after end\n"
unfolding digits
after_end = refl

-- ---- rows

row_shape : row_note (record { line = 15; kind = RowShape }) ≡ codes "line 15: row shape\n"
unfolding digits
row_shape = refl

row_character : row_note (record { line = 16; kind = RowChar }) ≡ codes "line 16: row character\n"
unfolding digits
row_character = refl

too_many_rows : row_note (record { line = 65547; kind = TooManyRows }) ≡ codes "line 65547: too many rows\n"
unfolding digits
too_many_rows = refl

-- ---- netlists that aren't valid

unmade : invalid_note (record { place = Element 0; cause = Unmade 7 }) ≡ codes "invalid: element 0 wire 7 unmade\n"
unfolding digits
unmade = refl

made_twice : invalid_note (record { place = Input 1; cause = MadeTwice 0 }) ≡ codes "invalid: input 1 wire 0 made twice\n"
unfolding digits
made_twice = refl

used_twice : invalid_note (record { place = Output 3; cause = UsedTwice 12 }) ≡ codes "invalid: output 3 wire 12 used twice\n"
unfolding digits
used_twice = refl

-- the user stands before its source
gap_below_zero : invalid_note (record { place = Element 10; cause = Gap 4 (negsuc 2) }) ≡ codes "invalid: element 10 wire 4 gap -3\n"
unfolding digits
gap_below_zero = refl

no_gap : invalid_note (record { place = Output 0; cause = Gap 4 (pos 0) }) ≡ codes "invalid: output 0 wire 4 gap 0\n"
unfolding digits
no_gap = refl

unused : invalid_note (record { place = Close; cause = Unused 5 }) ≡ codes "invalid: wire 5 unused\n"
unfolding digits
unused = refl

no_wires : invalid_note (record { place = Latency; cause = NoWires 2 }) ≡ codes "invalid: latency 2 without wires\n"
unfolding digits
no_wires = refl

-- ---- answers that are no

breaks : objection_note (Breaks (record { place = Close; cause = Unused 5 })) ≡ codes "no: wire 5 unused\n"
unfolding digits
breaks = refl

other_length : objection_note (Shows (Length 4 5)) ≡ codes "no: flow lines 4 pins 5\n"
unfolding digits
other_length = refl

unbalanced : objection_note (Shows (Unbalanced 2 (negsuc 0) 1)) ≡ codes "no: pin 2 gap -1 weight 1\n"
unfolding digits
unbalanced = refl

out_of_balance : objection_note (Shows (Balance 0 (pos 1) (pos 2))) ≡ codes "no: vertex 0 has 1 wants 2\n"
unfolding digits
out_of_balance = refl

other_value : objection_note (Shows (Value (pos 3) (pos 4))) ≡ codes "no: value 3 count 4\n"
unfolding digits
other_value = refl

other_count : objection_note (Differs 5 4) ≡ codes "no: dros 5 count 4\n"
unfolding digits
other_count = refl
