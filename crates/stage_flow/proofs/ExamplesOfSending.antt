-- Who has still to send, and which mirrors want, on a network made by hand: two inputs, of which the second drives a NOT; the first
-- and the NOT drive an AND, which drives the output.
use Rattle.std.proofs.Common.{◌≡◌, refl, pos, negsuc, [], ◌∷◌, map, Some, None}
use Rattle.flow_net.specs.declared.net.Net.{Net}
use Rattle.flow_net.specs.declared.net.Flow.{Flow}
use Rattle.flow_net.specs.Flows.{wants}
use Rattle.stage_flow.specs.Rounds.{no_units, sender, wanting}
use Rattle.stage_flow.specs.LawsOfSending.{left_to_send}

abbrev net : Net
net = record {
  gates = 2;
  drivers = 4;
  pins = record { driver = 1; from = 0; to = 1; weight = 1 }
      ∷ record { driver = 0; from = 0; to = 2; weight = 1 }
      ∷ record { driver = 2; from = 1; to = 2; weight = 1 }
      ∷ record { driver = 3; from = 2; to = 3; weight = 1 } ∷ [];
}

-- the flow after one round: a unit from the source by the NOT and the AND to the sink, and back to the mirror of the AND
abbrev one_sent : Flow
one_sent = record {
  pins = record { forward = 1; back = 0 } ∷ record { forward = 0; back = 0 } ∷ record { forward = 1; back = 0 } ∷ record { forward = 1; back = 1 } ∷ [];
}

-- the flow after four: each mirror has its unit
abbrev all_sent : Flow
all_sent = record {
  pins = record { forward = 2; back = 1 } ∷ record { forward = 0; back = 1 } ∷ record { forward = 2; back = 1 } ∷ record { forward = 1; back = 1 } ∷ [];
}

-- source, two gates, sink, and the mirrors of the two inputs, the NOT and the AND
wants-all : map (wants net) (0 ∷ 1 ∷ 2 ∷ 3 ∷ 4 ∷ 5 ∷ 6 ∷ 7 ∷ []) ≡ pos 2 ∷ pos 1 ∷ pos 1 ∷ pos 0 ∷ negsuc 0 ∷ negsuc 0 ∷ negsuc 0 ∷ negsuc 0 ∷ []
wants-all = refl

-- before the first round all mirrors want, and four units are to be sent, first by the source
wanting-first : wanting net (no_units net) ≡ 4 ∷ 5 ∷ 6 ∷ 7 ∷ []
wanting-first = refl

left-first : left_to_send net (no_units net) 4 ≡ pos 4
left-first = refl

sender-first : sender net (no_units net) ≡ Some 0
sender-first = refl

-- after it the mirror of the AND wants no more
wanting-next : wanting net one_sent ≡ 4 ∷ 5 ∷ 6 ∷ []
wanting-next = refl

left-next : left_to_send net one_sent 4 ≡ pos 3
left-next = refl

-- after all rounds none wants, and no vertex has to send
wanting-last : wanting net all_sent ≡ []
wanting-last = refl

left-last : left_to_send net all_sent 4 ≡ pos 0
left-last = refl

sender-last : sender net all_sent ≡ None
sender-last = refl
