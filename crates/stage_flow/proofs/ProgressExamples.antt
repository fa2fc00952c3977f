-- Who sends in each round, and what was sent after so many, on a network made by hand with two inputs and two gates.
use Rattle.std.proofs.Common.{◌≡◌, refl, [], ◌∷◌, map}
use Rattle.flow_net.specs.declared.net.Net.{Net}
use Rattle.stage_flow.specs.UnderWay.{sent_in, sender_in, first_potential}
use Rattle.std.specs.Prelude.{pos}

abbrev net : Net
net = record {
  gates = 2;
  drivers = 4;
  pins = record { driver = 1; from = 0; to = 1; weight = 1 }
      ∷ record { driver = 0; from = 0; to = 2; weight = 1 }
      ∷ record { driver = 2; from = 1; to = 2; weight = 1 }
      ∷ record { driver = 3; from = 2; to = 3; weight = 1 } ∷ [];
}

-- the source twice, and then each gate
senders : map (sender_in net) (0 ∷ 1 ∷ 2 ∷ 3 ∷ []) ≡ 0 ∷ 0 ∷ 1 ∷ 2 ∷ []
senders = refl

-- source, gates and sink after one round, after three, and after all
sent-after_one : map (sent_in net 1) (0 ∷ 1 ∷ 2 ∷ 3 ∷ []) ≡ 1 ∷ 0 ∷ 0 ∷ 0 ∷ []
sent-after_one = refl

sent-after_three : map (sent_in net 3) (0 ∷ 1 ∷ 2 ∷ 3 ∷ []) ≡ 2 ∷ 1 ∷ 0 ∷ 0 ∷ []
sent-after_three = refl

sent-after_all : map (sent_in net 4) (0 ∷ 1 ∷ 2 ∷ 3 ∷ []) ≡ 2 ∷ 1 ∷ 1 ∷ 0 ∷ []
sent-after_all = refl

-- a mirror's first potential is the sink's
first : map (first_potential net) (0 ∷ 1 ∷ 2 ∷ 3 ∷ 4 ∷ 7 ∷ []) ≡ pos 0 ∷ pos 1 ∷ pos 2 ∷ pos 3 ∷ pos 3 ∷ pos 3 ∷ []
first = refl
