-- The rounds on a network made by hand: f = a AND NOT b at one phase, whose gates are a NOT of b and an AND of a and it.
use Rattle.std.proofs.Common.{◌≡◌, refl, [], ◌∷◌}
use Rattle.flow_net.specs.declared.net.Net.{Net}
use Rattle.flow_net.specs.declared.net.Flow.{Flow}
use Rattle.stage_flow.specs.Rounds.{flow_after, after_round}
use Rattle.std.specs.Prelude.{ℕ}

-- drivers: input a, input b, the NOT, the AND; pins: b at the NOT, a and the NOT at the AND, the AND at the output
abbrev net : Net
net = record {
  gates = 2;
  drivers = 4;
  pins = record { driver = 1; from = 0; to = 1; weight = 1 }
      ∷ record { driver = 0; from = 0; to = 2; weight = 1 }
      ∷ record { driver = 2; from = 1; to = 2; weight = 1 }
      ∷ record { driver = 3; from = 2; to = 3; weight = 1 } ∷ [];
}

abbrev flow : ℕ → ℕ → ℕ → ℕ → ℕ → ℕ → ℕ → ℕ → Flow
flow a b c d e f g h = record {
  pins = record { forward = a; back = b } ∷ record { forward = c; back = d } ∷ record { forward = e; back = f } ∷ record { forward = g; back = h } ∷ [];
}

after_one : flow_after net 1 ≡ flow 1 0 0 0 1 0 1 1
unfolding after_round
after_one = refl

after_two : flow_after net 2 ≡ flow 2 0 0 1 2 0 1 1
unfolding after_round
after_two = refl

after_four : flow_after net 4 ≡ flow 2 1 0 1 2 1 1 1
unfolding after_round
after_four = refl
