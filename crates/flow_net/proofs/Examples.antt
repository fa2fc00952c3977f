-- Small networks by hand, evaluated: a false definition fails here.
use Rattle.std.specs.Prelude.{◌≡◌, ℕ, pos, negsuc, zero, suc, [], ◌∷◌, map, refl}
use Rattle.std.proofs.Common.{◌<◌, ◌≤◌, ◌==◌, false, nat_lt, arith}
use Rattle.std.proofs.lemmas.Bool.Decides.{nat_tests}
use Rattle.cell_lib.specs.declared.cell.Cell.TheVariants.{Not, And}
use Rattle.gate_net.specs.declared.row.Driver.TheVariants.{Input, Gate}
use Rattle.gate_net.specs.declared.row.End.TheVariants.{From}
use Rattle.gate_net.specs.declared.net.GateNet.{GateNet}
use Rattle.phase_rule.specs.Levels.{levels_of, phases_of}
use Rattle.flow_net.specs.declared.net.Net.{Net}
use Rattle.flow_net.specs.declared.net.Flow.{Flow}
use Rattle.flow_net.specs.declared.net.Epochs.{Epochs}
use Rattle.flow_net.specs.Network.{network_of}
use Rattle.flow_net.specs.Epochs.{dro_count, earliest_epochs}
use Rattle.flow_net.specs.Arcs.{arcs_of}
use Rattle.flow_net.specs.Flows.{units_out, units_in, out_minus_in, wants, flow_value, IsFullFlow}

-- no vertex below another is that other
apart : (a b : ℕ) → a < b → (a == b) ≡ false
apart a b low = grind (arith, nat_tests)

not_below : (a b : ℕ) → b ≤ a → nat_lt a b ≡ false
not_below a b high = grind (arith, nat_tests)

other : (a b : ℕ) → b < a → (a == b) ≡ false
other a b high = grind (arith, nat_tests)

-- f = a and not b: gate 0 turns b, and gate 1 joins a with it
abbrev gates : GateNet
gates = record {
  inputs = 2;
  gates = record { cell = Not; pins = Input 1 ∷ [] } ∷ (record { cell = And; pins = Input 0 ∷ (Gate 0 ∷ []) } ∷ []);
  outputs = From (Gate 1) ∷ [];
}

-- With one phase every pin has weight 1. The drivers are a, b and the two gates; vertex 3 is the sink, and behind it stand
-- the mirrors 4 to 7.
abbrev network : Net
network = record {
  gates = 2;
  drivers = 4;
  pins = record { driver = 1; from = 0; to = 1; weight = 1 }
      ∷ (record { driver = 0; from = 0; to = 2; weight = 1 }
      ∷ (record { driver = 2; from = 1; to = 2; weight = 1 }
      ∷ (record { driver = 3; from = 2; to = 3; weight = 1 } ∷ [])));
}

network-is : network_of gates (phases_of 1 (levels_of gates)) ≡ network
network-is = refl

-- Each pin has two arcs, and they are numbered in order.
arcs-tails : map (λ arc. arc.tail) (arcs_of network) ≡ 0 ∷ (1 ∷ (0 ∷ (2 ∷ (1 ∷ (2 ∷ (2 ∷ (3 ∷ [])))))))
arcs-tails = refl

arcs-heads : map (λ arc. arc.head) (arcs_of network) ≡ 1 ∷ (5 ∷ (2 ∷ (4 ∷ (2 ∷ (6 ∷ (3 ∷ (7 ∷ [])))))))
arcs-heads = refl

arcs-numbers : map (λ arc. arc.number) (arcs_of network) ≡ 0 ∷ (1 ∷ (2 ∷ (3 ∷ (4 ∷ (5 ∷ (6 ∷ (7 ∷ [])))))))
arcs-numbers = refl

arcs-lengths : map (λ arc. arc.length) (arcs_of network) ≡ pos 1 ∷ (negsuc 0 ∷ (pos 1 ∷ (negsuc 0 ∷ (pos 1 ∷ (negsuc 0 ∷ (pos 1 ∷ (negsuc 0 ∷ [])))))))
arcs-lengths = refl

-- The source sends two units over gate 0 and none to gate 1: a full flow, worth the one DRO behind a.
abbrev flow : Flow
flow = record {
  pins = record { forward = 2; back = 1 }
      ∷ (record { forward = 0; back = 1 } ∷ (record { forward = 2; back = 1 } ∷ (record { forward = 1; back = 1 } ∷ [])));
}

source-out : units_out network flow 0 ≡ 2
source-out = refl

and-out : units_out network flow 2 ≡ 3
and-out = refl

and-in : units_in network flow 2 ≡ 2
and-in = refl

flow-past : (k : ℕ) → 7 ≤ k → out_minus_in network flow (suc k) ≡ wants network (suc k)
flow-past k far =
    simp (apart 0 (suc k) (omega arith), apart 1 (suc k) (omega arith), apart 2 (suc k) (omega arith), apart 3 (suc k) (omega arith), apart 4 (suc k) (omega arith), apart 5 (suc k) (omega arith), apart 6 (suc k) (omega arith), apart 7 (suc k) (omega arith), not_below k 2 (omega arith), other k 2 (omega arith), not_below k 7 (omega arith)) refl

flow-is_full : IsFullFlow network flow
flow-is_full = record { each = refl; wanted = at }
  where
    at : (vertex : ℕ) → out_minus_in network flow vertex ≡ wants network vertex
    at zero = refl
    at (suc zero) = refl
    at (suc (suc zero)) = refl
    at (suc (suc (suc zero))) = refl
    at (suc (suc (suc (suc zero)))) = refl
    at (suc (suc (suc (suc (suc zero))))) = refl
    at (suc (suc (suc (suc (suc (suc zero)))))) = refl
    at (suc (suc (suc (suc (suc (suc (suc zero))))))) = refl
    at (suc (suc (suc (suc (suc (suc (suc (suc k)))))))) = flow-past (suc (suc (suc (suc (suc (suc (suc k))))))) (omega arith)

flow-value : flow_value network flow ≡ pos 1
flow-value = refl

dros-count : dro_count network (earliest_epochs 1 gates) ≡ 1
dros-count = refl

-- One unit less on the first pin leaves the source and gate 0 out of balance.
abbrev short : Flow
short = record {
  pins = record { forward = 1; back = 1 }
      ∷ (record { forward = 0; back = 1 } ∷ (record { forward = 2; back = 1 } ∷ (record { forward = 1; back = 1 } ∷ [])));
}

short-source : out_minus_in network short 0 ≡ pos 1
short-source = refl

source-wants : wants network 0 ≡ pos 2
source-wants = refl

short-not : out_minus_in network short 1 ≡ pos 2
short-not = refl

-- With two phases gate 0 stands behind b in one epoch, so its pin has weight 0, and the window of gate 1 reaches back to a:
-- no DRO is needed, and a full flow is worth none.
abbrev network_at_two : Net
network_at_two = record {
  gates = 2;
  drivers = 4;
  pins = record { driver = 1; from = 0; to = 1; weight = 0 }
      ∷ (record { driver = 0; from = 0; to = 2; weight = 1 }
      ∷ (record { driver = 2; from = 1; to = 2; weight = 1 }
      ∷ (record { driver = 3; from = 2; to = 3; weight = 1 } ∷ [])));
}

network_at_two-is : network_of gates (phases_of 2 (levels_of gates)) ≡ network_at_two
network_at_two-is = refl

abbrev flow_at_two : Flow
flow_at_two = record {
  pins = record { forward = 0; back = 1 }
      ∷ (record { forward = 2; back = 1 } ∷ (record { forward = 0; back = 1 } ∷ (record { forward = 1; back = 1 } ∷ [])));
}

flow_at_two-past : (k : ℕ) → 7 ≤ k → out_minus_in network_at_two flow_at_two (suc k) ≡ wants network_at_two (suc k)
flow_at_two-past k far =
    simp (apart 0 (suc k) (omega arith), apart 1 (suc k) (omega arith), apart 2 (suc k) (omega arith), apart 3 (suc k) (omega arith), apart 4 (suc k) (omega arith), apart 5 (suc k) (omega arith), apart 6 (suc k) (omega arith), apart 7 (suc k) (omega arith), not_below k 2 (omega arith), other k 2 (omega arith), not_below k 7 (omega arith)) refl

flow_at_two-is_full : IsFullFlow network_at_two flow_at_two
flow_at_two-is_full = record { each = refl; wanted = at }
  where
    at : (vertex : ℕ) → out_minus_in network_at_two flow_at_two vertex ≡ wants network_at_two vertex
    at zero = refl
    at (suc zero) = refl
    at (suc (suc zero)) = refl
    at (suc (suc (suc zero))) = refl
    at (suc (suc (suc (suc zero)))) = refl
    at (suc (suc (suc (suc (suc zero))))) = refl
    at (suc (suc (suc (suc (suc (suc zero)))))) = refl
    at (suc (suc (suc (suc (suc (suc (suc zero))))))) = refl
    at (suc (suc (suc (suc (suc (suc (suc (suc k)))))))) = flow_at_two-past (suc (suc (suc (suc (suc (suc (suc k))))))) (omega arith)

flow_at_two-value : flow_value network_at_two flow_at_two ≡ pos 0
flow_at_two-value = refl

dros_at_two-count : dro_count network_at_two (earliest_epochs 2 gates) ≡ 0
dros_at_two-count = refl

-- Weak duality is sharp here: the flow is worth 1, and the earliest epochs cost 1 DRO. Both its conditions are needed. Epochs
-- with each gate at 0 aren't balanced, and they cost none; a flow that gives the mirrors nothing isn't full, and is worth more.
abbrev level_epochs : Epochs
level_epochs = record { gates = 0 ∷ (0 ∷ []); sink = 0 }

level_epochs-count : dro_count network level_epochs ≡ 0
level_epochs-count = refl

abbrev greedy : Flow
greedy = record {
  pins = record { forward = 1; back = 0 }
      ∷ (record { forward = 1; back = 0 } ∷ (record { forward = 1; back = 0 } ∷ (record { forward = 1; back = 0 } ∷ [])));
}

greedy-mirror : out_minus_in network greedy 4 ≡ pos 0
greedy-mirror = refl

mirror-wants : wants network 4 ≡ negsuc 0
mirror-wants = refl

greedy-value : flow_value network greedy ≡ pos 4
greedy-value = refl
