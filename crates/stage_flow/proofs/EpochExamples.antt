-- The end of the rounds on a network made by hand, f = a AND NOT b at one phase: how far walks go in its residual network, and the
-- epochs that they give. The AND waits for the NOT, so the input a needs a DRO.
use Rattle.std.proofs.Common.{◌≡◌, ◌≤◌, ◌<◌, ◌==◌, ℕ, zero, suc, false, nat_lt, Any, lit<, arith, ℤ, pos, negsuc, [], ◌∷◌, get_or, map, Some, refl}
use Rattle.std.proofs.lemmas.Bool.Decides.{nat_tests}
use Rattle.std.proofs.lemmas.List.Elements.{All-from_recursion}
use Rattle.cell_lib.specs.declared.cell.Cell.TheVariants.{Not, And}
use Rattle.gate_net.specs.declared.row.Driver.TheVariants.{Input, Gate}
use Rattle.gate_net.specs.declared.row.End.TheVariants.{From}
use Rattle.gate_net.specs.declared.net.GateNet.{GateNet}
use Rattle.gate_net.specs.Net.{IsThere, IsEndThere, AreGates, IsGateNet, EachGateIsUsed}
use Rattle.flow_net.specs.declared.net.Net.{Net}
use Rattle.flow_net.specs.declared.net.Flow.{Flow}
use Rattle.flow_net.specs.declared.net.Epochs.{Epochs}
use Rattle.flow_net.specs.Flows.{out_minus_in, wants, IsFullFlow, flow_value}
use Rattle.flow_net.specs.Network.{network_of}
use Rattle.flow_net.specs.Epochs.{dro_count}
use Rattle.stage_flow.specs.Residual.{Way, ways_of}
use Rattle.stage_flow.specs.Rounds.{best_to}
use Rattle.stage_flow.specs.LeastEpochs.{AreLeastEpochs}
use Rattle.stage_flow.specs.LawsOfEpochs.{Fits, FitsFlow, IsLastArc, AreLabelsFromSource, not_below, epochs_by}
use Rattle.stage_flow.proofs.LeastLengths.{labels-least}

-- drivers: input a, input b, the NOT, the AND; vertices: the source, the NOT, the AND, the sink, and the mirrors of the drivers
abbrev net : Net
net = record {
  gates = 2;
  drivers = 4;
  pins = record { driver = 1; from = 0; to = 1; weight = 1 }
      ∷ record { driver = 0; from = 0; to = 2; weight = 1 }
      ∷ record { driver = 2; from = 1; to = 2; weight = 1 }
      ∷ record { driver = 3; from = 2; to = 3; weight = 1 } ∷ [];
}

-- the flow of all rounds
abbrev flow : Flow
flow = record {
  pins = record { forward = 2; back = 1 } ∷ record { forward = 0; back = 1 } ∷ record { forward = 2; back = 1 } ∷ record { forward = 1; back = 1 } ∷ [];
}

-- Of the arcs all but the one that carries nothing have their reverses.
heads : map (λ way. way.head) (ways_of net flow) ≡ 1 ∷ 0 ∷ 5 ∷ 1 ∷ 2 ∷ 4 ∷ 2 ∷ 2 ∷ 1 ∷ 6 ∷ 2 ∷ 3 ∷ 2 ∷ 7 ∷ 3 ∷ []
heads = refl

-- how far each vertex is from the source
abbrev far : ℕ → ℤ
far vertex = pos (get_or (0 ∷ 1 ∷ 2 ∷ 3 ∷ 1 ∷ 0 ∷ 1 ∷ 2 ∷ []) vertex 0)

not_is_far : best_to net flow 0 1 ≡ Some (record { length = far 1; hops = 1 })
not_is_far = refl

and_is_far : best_to net flow 0 2 ≡ Some (record { length = far 2; hops = 2 })
and_is_far = refl

sink_is_far : best_to net flow 0 3 ≡ Some (record { length = far 3; hops = 3 })
sink_is_far = refl

-- The mirror of a is as far as a's chain is long.
mirror_is_far : best_to net flow 0 4 ≡ Some (record { length = far 4; hops = 3 })
mirror_is_far = refl

-- So the epochs are these, and they cost what the flow is worth.
abbrev epochs : Epochs
epochs = record { gates = 1 ∷ 2 ∷ []; sink = 3 }

epochs_are : epochs_by net far ≡ epochs
epochs_are = refl

count_is : dro_count net epochs ≡ 1
count_is = refl

value_is : flow_value net flow ≡ pos 1
value_is = refl

-- A fall is no rise.
fall_is : not_below (negsuc 2) ≡ 0
fall_is = refl

-- These lengths are labels by a search from the source: they fit all residual arcs, and each vertex has an arc by which it is reached.
abbrev hops : ℕ → ℕ
hops vertex = get_or (0 ∷ 1 ∷ 2 ∷ 3 ∷ 3 ∷ 2 ∷ 3 ∷ 4 ∷ []) vertex 0

abbrev way_at : ℕ → Way
way_at k = get_or (ways_of net flow) k (record { tail = 0; head = 0; length = pos 0; number = 0; takes = false })

few : (vertex : ℕ) → vertex < 8 → hops vertex < 8
few zero within = lit< tt
few (suc zero) within = lit< tt
few (suc (suc zero)) within = lit< tt
few (suc (suc (suc zero))) within = lit< tt
few (suc (suc (suc (suc zero)))) within = lit< tt
few (suc (suc (suc (suc (suc zero))))) within = lit< tt
few (suc (suc (suc (suc (suc (suc zero)))))) within = lit< tt
few (suc (suc (suc (suc (suc (suc (suc zero))))))) within = lit< tt
few (suc (suc (suc (suc (suc (suc (suc (suc vertex)))))))) within = absurd (omega arith)

abbrev IsLast : ℕ → Way → Type 0
IsLast vertex way = IsLastArc far hops vertex way × (way.tail < 8)

comes : (vertex : ℕ) → suc vertex < 8 → Any (IsLast (suc vertex)) (ways_of net flow)
comes zero within = (0, way_at 0, lit< tt, refl, (record { ends = refl; reaches = refl; counts = refl }, lit< tt))
comes (suc zero) within = (7, way_at 7, lit< tt, refl, (record { ends = refl; reaches = refl; counts = refl }, lit< tt))
comes (suc (suc zero)) within = (11, way_at 11, lit< tt, refl, (record { ends = refl; reaches = refl; counts = refl }, lit< tt))
comes (suc (suc (suc zero))) within = (5, way_at 5, lit< tt, refl, (record { ends = refl; reaches = refl; counts = refl }, lit< tt))
comes (suc (suc (suc (suc zero)))) within = (2, way_at 2, lit< tt, refl, (record { ends = refl; reaches = refl; counts = refl }, lit< tt))
comes (suc (suc (suc (suc (suc zero))))) within = (9, way_at 9, lit< tt, refl, (record { ends = refl; reaches = refl; counts = refl }, lit< tt))
comes (suc (suc (suc (suc (suc (suc zero)))))) within = (13, way_at 13, lit< tt, refl, (record { ends = refl; reaches = refl; counts = refl }, lit< tt))
comes (suc (suc (suc (suc (suc (suc (suc vertex))))))) within = absurd (omega arith)

fits : FitsFlow net flow far
fits =
    All-from_recursion (Fits far) (ways_of net flow)
    (record { le = tt }, (record { le = tt }, (record { le = tt }, (record { le = tt }, (record { le = tt }, (record { le = tt }, (record { le = tt }, (record { le = tt }, (record { le = tt }, (record { le = tt }, (record { le = tt }, (record { le = tt }, (record { le = tt }, (record { le = tt }, (record { le = tt }, tt)))))))))))))))

labels : AreLabelsFromSource net flow far hops
labels = record { origin = refl; starts = refl; fits = fits; few = few; comes = comes }

-- ---- The least epochs, by the laws
-- gate 0 turns b, and gate 1 joins a with it
abbrev gates : GateNet
gates = record {
  inputs = 2;
  gates = record { cell = Not; pins = Input 1 ∷ [] } ∷ record { cell = And; pins = Input 0 ∷ Gate 0 ∷ [] } ∷ [];
  outputs = From (Gate 1) ∷ [];
}

network-is : network_of gates (0 ∷ 0 ∷ []) ≡ net
network-is = refl

are-gates : AreGates 2 gates.gates
are-gates zero d within = record {
  not_dro = λ e. cc;
  arity = refl;
  drivers = All-from_recursion (IsThere 2 0) (Input 1 ∷ []) (lit< tt, tt);
}
are-gates (suc zero) d within = record {
  not_dro = λ e. cc;
  arity = refl;
  drivers = All-from_recursion (IsThere 2 1) (Input 0 ∷ Gate 0 ∷ []) (lit< tt, (lit< tt, tt));
}
are-gates (suc (suc k)) d within = absurd (omega arith)

formed : IsGateNet gates
formed = record {
  gates = are-gates;
  outputs = All-from_recursion (IsEndThere 2 2) gates.outputs (lit< tt, tt);
  few_gates = lit< tt;
  few_outputs = lit< tt;
}

used : EachGateIsUsed gates
used zero within = (2, lit< tt, refl)
used (suc zero) within = (3, lit< tt, refl)
used (suc (suc k)) within = absurd (omega arith)

-- no vertex past the last is another
before : (a b : ℕ) → a < b → (a == b) ≡ false
before a b low = grind (arith, nat_tests)

past : (a b : ℕ) → b < a → (a == b) ≡ false
past a b high = grind (arith, nat_tests)

not_less : (a b : ℕ) → b ≤ a → nat_lt a b ≡ false
not_less a b high = grind (arith, nat_tests)

full-past : (k : ℕ) → 7 ≤ k → out_minus_in net flow (suc k) ≡ wants net (suc k)
full-past k high =
    simp (before 0 (suc k) (omega arith), before 1 (suc k) (omega arith), before 2 (suc k) (omega arith), before 3 (suc k) (omega arith), before 4 (suc k) (omega arith), before 5 (suc k) (omega arith), before 6 (suc k) (omega arith), before 7 (suc k) (omega arith), not_less k 2 (omega arith), past k 2 (omega arith), not_less k 7 (omega arith)) refl

full : IsFullFlow net flow
full = record { each = refl; wanted = wanted }
  where
    wanted : (vertex : ℕ) → out_minus_in net flow vertex ≡ wants net vertex
    wanted zero = refl
    wanted (suc zero) = refl
    wanted (suc (suc zero)) = refl
    wanted (suc (suc (suc zero))) = refl
    wanted (suc (suc (suc (suc zero)))) = refl
    wanted (suc (suc (suc (suc (suc zero))))) = refl
    wanted (suc (suc (suc (suc (suc (suc zero)))))) = refl
    wanted (suc (suc (suc (suc (suc (suc (suc zero))))))) = refl
    wanted (suc (suc (suc (suc (suc (suc (suc (suc k)))))))) = full-past (suc (suc (suc (suc (suc (suc (suc k))))))) (omega arith)

least : AreLeastEpochs net epochs
least = (labels-least gates (0 ∷ 0 ∷ []) flow far hops formed used (λ e. cc) full labels).0
