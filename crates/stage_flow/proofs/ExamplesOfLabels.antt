-- Not every part of a full flow has labels, so potentials are asked for. One input drives a NOT; both are outputs. The input's unit goes
-- straight to the sink, and back to the input's mirror. By the NOT is longer, so walks round, there and back, grow without end.
use Rattle.std.proofs.Common.{◌≡◌, ◌<◌, ◌≤◌, ◌==◌, ◌≤ℤ◌, ◌-ℤ◌, ℕ, zero, suc, lit<, arith, ℤ, pos, true, false, nat_lt, List, [], ◌∷◌, refl}
use Rattle.std.proofs.lemmas.Bool.Decides.{nat_tests}
use Rattle.std.proofs.lemmas.Int.{ints}
use Rattle.std.proofs.lemmas.List.Elements.{All-from_recursion}
use Rattle.cell_lib.specs.declared.cell.Cell.TheVariants.{Not}
use Rattle.gate_net.specs.declared.row.Driver.TheVariants.{Input, Gate}
use Rattle.gate_net.specs.declared.row.End.TheVariants.{From}
use Rattle.gate_net.specs.declared.net.GateNet.{GateNet}
use Rattle.gate_net.specs.Net.{IsThere, IsEndThere, AreGates, IsGateNet, EachGateIsUsed}
use Rattle.flow_net.specs.declared.net.Net.{Net}
use Rattle.flow_net.specs.declared.net.Flow.{Flow}
use Rattle.flow_net.specs.Network.{network_of}
use Rattle.flow_net.specs.Flows.{out_minus_in, wants}
use Rattle.stage_flow.specs.Residual.{Way}
use Rattle.stage_flow.specs.Longest.{is_better}
use Rattle.stage_flow.specs.LawsOfWalks.{led_by, label, AreLabels}
use Rattle.stage_flow.specs.LawsOfSending.{IsPartFlow, SomeMirrorWants}
use Rattle.stage_flow.proofs.Walks.{IsNoBetter, no_better-test}

abbrev gates : GateNet
gates = record {
  inputs = 1;
  gates = record { cell = Not; pins = Input 0 ∷ [] } ∷ [];
  outputs = From (Input 0) ∷ From (Gate 0) ∷ [];
}

-- drivers: the input, the NOT; vertices: the source, the NOT, the sink, and the mirrors of the drivers
abbrev net : Net
net = record {
  gates = 1;
  drivers = 2;
  pins = record { driver = 0; from = 0; to = 1; weight = 1 }
      ∷ record { driver = 0; from = 0; to = 2; weight = 1 }
      ∷ record { driver = 1; from = 1; to = 2; weight = 1 } ∷ [];
}

network-is : network_of gates (0 ∷ []) ≡ net
network-is = refl

formed : IsGateNet gates
formed = record {
  gates = are-gates;
  outputs = All-from_recursion (IsEndThere 1 1) gates.outputs (lit< tt, (lit< tt, tt));
  few_gates = lit< tt;
  few_outputs = lit< tt;
}
  where
    are-gates : AreGates 1 gates.gates
    are-gates zero d within = record {
      not_dro = λ e. cc;
      arity = refl;
      drivers = All-from_recursion (IsThere 1 0) (Input 0 ∷ []) (lit< tt, tt);
    }
    are-gates (suc k) d within = absurd (omega arith)

used : EachGateIsUsed gates
used zero within = (2, lit< tt, refl)
used (suc k) within = absurd (omega arith)

-- one unit from the source to the sink, and on to the input's mirror
abbrev flow : Flow
flow = record { pins = record { forward = 0; back = 0 } ∷ record { forward = 1; back = 1 } ∷ record { forward = 0; back = 0 } ∷ [] }

before : (a b : ℕ) → a < b → (a == b) ≡ false
before a b low = grind (arith, nat_tests)

past : (a b : ℕ) → b < a → (a == b) ≡ false
past a b high = grind (arith, nat_tests)

not_less : (a b : ℕ) → b ≤ a → nat_lt a b ≡ false
not_less a b high = grind (arith, nat_tests)

nothing-past : (k : ℕ) → 4 ≤ k → out_minus_in net flow (suc k) ≡ pos 0
nothing-past k high =
    simp (before 0 (suc k) (omega arith), before 1 (suc k) (omega arith), before 2 (suc k) (omega arith), before 3 (suc k) (omega arith), before 4 (suc k) (omega arith)) refl

none-wanted : (k : ℕ) → 4 ≤ k → wants net (suc k) ≡ pos 0
none-wanted k high = simp (not_less k 1 (omega arith), past k 1 (omega arith), not_less k 4 (omega arith)) refl

part : IsPartFlow net flow
part = record { each = refl; sent = sent; received = received }
  where
    sent : (vertex : ℕ) → vertex < 3 → (pos 0 ≤ℤ out_minus_in net flow vertex) × (out_minus_in net flow vertex ≤ℤ wants net vertex)
    sent zero within = (record { le = tt }, record { le = tt })
    sent (suc zero) within = (record { le = tt }, record { le = tt })
    sent (suc (suc zero)) within = (record { le = tt }, record { le = tt })
    sent (suc (suc (suc k))) within = absurd (omega arith)

    received : (vertex : ℕ) → 3 ≤ vertex → (wants net vertex ≤ℤ out_minus_in net flow vertex) × (out_minus_in net flow vertex ≤ℤ pos 0)
    received zero high = absurd (omega arith)
    received (suc zero) high = absurd (omega arith)
    received (suc (suc zero)) high = absurd (omega arith)
    received (suc (suc (suc zero))) high = (record { le = tt }, record { le = tt })
    received (suc (suc (suc (suc zero)))) high = (record { le = tt }, record { le = tt })
    received (suc (suc (suc (suc (suc k))))) high =
        let vertex = suc (suc (suc (suc k))) in
        let own = nothing-past vertex (omega arith) in
        let want = none-wanted vertex (omega arith) in
        (omega (arith, ints, own, want), omega (arith, ints, own))

-- the NOT's mirror still wants
some : SomeMirrorWants net flow
some = (4, refl)

-- By the NOT to the sink, and back by the unit on the direct arc: each label would be less than itself.
no_labels : (far : ℕ → ℤ) (hops : ℕ → ℕ) → AreLabels net flow far hops → ⊥
no_labels far hops labels =
    let to_not = fitted (record { tail = 0; head = 1; length = pos 1; number = 0; takes = false }) (labels.fits 0 none (lit< tt)) in
    let to_sink = fitted (record { tail = 1; head = 2; length = pos 1; number = 4; takes = false }) (labels.fits 6 none (lit< tt)) in
    let back = fitted none (labels.fits 3 none (lit< tt)) in
    omega (arith, ints, to_not.no_longer, to_sink.no_longer, back.no_longer)
  where
    none : Way
    none = record { tail = 2; head = 0; length = pos 0 -ℤ pos 1; number = 2; takes = true }

    fitted : (way : Way) → is_better (led_by way (label far hops way.head)) (label far hops way.tail) ≡ false → IsNoBetter (led_by way (label far hops way.head)) (label far hops way.tail)
    fitted way test = no_better-test (led_by way (label far hops way.head)) (label far hops way.tail) test

some_have_none :
    ((net : GateNet) (phases : List ℕ) (flow : Flow) → IsGateNet net → EachGateIsUsed net → IsPartFlow (network_of net phases) flow → SomeMirrorWants (network_of net phases) flow
    → (far : ℕ → ℤ) × (hops : ℕ → ℕ) × AreLabels (network_of net phases) flow far hops)
    → ⊥
some_have_none always = let (far, hops, labels) = always gates (0 ∷ []) flow formed used part some in no_labels far hops labels
