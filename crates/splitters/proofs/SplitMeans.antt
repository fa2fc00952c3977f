-- The netlist that `split` answers is valid and unfolds back, by the laws on the definition that it meets.
use Rattle.std.proofs.Common.{◌≡◌, ℕ, List, sym, subst}
use Rattle.std.specs.Prelude.{Option, sum}
use Rattle.pulse_net.specs.declared.net.Element.{Element}
use Rattle.pulse_net.specs.declared.net.Outlet.{Outlet}
use Rattle.pulse_net.specs.declared.net.Names.{Names}
use Rattle.pulse_net.specs.declared.net.PulseNet.{PulseNet}
use Rattle.pulse_net.specs.Validity.{IsValid}
use Rattle.pulse_net.specs.Unfolding.{unfolded}
use Rattle.dro_chains.specs.declared.chain.Chained.{Chained}
use Rattle.splitters.specs.Elements.{gate_pins, inputs_of, outlets, layout_of, elements_of}
use Rattle.splitters.specs.Laws.{KeepsTime, HasNames, UnfoldsBack}
use Rattle.splitters.proofs.valid.Whole.{layout_is_valid}
use Rattle.splitters.proofs.unfolds.Whole.{chains_unfold}

-- the netlist of these parts
abbrev net_with : Chained → Names → List (Option ℕ) → List Element → List Outlet → PulseNet
net_with chained names inputs elements outputs =
    record { names = names; phases = chained.n; latency = chained.latency; inputs = inputs; elements = elements; outputs = outputs }

-- Where they are the defined parts, it is the defined netlist.
net_with-is : (chained : Chained) (names : Names) (inputs : List (Option ℕ)) (elements : List Element) (outputs : List Outlet) →
    inputs ≡ inputs_of chained → elements ≡ (layout_of chained).elements → outputs ≡ outlets (layout_of chained).taken (gate_pins chained.gates.gates) chained.gates.outputs →
    net_with chained names inputs elements outputs ≡ elements_of chained names
net_with-is chained names inputs elements outputs a b c =
    λ i. record { names = names; phases = chained.n; latency = chained.latency; inputs = a i; elements = b i; outputs = c i }

pub net_with-valid : (chained : Chained) (names : Names) (inputs : List (Option ℕ)) (elements : List Element) (outputs : List Outlet) →
    inputs ≡ inputs_of chained → elements ≡ (layout_of chained).elements → outputs ≡ outlets (layout_of chained).taken (gate_pins chained.gates.gates) chained.gates.outputs →
    HasNames chained names → KeepsTime chained → IsValid (net_with chained names inputs elements outputs)
net_with-valid chained names inputs elements outputs a b c named timed =
    subst IsValid (sym (net_with-is chained names inputs elements outputs a b c)) (layout_is_valid chained names timed named)

unfolds-back : (chained : Chained) (names : Names) → UnfoldsBack chained (elements_of chained names)
unfolds-back chained names gates phases n epochs has made =
    subst (λ (c : Chained). unfolded (elements_of c names) ≡ record { gates = gates; phases = phases; epochs = epochs; dros = sum c.lengths }) (sym made)
    (chains_unfold gates phases n epochs names has)

pub net_with-unfolds : (chained : Chained) (names : Names) (inputs : List (Option ℕ)) (elements : List Element) (outputs : List Outlet) →
    inputs ≡ inputs_of chained → elements ≡ (layout_of chained).elements → outputs ≡ outlets (layout_of chained).taken (gate_pins chained.gates.gates) chained.gates.outputs →
    UnfoldsBack chained (net_with chained names inputs elements outputs)
net_with-unfolds chained names inputs elements outputs a b c =
    subst (UnfoldsBack chained) (sym (net_with-is chained names inputs elements outputs a b c)) (unfolds-back chained names)
