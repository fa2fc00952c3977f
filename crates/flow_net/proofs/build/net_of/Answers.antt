use Rattle.std.proofs.Common.{◌≡◌, ◌≤◌, ◌^◌, ◌+◌, ◌∙◌, ℕ, length, get_or, map, All, sym, ap, subst, arith}
use Rattle.gate_net.specs.Net.{IsThere}
use Rattle.flow_net.specs.declared.uses.Use.{Use}
use Rattle.flow_net.specs.Uses.{uses_of, used_below, used_inputs, IsInputBelow}
use Rattle.flow_net.specs.Network.{pin_by, pin_of}
use Rattle.flow_net.proofs.UseLemmas.{uses-there, uses-inputs}
use Rattle.flow_net.proofs.NetworkLemmas.{gates-le-uses}
use Rattle.flow_net.proofs.NumberLemmas.{used_below-le-uses, pins-by_table, last_number}
use Rattle.flow_net.proofs.build.net_of.Goals as goal

pub input_numbers-requires : goal.input_numbers-requires
input_numbers-requires c =
    subst (All (λ (one : Use). IsInputBelow c.args.net.now.inputs one.driver)) (sym (c.as_slice.ensures.value ∙ c.in_ok-uses.ensures))
    (uses-inputs c.args.net.now c.requires.formed)

pub pins-requires-clause-there : goal.pins-requires-clause-there
pins-requires-clause-there c =
    let few = c.requires.formed.few_gates in
    subst (All (λ (one : Use). IsThere c.args.net.now.inputs (2 ^ 31) one.driver)) (sym (c.as_slice-4.ensures.value ∙ c.in_ok-uses.ensures))
    (uses-there c.args.net.now (2 ^ 31) (omega arith) c.requires.formed)

pub pins-requires-clause-few : goal.pins-requires-clause-few
pins-requires-clause-few c =
    let net = c.args.net.now in
    let uses : c.as_slice.result.now ≡ uses_of net = c.as_slice.ensures.value ∙ c.in_ok-uses.ensures in
    let table : get_or c.as_slice-2.result.now net.inputs 0 ≡ used_below c.as_slice.result.now net.inputs =
    ap (λ xs. get_or xs net.inputs 0) c.as_slice-2.ensures.value ∙ c.in_ok-numbers.ensures.value net.inputs (omega arith) in
    omega (arith, table, used_below-le-uses c.as_slice.result.now net.inputs, ap length uses, c.requires.few_pins)

pub overflow_add-result : goal.overflow_add-result
overflow_add-result c =
    let net = c.args.net.now in
    let uses : c.as_slice.result.now ≡ uses_of net = c.as_slice.ensures.value ∙ c.in_ok-uses.ensures in
    let last : c.index.result.now ≡ used_inputs net =
    last_number c.in_ok-numbers.numbers.items c.as_slice.result.now (uses_of net) net.inputs c.index.result.now
    c.in_ok-numbers.ensures.each c.index.ensures (c.in_ok-numbers.ensures.value net.inputs (omega arith)) uses in
    omega (arith, last, c.len-gates.ensures, used_below-le-uses (uses_of net) net.inputs, c.requires.few_pins, c.requires.formed.few_gates)

pub returns-clause-value : goal.returns-clause-value
returns-clause-value c =
    let net = c.args.net.now in
    let phases = c.args.phases.now in
    let uses : c.as_slice.result.now ≡ uses_of net = c.as_slice.ensures.value ∙ c.in_ok-uses.ensures in
    let last : c.index.result.now ≡ used_inputs net =
    last_number c.in_ok-numbers.numbers.items c.as_slice.result.now (uses_of net) net.inputs c.index.result.now
    c.in_ok-numbers.ensures.each c.index.ensures (c.in_ok-numbers.ensures.value net.inputs (omega arith)) uses in
    let table : (i : ℕ) → i ≤ net.inputs → get_or c.in_ok-numbers.numbers.items i 0 ≡ used_below (uses_of net) i =
    λ i within. c.in_ok-numbers.ensures.value i within ∙ ap (λ us. used_below us i) uses in
    let pins : c.from_vec.result ≡ map (pin_of net phases) (uses_of net) =
    c.from_vec.ensures ∙ c.in_ok-pins.ensures
    ∙ ap (λ xs. map (pin_by xs net.inputs c.as_slice-3.result.now) c.as_slice-4.result.now) c.as_slice-2.ensures.value
    ∙ ap (λ ps. map (pin_by c.in_ok-numbers.numbers.items net.inputs ps) c.as_slice-4.result.now) c.as_slice-3.ensures
    ∙ ap (map (pin_by c.in_ok-numbers.numbers.items net.inputs phases)) (c.as_slice-4.ensures.value ∙ c.in_ok-uses.ensures)
    ∙ pins-by_table net phases c.in_ok-numbers.numbers.items (length net.gates) table (uses_of net) (uses-there net (length net.gates) (omega arith) c.requires.formed) in
    λ i. record { gates = c.len-gates.ensures i; drivers = last i + c.len-gates.ensures i; pins = pins i }

pub returns-clause-few : goal.returns-clause-few
returns-clause-few c =
    let net = c.args.net.now in
    let uses : c.as_slice.result.now ≡ uses_of net = c.as_slice.ensures.value ∙ c.in_ok-uses.ensures in
    let last : c.index.result.now ≡ used_inputs net =
    last_number c.in_ok-numbers.numbers.items c.as_slice.result.now (uses_of net) net.inputs c.index.result.now
    c.in_ok-numbers.ensures.each c.index.ensures (c.in_ok-numbers.ensures.value net.inputs (omega arith)) uses in
    omega (arith, last, c.len-gates.ensures, used_below-le-uses (uses_of net) net.inputs, gates-le-uses net c.requires.formed, c.requires.few_pins)
