-- The wires of inputs, one after the other.
use Rattle.std.proofs.Common.{◌≡◌, ◌<◌, ◌+◌, ◌-◌, ℕ, suc, Bool, cond, List, [], ◌∷◌, ◌++◌, Option, Some, None, ap, sym, ◌∙◌, append_assoc, arith}
use Rattle.flow_net.specs.Uses.{uses_of, is_used}
use Rattle.dro_chains.specs.declared.chain.Chained.{Chained}
use Rattle.splitters.specs.Elements.{input_wires}

-- One input, and then the rest.
input_wires-next : (chained : Chained) (input next inputs : ℕ) → input < inputs →
    input_wires chained input next (inputs - input)
    ≡ cond (is_used input (uses_of chained.gates)) (Some next) None ∷ input_wires chained (input + 1) (next + cond (is_used input (uses_of chained.gates)) 1 0) (inputs - (input + 1))
input_wires-next chained input next inputs within =
    let more : inputs - input ≡ suc (inputs - (input + 1)) = omega arith in
    ap (input_wires chained input next) more

-- The wires so far with those that are left stay the wires of all inputs, as one is added.
pub input_wires-pushed : (chained : Chained) (input next inputs after : ℕ) (used : Bool) (old new : List (Option ℕ)) → input < inputs → used ≡ is_used input (uses_of chained.gates) →
    new ≡ old ++ cond used (Some next) None ∷ [] → after ≡ next + cond used 1 0 →
    new ++ input_wires chained (input + 1) after (inputs - (input + 1)) ≡ old ++ input_wires chained input next (inputs - input)
input_wires-pushed chained input next inputs after used old new within used_is new_is after_is =
    (λ i. new_is i ++ input_wires chained (input + 1) (after_is i) (inputs - (input + 1)))
    ∙ append_assoc old (cond used (Some next) None ∷ []) (input_wires chained (input + 1) (next + cond used 1 0) (inputs - (input + 1)))
    ∙ (λ i. old ++ (cond (used_is i) (Some next) None ∷ input_wires chained (input + 1) (next + cond (used_is i) 1 0) (inputs - (input + 1))))
    ∙ ap (λ (xs : List (Option ℕ)). old ++ xs) (sym (input_wires-next chained input next inputs within))
