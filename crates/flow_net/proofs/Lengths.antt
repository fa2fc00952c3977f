-- The list of chain lengths by its entries.
use Rattle.std.proofs.Common.{◌≡◌, ◌<◌, ◌++◌, ◌∙◌, ℕ, zero, suc, List, [], ◌∷◌, length, get_or, sym, subst, arith, ⊎_elim}
use Rattle.std.proofs.lemmas.List.{get_or_append_left, get_or_push, ext_get_or}
use Rattle.std.proofs.lemmas.Bool.{cases_lt}
use Rattle.flow_net.specs.declared.net.Pin.{Pin}
use Rattle.flow_net.specs.declared.net.Epochs.{Epochs}
use Rattle.flow_net.specs.Epochs.{chain_length, chain_lengths}
use Rattle.flow_net.proofs.NetworkLemmas.{length-chain_lengths}

-- The entry of a driver is its chain length.
get_or-chain_lengths : (epochs : Epochs) (pins : List Pin) (drivers d e : ℕ) → d < drivers → get_or (chain_lengths epochs pins drivers) d e ≡ chain_length epochs pins d
get_or-chain_lengths epochs pins zero d e within = absurd (omega arith)
get_or-chain_lengths epochs pins (suc drivers) d e within =
    let before = chain_lengths epochs pins drivers in
    let last = chain_length epochs pins drivers in
    let long : length before ≡ drivers = length-chain_lengths epochs pins drivers in
    ⊎_elim {C = get_or (before ++ last ∷ []) d e ≡ chain_length epochs pins d}
    (λ less. get_or_append_left before (last ∷ []) e d (let h : d < length before = omega arith in h) ∙ get_or-chain_lengths epochs pins drivers d e less)
    (λ more.
    let here : drivers ≡ d = omega arith in
    subst (λ x. get_or (before ++ last ∷ []) x e ≡ chain_length epochs pins x) here (get_or_push before last e drivers long))
    (cases_lt d drivers)

-- A list with these entries is the list of chain lengths.
pub chain_lengths-from_entries : (epochs : Epochs) (pins : List Pin) (drivers : ℕ) (lengths : List ℕ) → length lengths ≡ drivers → ((d : ℕ) → d < drivers → get_or lengths d 0 ≡ chain_length epochs pins d) → lengths ≡ chain_lengths epochs pins drivers
chain_lengths-from_entries epochs pins drivers lengths each says =
    ext_get_or 0 lengths (chain_lengths epochs pins drivers) (each ∙ sym (length-chain_lengths epochs pins drivers))
    (λ d within.
    let below : d < drivers = omega arith in
    says d below ∙ sym (get_or-chain_lengths epochs pins drivers d 0 below))
