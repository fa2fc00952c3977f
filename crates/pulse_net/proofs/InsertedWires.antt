-- What it does to the wires to insert one that is new: its entry comes behind all others.
use Rattle.std.proofs.Common.{◌≡◌, ℕ, false, cond, nat_eq, List, [], ◌∷◌, ◌++◌, sym, ap, ◌∙◌}
use Rattle.std.specs.Prelude.{Option, None, Ok, is_some, if◌then◌else◌}
use Rattle.std.proofs.lemmas.Map.Made.{is_some-lookup}
use Rattle.indexmap.specs.IndexMap.{IndexMap, insert_entry}
use Rattle.indexmap.specs.IndexSet.{insert_key}
use Rattle.indexmap.proofs.CallerLemmas.{insert_entry-new}
use Rattle.net_base.proofs.CallerLemmas.{lookup-absent}
use Rattle.gate_net.specs.declared.row.Driver.{Driver}
use Rattle.pulse_net.specs.Wires.{Wires, found}
use Rattle.net_base.specs.Keys.{is_among}
use Rattle.pulse_net.specs.Validity.{Wiring, made_once, make_wire, with_used}
use Rattle.pulse_net.specs.Unfolding.{Unfolding, with_wire, make_driven}

-- a wire that is new is made with its driver, behind all others
pub with_wire-new : (wires : Wires Driver) (wire : ℕ) (driver : Driver) → found wires wire ≡ None → with_wire wires wire driver ≡ wires ++ (wire, driver) ∷ []
with_wire-new wires wire driver new = ap (λ (o : Option Driver). if is_some o then wires else wires ++ (wire, driver) ∷ []) new

-- a wire that isn't among the entries
absent : {A : Type 0} (wires : Wires A) (wire : ℕ) → is_some (found wires wire) ≡ false → found wires wire ≡ None
absent wires wire new = lookup-absent (nat_eq wire) wires (sym (is_some-lookup (nat_eq wire) wires) ∙ new)

module _ {S : Type 0} where
  -- is made by inserting it,
  pub make_wire-inserted : (wires : IndexMap ℕ ℕ S) (used : List ℕ) (wire stage : ℕ) (entries : Wires ℕ) → is_some (found wires.entries wire) ≡ false → entries ≡ insert_entry nat_eq wires.entries wire stage → make_wire wire stage (record { made = wires.entries; used = used }) ≡ Ok (record { made = entries; used = used })
  make_wire-inserted wires used wire stage entries new put =
      let none = absent wires.entries wire new in
      ap (made_once (record { made = wires.entries; used = used }) wire stage) none
      ∙ ap (λ made. Ok (record { made = made; used = used })) (sym (put ∙ insert_entry-new nat_eq wires wire stage none))

  -- with its driver too,
  pub make_driven-inserted : (wires : IndexMap ℕ Driver S) (so : Unfolding) (wire : ℕ) (driver : Driver) (entries : Wires Driver) → so.wires ≡ wires.entries → is_some (found wires.entries wire) ≡ false → entries ≡ insert_entry nat_eq wires.entries wire driver → record so { wires = entries } ≡ make_driven wire driver so
  make_driven-inserted wires so wire driver entries same new put =
      let none = absent wires.entries wire new in
      let gone : found so.wires wire ≡ None = ap (λ w. found w wire) same ∙ none in
      ap (λ w. record so { wires = w }) (put ∙ insert_entry-new nat_eq wires wire driver none ∙ ap (λ w. w ++ (wire, driver) ∷ []) (sym same) ∙ sym (with_wire-new so.wires wire driver gone))

-- and so is one used that isn't used yet.
pub with_used-inserted : (wiring : Wiring) (wire : ℕ) (keys : List ℕ) → is_among nat_eq wire wiring.used ≡ false → keys ≡ insert_key nat_eq wiring.used wire → record { made = wiring.made; used = keys } ≡ with_used wiring wire
with_used-inserted wiring wire keys new put =
    ap (λ u. record { made = wiring.made; used = u }) (put ∙ ap (λ b. cond b wiring.used (wiring.used ++ wire ∷ [])) new)
