-- The gates of a netlist against its wires, as far as it is unfolded: what is known, and one gate more.
use Rattle.std.proofs.Common.{◌≡◌, ◌<◌, ◌≤◌, ◌⊎◌, inl, inr, ℕ, Bool, false, nat_eq, List, [], ◌∷◌, ◌++◌, length, get_or, sym, ap, ◌∙◌, arith}
use Rattle.std.specs.Prelude.{Some, None}
use Rattle.std.specs.Cmp.{nat_eq_equiv}
use Rattle.std.proofs.lemmas.Bool.{cases_lt}
use Rattle.std.proofs.lemmas.List.{length_push, get_or_append_left, get_or_push}
use Rattle.net_base.proofs.CallerLemmas.{lookup-found, lookup-push}
use Rattle.gate_net.specs.declared.row.GateRow.{GateRow}
use Rattle.gate_net.specs.Net.{IsGate, AreGates}
use Rattle.gate_net.specs.declared.row.Driver.TheVariants.{Gate}
use Rattle.gate_net.specs.Values.{gate_value, values_by}
use Rattle.gate_net.proofs.CallerLemmas.{AreGates-push, driver-more, value-new}
use Rattle.pulse_net.specs.Wires.{Wires, found}
use Rattle.pulse_net.specs.Unfolding.{Unfolding}
use Rattle.pulse_net.proofs.PulsesAreGateValues.DriverValues.{Agree}

-- The gates so far are well formed, and the wire of each is made at the gate's stage and has the gate's value.
pub record GatesKnown (inputs : ℕ) (bits : List Bool) (gates : List GateRow) (stages outs : List ℕ) (made : Wires ℕ) (values : Wires Bool) : Type 0 where
  pub formed : AreGates inputs gates
  pub each_stage : length stages ≡ length gates
  pub each_wire : length outs ≡ length gates
  pub staged : (k : ℕ) → k < length gates → found made (get_or outs k 0) ≡ Some (get_or stages k 0)
  pub valued : (k : ℕ) → k < length gates → found values (get_or outs k 0) ≡ Some (get_or (values_by bits gates) k false)

-- what is known of a netlist as far as it is unfolded
pub record Traced (inputs : ℕ) (bits : List Bool) (made : Wires ℕ) (values : Wires Bool) (so : Unfolding) (outs : List ℕ) : Type 0 where
  pub wires : Agree inputs bits so.gates made values so.wires
  pub known : GatesKnown inputs bits so.gates so.stages outs made values

module _ (inputs : ℕ) (bits : List Bool) where
  -- wires that are made later take nothing away
  pub gates_known-wires : (gates : List GateRow) (stages outs : List ℕ) (a a' : Wires ℕ) (b b' : Wires Bool) → GatesKnown inputs bits gates stages outs a b → GatesKnown inputs bits gates stages outs (a ++ a') (b ++ b')
  gates_known-wires gates stages outs a a' b b' h = record {
    formed = h.formed;
    each_stage = h.each_stage;
    each_wire = h.each_wire;
    staged = λ k within. lookup-found (nat_eq (get_or outs k 0)) a a' (get_or stages k 0) (h.staged k within);
    valued = λ k within. lookup-found (nat_eq (get_or outs k 0)) b b' (get_or (values_by bits gates) k false) (h.valued k within);
  }

  -- a gate more, with its stage and its new wire
  pub gates_known-push : (gates : List GateRow) (row : GateRow) (stages outs : List ℕ) (stage out : ℕ) (a : Wires ℕ) (b : Wires Bool) → GatesKnown inputs bits gates stages outs a b → IsGate inputs (length gates) row → found a out ≡ None → found b out ≡ None → GatesKnown inputs bits (gates ++ row ∷ []) (stages ++ stage ∷ []) (outs ++ out ∷ []) (a ++ (out, stage) ∷ []) (b ++ (out, gate_value bits (values_by bits gates) row) ∷ [])
  gates_known-push gates row stages outs stage out a b h gate no_stage no_value = record {
    formed = AreGates-push inputs gates row h.formed gate;
    each_stage = omega (arith, h.each_stage, length_push stages stage, length_push gates row);
    each_wire = omega (arith, h.each_wire, length_push outs out, length_push gates row);
    staged = λ k within. at_stage k within (cases_lt k (length gates));
    valued = λ k within. at_value k within (cases_lt k (length gates));
  }
    where
      value : Bool
      value = gate_value bits (values_by bits gates) row

      before_out : (k : ℕ) → k < length gates → get_or (outs ++ out ∷ []) k 0 ≡ get_or outs k 0
      before_out k before = get_or_append_left outs (out ∷ []) 0 k (omega (arith, h.each_wire))

      last_out : (k : ℕ) → length gates ≡ k → get_or (outs ++ out ∷ []) k 0 ≡ out
      last_out k last = get_or_push outs out 0 k (omega (arith, h.each_wire))

      at_stage : (k : ℕ) → k < length (gates ++ row ∷ []) → (k < length gates) ⊎ (length gates ≤ k) → found (a ++ (out, stage) ∷ []) (get_or (outs ++ out ∷ []) k 0) ≡ Some (get_or (stages ++ stage ∷ []) k 0)
      at_stage k within (inl before) =
          let same : get_or (stages ++ stage ∷ []) k 0 ≡ get_or stages k 0 = get_or_append_left stages (stage ∷ []) 0 k (omega (arith, h.each_stage)) in
          ap (found (a ++ (out, stage) ∷ [])) (before_out k before) ∙ lookup-found (nat_eq (get_or outs k 0)) a ((out, stage) ∷ []) (get_or stages k 0) (h.staged k before) ∙ ap Some (sym same)
      at_stage k within (inr behind) =
          let last : length gates ≡ k = omega (arith, length_push gates row) in
          let same : get_or (stages ++ stage ∷ []) k 0 ≡ stage = get_or_push stages stage 0 k (omega (arith, h.each_stage)) in
          ap (found (a ++ (out, stage) ∷ [])) (last_out k last) ∙ lookup-push (nat_eq out) a out stage (nat_eq_equiv.refl out) no_stage ∙ ap Some (sym same)

      at_value : (k : ℕ) → k < length (gates ++ row ∷ []) → (k < length gates) ⊎ (length gates ≤ k) → found (b ++ (out, gate_value bits (values_by bits gates) row) ∷ []) (get_or (outs ++ out ∷ []) k 0) ≡ Some (get_or (values_by bits (gates ++ row ∷ [])) k false)
      at_value k within (inl before) =
          ap (found (b ++ (out, value) ∷ [])) (before_out k before) ∙ lookup-found (nat_eq (get_or outs k 0)) b ((out, value) ∷ []) (get_or (values_by bits gates) k false) (h.valued k before) ∙ ap Some (sym (driver-more bits inputs gates (row ∷ []) (Gate k) before))
      at_value k within (inr behind) =
          let last : length gates ≡ k = omega (arith, length_push gates row) in
          ap (found (b ++ (out, value) ∷ [])) (last_out k last) ∙ lookup-push (nat_eq out) b out value (nat_eq_equiv.refl out) no_value ∙ ap Some (sym (value-new bits gates row k last))
