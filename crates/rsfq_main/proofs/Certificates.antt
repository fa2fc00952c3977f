-- What `check` answers. A netlist that breaks no rule is judged by its unfolded gates, and where the flow shows that their epochs need
-- the fewest DROs, the netlist, which has just as many, has the fewest of all that unfold to the same.
use Rattle.std.proofs.Common.{◌≡◌, ◌≤◌, ◌⊎◌, ℕ, List, Result, Ok, Err, IsOk, IfOk, codes, refl, sym, ap, subst, ◌∙◌}
use Rattle.std.proofs.lemmas.Bool.{true≢false}
use Rattle.net_base.specs.Answers.{◌>>=◌, Gives}
use Rattle.flow_net.specs.declared.net.Net.{Net}
use Rattle.flow_net.specs.declared.net.Flow.{Flow}
use Rattle.flow_net.specs.Network.{network_of}
use Rattle.flow_net.specs.Epochs.{HasFewestDros, dro_count}
use Rattle.pulse_net.specs.declared.net.PulseNet.{PulseNet}
use Rattle.pulse_net.specs.declared.fault.Invalid.{Invalid}
use Rattle.pulse_net.specs.declared.unfolding.Unfolded.{Unfolded}
use Rattle.pulse_net.specs.Validity.{Wiring, IsValid, wiring_of}
use Rattle.pulse_net.specs.Unfolding.{unfolded}
use Rattle.pulse_net.specs.Balance.{unfolded_network}
use Rattle.pulse_net.specs.Dros.{dros as dros_of}
use Rattle.pulse_net.proofs.CallerLemmas.{unfolds_its_dros}
use Rattle.pulse_net.proofs.UnfoldedNetwork.{no_netlist_has_fewer_dros}
use Rattle.netlist_text.specs.declared.fault.TextFault.{TextFault}
use Rattle.netlist_text.specs.Parsing.{parsed}
use Rattle.rsfq_main.specs.declared.objection.Objection.{Objection}
use Rattle.rsfq_main.specs.declared.objection.Objection.TheVariants.{Breaks}
use Rattle.rsfq_main.specs.declared.objection.ExamineFault.{ExamineFault}
use Rattle.rsfq_main.specs.declared.fault.Fault.{Fault}
use Rattle.rsfq_main.specs.declared.fault.Fault.TheVariants as faults
use Rattle.rsfq_main.specs.Faults.{Text, Denied, fault_of, refused_as}
use Rattle.rsfq_main.specs.Outcomes.{Answers}
use Rattle.rsfq_main.specs.Summary.{count_line}
use Rattle.rsfq_main.specs.Check.{judged, examined, examined_line, check_of, told, HasFewest}
use Rattle.rsfq_main.proofs.NetlistRefusals.{fault-answers}

-- ---- A netlist

-- Of a valid netlist the unfolded gates are judged.
pub valid-examined : (net : PulseNet) (flow : Flow) → IsValid net → examined net flow ≡ judged (unfolded net) flow
valid-examined net flow valid = by (wiring_of net) valid.unbroken
  where
    by : (wiring : Result Wiring Invalid) → IsOk wiring → (refused_as Breaks wiring >>= λ wiring. judged (unfolded net) flow) ≡ judged (unfolded net) flow
    by (Ok wiring) is = refl
    by (Err invalid) is = absurd (true≢false (sym is))

-- Where no balanced epochs need fewer DROs than its own, and it has just as many as these need, it has the fewest.
pub has_fewest : (net : PulseNet) → IsValid net → HasFewestDros (unfolded_network (unfolded net)) (unfolded net).epochs → dros_of net.elements ≡ dro_count (unfolded_network (unfolded net)) (unfolded net).epochs → HasFewest net
has_fewest net valid fewest count = record {
  valid = valid;
  fewest = fewest;
  count = count;
  least = λ other its_valid gates phases.
      let same : unfolded_network (unfolded net) ≡ unfolded_network (unfolded other) =
      sym (ap (λ its_gates. network_of its_gates (unfolded other).phases) gates ∙ ap (network_of (unfolded net).gates) phases) in
      let no_fewer = no_netlist_has_fewer_dros other (unfolded net).epochs its_valid (subst (λ (n : Net). HasFewestDros n (unfolded net).epochs) same fewest) in
      subst (λ (k : ℕ). k ≤ dros_of other.elements) (sym (count ∙ ap (λ (n : Net). dro_count n (unfolded net).epochs) same)) no_fewer;
}

-- What judges the unfolded gates of a valid netlist examines it.
pub judged-fewest : (net : PulseNet) (u : Unfolded) (result : Result ℕ ExamineFault) → IsValid net → u ≡ unfolded net
    → IfOk result (λ dros. HasFewestDros (unfolded_network u) u.epochs) → IfOk result (λ dros. (dros ≡ u.dros) × (dros ≡ dro_count (unfolded_network u) u.epochs)) → IfOk result (λ dros. HasFewest net)
judged-fewest net u (Ok dros) valid is fewest counts =
    has_fewest net valid (subst (λ (u : Unfolded). HasFewestDros (unfolded_network u) u.epochs) is fewest)
    (sym (unfolds_its_dros net) ∙ sym (subst (λ (u : Unfolded). dros ≡ u.dros) is counts.0) ∙ subst (λ (u : Unfolded). dros ≡ dro_count (unfolded_network u) u.epochs) is counts.1)
judged-fewest net u (Err fault) valid is fewest counts = tt

pub judged-count : (net : PulseNet) (u : Unfolded) (result : Result ℕ ExamineFault) → u ≡ unfolded net → IfOk result (λ dros. (dros ≡ u.dros) × (dros ≡ dro_count (unfolded_network u) u.epochs)) → IfOk result (λ dros. dros ≡ dros_of net.elements)
judged-count net u (Ok dros) is counts = counts.0 ∙ ap (λ (u : Unfolded). u.dros) is ∙ unfolds_its_dros net
judged-count net u (Err fault) is counts = tt

pub judged-examined : (net : PulseNet) (flow : Flow) (u : Unfolded) (result : Result ℕ ExamineFault) → IsValid net → u ≡ unfolded net → Gives (λ dros. Ok dros) told result (judged u flow) → Gives (λ dros. Ok dros) told result (examined net flow)
judged-examined net flow u result valid is judges =
    subst (λ (answer : Result ℕ Objection). Gives (λ dros. Ok dros) told result answer) (ap (λ (u : Unfolded). judged u flow) is ∙ sym (valid-examined net flow valid)) judges

-- ---- What objects

-- The fault of an objection, or want of memory, answers for a netlist that is objected to,
pub objection-answers : (net : PulseNet) (flow : Flow) (means : List ℕ → Type 0) (objection : Objection) (fault : Fault) → examined net flow ≡ Err objection → (fault ≡ fault_of (Denied objection)) ⊎ (fault ≡ faults.NoMemory) → Answers (examined_line net flow) means (Err fault)
objection-answers net flow means objection fault is =
    fault-answers (examined_line net flow) means (Denied objection) fault (ap (λ (answer : Result ℕ Objection). refused_as Denied answer >>= λ dros. Ok (count_line (codes "fewest") dros)) is)

-- and that of a text that is no netlist text for the text.
pub text-answers : (text : List ℕ) (means : List ℕ → Type 0) (wrong : TextFault) (fault : Fault) → parsed text ≡ Err wrong → (fault ≡ fault_of (Text wrong)) ⊎ (fault ≡ faults.NoMemory) → Answers (check_of text) means (Err fault)
text-answers text means wrong fault is =
    fault-answers (check_of text) means (Text wrong) fault (ap (λ (read : Result (PulseNet × Flow) TextFault). refused_as Text read >>= λ pair. examined_line pair.0 pair.1) is)
