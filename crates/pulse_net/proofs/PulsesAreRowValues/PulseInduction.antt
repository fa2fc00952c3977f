-- Pulses against row values, wire by wire: the induction over a netlist's elements.
--
-- Three folds go over the same wires in the same order: stages, values over row c, and signals. Where they agree on all
-- wires made so far, they agree on those of the next element. A splitter hands on what it has. For a cell of stage s, look
-- at tick n * c + s. A pin's wire has a stage s - D, where 1 to n is the gap D, and by the window lemma what pulsed on the
-- pin within the n ticks before is what the wire does at tick n * c + (s - D): its value over row c. So the cell computes
-- its value of the pins' values. At ticks that are not s modulo n it has no clock. No induction over ticks is needed.
use Rattle.std.proofs.Common.{◌≡◌, ℕ, suc, ◌+◌, ◌*◌, ◌%◌, Bool, true, false, List, [], ◌∷◌, map, get_or, refl, sym, ap, subst, ◌∙◌, arith}
use Rattle.std.specs.Prelude.{Option, Some, None, unwrap_or, ◌==◌}
use Rattle.std.proofs.lemmas.Bool.{eqb-true, eq-eqb, true≢false}
use Rattle.std.proofs.Math.Nat.{mul-add-mod_self_left}
use Rattle.cell_lib.specs.declared.cell.Cell.{Cell}
use Rattle.cell_lib.specs.Cell.{cell_value}
use Rattle.pulse_net.specs.declared.net.Element.{Element}
use Rattle.pulse_net.specs.declared.net.Element.TheVariants.{Clocked, Split}
use Rattle.pulse_net.specs.Wires.{Wires, carried, input_entries, element_wires, after_elements, input_stage, cell_stage}
use Rattle.pulse_net.specs.Pulses.{Signal, silence, pulsed_within, input_signal, on_clock, window_value, cell_signal, spread}
use Rattle.pulse_net.specs.RowValues.{input_value, stageless_value}
use Rattle.pulse_net.proofs.RelatedWires.{Related, none, more, related-append, related-found}
use Rattle.pulse_net.proofs.PulsesAreRowValues.WindowLemma.{pulsed_within-at_clock}
use Rattle.pulse_net.proofs.PulsesAreRowValues.SpreadRows.{spread-row, spread-clocked}
use Rattle.pulse_net.specs.Wired.{ArriveInTime, ElementInTime, ElementsInTime}

-- With n phases, a signal of a wire of stage s keeps to the clock of s, and at tick n * c + s it pulses where the value is
-- true. Nothing is said of earlier rows: while the pipeline fills a NOT pulses too, and nobody reads that.
pub record Carries (n c stage : ℕ) (value : Bool) (signal : Signal) : Type 0 where
  pub clocked : (tick : ℕ) → signal tick ≡ true → tick % n ≡ stage % n
  pub on_time : signal (n * c + stage) ≡ value

-- stages, values over row c and signals of the same wires, in one order
abbrev pub Aligned : ℕ → ℕ → Wires ℕ → Wires Bool → Wires Signal → Type 0
Aligned n c = Related (Carries n c)

module _ (n c : ℕ) where
  -- in the window before its tick a cell sees of each pin what the pin's wire is worth
  windows_are_values : (stages : Wires ℕ) (values : Wires Bool) (signals : Wires Signal) → Aligned n c stages values signals → (user : ℕ) (pins : List ℕ) → ArriveInTime n stages user pins → map (λ pin. pulsed_within pin (n * c + user) n) (map (carried silence signals) pins) ≡ map (carried false values) pins
  windows_are_values stages values signals p user [] h = refl
  windows_are_values stages values signals p user (pin ∷ pins) h =
      let s = h.0.0 in
      let time = h.0.2 in
      let pulses = related-found false silence pin s p h.0.1 in
      let clock : (n * c + s) % n ≡ s % n = mul-add-mod_self_left n c s in
      let one = pulsed_within-at_clock n (carried silence signals pin) (n * c + user) (n * c + s) (λ t e. pulses.clocked t e ∙ sym clock) (omega (arith, time.after)) (omega (arith, time.within)) ∙ pulses.on_time in
      let rest = windows_are_values stages values signals p user pins h.1 in
      ap (λ x. x ∷ map (λ q. pulsed_within q (n * c + user) n) (map (carried silence signals) pins)) one ∙ ap (λ xs. carried false values pin ∷ xs) rest

  -- a cell pulses at its clock alone
  on_clock-true : (tick stage : ℕ) (here : Bool) (signal : Signal) → (tick % n == stage % n) ≡ here → on_clock here signal tick ≡ true → tick % n ≡ stage % n
  on_clock-true tick stage true signal e h = eqb-true (tick % n) (stage % n) e
  on_clock-true tick stage false signal e h = absurd (true≢false (sym h))

  cell_carries : (stages : Wires ℕ) (values : Wires Bool) (signals : Wires Signal) → Aligned n c stages values signals → (cell : Cell) (stage : ℕ) (pins : List ℕ) → ArriveInTime n stages stage pins → Carries n c stage (stageless_value cell stage (map (carried false values) pins)) (cell_signal n cell stage (map (carried silence signals) pins))
  cell_carries stages values signals p cell stage pins h =
      let there : ((n * c + stage) % n == stage % n) ≡ true = eq-eqb ((n * c + stage) % n) (stage % n) (mul-add-mod_self_left n c stage) in
      record {
        clocked = λ tick e. on_clock-true tick stage (tick % n == stage % n) (window_value n cell (map (carried silence signals) pins)) refl e;
        on_time = ap (λ here. on_clock here (window_value n cell (map (carried silence signals) pins)) (n * c + stage)) there ∙ ap (cell_value cell) (windows_are_values stages values signals p stage pins h);
      }

  element_carries : (stages : Wires ℕ) (values : Wires Bool) (signals : Wires Signal) → Aligned n c stages values signals → (element : Element) → ElementInTime n stages element → Aligned n c (element_wires 0 cell_stage stages element) (element_wires false stageless_value values element) (element_wires silence (cell_signal n) signals element)
  element_carries stages values signals p (Clocked cell stage pins out) h =
      more out stage _ _ [] [] [] (cell_carries stages values signals p cell stage pins h) none
  element_carries stages values signals p (Split from left right) h =
      let stage : h.0 ≡ carried 0 stages from = ap (λ o. unwrap_or o 0) (sym h.1) in
      let source = subst (λ s. Carries n c s (carried false values from) (carried silence signals from)) stage (related-found false silence from h.0 p h.1) in
      more left _ _ _ _ _ _ source (more right _ _ _ [] [] [] source none)

  pub elements_carry : (elements : List Element) (stages : Wires ℕ) (values : Wires Bool) (signals : Wires Signal) → Aligned n c stages values signals → ElementsInTime n stages elements → Aligned n c (after_elements 0 cell_stage stages elements) (after_elements false stageless_value values elements) (after_elements silence (cell_signal n) signals elements)
  elements_carry [] stages values signals p h = p
  elements_carry (element ∷ elements) stages values signals p h =
      elements_carry elements _ _ _ (related-append p (element_carries stages values signals p element h.0)) h.1

-- an input pulses at the first tick of the epoch of each row that has it
pub inputs_carry : (k c : ℕ) (rows : List (List Bool)) (inputs : List (Option ℕ)) (place : ℕ) → Aligned (suc k) c (input_entries input_stage place inputs) (input_entries (input_value (get_or rows c [])) place inputs) (input_entries (input_signal (spread (suc k) rows)) place inputs)
inputs_carry k c rows [] place = none
inputs_carry k c rows (None ∷ inputs) place = inputs_carry k c rows inputs (place + 1)
inputs_carry k c rows (Some wire ∷ inputs) place =
    let e : suc k * c + 0 ≡ suc k * c = omega arith in
    let zero_mod : 0 % suc k ≡ 0 = omega arith in
    more wire 0 _ _ _ _ _
    (record {
      clocked = λ tick h. spread-clocked k rows place tick h ∙ sym zero_mod;
      on_time = ap (input_signal (spread (suc k) rows) place) e ∙ ap (λ r. get_or r place false) (spread-row k rows c);
    })
    (inputs_carry k c rows inputs (place + 1))
