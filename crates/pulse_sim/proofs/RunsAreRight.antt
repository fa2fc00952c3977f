-- A run over input rows: each tick shows what the netlist does under one row per n ticks, and each epoch reads it.
--
-- The pulses that the simulator stands for agree with those of the rows at all ticks so far. So by the law on later pulses
-- its outputs do at this tick what they do under all the rows. What is read in an epoch is what pulsed in its ticks, one
-- after the other.
use Rattle.std.proofs.Common.{◌≡◌, ℕ, zero, suc, ◌<◌, ◌≤◌, ◌+◌, ◌*◌, Bool, false, ◌||◌, List, [], ◌∷◌, ◌++◌, length, map, get_or, replicate, refl, sym, ap, ap₂, ◌∙◌, ⊎_elim, arith, append_assoc, length-append, mod-eq_of_lt}
use Rattle.std.specs.Prelude.{◌-◌, slice_index_or, drop, flat_map}
use Rattle.std.proofs.Math.ListN.{get_or-append}
use Rattle.std.proofs.Math.Seq.{get_or-append_seam}
use Rattle.std.proofs.Math.Nat.{mul-add-mod_self_left}
use Rattle.std.proofs.lemmas.Bool.{cases_order, false_from_ne_true}
use Rattle.std.proofs.lemmas.List.{length-map, get_or-drop}
use Rattle.std.specs.List.{range_with_len}
use Rattle.pulse_net.specs.declared.net.Outlet.{Outlet}
use Rattle.pulse_net.specs.declared.net.Outlet.TheVariants.{Zero, One, Wire}
use Rattle.pulse_net.specs.declared.net.PulseNet.{PulseNet}
use Rattle.pulse_net.specs.Pulses.{pulsed_within, input_signal, outlet_signal, signals_of, spread, value_read}
use Rattle.pulse_net.proofs.CallerLemmas.{spread-row, spread-clocked}
use Rattle.pulse_sim.specs.Simulators.{SimState, StandsFor, tap_of, output_pulses}
use Rattle.pulse_sim.specs.Reading.{digit, line_read}
use Rattle.pulse_sim.specs.Running.{seen_before, HasRun, Feeds, with_shown}
use Rattle.pulse_sim.proofs.LaterPulses.{Agree, signals-agree}
use Rattle.pulse_sim.proofs.ClockWindow.{pulsed_within-none}

-- the first tick of an epoch is fed by its row, where there is one
pub feeds-row : (net : PulseNet) (rows : List (List Bool)) (epoch : ℕ) (row : List Bool) → 1 ≤ net.phases → row ≡ slice_index_or rows epoch [] → Feeds net rows (net.phases * epoch) row
feeds-row net rows epoch row some e input = by net.phases some
  where
    by : (n : ℕ) → 1 ≤ n → slice_index_or row input false ≡ input_signal (spread n rows) input (n * epoch)
    by zero some = absurd (omega arith)
    by (suc k) some = ap (λ (r : List Bool). get_or r input false) (e ∙ sym (spread-row k rows epoch))

-- and its other ticks are silent
pub feeds-silence : (net : PulseNet) (rows : List (List Bool)) (epoch phase : ℕ) → 1 ≤ phase → phase < net.phases → Feeds net rows (net.phases * epoch + phase) []
feeds-silence net rows epoch phase late below input = by net.phases below
  where
    by : (n : ℕ) → phase < n → false ≡ input_signal (spread n rows) input (n * epoch + phase)
    by zero below = absurd (omega arith)
    by (suc k) below = sym (false_from_ne_true (input_signal (spread (suc k) rows) input (suc k * epoch + phase)) (λ pulse.
        let first = spread-clocked k rows input (suc k * epoch + phase) pulse in
        let its : phase ≡ 0 = sym (mul-add-mod_self_left (suc k) epoch phase ∙ mod-eq_of_lt below) ∙ first in
        let bad : ⊥ = omega (arith, its, late) in bad))

with_shown-map : {A : Type 0} (f g : A → Bool) (xs : List A) → with_shown (map f xs) (map g xs) ≡ map (λ x. f x || g x) xs
with_shown-map f g [] = refl
with_shown-map f g (x ∷ xs) = ap (λ bits. (f x || g x) ∷ bits) (with_shown-map f g xs)

map-same : {A : Type 0} (f g : A → Bool) → ((x : A) → f x ≡ g x) → (xs : List A) → map f xs ≡ map g xs
map-same f g h [] = refl
map-same f g h (x ∷ xs) = ap₂ (λ b bits. b ∷ bits) (h x) (map-same f g h xs)

module _ (net : PulseNet) (rows : List (List Bool)) where
  -- the pulses of the inputs that agree at the first ticks give outputs that do
  outlet-agrees : (pulses : List (List Bool)) (tick : ℕ) → ((input : ℕ) → Agree (suc tick) (input_signal pulses input) (input_signal (spread net.phases rows) input)) → (outlet : Outlet) → outlet_signal net.phases (signals_of net pulses) outlet tick ≡ outlet_signal net.phases (signals_of net (spread net.phases rows)) outlet tick
  outlet-agrees pulses tick same Zero = refl
  outlet-agrees pulses tick same One = refl
  outlet-agrees pulses tick same (Wire wire) = signals-agree net pulses (spread net.phases rows) (suc tick) same wire tick (omega arith)

  -- with the row of a tick the pulses agree at one tick more
  more-agree : (pulses : List (List Bool)) (tick : ℕ) (row : List Bool) → length pulses ≡ tick → ((input at : ℕ) → at < tick → input_signal pulses input at ≡ input_signal (spread net.phases rows) input at) → Feeds net rows tick row → (input at : ℕ) → at < suc tick → input_signal (pulses ++ row ∷ []) input at ≡ input_signal (spread net.phases rows) input at
  more-agree pulses tick row long same feeds input at early =
      ⊎_elim (λ here. ap (λ t. input_signal (pulses ++ row ∷ []) input t) (here ∙ sym long) ∙ ap (λ (r : List Bool). get_or r input false) (get_or-append_seam pulses row [] []) ∙ feeds input ∙ ap (λ t. input_signal (spread net.phases rows) input t) (sym here))
      (⊎_elim (λ lower. ap (λ (r : List Bool). get_or r input false) (get_or-append pulses (row ∷ []) [] at (let l : at < length pulses = omega (arith, long, lower) in l)) ∙ same input at lower)
      (λ above. absurd (let bad : ⊥ = omega (arith, above, early) in bad)))
      (cases_order at tick)

  -- One tick: what was run and read before, and the tick, is run and read.
  pub step-right : (sim after : SimState) (tick window : ℕ) (row shown read : List Bool) → HasRun net rows tick sim → Feeds net rows tick row
      → ((pulses : List (List Bool)) → StandsFor net sim pulses → shown ≡ output_pulses net (pulses ++ row ∷ []) (length pulses))
      → ((pulses : List (List Bool)) → StandsFor net sim pulses → StandsFor net after (pulses ++ row ∷ []))
      → read ≡ seen_before net rows tick window
      → HasRun net rows (tick + 1) after × (with_shown shown read ≡ seen_before net rows (tick + 1) (window + 1))
  step-right sim after tick window row shown read run feeds shows stands before =
      let later : List (List Bool) = run.pulses ++ row ∷ [] in
      let agree = more-agree run.pulses tick row run.long run.same feeds in
      let up : tick + 1 ≡ suc tick = omega arith in
      let wide : window + 1 ≡ suc window = omega arith in
      let long = length-append run.pulses (row ∷ []) in
      let now : shown ≡ map (λ outlet. outlet_signal net.phases (signals_of net (spread net.phases rows)) outlet tick) net.outputs =
      shows run.pulses run.stands ∙ ap (output_pulses net later) run.long ∙ map-same (λ outlet. outlet_signal net.phases (signals_of net later) outlet tick) (λ outlet. outlet_signal net.phases (signals_of net (spread net.phases rows)) outlet tick) (outlet-agrees later tick agree) net.outputs in (
        record { pulses = later; stands = stands run.pulses run.stands; long = omega (arith, long, run.long); same = λ input at early. agree input at (omega arith) },
        ap₂ with_shown now before
            ∙ with_shown-map (λ outlet. outlet_signal net.phases (signals_of net (spread net.phases rows)) outlet tick) (λ outlet. pulsed_within (outlet_signal net.phases (signals_of net (spread net.phases rows)) outlet) tick window) net.outputs
            ∙ sym (ap₂ (seen_before net rows) up wide),
      )

  none-seen : (tick : ℕ) (outlets : List Outlet) → replicate (length outlets) false ≡ map (λ outlet. pulsed_within (outlet_signal net.phases (signals_of net (spread net.phases rows)) outlet) tick 0) outlets
  none-seen tick [] = refl
  none-seen tick (outlet ∷ outlets) = ap₂ (λ b bits. b ∷ bits) (sym (pulsed_within-none (outlet_signal net.phases (signals_of net (spread net.phases rows)) outlet) tick)) (none-seen tick outlets)

  -- before its first tick nothing is read of an epoch
  pub clear-right : (sim : SimState) (tick count : ℕ) → HasRun net rows tick sim → count ≡ length sim.taps → replicate count false ≡ seen_before net rows tick 0
  clear-right sim tick count run e =
      ap (λ k. replicate k false) (e ∙ ap length run.stands.taps ∙ length-map net.outputs (tap_of net)) ∙ none-seen tick net.outputs

  range-map : (f : ℕ → ℕ) (g : Outlet → ℕ) (outlets : List Outlet) (from : ℕ) → ((k : ℕ) → k < length outlets → f (from + k) ≡ g (slice_index_or outlets k Zero)) → map f (range_with_len from (length outlets)) ≡ map g outlets
  range-map f g [] from h = refl
  range-map f g (outlet ∷ outlets) from h =
      let here : f from ≡ g outlet = (let e : from + 0 ≡ from = omega arith in ap f (sym e)) ∙ h 0 (omega arith) in
      ap₂ (λ b bits. b ∷ bits) here
      (range-map f g outlets (from + 1) (λ k below. (let e : from + 1 + k ≡ from + suc k = omega arith in ap f e) ∙ h (suc k) (omega arith)))

  -- What is read in the epoch of a row is its line.
  pub line-right : (row : ℕ) (read : List Bool) → read ≡ seen_before net rows (net.phases * (row + net.latency)) net.phases → map digit read ++ 10 ∷ [] ≡ line_read net rows row
  line-right row read e =
      let value : Outlet → Bool = λ outlet. pulsed_within (outlet_signal net.phases (signals_of net (spread net.phases rows)) outlet) (net.phases * (row + net.latency)) net.phases in
      ap (λ bits. map digit bits ++ 10 ∷ []) e
      ∙ ap (λ bits. bits ++ 10 ∷ []) (digits value net.outputs ∙ sym (range-map (λ output. digit (value_read net rows output row)) (λ outlet. digit (value outlet)) net.outputs 0 (λ k below. let e : 0 + k ≡ k = omega arith in ap (λ k. digit (value_read net rows k row)) e)))
    where
      digits : (value : Outlet → Bool) (outlets : List Outlet) → map digit (map value outlets) ≡ map (λ outlet. digit (value outlet)) outlets
      digits value [] = refl
      digits value (outlet ∷ outlets) = ap (λ bits. digit (value outlet) ∷ bits) (digits value outlets)

-- the row that is first of those left at an epoch
pub first-left : (rows left : List (List Bool)) (epoch : ℕ) → left ≡ drop epoch rows → get_or left 0 [] ≡ get_or rows epoch []
first-left rows left epoch e =
    let at : epoch + 0 ≡ epoch = omega arith in
    ap (λ (l : List (List Bool)). get_or l 0 []) e ∙ get_or-drop epoch rows 0 [] ∙ ap (λ k. get_or rows k []) at

-- One line more, and the lines of one row fewer, are the same lines.
pub lines-next : (line : ℕ → List ℕ) (text : List ℕ) (row rows : ℕ) → row < rows → (text ++ line row) ++ flat_map line (range_with_len (row + 1) (rows - (row + 1))) ≡ text ++ flat_map line (range_with_len row (rows - row))
lines-next line text row rows below =
    let rest : rows - row ≡ suc (rows - (row + 1)) = omega arith in
    append_assoc text (line row) (flat_map line (range_with_len (row + 1) (rows - (row + 1)))) ∙ ap (λ k. text ++ flat_map line (range_with_len row k)) (sym rest)
