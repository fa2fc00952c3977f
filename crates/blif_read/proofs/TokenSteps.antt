-- One turn of the loops over the tokens of a line: one token is read, and the others are left.
use Rattle.std.proofs.Common.{◌≡◌, ◌<◌, ◌≤◌, ◌+◌, ◌++◌, ◌||◌, ℕ, suc, Bool, true, false, List, [], ◌∷◌, length, get_or, drop, Option, Some, None, Result, Err, append_assoc, if◌then◌else◌, refl, sym, ap, subst, ◌∙◌, arith}
use Rattle.std.specs.List.{list_any}
use Rattle.std.specs.Str.{bytes_eq}
use Rattle.std.proofs.lemmas.List.{drop_more, length_push}
use Rattle.net_base.specs.Answers.{Tells}
use Rattle.net_base.specs.Keys.{is_among}
use Rattle.blif_model.specs.Names.{number_of, with_name}
use Rattle.blif_read.specs.declared.fault.BlifKind.{BlifKind}
use Rattle.blif_read.specs.declared.fault.LineFault.{LineFault}
use Rattle.blif_read.specs.declared.fault.LineFault.TheVariants as line
use Rattle.blif_read.specs.declared.port.Port.{Port}
use Rattle.blif_read.specs.declared.port.Port.TheVariants.{Input, Output}
use Rattle.blif_read.specs.Answers.{Finds, line_told}
use Rattle.blif_read.specs.Signals.{is_long, with_names, signals_of}
use Rattle.blif_read.specs.Faults.{first_of, most_of, token_fault, listing_fault}

-- a name adds one at most
pub length-with_name : (name : List ℕ) (names : List (List ℕ)) → length (with_name name names) ≤ length names + 1
length-with_name name names = by (is_among bytes_eq name names)
  where
    by : (b : Bool) → length (if b then names else names ++ name ∷ []) ≤ length names + 1
    by true = omega arith
    by false = omega (arith, length_push names name)

-- each token is a signal
pub length-signals_of : (tokens names : List (List ℕ)) → length (signals_of tokens names) ≡ length tokens
length-signals_of [] names = refl
length-signals_of (token ∷ tokens) names = ap suc (length-signals_of tokens (with_name token names))

first_of-one : (fault : Option BlifKind) → first_of (fault ∷ []) ≡ fault
first_of-one None = refl
first_of-one (Some kind) = refl

-- there may be far fewer inputs or outputs than numbers
pub most_of-few : (port : Port) → most_of port ≤ 4096
most_of-few Input = omega arith
most_of-few Output = omega arith

module _ (tokens : List (List ℕ)) (place : ℕ) (within : place < length tokens) (token : List ℕ) (is : token ≡ get_or tokens place []) where
  split : drop place tokens ≡ token ∷ drop (place + 1) tokens
  split = drop_more tokens place [] within ∙ ap (λ first. first ∷ drop (place + 1) tokens) (sym is)

  pub with_names-step : (names : List (List ℕ)) → with_names (drop (place + 1) tokens) (with_name token names) ≡ with_names (drop place tokens) names
  with_names-step names = sym (ap (λ left. with_names left names) split)

  pub signals_of-step : (names : List (List ℕ)) (signals : List ℕ) → (signals ++ number_of token names ∷ []) ++ signals_of (drop (place + 1) tokens) (with_name token names) ≡ signals ++ signals_of (drop place tokens) names
  signals_of-step names signals =
      append_assoc signals (number_of token names ∷ []) (signals_of (drop (place + 1) tokens) (with_name token names))
      ∙ sym (ap (λ left. signals ++ signals_of left names) split)

  -- a token without a fault leaves that of the others,
  pub listing_fault-step : (port : Port) (names : List (List ℕ)) (listed : List ℕ) → token_fault port names listed token ≡ None
      → listing_fault port (with_name token names) (listed ++ number_of token names ∷ []) (drop (place + 1) tokens) ≡ listing_fault port names listed (drop place tokens)
  listing_fault-step port names listed none =
      let rest = listing_fault port (with_name token names) (listed ++ number_of token names ∷ []) (drop (place + 1) tokens) in
      sym (ap (listing_fault port names listed) split ∙ ap (λ fault. first_of (fault ∷ (rest ∷ []))) none ∙ first_of-one rest)

  -- and the fault of one is that of the line
  pub listing_fault-stop : (port : Port) (names : List (List ℕ)) (listed : List ℕ) (kind : BlifKind) → token_fault port names listed token ≡ Some kind
      → listing_fault port names listed (drop place tokens) ≡ Some kind
  listing_fault-stop port names listed kind some =
      let rest = listing_fault port (with_name token names) (listed ++ number_of token names ∷ []) (drop (place + 1) tokens) in
      ap (listing_fault port names listed) split ∙ ap (λ fault. first_of (fault ∷ (rest ∷ []))) some

  pub is_long-step : is_long token ≡ false → list_any is_long (drop (place + 1) tokens) ≡ list_any is_long (drop place tokens)
  is_long-step short = sym (ap (list_any is_long) split ∙ ap (λ long. long || list_any is_long (drop (place + 1) tokens)) short)

  pub is_long-stop : is_long token ≡ true → list_any is_long (drop place tokens) ≡ true
  is_long-stop long = ap (list_any is_long) split ∙ ap (λ long. long || list_any is_long (drop (place + 1) tokens)) long

-- The exit where a part has a fault: then the whole has it.
told_too : (fault : LineFault) (part whole : Option BlifKind) → Tells (line_told fault) part → ((kind : BlifKind) → part ≡ Some kind → whole ≡ Some kind) → Tells (line_told fault) whole
told_too (line.Kind kind) part whole tells so = so kind tells
told_too line.NoMemory part whole tells so = tt

pub Finds-fault : {X : Type 0} (r : Result X LineFault) (fault : LineFault) (part whole : Option BlifKind) → r ≡ Err fault → Tells (line_told fault) part
    → ((kind : BlifKind) → part ≡ Some kind → whole ≡ Some kind) → Finds r whole
Finds-fault {X} r fault part whole is tells so =
    let P : Result X LineFault → Type 0 = λ r. Finds r whole in subst P (sym is) (told_too fault part whole tells so)
