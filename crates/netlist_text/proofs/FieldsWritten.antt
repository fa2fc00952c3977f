-- What is read of a line was written there: fields of numbers and names, each behind a space, up to a line feed.
use Rattle.std.proofs.Common.{◌≡◌, ◌≤◌, ◌&&◌, ℕ, zero, suc, Bool, true, false, nat_le, List, [], ◌∷◌, ◌++◌, length, All, Option, Some, None, if◌then◌else◌, codes, decimal, refl, sym, ap, subst, ◌∙◌, arith, append_assoc, append-nil}
use Rattle.std.proofs.lemmas.Bool.{leb-true}
use Rattle.std.proofs.lemmas.List.Elements.{All-nil, All-cons, All-append}
use Rattle.cell_lib.specs.declared.cell.Cell.{Cell}
use Rattle.cell_lib.specs.Cell.{arity_of}
use Rattle.net_base.specs.Name.{IsName}
use Rattle.flow_net.specs.declared.net.Units.{Units}
use Rattle.pulse_net.specs.declared.net.Element.{Element}
use Rattle.pulse_net.specs.declared.net.Element.TheVariants.{Clocked, Split}
use Rattle.pulse_net.specs.declared.net.Outlet.{Outlet}
use Rattle.netlist_text.specs.Spelling.{line, model_line, wire_word, outlet_word}
use Rattle.netlist_text.specs.Lines.{IsSmall, IsSmallWire, IsSmallOutlet}
use Rattle.netlist_text.specs.Scanning.{behind, number_line_at, model_at, wire_by, wire_at, outlet_by, outlet_at, input_at, output_at, units_at, split_at, pins_from, clocked_at}
use Rattle.netlist_text.proofs.FrontOfBytes.{goes_on, same_some, behind-sound, then_word, then_field, then_name}
use Rattle.netlist_text.proofs.LineText.{spread, line-spread, spread-append, model_line-spread}

pub number_line_at-sound : (word : List ℕ) (least most : ℕ) (bytes : List ℕ) (read : ℕ × List ℕ) → number_line_at word least most bytes ≡ Some read → (bytes ≡ line word (read.0 ∷ []) ++ read.1) × IsSmall read.0 × (least ≤ read.0) × (read.0 ≤ most)
unfolding number_line_at
number_line_at-sound word least most bytes read is =
    let front = then_word bytes read word _ is in
    let field = then_field front.rest read _ front.next in
    let end = then_word field.rest read (codes "\n") _ field.next in
    let whole : bytes ≡ line word (field.number ∷ []) ++ end.rest =
    front.whole ∙ ap (λ more. word ++ more) (field.whole ∙ ap (λ more. 32 ∷ (decimal field.number ++ more)) end.whole) ∙ sym (line-spread word (field.number ∷ []) end.rest) in
    by field.number end.rest whole field.small (nat_le least field.number) refl (nat_le field.number most) refl end.next
  where
    by : (n : ℕ) (rest : List ℕ) → bytes ≡ line word (n ∷ []) ++ rest → IsSmall n → (some : Bool) → nat_le least n ≡ some → (few : Bool) → nat_le n most ≡ few
        → (if some && few then Some (n, rest) else None) ≡ Some read → (bytes ≡ line word (read.0 ∷ []) ++ read.1) × IsSmall read.0 × (least ≤ read.0) × (read.0 ≤ most)
    by n rest whole small true some true few is =
        let P : ℕ × List ℕ → Type 0 = λ r. (bytes ≡ line word (r.0 ∷ []) ++ r.1) × IsSmall r.0 × (least ≤ r.0) × (r.0 ≤ most) in
        subst P (same_some is) (whole, small, leb-true least n some, leb-true n most few)
    by n rest whole small true some false few is = absurd cc
    by n rest whole small false some few-is few is = absurd cc

pub model_at-sound : (bytes : List ℕ) (read : List ℕ × List ℕ) → model_at bytes ≡ Some read → (bytes ≡ model_line read.0 ++ read.1) × IsName read.0
unfolding model_at
model_at-sound bytes read is =
    let front = then_word bytes read (codes "model") _ is in
    let name = then_name front.rest read _ front.next in
    let end = then_word name.rest read (codes "\n") _ name.next in
    let P : List ℕ × List ℕ → Type 0 = λ r. (bytes ≡ model_line r.0 ++ r.1) × IsName r.0 in
    let whole : bytes ≡ model_line name.name ++ end.rest =
    front.whole ∙ ap (λ more. codes "model" ++ more) (name.whole ∙ ap (λ more. 32 ∷ (name.name ++ more)) end.whole) ∙ sym (model_line-spread name.name end.rest) in
    subst P (same_some end.next) (whole, name.named)

wire_at-sound : (bytes : List ℕ) (read : Option ℕ × List ℕ) → wire_at bytes ≡ Some read → (bytes ≡ wire_word read.0 ++ read.1) × IsSmallWire read.0
unfolding wire_at
wire_at-sound bytes read is = by (behind (codes " -") bytes) refl is
  where
    P : Option ℕ × List ℕ → Type 0
    P r = (bytes ≡ wire_word r.0 ++ r.1) × IsSmallWire r.0

    by : (dash : Option (List ℕ)) → behind (codes " -") bytes ≡ dash → wire_by dash bytes ≡ Some read → (bytes ≡ wire_word read.0 ++ read.1) × IsSmallWire read.0
    by (Some rest) front is = subst P (same_some is) (behind-sound (codes " -") bytes rest front, tt)
    by None front is =
        let field = then_field bytes read _ is in
        subst P (same_some field.next) (field.whole, field.small)

outlet_at-sound : (bytes : List ℕ) (read : Outlet × List ℕ) → outlet_at bytes ≡ Some read → (bytes ≡ outlet_word read.0 ++ read.1) × IsSmallOutlet read.0
unfolding outlet_at
outlet_at-sound bytes read is = by (behind (codes " zero") bytes) refl (behind (codes " one") bytes) refl is
  where
    P : Outlet × List ℕ → Type 0
    P r = (bytes ≡ outlet_word r.0 ++ r.1) × IsSmallOutlet r.0

    by : (zero : Option (List ℕ)) → behind (codes " zero") bytes ≡ zero → (one : Option (List ℕ)) → behind (codes " one") bytes ≡ one → outlet_by zero one bytes ≡ Some read → (bytes ≡ outlet_word read.0 ++ read.1) × IsSmallOutlet read.0
    by (Some rest) front one other is = subst P (same_some is) (behind-sound (codes " zero") bytes rest front, tt)
    by None front (Some rest) other is = subst P (same_some is) (behind-sound (codes " one") bytes rest other, tt)
    by None front None other is =
        let field = then_field bytes read _ is in
        subst P (same_some field.next) (field.whole, field.small)

pub input_at-sound : (bytes : List ℕ) (read : (List ℕ × Option ℕ) × List ℕ) → input_at bytes ≡ Some read → (bytes ≡ 32 ∷ (read.0.0 ++ (wire_word read.0.1 ++ (10 ∷ read.1)))) × IsName read.0.0 × IsSmallWire read.0.1
unfolding input_at
input_at-sound bytes read is =
    let name = then_name bytes read _ is in
    let wire = goes_on (wire_at name.rest) _ read name.next in
    let word = wire_at-sound name.rest wire.0 wire.1 in
    let end = then_word wire.0.1 read (codes "\n") _ wire.2 in
    let P : (List ℕ × Option ℕ) × List ℕ → Type 0 = λ r. (bytes ≡ 32 ∷ (r.0.0 ++ (wire_word r.0.1 ++ (10 ∷ r.1)))) × IsName r.0.0 × IsSmallWire r.0.1 in
    subst P (same_some end.next) (name.whole ∙ ap (λ more. 32 ∷ (name.name ++ more)) (word.0 ∙ ap (λ more. wire_word wire.0.0 ++ more) end.whole), name.named, word.1)

pub output_at-sound : (bytes : List ℕ) (read : (List ℕ × Outlet) × List ℕ) → output_at bytes ≡ Some read → (bytes ≡ 32 ∷ (read.0.0 ++ (outlet_word read.0.1 ++ (10 ∷ read.1)))) × IsName read.0.0 × IsSmallOutlet read.0.1
unfolding output_at
output_at-sound bytes read is =
    let name = then_name bytes read _ is in
    let outlet = goes_on (outlet_at name.rest) _ read name.next in
    let word = outlet_at-sound name.rest outlet.0 outlet.1 in
    let end = then_word outlet.0.1 read (codes "\n") _ outlet.2 in
    let P : (List ℕ × Outlet) × List ℕ → Type 0 = λ r. (bytes ≡ 32 ∷ (r.0.0 ++ (outlet_word r.0.1 ++ (10 ∷ r.1)))) × IsName r.0.0 × IsSmallOutlet r.0.1 in
    subst P (same_some end.next) (name.whole ∙ ap (λ more. 32 ∷ (name.name ++ more)) (word.0 ∙ ap (λ more. outlet_word outlet.0.0 ++ more) end.whole), name.named, word.1)

pub units_at-sound : (bytes : List ℕ) (read : Units × List ℕ) → units_at bytes ≡ Some read → (bytes ≡ spread (read.0.forward ∷ read.0.back ∷ []) (10 ∷ read.1)) × IsSmall read.0.forward × IsSmall read.0.back
unfolding units_at
units_at-sound bytes read is =
    let forward = then_field bytes read _ is in
    let back = then_field forward.rest read _ forward.next in
    let end = then_word back.rest read (codes "\n") _ back.next in
    let P : Units × List ℕ → Type 0 = λ r. (bytes ≡ spread (r.0.forward ∷ r.0.back ∷ []) (10 ∷ r.1)) × IsSmall r.0.forward × IsSmall r.0.back in
    subst P (same_some end.next) (forward.whole ∙ ap (λ more. 32 ∷ (decimal forward.number ++ more)) (back.whole ∙ ap (λ more. 32 ∷ (decimal back.number ++ more)) end.whole), forward.small, back.small)

-- A splitter is read of its numbers.
pub record ReadsSplit (bytes : List ℕ) (element : Element) (rest : List ℕ) : Type 0 where
  pub from : ℕ
  pub left : ℕ
  pub right : ℕ
  pub is : element ≡ Split from left right
  pub whole : bytes ≡ spread (from ∷ left ∷ right ∷ []) (10 ∷ rest)
  pub small : All IsSmall (from ∷ left ∷ right ∷ [])

pub split_at-sound : (bytes : List ℕ) (read : Element × List ℕ) → split_at bytes ≡ Some read → ReadsSplit bytes read.0 read.1
unfolding split_at
split_at-sound bytes read is =
    let from = then_field bytes read _ is in
    let left = then_field from.rest read _ from.next in
    let right = then_field left.rest read _ left.next in
    let end = then_word right.rest read (codes "\n") _ right.next in
    let P : Element × List ℕ → Type 0 = λ r. ReadsSplit bytes r.0 r.1 in
    subst P (same_some end.next) (record {
      from = from.number;
      left = left.number;
      right = right.number;
      is = refl;
      whole = from.whole ∙ ap (λ more. 32 ∷ (decimal from.number ++ more)) (left.whole ∙ ap (λ more. 32 ∷ (decimal left.number ++ more)) (right.whole ∙ ap (λ more. 32 ∷ (decimal right.number ++ more)) end.whole));
      small = All-cons IsSmall from.number (left.number ∷ right.number ∷ []) from.small (All-cons IsSmall left.number (right.number ∷ []) left.small (All-cons IsSmall right.number [] right.small (All-nil IsSmall)));
    })

-- So many pins are read behind those that were seen.
record ReadsPins (count : ℕ) (seen bytes all rest : List ℕ) : Type 0 where
  pins : List ℕ
  is : all ≡ seen ++ pins
  many : length pins ≡ count
  whole : bytes ≡ spread pins rest
  small : All IsSmall pins

pins_from-sound : (count : ℕ) (seen bytes : List ℕ) (read : List ℕ × List ℕ) → pins_from count seen bytes ≡ Some read → ReadsPins count seen bytes read.0 read.1
unfolding pins_from
pins_from-sound zero seen bytes read is =
    let P : List ℕ × List ℕ → Type 0 = λ r. ReadsPins zero seen bytes r.0 r.1 in
    subst P (same_some is) (record { pins = []; is = sym (append-nil seen); many = refl; whole = refl; small = All-nil IsSmall })
pins_from-sound (suc count) seen bytes read is =
    let pin = then_field bytes read _ is in
    let more = pins_from-sound count (seen ++ pin.number ∷ []) pin.rest read pin.next in
    record {
      pins = pin.number ∷ more.pins;
      is = more.is ∙ append_assoc seen (pin.number ∷ []) more.pins;
      many = omega (arith, more.many);
      whole = pin.whole ∙ ap (λ rest. 32 ∷ (decimal pin.number ++ rest)) more.whole;
      small = All-cons IsSmall pin.number more.pins pin.small more.small;
    }

-- A clocked element is read of its numbers, with the pins of its cell.
pub record ReadsClocked (cell : Cell) (bytes : List ℕ) (element : Element) (rest : List ℕ) : Type 0 where
  pub stage : ℕ
  pub pins : List ℕ
  pub out : ℕ
  pub is : element ≡ Clocked cell stage pins out
  pub many : length pins ≡ arity_of cell
  pub whole : bytes ≡ spread (stage ∷ (pins ++ out ∷ [])) (10 ∷ rest)
  pub small : All IsSmall (stage ∷ (pins ++ out ∷ []))

pub clocked_at-sound : (cell : Cell) (bytes : List ℕ) (read : Element × List ℕ) → clocked_at cell bytes ≡ Some read → ReadsClocked cell bytes read.0 read.1
unfolding clocked_at
clocked_at-sound cell bytes read is =
    let stage = then_field bytes read _ is in
    let pins = goes_on (pins_from (arity_of cell) [] stage.rest) _ read stage.next in
    let are = pins_from-sound (arity_of cell) [] stage.rest pins.0 pins.1 in
    let out = then_field pins.0.1 read _ pins.2 in
    let end = then_word out.rest read (codes "\n") _ out.next in
    let P : Element × List ℕ → Type 0 = λ r. ReadsClocked cell bytes r.0 r.1 in
    let last : List ℕ = spread (out.number ∷ []) (10 ∷ end.rest) in
    let behind_pins : pins.0.1 ≡ last = out.whole ∙ ap (λ more. 32 ∷ (decimal out.number ++ more)) end.whole in
    let behind_stage : stage.rest ≡ spread (are.pins ++ out.number ∷ []) (10 ∷ end.rest) =
    are.whole ∙ ap (spread are.pins) behind_pins ∙ sym (spread-append are.pins (out.number ∷ []) (10 ∷ end.rest)) in
    subst P (same_some end.next) (record {
      stage = stage.number;
      pins = are.pins;
      out = out.number;
      is = ap (λ (ps : List ℕ). Clocked cell stage.number ps out.number) are.is;
      many = are.many;
      whole = stage.whole ∙ ap (λ more. 32 ∷ (decimal stage.number ++ more)) behind_stage;
      small = All-cons IsSmall stage.number (are.pins ++ out.number ∷ []) stage.small (All-append IsSmall are.pins (out.number ∷ []) are.small (All-cons IsSmall out.number [] out.small (All-nil IsSmall)));
    })
