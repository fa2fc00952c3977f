-- What was written on a line, behind its word, is read: it is scanned from its front, one field after the other.
use Rattle.std.proofs.Common.{◌≡◌, ◌≤◌, ℕ, suc, List, [], ◌∷◌, ◌++◌, length, All, Option, Some, None, codes, refl, sym, ap, ◌∙◌, append_assoc, append-nil}
use Rattle.std.proofs.lemmas.Bool.{le-leb}
use Rattle.std.proofs.lemmas.List.Elements.{All-nil, All-cons, All-head, All-tail}
use Rattle.cell_lib.specs.declared.cell.Cell.{Cell}
use Rattle.cell_lib.specs.Cell.{arity_of}
use Rattle.net_base.specs.Name.{IsName}
use Rattle.flow_net.specs.declared.net.Units.{Units}
use Rattle.pulse_net.specs.declared.net.Element.TheVariants.{Clocked, Split}
use Rattle.pulse_net.specs.declared.net.Outlet.{Outlet}
use Rattle.pulse_net.specs.declared.net.Outlet.TheVariants.{Zero, One, Wire}
use Rattle.netlist_text.specs.Spelling.{line, model_line, wire_word, outlet_word}
use Rattle.netlist_text.specs.Lines.{IsSmall, IsSmallWire, IsSmallOutlet}
use Rattle.netlist_text.specs.Scanning.{behind, field_at, number_line_at, model_at, wire_at, outlet_at, input_at, output_at, units_at, split_at, pins_from, clocked_at}
use Rattle.netlist_text.proofs.FrontOfBytes.{behind-complete, Stops, field_at-complete, EndsName, name_at-complete, behind-number}
use Rattle.netlist_text.proofs.LineText.{spread, line-spread, spread-append, spread-Stops, model_line-spread}

pub number_line_at-complete : (word : List ℕ) (least most n : ℕ) (rest : List ℕ) → IsSmall n → least ≤ n → n ≤ most → number_line_at word least most (line word (n ∷ []) ++ rest) ≡ Some (n, rest)
unfolding number_line_at
number_line_at-complete word least most n rest small some few =
    rw (line-spread word (n ∷ []) rest, behind-complete word (spread (n ∷ []) (10 ∷ rest)), field_at-complete n (10 ∷ rest) small refl, behind-complete (codes "\n") rest, le-leb least n some, le-leb n most few) refl

pub model_at-complete : (name rest : List ℕ) → IsName name → model_at (model_line name ++ rest) ≡ Some (name, rest)
unfolding model_at
model_at-complete name rest named =
    rw (model_line-spread name rest, behind-complete (codes "model") (32 ∷ (name ++ (10 ∷ rest))), name_at-complete name (10 ∷ rest) named refl, behind-complete (codes "\n") rest) refl

wire_at-complete : (wire : Option ℕ) (rest : List ℕ) → IsSmallWire wire → wire_at (wire_word wire ++ (10 ∷ rest)) ≡ Some (wire, 10 ∷ rest)
unfolding wire_at
wire_at-complete None rest small = rw (behind-complete (codes " -") (10 ∷ rest)) refl
wire_at-complete (Some wire) rest small = rw (behind-number 45 [] wire (10 ∷ rest) refl small, field_at-complete wire (10 ∷ rest) small refl) refl

other_word : (rest : List ℕ) → behind (codes " zero") (codes " one" ++ (10 ∷ rest)) ≡ None
unfolding behind
other_word rest = refl

outlet_at-complete : (outlet : Outlet) (rest : List ℕ) → IsSmallOutlet outlet → outlet_at (outlet_word outlet ++ (10 ∷ rest)) ≡ Some (outlet, 10 ∷ rest)
unfolding outlet_at
outlet_at-complete Zero rest small = rw (behind-complete (codes " zero") (10 ∷ rest)) refl
outlet_at-complete One rest small = rw (other_word rest, behind-complete (codes " one") (10 ∷ rest)) refl
outlet_at-complete (Wire wire) rest small =
    rw (behind-number 122 (codes "ero") wire (10 ∷ rest) refl small, behind-number 111 (codes "ne") wire (10 ∷ rest) refl small, field_at-complete wire (10 ∷ rest) small refl) refl

wire-EndsName : (wire : Option ℕ) (rest : List ℕ) → EndsName (wire_word wire ++ rest)
wire-EndsName None rest = refl
wire-EndsName (Some wire) rest = refl

outlet-EndsName : (outlet : Outlet) (rest : List ℕ) → EndsName (outlet_word outlet ++ rest)
outlet-EndsName Zero rest = refl
outlet-EndsName One rest = refl
outlet-EndsName (Wire wire) rest = refl

pub input_at-complete : (name : List ℕ) (wire : Option ℕ) (rest : List ℕ) → IsName name → IsSmallWire wire → input_at (32 ∷ (name ++ (wire_word wire ++ (10 ∷ rest)))) ≡ Some ((name, wire), rest)
unfolding input_at
input_at-complete name wire rest named small =
    rw (name_at-complete name (wire_word wire ++ (10 ∷ rest)) named (wire-EndsName wire (10 ∷ rest)), wire_at-complete wire rest small, behind-complete (codes "\n") rest) refl

pub output_at-complete : (name : List ℕ) (outlet : Outlet) (rest : List ℕ) → IsName name → IsSmallOutlet outlet → output_at (32 ∷ (name ++ (outlet_word outlet ++ (10 ∷ rest)))) ≡ Some ((name, outlet), rest)
unfolding output_at
output_at-complete name outlet rest named small =
    rw (name_at-complete name (outlet_word outlet ++ (10 ∷ rest)) named (outlet-EndsName outlet (10 ∷ rest)), outlet_at-complete outlet rest small, behind-complete (codes "\n") rest) refl

pub units_at-complete : (units : Units) (rest : List ℕ) → IsSmall units.forward → IsSmall units.back → units_at (spread (units.forward ∷ units.back ∷ []) (10 ∷ rest)) ≡ Some (units, rest)
unfolding units_at
units_at-complete units rest small_forward small_back =
    rw (field_at-complete units.forward (spread (units.back ∷ []) (10 ∷ rest)) small_forward refl, field_at-complete units.back (10 ∷ rest) small_back refl, behind-complete (codes "\n") rest) refl

pub split_at-complete : (from left right : ℕ) (rest : List ℕ) → IsSmall from → IsSmall left → IsSmall right → split_at (spread (from ∷ left ∷ right ∷ []) (10 ∷ rest)) ≡ Some (Split from left right, rest)
unfolding split_at
split_at-complete from left right rest small_from small_left small_right =
    rw (field_at-complete from (spread (left ∷ right ∷ []) (10 ∷ rest)) small_from refl, field_at-complete left (spread (right ∷ []) (10 ∷ rest)) small_left refl, field_at-complete right (10 ∷ rest) small_right refl, behind-complete (codes "\n") rest) refl

pub pins_from-step : (count more : ℕ) (seen bytes : List ℕ) (pin : ℕ) (rest : List ℕ) → count ≡ suc more → field_at bytes ≡ Some (pin, rest) → pins_from more (seen ++ pin ∷ []) rest ≡ pins_from count seen bytes
unfolding pins_from
pins_from-step count more seen bytes pin rest next read = rw (next, read) refl

pins_from-complete : (pins seen rest : List ℕ) → All IsSmall pins → Stops rest → pins_from (length pins) seen (spread pins rest) ≡ Some (seen ++ pins, rest)
unfolding pins_from
pins_from-complete [] seen rest small stops = rw (append-nil seen) refl
pins_from-complete (pin ∷ pins) seen rest small stops =
    rw (field_at-complete pin (spread pins rest) (All-head IsSmall pin pins small) (spread-Stops pins rest stops))
    (pins_from-complete pins (seen ++ pin ∷ []) rest (All-tail IsSmall pin pins small) stops ∙ ap (λ (all : List ℕ). Some (all, rest)) (append_assoc seen (pin ∷ []) pins))

All-front : {A : Type 0} (P : A → Type 0) (xs ys : List A) → All P (xs ++ ys) → All P xs
All-front P [] ys all = All-nil P
All-front P (x ∷ xs) ys all = All-cons P x xs (All-head P x (xs ++ ys) all) (All-front P xs ys (All-tail P x (xs ++ ys) all))

All-back : {A : Type 0} (P : A → Type 0) (xs ys : List A) → All P (xs ++ ys) → All P ys
All-back P [] ys all = all
All-back P (x ∷ xs) ys all = All-back P xs ys (All-tail P x (xs ++ ys) all)

pub clocked_at-complete : (cell : Cell) (stage : ℕ) (pins : List ℕ) (out : ℕ) (rest : List ℕ) → length pins ≡ arity_of cell → All IsSmall (stage ∷ (pins ++ out ∷ []))
    → clocked_at cell (spread (stage ∷ (pins ++ out ∷ [])) (10 ∷ rest)) ≡ Some (Clocked cell stage pins out, rest)
unfolding clocked_at
clocked_at-complete cell stage pins out rest many small =
    let last = spread (out ∷ []) (10 ∷ rest) in
    let some : All IsSmall pins = All-front IsSmall pins (out ∷ []) (All-tail IsSmall stage (pins ++ out ∷ []) small) in
    let end : All IsSmall (out ∷ []) = All-back IsSmall pins (out ∷ []) (All-tail IsSmall stage (pins ++ out ∷ []) small) in
    let read : pins_from (arity_of cell) [] (spread pins last) ≡ Some (pins, last) = ap (λ n. pins_from n [] (spread pins last)) (sym many) ∙ pins_from-complete pins [] last some refl in
    rw (spread-append pins (out ∷ []) (10 ∷ rest), field_at-complete stage (spread pins last) (All-head IsSmall stage (pins ++ out ∷ []) small) (spread-Stops pins last refl), read, field_at-complete out (10 ∷ rest) (All-head IsSmall out [] end) refl, behind-complete (codes "\n") rest) refl
