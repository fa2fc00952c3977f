-- The walk of a formula part by part: the netlist and the pins so far are those of the parts so far.
use Rattle.std.proofs.Common.{◌≡◌, ◌≤◌, ◌<◌, ◌+◌, ◌*◌, ◌^◌, ◌++◌, ◌∙◌, ℕ, suc, List, [], ◌∷◌, Some, get_or, length, take, All, refl, sym, ap, subst, arith}
use Rattle.std.specs.List.{flat_map}
use Rattle.std.proofs.lemmas.List.{take_more, take_all, length-take-le}
use Rattle.std.proofs.lemmas.List.Elements.{All-nil, All-take}
use Rattle.cell_lib.specs.Cell.{arity_of}
use Rattle.cell_lib.proofs.CallerLemmas.{arity_of-few}
use Rattle.pattern_table.specs.declared.formula.Formula.{Formula}
use Rattle.pattern_table.specs.Least.{least_formula, parts_of}
use Rattle.pattern_table.specs.Laws.{IsHeadOf}
use Rattle.pattern_table.proofs.CallerLemmas.{formula-means}
use Rattle.gate_net.specs.declared.row.Driver.{Driver}
use Rattle.gate_net.specs.declared.row.GateRow.{GateRow}
use Rattle.gate_net.specs.declared.net.GateNet.{GateNet}
use Rattle.gate_net.specs.Net.{IsThere, IsGateNet}
use Rattle.balance_map.specs.Needed.{parts_in, places_in}
use Rattle.balance_map.specs.Cover.{Driven, with_cell, and_driver, with_parts, with_formula, walked}
use Rattle.balance_map.specs.Walks.{most_gates, IsLeafThere, IsReady}
use Rattle.balance_map.proofs.Formulas.{MayWalk, MayWalk-grown, MayWalk-parts, ArePartsWalked, parts-walked, formula-walked}

-- ---- Parts, one after the other
-- more parts come after the first
with_parts-append : (walk : List GateRow → ℕ → Driven Driver) (so : Driven (List Driver)) (tables more : List ℕ) → with_parts walk so (tables ++ more) ≡ with_parts walk (with_parts walk so tables) more
with_parts-append walk so [] more = refl
with_parts-append walk so (table ∷ tables) more = with_parts-append walk (and_driver so.by (walk so.gates table)) tables more

-- all parts at most three times as many gates
parts-room : (place room : ℕ) → place + 1 ≤ 3 → place * room + room ≤ 3 * room
parts-room place room few = grind arith

all-room : (place room : ℕ) → place ≤ 3 → place * room ≤ 3 * room
all-room place room few = grind arith

module _ (net : GateNet) (leaves : List Driver) (below : ℕ) (head : Formula) where
  -- so many parts, from the left
  abbrev pub parts_so : ℕ → Driven (List Driver)
  parts_so place = with_parts (walked leaves below) (record { gates = net.gates; by = [] }) (take place (parts_of head))

  -- The walk has come to a part: the netlist is as it was but for the gates of the parts before it, whose drivers are the pins.
  pub record HasWalked (place : ℕ) (now : GateNet) (pins : List Driver) : Type 0 where
    pub is : record { gates = now.gates; by = pins } ≡ parts_so place
    pub rest : now ≡ record net { gates = now.gates }
    pub formed : IsGateNet now

  pub walk-start : IsGateNet net → HasWalked 0 net []
  walk-start formed = record { is = refl; rest = refl; formed = formed }

  parts_so-next : (place d : ℕ) → place < length (parts_of head) → parts_so (place + 1) ≡ and_driver (parts_so place).by (walked leaves below (parts_so place).gates (get_or (parts_of head) place d))
  parts_so-next place d within =
      ap (with_parts (walked leaves below) (record { gates = net.gates; by = [] })) (take_more (parts_of head) place d within)
      ∙ with_parts-append (walked leaves below) (record { gates = net.gates; by = [] }) (take place (parts_of head)) (get_or (parts_of head) place d ∷ [])

  -- one part more
  pub walk-next : (place d : ℕ) (now after : GateNet) (pins : List Driver) (pin : Driver) → place < length (parts_of head) → HasWalked place now pins → after ≡ record now { gates = (walked leaves below now.gates (get_or (parts_of head) place d)).gates } → pin ≡ (walked leaves below now.gates (get_or (parts_of head) place d)).by → IsGateNet after → HasWalked (place + 1) after (pins ++ pin ∷ [])
  walk-next place d now after pins pin within so is by formed =
      let part : ℕ = get_or (parts_of head) place d in
      let gates' : after.gates ≡ (walked leaves below now.gates part).gates = ap (λ (n : GateNet). n.gates) is in
      let made : (gates : List GateRow) (drivers : List Driver) → Driven (List Driver) = λ gates drivers. record { gates = gates; by = drivers } in
      record {
        is =
            ap (λ gates. made gates (pins ++ pin ∷ [])) gates'
            ∙ ap (λ p. made (walked leaves below now.gates part).gates (pins ++ p ∷ [])) by
            ∙ ap (λ (so : Driven (List Driver)). and_driver so.by (walked leaves below so.gates part)) so.is
            ∙ sym (parts_so-next place d within);
        rest = is ∙ ap (λ (n : GateNet). record n { gates = (walked leaves below now.gates part).gates }) so.rest ∙ ap (λ gates. record net { gates = gates }) (sym gates');
        formed = formed;
      }

  module _ (depth table : ℕ) (deep : depth ≡ suc below) (found : least_formula (length leaves) table depth ≡ Some head) (formed : IsGateNet net) (ready : IsReady net.inputs (length net.gates) leaves depth table) (room : length net.gates + most_gates depth < 2 ^ 31) where
    found-below : least_formula (length leaves) table (suc below) ≡ Some head
    found-below = subst (λ n. least_formula (length leaves) table n ≡ Some head) deep found

    means : IsHeadOf (length leaves) below table head
    means = formula-means (length leaves) table below head found-below

    parts-may : All (MayWalk net.inputs leaves below net.gates) (parts_of head)
    parts-may =
        MayWalk-parts net.inputs leaves below net.gates (parts_of head) means.each
        (subst (λ o. All (IsLeafThere net.inputs (length net.gates) leaves) (flat_map (places_in (length leaves) below) (parts_in o))) found-below
        (subst (λ n. All (IsLeafThere net.inputs (length net.gates) leaves) (places_in (length leaves) n table)) deep ready.there))

    few-parts : length (parts_of head) ≤ 3
    few-parts = omega (arith, means.parts, arity_of-few head.cell)

    so-walked : (place : ℕ) → ArePartsWalked net.inputs leaves (record { gates = net.gates; by = [] }) (most_gates below) (places_in (length leaves) below) (take place (parts_of head)) (parts_so place)
    so-walked place =
        parts-walked net.inputs leaves below (formula-walked net.inputs leaves below) (record { gates = net.gates; by = [] }) (take place (parts_of head))
        formed.gates (All-nil (IsThere net.inputs (length net.gates))) (All-take (MayWalk net.inputs leaves below net.gates) place (parts_of head) parts-may)

    -- the next part is ready, and there is room for it
    pub part-ready : (place d : ℕ) (now : GateNet) (pins : List Driver) → place < length (parts_of head) → HasWalked place now pins → IsReady now.inputs (length now.gates) leaves below (get_or (parts_of head) place d)
    part-ready place d now pins within so =
        let grown = (so-walked place).grown in
        let may : MayWalk net.inputs leaves below (parts_so place).gates (get_or (parts_of head) place d) =
        MayWalk-grown net.inputs leaves below net.gates (parts_so place).gates (length (take place (parts_of head)) * most_gates below) grown (get_or (parts_of head) place d) (parts-may place d within) in
        let same : now.gates ≡ (parts_so place).gates = ap (λ (so : Driven (List Driver)). so.gates) so.is in
        let inputs-same : now.inputs ≡ net.inputs = ap (λ (n : GateNet). n.inputs) so.rest in
        subst (λ gates. IsReady now.inputs (length gates) leaves below (get_or (parts_of head) place d)) (sym same)
        (subst (λ inputs. IsReady inputs (length (parts_so place).gates) leaves below (get_or (parts_of head) place d)) (sym inputs-same)
        (record { some = ready.some; few = ready.few; shallow = omega (arith, deep, ready.shallow); formula = may.0; there = may.1 }))

    grown-so : (place : ℕ) (now : GateNet) (pins : List Driver) → place ≤ length (parts_of head) → HasWalked place now pins → length now.gates ≤ length net.gates + place * most_gates below
    grown-so place now pins within so =
        let same : now.gates ≡ (parts_so place).gates = ap (λ (so : Driven (List Driver)). so.gates) so.is in
        let few = (so-walked place).grown.few in
        let count : length (take place (parts_of head)) ≡ place = length-take-le place (parts_of head) within in
        let same-room : length (take place (parts_of head)) * most_gates below ≡ place * most_gates below = ap (λ n. n * most_gates below) count in
        omega (arith, ap length same, few, same-room)

    most : most_gates depth ≡ 3 * most_gates below + 1
    most = ap most_gates deep

    pub part-room : (place : ℕ) (now : GateNet) (pins : List Driver) → place < length (parts_of head) → HasWalked place now pins → length now.gates + most_gates below < 2 ^ 31
    part-room place now pins within so =
        omega (arith, grown-so place now pins (omega arith) so, parts-room place (most_gates below) (omega (arith, few-parts)), most, room)

    -- all parts: the cell's pins are there, as many as it has, and the walk is the cell over them
    pub cell-room : (place : ℕ) (now : GateNet) (pins : List Driver) → place ≡ length (parts_of head) → HasWalked place now pins → length now.gates + 1 < 2 ^ 31
    cell-room place now pins all so =
        omega (arith, grown-so place now pins (omega arith) so, all-room place (most_gates below) (omega (arith, few-parts)), most, room)

    all-so : (place : ℕ) → place ≡ length (parts_of head) → parts_so place ≡ with_parts (walked leaves below) (record { gates = net.gates; by = [] }) (parts_of head)
    all-so place all = ap (with_parts (walked leaves below) (record { gates = net.gates; by = [] })) (take_all place (parts_of head) (omega arith))

    pub cell-count : (place : ℕ) (now : GateNet) (pins : List Driver) → place ≡ length (parts_of head) → HasWalked place now pins → length pins ≡ arity_of head.cell
    cell-count place now pins all so =
        let same : pins ≡ (parts_so place).by = ap (λ (so : Driven (List Driver)). so.by) so.is in
        omega (arith, ap length same, (so-walked place).count, length-take-le place (parts_of head) (omega arith), means.parts)

    pub cell-pins : (place : ℕ) (now : GateNet) (pins : List Driver) → HasWalked place now pins → All (IsThere now.inputs (length now.gates)) pins
    cell-pins place now pins so =
        let inputs-same : now.inputs ≡ net.inputs = ap (λ (n : GateNet). n.inputs) so.rest in
        subst (λ inputs. All (IsThere inputs (length now.gates)) pins) (sym inputs-same)
        (subst (λ (so : Driven (List Driver)). All (IsThere net.inputs (length so.gates)) so.by) (sym so.is) (so-walked place).there)

    pub walk-all : (place : ℕ) (now : GateNet) (pins : List Driver) → place ≡ length (parts_of head) → HasWalked place now pins → with_cell head.cell (record { gates = now.gates; by = pins }) ≡ walked leaves depth net.gates table
    walk-all place now pins all so =
        ap (with_cell head.cell) (so.is ∙ all-so place all)
        ∙ sym (ap (λ n. walked leaves n net.gates table) deep ∙ ap (with_formula (walked leaves below) net.gates) found-below)

    pub walk-rest : (place : ℕ) (now : GateNet) (pins : List Driver) → place ≡ length (parts_of head) → HasWalked place now pins → record now { gates = (with_cell head.cell (record { gates = now.gates; by = pins })).gates } ≡ record net { gates = (walked leaves depth net.gates table).gates }
    walk-rest place now pins all so =
        ap (λ (n : GateNet). record n { gates = (with_cell head.cell (record { gates = now.gates; by = pins })).gates }) so.rest
        ∙ ap (λ (d : Driven Driver). record net { gates = d.gates }) (walk-all place now pins all so)
