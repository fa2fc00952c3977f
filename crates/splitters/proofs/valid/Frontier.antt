-- The frontier: how often each wire waits for a user, with its stage. What is laid out so far keeps the rules on wires, but
-- for those of the frontier. Each step takes one wire from it, or a gate's pins, and adds what it makes.
use Rattle.std.proofs.Common.{◌≡◌, ◌≤◌, ℕ, zero, suc, ◌+◌, ◌-◌, ◌*◌, cond, nat_eq, List, [], ◌∷◌, ◌++◌, length, All, refl, ap, sym, subst, ◌∙◌, arith, append_assoc}
use Rattle.std.proofs.lemmas.Bool.{ne_eqb}
use Rattle.std.specs.Prelude.{Some, None, flat_map}
use Rattle.std.specs.Cmp.{nat_eq_equiv}
use Rattle.std.proofs.lemmas.List.{append-nil}
use Rattle.std.proofs.lemmas.List.Concat.{flat_map-append}
use Rattle.std.proofs.lemmas.List.Elements.{All-nil, All-cons, All-append}
use Rattle.cell_lib.specs.declared.cell.Cell.{Cell}
use Rattle.cell_lib.specs.Cell.{arity_of}
use Rattle.pulse_net.specs.declared.net.Element.{Element}
use Rattle.pulse_net.specs.declared.net.Element.TheVariants.{Clocked, Split}
use Rattle.pulse_net.specs.Formed.{HasItsPins}
use Rattle.pulse_net.specs.Wires.{Wires, found, carried, element_wires, element_uses, cell_stage}
use Rattle.pulse_net.specs.Wired.{element_makes, ArriveInTime, ElementInTime, ElementsInTime}
use Rattle.pulse_net.proofs.CallerLemmas.{carried-found, after_elements-append, after_elements-more, after_elements-last, ElementsInTime-append}
use Rattle.splitters.specs.Spread.{first_half, tree_lines, tree_wires}
use Rattle.splitters.proofs.Trees.{half-below, rest-below}
use Rattle.splitters.proofs.valid.Multiplicity.{once, times, times-append, run, run-append, run-split, after, AreFound, AreFound-append, AreFound-stay}

-- Elements are laid out behind `first` wires of inputs, with the wires below `next` made. `waits` is the frontier: how often
-- each wire waits for a user, at the stage that is found for it (`after`).
pub record IsLaid (n first : ℕ) (start : Wires ℕ) (elements : List Element) (next : ℕ) (waits : ℕ → ℕ) : Type 0 where
  pub in_time : ElementsInTime n start elements
  pub pins : All HasItsPins elements
  pub count : ℕ
  pub reaches : first + count ≡ next
  pub makes : flat_map element_makes elements ≡ run first count
  pub fresh : (wire : ℕ) → next ≤ wire → found (after start elements) wire ≡ None
  pub balance : (wire : ℕ) → times wire (flat_map element_uses elements) + waits wire ≡ times wire (run 0 next)

-- the same wires wait
pub IsLaid-waits : (n first : ℕ) (start : Wires ℕ) (elements : List Element) (next : ℕ) (waits others : ℕ → ℕ) →
    ((wire : ℕ) → others wire ≡ waits wire) → IsLaid n first start elements next waits → IsLaid n first start elements next others
IsLaid-waits n first start elements next waits others same laid = record {
  in_time = laid.in_time;
  pins = laid.pins;
  count = laid.count;
  reaches = laid.reaches;
  makes = laid.makes;
  fresh = laid.fresh;
  balance = λ wire. ap (λ k. times wire (flat_map element_uses elements) + k) (same wire) ∙ laid.balance wire;
}

-- one element more
record IsStep (n : ℕ) (made : Wires ℕ) (element : Element) (next count : ℕ) : Type 0 where
  in_time : ElementInTime n made element
  pins : HasItsPins element
  makes : element_makes element ≡ run next count
  fresh : (wire : ℕ) → next + count ≤ wire → found (element_wires 0 cell_stage made element) wire ≡ None

IsLaid-step : (n first : ℕ) (start : Wires ℕ) (elements : List Element) (next : ℕ) (waits others : ℕ → ℕ) (element : Element) (count : ℕ) →
    IsLaid n first start elements next waits →
    IsStep n (after start elements) element next count →
    ((wire : ℕ) → waits wire + times wire (run next count) ≡ times wire (element_uses element) + others wire) →
    IsLaid n first start (elements ++ element ∷ []) (next + count) others
IsLaid-step n first start elements next waits others element count laid step moves = record {
  in_time = ElementsInTime-append n start elements (element ∷ []) laid.in_time (step.in_time, tt);
  pins = All-append HasItsPins elements (element ∷ []) laid.pins (All-cons HasItsPins element [] step.pins (All-nil HasItsPins));
  count = laid.count + count;
  reaches = let e = laid.reaches in omega arith;
  makes =
      flat_map-append element_makes elements (element ∷ [])
      ∙ (λ i. laid.makes i ++ (append-nil (element_makes element) ∙ step.makes) i)
      ∙ ap (λ k. run first laid.count ++ run k count) (sym laid.reaches)
      ∙ sym (run-append first laid.count count);
  fresh = λ wire high.
      let old : found (after start elements) wire ≡ None = laid.fresh wire (omega arith) in
      after_elements-last 0 cell_stage start elements element wire old ∙ step.fresh wire high;
  balance = λ wire.
      let old = laid.balance wire in
      let move = moves wire in
      let used : times wire (flat_map element_uses (elements ++ element ∷ [])) ≡ times wire (flat_map element_uses elements) + times wire (element_uses element) =
      ap (times wire) (flat_map-append element_uses elements (element ∷ []) ∙ ap (λ l. flat_map element_uses elements ++ l) (append-nil (element_uses element))) ∙ times-append wire (flat_map element_uses elements) (element_uses element) in
      let made : times wire (run 0 (next + count)) ≡ times wire (run 0 next) + times wire (run next count) =
      let z : 0 + next ≡ next = omega arith in
      ap (times wire) (run-split 0 next next count z) ∙ times-append wire (run 0 next) (run next count) in
      omega (arith, old, move, used, made);
}

-- wires that are found stay found behind elements that follow
AreFound-step : (start : Wires ℕ) (elements more : List Element) (stage : ℕ) (wires : List ℕ) → AreFound (after start elements) stage wires → AreFound (after start (elements ++ more)) stage wires
AreFound-step start elements more stage wires h =
    subst (λ (made : Wires ℕ). AreFound made stage wires) (sym (after_elements-append 0 cell_stage start elements more)) (AreFound-stay (after start elements) more stage wires h)

-- what an element makes is found behind it, where no such wire was found
found-last : (start : Wires ℕ) (elements : List Element) (element : Element) (wire stage : ℕ) → found (after start elements) wire ≡ None →
    found (element_wires 0 cell_stage (after start elements) element) wire ≡ Some stage → found (after start (elements ++ element ∷ [])) wire ≡ Some stage
found-last start elements element wire stage new here = after_elements-last 0 cell_stage start elements element wire new ∙ here

-- a clocked cell takes wires that wait, and makes the next, which waits
pub IsLaid-cell : (n first : ℕ) (start : Wires ℕ) (elements : List Element) (next : ℕ) (rest : ℕ → ℕ) (cell : Cell) (stage : ℕ) (pins : List ℕ) →
    IsLaid n first start elements next (λ wire. times wire pins + rest wire) →
    length pins ≡ arity_of cell →
    ArriveInTime n (after start elements) stage pins →
    IsLaid n first start (elements ++ Clocked cell stage pins next ∷ []) (next + 1) (λ wire. once wire next + rest wire)
    × (found (after start (elements ++ Clocked cell stage pins next ∷ [])) next ≡ Some stage)
IsLaid-cell n first start elements next rest cell stage pins laid each arrive = (
  IsLaid-step n first start elements next (λ wire. times wire pins + rest wire) (λ wire. once wire next + rest wire) (Clocked cell stage pins next) 1 laid
      (record {
        in_time = arrive;
        pins = each;
        makes = refl;
        fresh = λ wire high. ap (λ here. cond here (Some stage) None) (ne_eqb wire next (λ e. omega arith));
      })
      (λ wire. omega arith),
  found-last start elements (Clocked cell stage pins next) next stage (laid.fresh next (omega arith)) (ap (λ here. cond here (Some stage) None) (nat_eq_equiv.refl next)),
)

-- a splitter takes a wire that waits, and makes the next two, which wait
IsLaid-split : (n first : ℕ) (start : Wires ℕ) (elements : List Element) (next : ℕ) (rest : ℕ → ℕ) (from stage : ℕ) →
    IsLaid n first start elements next (λ wire. once wire from + rest wire) →
    found (after start elements) from ≡ Some stage →
    IsLaid n first start (elements ++ Split from next (next + 1) ∷ []) (next + 2) (λ wire. once wire next + (once wire (next + 1) + rest wire))
    × (found (after start (elements ++ Split from next (next + 1) ∷ [])) next ≡ Some stage)
    × (found (after start (elements ++ Split from next (next + 1) ∷ [])) (next + 1) ≡ Some stage)
IsLaid-split n first start elements next rest from stage laid h =
    let made = after start elements in
    let s = carried 0 made from in
    let hands = carried-found 0 made from stage h in
    let succ : next + 1 ≡ suc next = omega arith in (
      IsLaid-step n first start elements next (λ wire. once wire from + rest wire) (λ wire. once wire next + (once wire (next + 1) + rest wire)) (Split from next (next + 1)) 2 laid
          (record {
            in_time = (stage, h);
            pins = tt;
            makes = ap (λ k. next ∷ (k ∷ [])) succ;
            fresh = λ wire high. ap (λ here. cond here (Some s) (cond (nat_eq wire (next + 1)) (Some s) None)) (ne_eqb wire next (λ e. omega arith)) ∙ ap (λ here. cond here (Some s) None) (ne_eqb wire (next + 1) (λ e. omega arith));
          })
          (λ wire. let e : once wire (suc next) ≡ once wire (next + 1) = ap (once wire) (sym succ) in omega (arith, e)),
      found-last start elements (Split from next (next + 1)) next stage (laid.fresh next (omega arith)) (ap (λ here. cond here (Some s) (cond (nat_eq next (next + 1)) (Some s) None)) (nat_eq_equiv.refl next) ∙ ap Some hands),
      found-last start elements (Split from next (next + 1)) (next + 1) stage (laid.fresh (next + 1) (omega arith)) (ap (λ here. cond here (Some s) (cond (nat_eq (next + 1) (next + 1)) (Some s) None)) (ne_eqb (next + 1) next (λ e. omega arith)) ∙ ap (λ here. cond here (Some s) None) (nat_eq_equiv.refl (next + 1)) ∙ ap Some hands),
    )

-- What a spread leaves: the wires of the targets wait in place of the one that is spread, all at its stage. By induction
-- over the tree: behind its first splitter the left wire is spread while the right one waits, and then the right one.
pub record IsSpread (n first : ℕ) (start : Wires ℕ) (elements : List Element) (next : ℕ) (rest : ℕ → ℕ) (stage : ℕ) (wires : List ℕ) : Type 0 where
  pub laid : IsLaid n first start elements next (λ wire. times wire wires + rest wire)
  pub stages : AreFound (after start elements) stage wires

pub IsSpread-tree : (depth targets : ℕ) (n first : ℕ) (start : Wires ℕ) (elements : List Element) (next : ℕ) (rest : ℕ → ℕ) (from stage : ℕ) →
    targets ≤ depth → 1 ≤ targets →
    IsLaid n first start elements next (λ wire. once wire from + rest wire) →
    found (after start elements) from ≡ Some stage →
    IsSpread n first start (elements ++ tree_lines depth from next targets) (next + 2 * (targets - 1)) rest stage (tree_wires depth from next targets)
IsSpread-tree zero targets n first start elements next rest from stage few some laid h = absurd (omega arith)
IsSpread-tree (suc depth) zero n first start elements next rest from stage few some laid h = absurd (omega arith)
IsSpread-tree (suc depth) (suc zero) n first start elements next rest from stage few some laid h =
    let same : next ≡ next + 2 * (suc zero - 1) = omega arith in
    let one : IsSpread n first start elements next rest stage (from ∷ []) = record {
      laid = IsLaid-waits n first start elements next (λ wire. once wire from + rest wire) (λ wire. times wire (from ∷ []) + rest wire) (λ wire. omega arith) laid;
      stages = (h, tt);
    } in
    let nil = append-nil elements in
    subst (λ (es : List Element). IsSpread n first start es (next + 2 * (suc zero - 1)) rest stage (from ∷ [])) (sym nil)
    (subst (λ k. IsSpread n first start elements k rest stage (from ∷ [])) same one)
IsSpread-tree (suc depth) (suc (suc more)) n first start elements next rest from stage few some laid h =
    let left = first_half (suc (suc more)) in
    let right = suc (suc more) - left in
    let halved = half-below more in
    let other = rest-below more in
    let split = IsLaid-split n first start elements next rest from stage laid h in
    let lines = elements ++ Split from next (next + 1) ∷ [] in
    let lefts = IsSpread-tree depth left n first start lines (next + 2) (λ wire. once wire (next + 1) + rest wire) next stage (omega (arith, halved)) (omega arith) split.0 split.1 in
    let left_lines = tree_lines depth next (next + 2) left in
    let left_wires = tree_wires depth next (next + 2) left in
    let e : (next + 2) + 2 * (left - 1) ≡ next + 2 * left = omega arith in
    let left_laid : IsLaid n first start (lines ++ left_lines) (next + 2 * left) (λ wire. times wire left_wires + (once wire (next + 1) + rest wire)) =
    subst (λ k. IsLaid n first start (lines ++ left_lines) k (λ wire. times wire left_wires + (once wire (next + 1) + rest wire))) e lefts.laid in
    let rights = IsSpread-tree depth right n first start (lines ++ left_lines) (next + 2 * left) (λ wire. times wire left_wires + rest wire) (next + 1) stage (omega (arith, other)) (omega (arith, halved))
    (IsLaid-waits n first start (lines ++ left_lines) (next + 2 * left) (λ wire. times wire left_wires + (once wire (next + 1) + rest wire)) (λ wire. once wire (next + 1) + (times wire left_wires + rest wire)) (λ wire. omega arith) left_laid)
    (after_elements-more 0 cell_stage start lines left_lines (next + 1) stage split.2) in
    let right_lines = tree_lines depth (next + 1) (next + 2 * left) right in
    let right_wires = tree_wires depth (next + 1) (next + 2 * left) right in
    let f : (next + 2 * left) + 2 * (right - 1) ≡ next + 2 * (suc (suc more) - 1) = omega (arith, halved) in
    let all_lines : (lines ++ left_lines) ++ right_lines ≡ elements ++ (Split from next (next + 1) ∷ (left_lines ++ right_lines)) =
    append_assoc lines left_lines right_lines ∙ append_assoc elements (Split from next (next + 1) ∷ []) (left_lines ++ right_lines) in
    let whole : IsSpread n first start ((lines ++ left_lines) ++ right_lines) ((next + 2 * left) + 2 * (right - 1)) rest stage (left_wires ++ right_wires) = record {
      laid = IsLaid-waits n first start ((lines ++ left_lines) ++ right_lines) ((next + 2 * left) + 2 * (right - 1)) (λ wire. times wire right_wires + (times wire left_wires + rest wire)) (λ wire. times wire (left_wires ++ right_wires) + rest wire)
          (λ wire. let e = times-append wire left_wires right_wires in omega (arith, e)) rights.laid;
      stages = AreFound-append (after start ((lines ++ left_lines) ++ right_lines)) stage left_wires right_wires (AreFound-step start (lines ++ left_lines) right_lines stage left_wires lefts.stages) rights.stages;
    } in
    subst (λ (es : List Element). IsSpread n first start es (next + 2 * (suc (suc more) - 1)) rest stage (left_wires ++ right_wires)) all_lines
    (subst (λ k. IsSpread n first start ((lines ++ left_lines) ++ right_lines) k rest stage (left_wires ++ right_wires)) f whole)
