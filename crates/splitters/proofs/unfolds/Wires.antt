-- Wires with their drivers: elements keep what is found, and a tree of splitters hands its driver on to all its targets.
use Rattle.std.proofs.Common.{◌≡◌, ◌≤◌, ℕ, zero, suc, ◌+◌, ◌-◌, ◌*◌, List, [], ◌∷◌, ◌++◌, refl, ap, sym, subst, ◌∙◌, arith}
use Rattle.std.proofs.lemmas.Bool.{ne_eqb}
use Rattle.std.specs.Prelude.{Some, None}
use Rattle.gate_net.specs.declared.row.Driver.{Driver}
use Rattle.gate_net.specs.declared.row.Driver.TheVariants.{Input}
use Rattle.pulse_net.specs.declared.net.Element.TheVariants.{Split}
use Rattle.pulse_net.specs.Wires.{Wires, found}
use Rattle.pulse_net.specs.Unfolding.{Unfolding, driver_of, with_wire, unfold_element, unfold_elements}
use Rattle.pulse_net.proofs.CallerLemmas.{carried-found, unfold_elements-append, with_wire-keeps, with_wire-found, with_wire-other}
use Rattle.splitters.specs.Spread.{first_half, tree_lines, tree_wires}
use Rattle.splitters.proofs.Trees.{half-below, rest-below}
use Rattle.splitters.proofs.valid.Multiplicity.{AreFound, AreFound-append}

-- what is found in the one is found in the other
abbrev pub Keeps : Wires Driver → Wires Driver → Type 0
Keeps made more = (wire : ℕ) (driver : Driver) → found made wire ≡ Some driver → found more wire ≡ Some driver

-- no wire from this one on is made
abbrev pub IsFresh : ℕ → Wires Driver → Type 0
IsFresh next made = (wire : ℕ) → next ≤ wire → found made wire ≡ None

-- one wire more
pub with_wire-fresh : (made : Wires Driver) (next : ℕ) (driver : Driver) → IsFresh next made → IsFresh (next + 1) (with_wire made next driver)
with_wire-fresh made next driver fresh wire high =
    with_wire-other made next driver wire (ne_eqb wire next (λ e. omega arith)) (fresh next (omega arith)) (fresh wire (omega arith))

-- What some elements leave as it was: wires that are found, the gates and their stages.
pub record AreKept (so later : Unfolding) : Type 0 where
  pub wires : Keeps so.wires later.wires
  pub gates : later.gates ≡ so.gates
  pub stages : later.stages ≡ so.stages

pub AreKept-same : (so : Unfolding) → AreKept so so
AreKept-same so = record { wires = λ wire driver h. h; gates = refl; stages = refl }

pub AreKept-then : (so later last : Unfolding) → AreKept so later → AreKept later last → AreKept so last
AreKept-then so later last before behind = record {
  wires = λ wire driver h. behind.wires wire driver (before.wires wire driver h);
  gates = behind.gates ∙ before.gates;
  stages = behind.stages ∙ before.stages;
}

-- What a spread leaves: the targets' wires have the driver of the wire that is spread, and the next wire isn't made yet.
pub record IsHanded (so later : Unfolding) (next : ℕ) (driver : Driver) (wires : List ℕ) : Type 0 where
  pub fresh : IsFresh next later.wires
  pub handed : AreFound later.wires driver wires
  pub kept : AreKept so later

AreFound-kept : (made more : Wires Driver) (driver : Driver) (wires : List ℕ) → Keeps made more → AreFound made driver wires → AreFound more driver wires
AreFound-kept made more driver [] keeps h = tt
AreFound-kept made more driver (wire ∷ wires) keeps h = (keeps wire driver h.0, AreFound-kept made more driver wires keeps h.1)

IsHanded-split : (so : Unfolding) (from next : ℕ) (driver : Driver) → IsFresh next so.wires → found so.wires from ≡ Some driver →
    IsHanded so (unfold_element (Split from next (next + 1)) so) (next + 2) driver (next ∷ (next + 1) ∷ [])
IsHanded-split so from next driver fresh h =
    let d = driver_of so.wires from in
    let hands : d ≡ driver = carried-found (Input 0) so.wires from driver h in
    let one = with_wire so.wires next d in
    let fresh_one = with_wire-fresh so.wires next d fresh in
    let two = with_wire one (next + 1) d in
    let e : (next + 1) + 1 ≡ next + 2 = omega arith in
    record {
      fresh = subst (λ n. IsFresh n two) e (with_wire-fresh one (next + 1) d fresh_one);
      handed = (
        with_wire-keeps one (next + 1) d next driver (with_wire-found so.wires next d (fresh next (omega arith)) ∙ ap Some hands),
        (with_wire-found one (next + 1) d (fresh_one (next + 1) (omega arith)) ∙ ap Some hands, tt),
      );
      kept = record {
        wires = λ wire its found_wire. with_wire-keeps one (next + 1) d wire its (with_wire-keeps so.wires next d wire its found_wire);
        gates = refl;
        stages = refl;
      };
    }

-- By induction over the tree: behind its first splitter the left wire is spread, and then the right one.
pub IsHanded-tree : (depth targets : ℕ) (so : Unfolding) (from next : ℕ) (driver : Driver) →
    targets ≤ depth → 1 ≤ targets → IsFresh next so.wires → found so.wires from ≡ Some driver →
    IsHanded so (unfold_elements (tree_lines depth from next targets) so) (next + 2 * (targets - 1)) driver (tree_wires depth from next targets)
IsHanded-tree zero targets so from next driver few some fresh h = absurd (omega arith)
IsHanded-tree (suc depth) zero so from next driver few some fresh h = absurd (omega arith)
IsHanded-tree (suc depth) (suc zero) so from next driver few some fresh h =
    let same : next ≡ next + 2 * (suc zero - 1) = omega arith in
    subst (λ n. IsHanded so so n driver (from ∷ [])) same (record { fresh = fresh; handed = (h, tt); kept = AreKept-same so })
IsHanded-tree (suc depth) (suc (suc more)) so from next driver few some fresh h =
    let left = first_half (suc (suc more)) in
    let right = suc (suc more) - left in
    let halved = half-below more in
    let other = rest-below more in
    let split = IsHanded-split so from next driver fresh h in
    let so_split = unfold_element (Split from next (next + 1)) so in
    let left_lines = tree_lines depth next (next + 2) left in
    let left_wires = tree_wires depth next (next + 2) left in
    let so_left = unfold_elements left_lines so_split in
    let lefts = IsHanded-tree depth left so_split next (next + 2) driver (omega (arith, halved)) (omega arith) split.fresh split.handed.0 in
    let e : (next + 2) + 2 * (left - 1) ≡ next + 2 * left = omega arith in
    let right_lines = tree_lines depth (next + 1) (next + 2 * left) right in
    let right_wires = tree_wires depth (next + 1) (next + 2 * left) right in
    let so_right = unfold_elements right_lines so_left in
    let rights = IsHanded-tree depth right so_left (next + 1) (next + 2 * left) driver (omega (arith, other)) (omega (arith, halved))
    (subst (λ n. IsFresh n so_left.wires) e lefts.fresh) (lefts.kept.wires (next + 1) driver split.handed.1.0) in
    let f : (next + 2 * left) + 2 * (right - 1) ≡ next + 2 * (suc (suc more) - 1) = omega (arith, halved) in
    let whole : IsHanded so so_right (next + 2 * (suc (suc more) - 1)) driver (left_wires ++ right_wires) = record {
      fresh = subst (λ n. IsFresh n so_right.wires) f rights.fresh;
      handed = AreFound-append so_right.wires driver left_wires right_wires (AreFound-kept so_left.wires so_right.wires driver left_wires rights.kept.wires lefts.handed) rights.handed;
      kept = AreKept-then so so_split so_right split.kept (AreKept-then so_split so_left so_right lefts.kept rights.kept);
    } in
    subst (λ (later : Unfolding). IsHanded so later (next + 2 * (suc (suc more) - 1)) driver (left_wires ++ right_wires)) (sym (unfold_elements-append left_lines right_lines so_split)) whole
