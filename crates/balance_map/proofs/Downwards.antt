-- The walk over the nodes from the last one down: the marks say which lower nodes are wanted.
use Rattle.std.proofs.Common.{◌≡◌, ◌≤◌, ◌<◌, ◌+◌, ◌++◌, ◌&&◌, ◌||◌, ◌∙◌, ℕ, zero, suc, Bool, true, false, cond, nat_eq, List, [], ◌∷◌, get_or, length, replicate, reverse, take, drop, Some, ◌-◌, refl, sym, ap, subst, arith, add-one}
use Rattle.std.proofs.lemmas.Bool.{le-leb, lt-leb}
use Rattle.std.proofs.lemmas.List.{reverse-append, append_assoc, append-nil, length-replicate, take_at}
use Rattle.std.proofs.lemmas.Option.{get_or_from_slice_get}
use Rattle.std.specs.Prelude.{slice_get}
use Rattle.cut_word.specs.Word.{IsWords}
use Rattle.balance_map.specs.declared.choice.Choice.{Choice}
use Rattle.balance_map.proofs.Chosen.{ComesFrom, IsOfNode, choice-comes}
use Rattle.std.proofs.lemmas.List.Folds.{list_any-append}
use Rattle.net_base.specs.declared.graph.Subject.{Subject}
use Rattle.net_base.specs.Graph.{IsProper}
use Rattle.net_base.specs.Keys.{is_among}
use Rattle.balance_map.specs.FanOuts.{output_nodes}
use Rattle.balance_map.specs.Choices.{own_choice, choice_at, choices_of}
use Rattle.balance_map.specs.Needed.{leaves_used, needed_below, needed_nodes}
use Rattle.balance_map.specs.Walks.{NotesNodes}

module _ (subject : Subject) where
  abbrev needed : ℕ → List ℕ → List ℕ
  needed node wanted = needed_below subject.graph.inputs (choices_of subject) node wanted

  -- The marks below a node are those of the wanted ones, and the needed nodes below it stand before those that were found.
  pub record IsDownTo (node : ℕ) (marks : List Bool) (found : List ℕ) : Type 0 where
    pub wanted : List ℕ
    pub count : length marks ≡ length subject.graph.nodes
    pub marked : (other : ℕ) → other < node → get_or marks other false ≡ is_among nat_eq other wanted
    pub rest : needed node wanted ++ reverse found ≡ needed_nodes subject

  pub down-start : (clear marks : List Bool) → clear ≡ replicate (length subject.graph.nodes) false → length marks ≡ length clear → NotesNodes clear marks (output_nodes subject) → IsDownTo (length subject.graph.nodes) marks []
  unfolding needed_nodes
  down-start clear marks is long notes = record {
    wanted = output_nodes subject;
    count = long ∙ ap length is ∙ length-replicate (length subject.graph.nodes) false;
    marked = λ other low. notes other (omega (arith, ap length is, length-replicate (length subject.graph.nodes) false)) ∙ ap (λ b. b || is_among nat_eq other (output_nodes subject)) (ap (λ bs. get_or bs other false) is ∙ get_or-replicate-default other (length subject.graph.nodes));
    rest = append-nil (needed (length subject.graph.nodes) (output_nodes subject));
  }
    where
      get_or-replicate-default : (other n : ℕ) → get_or (replicate n false) other false ≡ false
      get_or-replicate-default other zero = refl
      get_or-replicate-default zero (suc n) = refl
      get_or-replicate-default (suc other) (suc n) = get_or-replicate-default other n

  -- a marked node is found, and its leaves are marked
  pub down-next : (node : ℕ) (marks more : List Bool) (found : List ℕ) → subject.graph.inputs ≤ node → node < length subject.graph.nodes → get_or marks node false ≡ true → length more ≡ length marks → NotesNodes marks more (leaves_used (choice_at (choices_of subject) node)) → IsDownTo (node + 1) marks found → IsDownTo node more (found ++ node ∷ [])
  down-next node marks more found behind within set long notes down = record {
    wanted = down.wanted ++ leaves_used (choice_at (choices_of subject) node);
    count = long ∙ down.count;
    marked = λ other low.
        notes other (omega (arith, down.count))
        ∙ ap (λ b. b || is_among nat_eq other (leaves_used (choice_at (choices_of subject) node))) (down.marked other (omega arith))
        ∙ sym (list_any-append (nat_eq other) down.wanted (leaves_used (choice_at (choices_of subject) node)));
    rest =
        ap (λ ns. needed node (down.wanted ++ leaves_used (choice_at (choices_of subject) node)) ++ ns) (reverse-append found (node ∷ []))
        ∙ sym (append_assoc (needed node (down.wanted ++ leaves_used (choice_at (choices_of subject) node))) (node ∷ []) (reverse found))
        ∙ ap (λ ns. ns ++ reverse found) (sym next) ∙ down.rest;
  }
    where
      next : needed (node + 1) down.wanted ≡ needed node (down.wanted ++ leaves_used (choice_at (choices_of subject) node)) ++ node ∷ []
      next =
          ap (λ n. needed n down.wanted) (add-one node)
          ∙ ap (λ b. cond (b && is_among nat_eq node down.wanted) (needed node (down.wanted ++ leaves_used (choice_at (choices_of subject) node)) ++ node ∷ []) (needed node down.wanted)) (le-leb subject.graph.inputs node behind)
          ∙ ap (λ b. cond b (needed node (down.wanted ++ leaves_used (choice_at (choices_of subject) node)) ++ node ∷ []) (needed node down.wanted)) (sym (down.marked node (omega arith)) ∙ set)

  pub down-same : (node : ℕ) (marks : List Bool) (found : List ℕ) → subject.graph.inputs ≤ node → get_or marks node false ≡ false → IsDownTo (node + 1) marks found → IsDownTo node marks found
  down-same node marks found behind clear down = record {
    wanted = down.wanted;
    count = down.count;
    marked = λ other low. down.marked other (omega arith);
    rest = ap (λ ns. ns ++ reverse found) (sym same) ∙ down.rest;
  }
    where
      same : needed (node + 1) down.wanted ≡ needed node down.wanted
      same =
          ap (λ n. needed n down.wanted) (add-one node)
          ∙ ap (λ b. cond (b && is_among nat_eq node down.wanted) (needed node (down.wanted ++ leaves_used (choice_at (choices_of subject) node)) ++ node ∷ []) (needed node down.wanted)) (le-leb subject.graph.inputs node behind)
          ∙ ap (λ b. cond b (needed node (down.wanted ++ leaves_used (choice_at (choices_of subject) node)) ++ node ∷ []) (needed node down.wanted)) (sym (down.marked node (omega arith)) ∙ clear)

  -- no input is needed
  needed-inputs : (node : ℕ) (wanted : List ℕ) → node ≤ subject.graph.inputs → needed node wanted ≡ []
  needed-inputs zero wanted few = refl
  needed-inputs (suc node) wanted few =
      ap (λ b. cond (b && is_among nat_eq node wanted) (needed node (wanted ++ leaves_used (choice_at (choices_of subject) node)) ++ node ∷ []) (needed node wanted)) (lt-leb subject.graph.inputs node (omega arith))
      ∙ needed-inputs node wanted (omega arith)

  pub down-last : (node : ℕ) (marks : List Bool) (found : List ℕ) → node ≤ subject.graph.inputs → IsDownTo node marks found → reverse found ≡ needed_nodes subject
  down-last node marks found few down = sym (ap (λ ns. ns ++ reverse found) (needed-inputs node down.wanted few)) ∙ down.rest

  -- ---- For the loop
  -- a node of the loop, which counts from one above it
  pub loop-node : (next : ℕ) → subject.graph.inputs < next → (next - 1) + 1 ≡ next
  loop-node next some = omega arith

  -- marks that were written in place
  pub written : (marks more : List Bool) (len : ℕ) → len ≡ length more → take len (more ++ drop (length more) marks) ≡ more
  written marks more len is = take_at more (drop (length more) marks) len (sym is)

  pub loop-start : (next len : ℕ) (marks clear more : List Bool) (found : List ℕ) → next ≡ length subject.graph.nodes → clear ≡ replicate (length subject.graph.nodes) false → length more ≡ length clear → len ≡ length more → found ≡ [] → NotesNodes clear more (output_nodes subject) → IsDownTo next (take len (more ++ drop (length more) marks)) found
  loop-start next len marks clear more found at is long same none notes =
      rw (at, written marks more len same, none) (down-start clear more is long notes)

  pub loop-next : (next len : ℕ) (marks more : List Bool) (found all : List ℕ) → subject.graph.inputs < next → next ≤ length subject.graph.nodes → get_or marks (next - 1) false ≡ true → length more ≡ length marks → len ≡ length marks → all ≡ found ++ (next - 1) ∷ [] → NotesNodes marks more (leaves_used (choice_at (choices_of subject) (next - 1))) → IsDownTo next marks found → IsDownTo (next - 1) (take len (more ++ drop (length more) marks)) all
  loop-next next len marks more found all some few set long same is notes down =
      rw (written marks more len (same ∙ sym long), is)
      (down-next (next - 1) marks more found (omega arith) (omega arith) set long notes (subst (λ n. IsDownTo n marks found) (sym (loop-node next some)) down))

  pub loop-same : (next : ℕ) (marks : List Bool) (found : List ℕ) → subject.graph.inputs < next → get_or marks (next - 1) false ≡ false → IsDownTo next marks found → IsDownTo (next - 1) marks found
  loop-same next marks found some clear down = down-same (next - 1) marks found (omega arith) clear (subst (λ n. IsDownTo n marks found) (sym (loop-node next some)) down)

  -- the choice at a node's place is the node's
  pub choice-is : (choices : List Choice) (node : ℕ) (choice : Choice) → choices ≡ choices_of subject → slice_get choices node ≡ Some choice → choice_at (choices_of subject) node ≡ choice
  choice-is choices node choice is at = get_or-read (sym is)
    where
      get_or-read : choices_of subject ≡ choices → get_or (choices_of subject) node (own_choice node) ≡ choice
      get_or-read same = ap (λ cs. get_or cs node (own_choice node)) same ∙ get_or_from_slice_get choices node choice (own_choice node) at

  -- A choice that may be walked: its words are those of a cut, and it is four deep at most.
  pub record IsShort (choice : Choice) : Type 0 where
    pub words : IsWords choice.leaves choice.table
    pub shallow : choice.depth ≤ 4

  pub choice-short : (node : ℕ) → IsProper subject.graph → node < length subject.graph.nodes → subject.graph.inputs ≤ node → IsShort (choice_at (choices_of subject) node)
  choice-short node proper within behind =
      let from : ComesFrom (IsOfNode subject node) (choice_at (choices_of subject) node) = choice-comes subject node proper within behind in
      record { words = (from.cut, from.is.cut', sym from.leaves, sym from.table); shallow = omega (arith, from.depth, from.shallow) }

  pub choice-at-short : (choices : List Choice) (node : ℕ) (choice : Choice) → choices ≡ choices_of subject → slice_get choices node ≡ Some choice → IsProper subject.graph → node < length subject.graph.nodes → subject.graph.inputs ≤ node → IsShort choice
  choice-at-short choices node choice is at proper within behind = subst IsShort (choice-is choices node choice is at) (choice-short node proper within behind)
