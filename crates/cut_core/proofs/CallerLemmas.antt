-- What the crates above cite: which events are allowed and what an allowed one has, and that states stay sound.
use Rattle.std.proofs.Common.{◌≡◌, ◌==◌, ◌&&◌, ℕ, true, not, List, get_or, length, nat_lt, ◌∙◌, refl, ap}
use Rattle.std.proofs.lemmas.Bool.{and_from, eq-eqb, lt-ltb, not_from_false}
use Rattle.net_base.specs.declared.graph.Graph.{Graph}
use Rattle.cut_lists.specs.Rows.{node_words}
use Rattle.cut_core.specs.declared.event.Event.TheVariants.{Claim, Put, Publish}
use Rattle.cut_core.specs.declared.event.NodeState.{NodeState}
use Rattle.cut_core.specs.declared.event.NodeState.TheVariants.{Claimed}
use Rattle.cut_core.specs.Machine.{is_free, is_claimed_with, state_at, has_claim, are_published, fan_ins_at, is_word, is_allowed}
pub use Rattle.cut_core.proofs.States.{free-is, published-is, claimed-is, there, MayClaim, MayPut, claim-has, put-has, publish-has, no_claim, at_node, at_any, are_published-kept, list_any-set, list_any-same}
pub use Rattle.cut_core.proofs.Soundness.{sound-after, sound-next, start_at, inputs_alone, sound-start, states_sound}
pub use Rattle.cut_core.proofs.Claimants.{has_claim-claimed, has_claim-put, has_claim-published, has_claim-start}
pub use Rattle.cut_core.proofs.Histories.{puts_words, published_once}

claimed_with : (actor count : ℕ) (state : NodeState) → state ≡ Claimed actor count → is_claimed_with actor count state ≡ true
claimed_with actor count state e = ap (is_claimed_with actor count) e ∙ and_from (actor == actor) (count == count) (eq-eqb actor actor refl) (eq-eqb count count refl)

-- An event that has what an allowed one has is allowed.
pub claim-allowed : (graph : Graph) (states : List NodeState) (actor node : ℕ) → MayClaim graph states actor node → is_allowed graph states (Claim actor node) ≡ true
claim-allowed graph states actor node may =
    let within = nat_lt node (length graph.nodes) in
    let free = is_free (state_at states node) in
    let ready = are_published states (fan_ins_at graph node) in
    and_from (within && free && ready) (not (has_claim states actor))
    (and_from (within && free) ready (and_from within free (lt-ltb node (length graph.nodes) may.node_there) (ap is_free may.free)) may.fan_ins)
    (not_from_false (has_claim states actor) may.first)

pub put-allowed : (graph : Graph) (states : List NodeState) (actor node place word : ℕ) → MayPut graph states actor node place word → is_allowed graph states (Put actor node place word) ≡ true
put-allowed graph states actor node place word may =
    and_from (is_claimed_with actor place (state_at states node)) (is_word graph node place word) (claimed_with actor place (state_at states node) may.claimed)
    (and_from (nat_lt place (length (node_words graph node))) (get_or (node_words graph node) place 0 == word)
    (lt-ltb place (length (node_words graph node)) may.place_there) (eq-eqb (get_or (node_words graph node) place 0) word may.word_is))

pub publish-allowed : (graph : Graph) (states : List NodeState) (actor node : ℕ) → state_at states node ≡ Claimed actor (length (node_words graph node)) → is_allowed graph states (Publish actor node) ≡ true
publish-allowed graph states actor node e = claimed_with actor (length (node_words graph node)) (state_at states node) e
