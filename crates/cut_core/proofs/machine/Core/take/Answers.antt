use Rattle.std.proofs.Common.{◌≡◌, ◌≤◌, ◌<◌, ◌∙◌, ◌+◌, ℕ, Bool, true, false, cond, length, nat_eq, refl, sym, ap, arith}
use Rattle.cut_lists.specs.Rows.{node_words}
use Rattle.cut_lists.proofs.CallerLemmas.{node_words-few}
use Rattle.cut_core.specs.declared.event.Event.TheVariants.{Claim, Put, Publish}
use Rattle.cut_core.specs.declared.event.NodeState.TheVariants.{Claimed, Published}
use Rattle.cut_core.specs.Machine.{is_free, is_allowed, state_at}
use Rattle.cut_core.proofs.States.{MayPut, there, claim-has, put-has, publish-has}
use Rattle.cut_core.proofs.Soundness.{sound-after}
use Rattle.cut_core.proofs.CoreRows.{rows-set, rows-kept}
use Rattle.cut_core.proofs.Claimants.{has_claim-claimed, has_claim-put, has_claim-published, free-claimed, free-kept}
use Rattle.cut_core.proofs.machine.Core.take.Goals as goal

may_put : (c : goal.In-Put) → MayPut c.args.graph.now c.args.self.now.states.items c.in-Put.actor c.in-Put.node c.in-Put.place c.in-Put.field-3
may_put c =
    let graph = c.args.graph.now in
    let states = c.args.self.now.states.items in
    put-has graph states c.in-Put.actor c.in-Put.node c.in-Put.place c.in-Put.field-3 (ap (is_allowed graph states) (sym c.in-Put.is) ∙ c.requires.allowed)

pub overflow_add-put : goal.overflow_add-put
overflow_add-put c =
    let graph = c.args.graph.now in
    let states = c.args.self.now.states.items in
    let may = may_put c in
    let here : c.in-Put.node < length states = there states c.in-Put.node (ap is_free may.claimed) in
    let low : c.in-Put.node < length graph.nodes = omega (arith, c.requires.core.sound.each, here) in
    let few : length (node_words graph c.in-Put.node) ≤ 16 = node_words-few graph c.in-Put.node c.requires.core.proper low in
    omega (arith, may.place_there, few)

pub returns-in-Claim-clause-core : goal.returns-in-Claim-clause-core
returns-in-Claim-clause-core c =
    let graph = c.args.graph.now in
    let states = c.args.self.now.states.items in
    let core = c.requires.core in
    let actor = c.in-Claim.actor in
    let node = c.in-Claim.node in
    let allowed : is_allowed graph states (Claim actor node) ≡ true = ap (is_allowed graph states) (sym c.in-Claim.is) ∙ c.requires.allowed in
    let may = claim-has graph states actor node allowed in
    let within : node < length states = omega (arith, core.sound.each, may.node_there) in
    record {
      proper = core.proper;
      sound = sound-after graph states core.sound (Claim actor node) allowed;
      rows = rows-set graph states c.args.self.now.rows.items node (Claimed actor 0) c.row-row.result core.rows core.sound.each may.node_there c.row-row.ensures;
      claimants = λ (q : ℕ).
          c.note_claim.ensures.updates.0 q ∙ ap (λ (b : Bool). cond (nat_eq actor q) true b) (core.claimants q)
          ∙ sym (has_claim-claimed states actor node q within may.free);
      room = omega (arith, free-claimed states node (Claimed actor 0) within may.free refl, c.note_claim.ensures.room, core.room);
    }

pub returns-in-Put-clause-core : goal.returns-in-Put-clause-core
returns-in-Put-clause-core c =
    let graph = c.args.graph.now in
    let states = c.args.self.now.states.items in
    let core = c.requires.core in
    let actor = c.in-Put.actor in
    let node = c.in-Put.node in
    let allowed : is_allowed graph states (Put actor node c.in-Put.place c.in-Put.field-3) ≡ true = ap (is_allowed graph states) (sym c.in-Put.is) ∙ c.requires.allowed in
    let may = put-has graph states actor node c.in-Put.place c.in-Put.field-3 allowed in
    let taken : is_free (state_at states node) ≡ false = ap is_free may.claimed in
    record {
      proper = core.proper;
      sound = sound-after graph states core.sound (Put actor node c.in-Put.place c.in-Put.field-3) allowed;
      rows = rows-kept graph states c.args.self.now.rows.items node (Claimed actor (c.in-Put.place + 1)) core.rows taken;
      claimants = λ (q : ℕ). core.claimants q ∙ sym (has_claim-put states actor node q c.in-Put.place (c.in-Put.place + 1) may.claimed);
      room = omega (arith, free-kept states node (Claimed actor (c.in-Put.place + 1)) (there states node taken) taken refl, core.room);
    }

pub returns-in-Publish-clause-core : goal.returns-in-Publish-clause-core
returns-in-Publish-clause-core c =
    let graph = c.args.graph.now in
    let states = c.args.self.now.states.items in
    let core = c.requires.core in
    let actor = c.in-Publish.actor in
    let node = c.in-Publish.node in
    let allowed : is_allowed graph states (Publish actor node) ≡ true = ap (is_allowed graph states) (sym c.in-Publish.is) ∙ c.requires.allowed in
    let claimed = publish-has graph states actor node allowed in
    let taken : is_free (state_at states node) ≡ false = ap is_free claimed in
    record {
      proper = core.proper;
      sound = sound-after graph states core.sound (Publish actor node) allowed;
      rows = rows-kept graph states c.args.self.now.rows.items node Published core.rows taken;
      claimants = λ (q : ℕ).
          c.swap_remove.ensures.updates.0 q ∙ ap (λ (b : Bool). cond (nat_eq actor q) false b) (core.claimants q)
          ∙ sym (has_claim-published states actor node graph q (length (node_words graph node)) core.sound claimed);
      room = omega (arith, free-kept states node Published (there states node taken) taken refl, c.swap_remove.ensures.room.0, core.room);
    }
