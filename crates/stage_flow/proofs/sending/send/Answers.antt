use Rattle.std.proofs.Common.{◌≡◌, ◌∙◌, ◌++◌, ℕ, List, Some, length, map, take, drop, sym, ap, subst, arith}
use Rattle.std.proofs.lemmas.List.{take_all, take-append-le}
use Rattle.flow_net.specs.declared.net.Units.{Units}
use Rattle.stage_flow.specs.Rounds.{path_of, sent_along}
use Rattle.stage_flow.specs.Given.{at_vertex, count_at}
use Rattle.stage_flow.specs.Sending.{way_of, HasRoom}
use Rattle.stage_flow.proofs.FreshLabels.{fresh-labels_for}
use Rattle.stage_flow.proofs.Round.{ways-low, sender-low, after_round-is, rounds_go_by_labels}
use Rattle.stage_flow.proofs.ProgressNetworks.{vertices-few, ends-among}
use Rattle.stage_flow.proofs.SendingUnits.{has_room}
use Rattle.stage_flow.proofs.sending.send.Goals as goal

pub find_path-requires-clause-read : goal.find_path-requires-clause-read
find_path-requires-clause-read c = record {
  few = vertices-few c.args.arcs.now c.requires.net;
  ends = ends-among c.args.arcs.now c.requires.net;
  units = c.requires.units.each;
  each_far = c.requires.each.0;
  each_hops = c.requires.each.1;
}

pub find_path-requires-clause-vertex : goal.find_path-requires-clause-vertex
find_path-requires-clause-vertex c = sender-low c.args.arcs.now c.args.flow.now c.args.from c.requires.sender

pub send_along-requires : goal.send_along-requires
send_along-requires c =
    let net = c.args.arcs.now in
    let flow = c.args.flow.now in
    let far = at_vertex c.args.labels.now.far in
    let hops = count_at c.args.labels.now.hops in
    let (mirror, round) = rounds_go_by_labels net flow far hops c.args.from (ends-among net c.requires.net) c.requires.units
    (fresh-labels_for net flow far hops c.args.marks.now c.requires.kept.right (ways-low net flow (ends-among net c.requires.net)) c.args.from (sender-low net flow c.args.from c.requires.sender) c.requires.fresh) c.requires.sender in
    let room = has_room net far hops flow c.args.from mirror (path_of net flow (Some c.args.from)) c.requires.units c.requires.room round.path in
    let path = ap (map way_of) c.as_slice.ensures.value ∙ c.in_ok-find_path.ensures.path in
    let units = c.as_mut_slice.ensures.value ∙ c.into_vec-units.ensures ∙ c.replace-pins.ensures.value in
    subst (λ pins. HasRoom (map way_of c.as_slice.result.now) (record { pins = pins })) (sym units)
    (subst (λ ways. HasRoom ways flow) (sym path) room)

-- A slice that stands for a whole vector is all that the vector has in the end.
whole : (n : ℕ) (xs ys : List Units) → length xs ≡ n → take n (xs ++ drop (length xs) ys) ≡ xs
whole n xs ys long = take-append-le n xs (drop (length xs) ys) (omega (arith, long)) ∙ take_all n xs (omega (arith, long))

pub returns-clause-ok : goal.returns-clause-ok
returns-clause-ok c =
    let net = c.args.arcs.now in
    let flow = c.args.flow.now in
    let path = ap (map way_of) c.as_slice.ensures.value ∙ c.in_ok-find_path.ensures.path in
    let units = c.as_mut_slice.ensures.value ∙ c.into_vec-units.ensures ∙ c.replace-pins.ensures.value in
    let long : length c.send_along.new.units ≡ c.into_vec-units.result.len = omega (arith, c.as_mut_slice.ensures.len, c.send_along.auto.units) in
    let pins : c.from_vec.result ≡ c.send_along.new.units = c.from_vec.ensures ∙ whole c.into_vec-units.result.len c.send_along.new.units c.into_vec-units.result.items long in
    ap (λ (pins : List Units). record { pins = pins }) pins
    ∙ c.send_along.ensures
    ∙ ap (λ ways. sent_along ways (record { pins = c.as_mut_slice.result.now })) path
    ∙ ap (λ (pins : List Units). sent_along (path_of net flow (Some c.args.from)) (record { pins = pins })) units
    ∙ sym (after_round-is net flow c.args.from c.requires.sender)
