use Rattle.std.proofs.Common.{◌<◌, ◌^◌, ◌++◌, ◌∙◌, false, List, ℕ, length, take, get_or, ap, sym, subst, arith}
use Rattle.std.specs.List.{flat_map}
use Rattle.std.proofs.lemmas.List.{take_all, length-take-le, length-append, append-nil, append_assoc}
use Rattle.net_base.specs.declared.graph.Ref.{Ref}
use Rattle.net_base.specs.declared.graph.Ref.TheVariants.{Const}
use Rattle.balance_map.specs.FanOuts.{fan_ins, ref_nodes}
use Rattle.balance_map.specs.Steps.{AreCounts}
use Rattle.balance_map.proofs.Counts.{flat_map-more, length-fan_ins, length-ref_nodes}
use Rattle.balance_map.proofs.fan_outs.count_outputs.Goals as goal

pub loop-output-init : goal.loop-output-init
loop-output-init c = subst (λ (reads : List ℕ). AreCounts reads c.args.counts.now) (sym (append-nil (flat_map fan_ins c.args.s.now.graph.nodes))) c.requires.by_nodes

pub count_output-requires-clause-room : goal.count_output-requires-clause-room
count_output-requires-clause-room c =
    let by_nodes : List ℕ = flat_map fan_ins c.args.s.now.graph.nodes in
    let before : List Ref = take c.loop-output.output-index c.as_slice-output-items.result.now in
    let short : length before < 2 ^ 62 = omega (arith, length-take-le c.loop-output.output-index c.as_slice-output-items.result.now, c.as_slice-output-items.type_inv.1) in
    let few : length by_nodes < 2 ^ 62 = omega (arith, length-fan_ins c.args.s.now.graph.nodes, c.requires.subject.graph.few) in
    (by_nodes ++ flat_map ref_nodes before, c.loop-output.invariant, omega (arith, length-append by_nodes (flat_map ref_nodes before), length-ref_nodes before))

pub loop-output-preserved : goal.loop-output-preserved
loop-output-preserved c =
    let by_nodes : List ℕ = flat_map fan_ins c.args.s.now.graph.nodes in
    let before : List ℕ = flat_map ref_nodes (take c.loop-output.output-index c.as_slice-output-items.result.now) in
    subst (λ (reads : List ℕ). AreCounts reads c.count_output.new.counts)
    (
    append_assoc by_nodes before (ref_nodes (get_or c.as_slice-output-items.result.now c.loop-output.output-index (Const false)))
    ∙ ap (λ (reads : List ℕ). by_nodes ++ reads) (flat_map-more ref_nodes c.as_slice-output-items.result.now c.loop-output.output-index (Const false) c.loop-output-test.true)
    )
    (c.count_output.ensures (by_nodes ++ before) c.loop-output.invariant)

pub returns : goal.returns
returns c =
    let by_nodes : List ℕ = flat_map fan_ins c.args.s.now.graph.nodes in
    subst (λ (outputs : List Ref). AreCounts (by_nodes ++ flat_map ref_nodes outputs) c.loop-output.counts)
    (take_all c.loop-output.output-index c.as_slice-output-items.result.now c.loop-output-test.false ∙ c.as_slice-output-items.ensures) c.loop-output.invariant
