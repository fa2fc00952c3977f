use Rattle.std.proofs.Common.{◌≡◌, ◌<◌, ◌∙◌, List, All, length, map, ap, subst, sym}
use Rattle.net_base.specs.declared.graph.Ref.{Ref}
use Rattle.net_base.specs.Graph.{IsRefThere}
use Rattle.blif_model.specs.Regular.{IsTable}
use Rattle.blif_model.specs.Values.{tables_at}
use Rattle.subject_graph.specs.Steps.{Made}
use Rattle.subject_graph.specs.Tables.{ref_at}
use Rattle.subject_graph.proofs.Drawing.{inputs-long, inputs-there, order-below, refs-there, length-with_targets}
use Rattle.subject_graph.proofs.building.outputs_from.Goals as goal

pub drive_all-requires-clause-tables : goal.drive_all-requires-clause-tables
drive_all-requires-clause-tables c =
    let design = c.args.ordered.now.design in
    let refs = c.args.refs.now in
    subst (All (IsTable (length refs))) (sym c.as_slice.ensures)
    (subst (λ n. All (IsTable n) design.tables) (sym (inputs-long design refs c.requires.refs)) c.requires.regular.tables)

pub drive_all-requires-clause-order : goal.drive_all-requires-clause-order
drive_all-requires-clause-order c =
    let ordered = c.args.ordered.now in
    subst (λ ts. All (λ place. place < length ts) c.as_slice-2.result.now) (sym c.as_slice.ensures)
    (subst (All (λ place. place < length ordered.design.tables)) (sym c.as_slice-2.ensures) (order-below ordered.design ordered.order c.requires.order))

pub drive_all-requires-clause-refs : goal.drive_all-requires-clause-refs
drive_all-requires-clause-refs c = inputs-there c.args.ordered.now.design c.args.refs.now c.args.builder.now c.requires.refs c.requires.graph

pub refs_of-requires : goal.refs_of-requires
refs_of-requires c =
    let design = c.args.ordered.now.design in
    let refs = c.args.refs.now in
    let long : length c.drive_all.new.refs ≡ length design.names =
    sym (ap (λ (m : Made (List Ref)). length m.answer) c.in_ok-drive_all.ensures.made)
    ∙ length-with_targets (record { graph = c.args.builder.now; answer = refs }) (tables_at c.as_slice.result.now c.as_slice-2.result.now) ∙ inputs-long design refs c.requires.refs in
    subst (λ n. All (λ signal. signal < n) c.as_slice-3.result.now) (sym long)
    (subst (All (λ signal. signal < length design.names)) (sym c.as_slice-3.ensures) c.requires.regular.outputs.named)

pub returns-clause-there : goal.returns-clause-there
returns-clause-there c =
    let nodes = length c.drive_all.new.builder.nodes in
    let outputs = c.args.ordered.now.design.outputs in
    subst (All (IsRefThere nodes)) (sym (c.in_ok-refs_of.ensures ∙ ap (map (ref_at c.drive_all.new.refs)) c.as_slice-3.ensures)) (refs-there nodes c.drive_all.new.refs outputs c.in_ok-drive_all.ensures.there)
