use Rattle.std.proofs.Common.{◌∙◌, All, length, map, ap, subst, sym}
use Rattle.subject_graph.specs.Tables.{ref_at}
use Rattle.net_base.specs.Graph.{IsRefThere}
use Rattle.subject_graph.proofs.Drawing.{refs-there}
use Rattle.subject_graph.proofs.building.drive.Goals as goal

pub table_signal-requires-clause-pins : goal.table_signal-requires-clause-pins
table_signal-requires-clause-pins c =
    let nodes = length c.args.builder.now.nodes in
    subst (All (IsRefThere nodes)) (sym (c.as_slice-2.ensures ∙ c.in_ok-pins.ensures ∙ ap (map (ref_at c.args.refs.now)) c.as_slice.ensures)) (refs-there nodes c.args.refs.now c.args.table.now.pins c.requires.refs)
