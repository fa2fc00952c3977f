use Rattle.std.proofs.Common.{◌∙◌}
use Rattle.cut_word.specs.Word.{leaves_in, cut_of}
use Rattle.cut_word.proofs.WordParts.{Parts-of, Parts-fields}
use Rattle.cut_word.proofs.CallerLemmas.{has_all-is}
use Rattle.cut_word.proofs.WordForms.{contains-iff}
use Rattle.cut_word.proofs.cut.contains.Goals as goal

pub returns-clause-leaves : goal.returns-clause-leaves
returns-clause-leaves c =
    contains-iff c.args.a c.args.b (cut_of c.a.inside.leaves c.a.inside.table) (cut_of c.b.inside.leaves c.b.inside.table)
    c.a.invariant.cut c.b.invariant.cut c.a.view_is c.b.view_is c.fields.result c.fields-2.result c.are_among.result
    (c.fields.ensures ∙ Parts-fields c.a.inside.leaves (leaves_in c.a.inside.leaves) (Parts-of c.a.inside.leaves c.a.inside.table c.a.invariant))
    (c.fields-2.ensures ∙ Parts-fields c.b.inside.leaves (leaves_in c.b.inside.leaves) (Parts-of c.b.inside.leaves c.b.inside.table c.b.invariant))
    c.are_among.ensures

pub returns-clause-value : goal.returns-clause-value
returns-clause-value c = has_all-is c.args.a.leaves c.args.b.leaves c.are_among.result (returns-clause-leaves c)
