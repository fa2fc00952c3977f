use Rattle.std.proofs.Common.{◌≡◌, ◌-◌, ◌/◌, ◌%◌, ◌∙◌, ap, length, slice_index_or}
use Rattle.cut_word.specs.Cut.{CutView}
use Rattle.cut_word.specs.Word.{leaves_in, padded}
use Rattle.cut_word.proofs.WordParts.{Parts, Parts-of, padded-fields}
use Rattle.cut_word.proofs.cut.unpack.Goals as goal

parts : (c : goal.After-struct_known-2-1) → Parts c.c.inside.leaves (leaves_in c.c.inside.leaves)
parts c = Parts-of c.c.inside.leaves c.c.inside.table c.c.invariant

pub returns-clause-size : goal.returns-clause-size
returns-clause-size c = (parts c).size ∙ ap (λ (v : CutView). length v.leaves) c.c.view_is

pub returns-clause-leaves : goal.returns-clause-leaves
returns-clause-leaves c =
    let one : c.id_of.result ≡ c.c.inside.leaves / 1099511627776 % 1048576 - 1 = c.id_of.ensures ∙ ap (λ ns. slice_index_or ns 0 0 - 1) c.fields.ensures in
    let two : c.id_of-2.result ≡ c.c.inside.leaves / 1048576 % 1048576 - 1 = c.id_of-2.ensures ∙ ap (λ ns. slice_index_or ns 1 0 - 1) c.fields.ensures in
    let three : c.id_of-3.result ≡ c.c.inside.leaves % 1048576 - 1 = c.id_of-3.ensures ∙ ap (λ ns. slice_index_or ns 2 0 - 1) c.fields.ensures in
    rw (one, two, three) (padded-fields c.c.inside.leaves (leaves_in c.c.inside.leaves) c.c.invariant.cut.few (parts c) ∙ ap (λ (v : CutView). padded v.leaves) c.c.view_is)
