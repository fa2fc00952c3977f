use Rattle.std.proofs.Common.{◌∙◌, ◌++◌, [], ◌∷◌, map, ap, sym}
use Rattle.std.proofs.lemmas.List.{map_push}
use Rattle.std.proofs.lemmas.List.Elements.{All-push}
use Rattle.cut_lists.specs.Rows.{row_with, words_in, IsClean}
use Rattle.cut_lists.proofs.rows.Rows.push.Goals as goal

pub invariant_of-self-2 : goal.invariant_of-self-2
invariant_of-self-2 c =
    rw c.in_ok-push.ensures.items
    (All-push IsClean c.self.inside.rows.items c.clean-row.result c.self.invariant (c.clean-row.ensures.row ∙ ap row_with (sym c.clean-row.ensures.words)))

pub returns-clause-ok : goal.returns-clause-ok
returns-clause-ok c =
    ap (map words_in) c.in_ok-push.ensures.items ∙ map_push words_in c.self.inside.rows.items c.clean-row.result
    ∙ ap (λ rows. rows ++ words_in c.clean-row.result ∷ []) c.self.view_is ∙ ap (λ words. c.args.self.now ++ words ∷ []) c.clean-row.ensures.words
