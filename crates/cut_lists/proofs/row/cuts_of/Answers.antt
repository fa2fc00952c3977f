use Rattle.std.proofs.Common.{◌<◌, ◌∙◌, ◌++◌, [], ◌∷◌, length, take, ap, sym, arith}
use Rattle.std.proofs.lemmas.List.{length_push, take_more, take_all}
use Rattle.cut_word.specs.Cut.{CutView}
use Rattle.cut_lists.proofs.RowWords.{len-IsRowOf}
use Rattle.cut_lists.proofs.row.cuts_of.Goals as goal

pub loop-k-preserved : goal.loop-k-preserved
loop-k-preserved c = record {
  value = λ cuts is.
      let cut : CutView = c.cut_at.result in
      let within : c.loop-k.k < length cuts = omega (arith, len-IsRowOf cuts c.args.row.now is) in
      c.push.ensures ∙ ap (λ cs. cs ++ cut ∷ []) (c.loop-k.invariant.value cuts is)
      ∙ ap (λ (d : CutView). take c.loop-k.k cuts ++ d ∷ []) (c.cut_at.ensures cuts cut is) ∙ sym (take_more cuts c.loop-k.k cut within);
  len = ap length c.push.ensures ∙ length_push c.loop-k.cuts c.cut_at.result ∙ omega (arith, c.loop-k.invariant.len);
}

pub returns : goal.returns
returns c = λ cuts is. c.loop-k.invariant.value cuts is ∙ take_all c.loop-k.k cuts (omega (arith, len-IsRowOf cuts c.args.row.now is))
