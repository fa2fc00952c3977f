use Rattle.std.proofs.Common.{inl, inr}
use Rattle.std.proofs.lemmas.Bool.{le-ltb}
use Rattle.rsfq_main.specs.Commands.{ServesText}
use Rattle.rsfq_main.proofs.Refusals.{refusal-answers}
use Rattle.rsfq_main.proofs.map.netlist_for.Goals as goal

pub returns-in-Err : goal.returns-in-Err
returns-in-Err c =
    let answers = refusal-answers c.args.n c.args.text.now (λ made. ServesText c.args.n c.args.text.now made.net made.flow) c.in-Err.fault (le-ltb _ _ c.if-text-gt-MAX_TEXT_BYTES.false) c.in-Err.ensures.made in
    elim c.refused.ensures [ inl is ↦ rw is answers | inr is ↦ rw is tt ]
