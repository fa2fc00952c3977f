use Rattle.std.proofs.Common.{◌≡◌, ◌∙◌, sym, true, get_or, take, subst, nat_eq, arith}
use Rattle.std.proofs.lemmas.Bool.{not-false}
use Rattle.net_base.specs.Keys.{is_among}
use Rattle.blif_model.proofs.Signals.{repeated}
use Rattle.blif_model.proofs.regular.are_distinct.Goals as goal

pub returns-then-not-is_new : goal.returns-then-not-is_new
returns-then-not-is_new c =
    let signals = c.args.signals.now in
    let i = c.loop-signal.signal-index in
    let seen : is_among nat_eq (get_or signals i 0) (take i signals) ≡ true =
    subst (λ keys. is_among nat_eq (get_or signals i 0) keys ≡ true) c.loop-signal.invariant.0
    (not-false (is_among nat_eq (get_or signals i 0) c.loop-signal.seen.keys) (sym c.in_ok-is_new.ensures.added ∙ c.if-not-is_new.true)) in (
      λ t. cc,
      λ distinct. absurd (repeated signals i 0 (omega arith) seen distinct),
    )
