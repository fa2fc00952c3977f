use Rattle.std.proofs.Common.{◌≡◌, decimal, sym, ap, subst, ◌∙◌, arith}
use Rattle.std.specs.Str.{IsAscii}
use Rattle.std.proofs.lemmas.Str.{IsUtf8-from_ascii}
use Rattle.std.proofs.lemmas.Fmt.{IsAscii-decimal, parse-decimal}
use Rattle.std.proofs.lemmas.Slice.Eq.{bytes_eq-Decides}
use Rattle.netlist_text.proofs.part.decimal_in.Goals as goal

pub returns-in_default-clause-none : goal.returns-in_default-clause-none
returns-in_default-clause-none c = λ n small is.
    c.in_default.ensures.cases.0 (IsUtf8-from_ascii c.args.digits.now (subst IsAscii (sym is) (IsAscii-decimal n (omega arith))))

pub returns-in_default-parse-clause-none : goal.returns-in_default-parse-clause-none
returns-in_default-parse-clause-none c = λ n small is.
    let parsed = parse-decimal 32 n c.in-Ok.text.now c.parse.result small (omega arith) (c.in-Ok.ensures.cases.0 ∙ is) c.parse.ensures.value.0 in
    let failed = c.in_default-parse.is in
    cc

pub returns-else-eq-clause-none : goal.returns-else-eq-clause-none
returns-else-eq-clause-none c = λ n small is.
    let parsed = parse-decimal 32 n c.in-Ok.text.now c.parse.result small (omega arith) (c.in-Ok.ensures.cases.0 ∙ is) c.parse.ensures.value.0 in
    let read = c.in-Ok-parse.is in
    let same : c.in-Ok-parse.n ≡ n = cc in
    let spelled : c.as_bytes.result.now ≡ c.args.digits.now = c.as_bytes.ensures.value ∙ c.format.ensures.text ∙ ap decimal same ∙ sym is in
    let equal = (bytes_eq-Decides c.as_bytes.result.now c.args.digits.now).1 spelled in
    let compared = c.eq.ensures in
    let other = c.if-eq.false in
    cc
