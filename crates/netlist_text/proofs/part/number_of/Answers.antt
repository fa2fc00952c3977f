use Rattle.std.proofs.Common.{◌≡◌, ◌≢◌, ◌<◌, ◌^◌, ℕ, List, Option, Some, None, decimal, sym, ap, ◌∙◌}
use Rattle.std.specs.Prelude.{IfSome, IfNone}
use Rattle.netlist_text.specs.Scanning.{number_of}
use Rattle.netlist_text.proofs.FrontOfBytes.{number_of-none, number_of-complete}
use Rattle.netlist_text.proofs.part.number_of.Goals as goal

by : (digits : List ℕ) (result : Option ℕ) → IfSome result (λ n. (n < 2 ^ 32) × (digits ≡ decimal n)) → IfNone result ((n : ℕ) → n < 2 ^ 32 → digits ≢ decimal n) → result ≡ number_of digits
by digits (Some n) spelled none = sym (ap number_of spelled.1 ∙ number_of-complete n spelled.0)
by digits None spelled none = sym (number_of-none digits none)

pub returns : goal.returns
returns c = by c.args.digits.now c.decimal_in.result c.decimal_in.ensures.spelled c.decimal_in.ensures.none
