use Rattle.std.proofs.lemmas.List.Elements.{All-from_get_or}
use Rattle.netlist_text.specs.Lines.{IsSmall}
use Rattle.netlist_text.proofs.typed.read_numbers.Goals as goal

pub returns : goal.returns
returns c = All-from_get_or IsSmall c.args.numbers.now 0 (λ i within. (c.type_inv.numbers i).fits)
