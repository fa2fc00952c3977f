use Rattle.netlist_text.proofs.ParsedLaws.{spellings_are_parsed}
use Rattle.netlist_text.proofs.laws.spellings_are_parsed.Goals as goal

pub returns : goal.returns
returns c = spellings_are_parsed
