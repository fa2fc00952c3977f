use Rattle.netlist_text.proofs.SpellingsDiffer.{spellings_differ}
use Rattle.netlist_text.proofs.laws.spellings_differ.Goals as goal

pub returns : goal.returns
returns c = spellings_differ
