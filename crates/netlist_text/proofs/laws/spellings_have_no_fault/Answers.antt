use Rattle.netlist_text.proofs.SpellingsDiffer.{spellings_have_no_fault}
use Rattle.netlist_text.proofs.laws.spellings_have_no_fault.Goals as goal

pub returns : goal.returns
returns c = spellings_have_no_fault
