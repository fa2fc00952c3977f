use Rattle.netlist_text.proofs.ParsedLaws.{first_faults_are_parsed}
use Rattle.netlist_text.proofs.laws.first_faults_are_parsed.Goals as goal

pub returns : goal.returns
returns c = first_faults_are_parsed
