use Rattle.std.proofs.Common.{◌≡◌, ℕ, false, List, Option, Ok, IfErr, subst}
use Rattle.rsfq_main.specs.declared.words.Command.{Command}
use Rattle.rsfq_main.specs.declared.status.Status.TheVariants.{Done, No}
use Rattle.rsfq_main.specs.Commands.{is_too_long}
use Rattle.rsfq_main.specs.Faults.{fault_status, outcome_status}
use Rattle.rsfq_main.specs.Outcomes.{IsInput, IsMade, IsOutcome}
use Rattle.rsfq_main.specs.Run.{Asks, read_limit, LeavesSource}
use Rattle.rsfq_main.proofs.Made.{made-outcome, made-source}
use Rattle.rsfq_main.proofs.Asking.{no-asks}
use Rattle.rsfq_main.proofs.run.output.Goals as goal

pub returns-clause-outcome : goal.returns-clause-outcome
returns-clause-outcome g c =
    let left = g.S.Source.left c.args.source.now in
    let text = c.in_ok-text.text in
    let input = subst (λ (limit : Option ℕ). IsInput limit left (Ok text)) c.limit.ensures c.in_ok-text.ensures.input in
    let within = subst (λ (limit : Option ℕ). is_too_long limit text ≡ false) c.limit.ensures c.in_ok-text.ensures.within in
    let made = subst (λ (t : List ℕ). IsMade c.in-Some.command t c.made.result) c.as_slice.ensures c.made.ensures in
    subst (λ (command : Option Command). IsOutcome command left c.made.result) c.in-Some.ensures.command (made-outcome c.in-Some.command left text input within c.made.result made)

pub returns-clause-source : goal.returns-clause-source
returns-clause-source g c =
    let before = g.S.Source.left c.args.source.now in
    let after = g.S.Source.left c.input.new.source in
    let faults_before = g.S.Source.faults c.args.source.now in
    let faults_after = g.S.Source.faults c.input.new.source in
    let text = c.in_ok-text.text in
    let input = subst (λ (limit : Option ℕ). IsInput limit before (Ok text)) c.limit.ensures c.in_ok-text.ensures.input in
    let made = subst (λ (t : List ℕ). IsMade c.in-Some.command t c.made.result) c.as_slice.ensures c.made.ensures in
    let source = subst (λ (limit : Option ℕ). LeavesSource limit Done before after faults_before faults_after) c.limit.ensures c.in_ok-text.ensures.source in
    subst (λ (command : Option Command). LeavesSource (read_limit command) (outcome_status c.made.result) before after faults_before faults_after) c.in-Some.ensures.command
    (made-source c.in-Some.command text c.made.result before after faults_before faults_after input made source)

pub returns-clause-asked : goal.returns-clause-asked
returns-clause-asked g c =
    let made = subst (λ (t : List ℕ). IsMade c.in-Some.command t c.made.result) c.as_slice.ensures c.made.ensures in
    subst (λ (command : Option Command). IfErr c.made.result (λ fault. fault_status fault ≡ No → Asks command)) c.in-Some.ensures.command (no-asks c.in-Some.command c.in_ok-text.text c.made.result made)
