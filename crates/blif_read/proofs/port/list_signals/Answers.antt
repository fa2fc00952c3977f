use Rattle.std.proofs.Common.{◌<◌, length, Err, arith, sym, ap, ◌∙◌}
use Rattle.std.proofs.lemmas.List.{length_push}
use Rattle.std.proofs.lemmas.Result.{err_from_is_err_and}
use Rattle.blif_model.specs.Names.{number_of}
use Rattle.blif_read.specs.Faults.{token_fault}
use Rattle.blif_read.proofs.TokenSteps.{length-with_name, most_of-few, with_names-step, signals_of-step, listing_fault-step, listing_fault-stop, Finds-fault}
use Rattle.blif_read.proofs.port.list_signals.Goals as goal

pub list_token-requires-clause-few : goal.list_token-requires-clause-few
list_token-requires-clause-few c =
    omega (arith, most_of-few c.args.port, c.loop-place.invariant.few_names, c.loop-place.invariant.few)

pub returns-in_err-list_token-clause-fault : goal.returns-in_err-list_token-clause-fault
returns-in_err-list_token-clause-fault c =
    let within : c.loop-place.place < length c.args.line.now.tokens = omega (arith, c.loop-place-test.true) in
    let exit = err_from_is_err_and c.from_residual.result c.from_residual.ensures.1 in
    Finds-fault _ c.in_err-list_token.field-0.0 (token_fault c.args.port c.loop-place.names c.loop-place.listed.keys c.token.result.now) _
    (exit.1 ∙ ap (λ fault. Err fault) exit.2) c.in_err-list_token.ensures.fault
    (λ kind some. sym c.loop-place.invariant.fault
    ∙ listing_fault-stop c.args.line.now.tokens c.loop-place.place within c.token.result.now c.token.ensures.bytes c.args.port c.loop-place.names c.loop-place.listed.keys kind some)

pub loop-place-preserved : goal.loop-place-preserved
loop-place-preserved c =
    let tokens = c.args.line.now.tokens in
    let place = c.loop-place.place in
    let within : place < length tokens = omega (arith, c.loop-place-test.true) in
    let token = c.token.result.now in
    let is = c.token.ensures.bytes in
    let names = c.loop-place.names in
    let listed = c.loop-place.listed.keys in
    let step = c.in_ok-list_token.ensures in
    record {
      fault = rw (step.names, step.listed) (listing_fault-step tokens place within token is c.args.port names listed step.fault ∙ c.loop-place.invariant.fault);
      names = rw step.names (with_names-step tokens place within token is names ∙ c.loop-place.invariant.names);
      listed = rw (step.names, step.listed) (signals_of-step tokens place within token is names listed ∙ c.loop-place.invariant.listed);
      few_names = omega (arith, length-with_name token names, ap length step.names, ap length step.listed, length_push listed (number_of token names), c.loop-place.invariant.few_names);
      few = step.few;
    }
