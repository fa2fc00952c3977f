-- `check` says yes to what `map` writes. The text is parsed as the netlist and the flow that it spells; the netlist is valid; and the
-- flow, which is full and worth as many DROs as there are, gets a yes for its epochs.
use Rattle.std.proofs.Common.{◌≡◌, ◌≤◌, ◌==◌, ℕ, true, false, nat_lt, List, length, Result, Ok, Err, IsOk, if◌then◌else◌, codes, refl, sym, ap, subst, ◌∙◌, arith, pos}
use Rattle.std.proofs.lemmas.Bool.Decides.{nat_tests}
use Rattle.net_base.specs.Answers.{◌>>=◌}
use Rattle.flow_net.specs.declared.net.Flow.{Flow}
use Rattle.flow_net.specs.Epochs.{dro_count}
use Rattle.flow_cert.specs.declared.verdict.Verdict.TheVariants.{Fewest}
use Rattle.flow_cert.proofs.CallerLemmas.{full_flows-yes}
use Rattle.pulse_net.specs.declared.net.PulseNet.{PulseNet}
use Rattle.pulse_net.specs.Unfolding.{unfolded}
use Rattle.pulse_net.specs.Balance.{unfolded_network}
use Rattle.pulse_net.specs.Validity.{IsValid}
use Rattle.pulse_net.proofs.CallerLemmas.{unfolds_its_dros}
use Rattle.netlist_text.specs.declared.reading.TheConstants.{MAX_BYTES}
use Rattle.netlist_text.specs.declared.fault.TextFault.{TextFault}
use Rattle.netlist_text.proofs.ParsedLaws.{spellings_are_parsed}
use Rattle.synth.specs.Meaning.{NeedsFewest}
use Rattle.rsfq_main.specs.declared.words.Command.TheVariants.{Check}
use Rattle.rsfq_main.specs.declared.objection.Objection.{Objection}
use Rattle.rsfq_main.specs.declared.objection.Objection.TheVariants.{Differs}
use Rattle.rsfq_main.specs.Faults.{Refusal, TooLong, Text, Denied, refused_as}
use Rattle.rsfq_main.specs.Summary.{count_line}
use Rattle.rsfq_main.specs.Check.{by_verdict, examined, examined_line, check_of}
use Rattle.rsfq_main.specs.Commands.{output_of}
use Rattle.rsfq_main.specs.Laws.{NetlistsPassCheck}
use Rattle.rsfq_main.proofs.Certificates.{valid-examined}

-- As many DROs as the epochs need are neither too many nor too few.
same_dros : (dros count : ℕ) → dros ≡ count → by_verdict dros (Fewest count) ≡ Ok dros
same_dros dros count same =
    let test : (dros == count) ≡ true = grind (arith, nat_tests) in
    ap (λ b. if b then Ok dros else Err (Differs dros count)) test

-- A netlist that needs the fewest DROs, as a flow shows, is examined without an objection.
fewest-examined : (net : PulseNet) (flow : Flow) → IsValid net → NeedsFewest net flow → examined net flow ≡ Ok (unfolded net).dros
fewest-examined net flow valid needs =
    let u = unfolded net in
    let network = unfolded_network u in
    let worth = needs.worth ∙ ap pos needs.count in
    let yes = full_flows-yes network u.epochs flow needs.fewest.balanced needs.full worth in
    valid-examined net flow valid ∙ ap (by_verdict u.dros) yes ∙ same_dros u.dros (dro_count network u.epochs) (unfolds_its_dros net ∙ needs.count)

within : (bytes : List ℕ) → length bytes ≤ MAX_BYTES → nat_lt MAX_BYTES (length bytes) ≡ false
within bytes few = grind (arith, nat_tests)

pub netlists_pass_check : NetlistsPassCheck
netlists_pass_check n text bytes spells few =
    let net = spells.net in
    let flow = spells.flow in
    let valid = spells.serves.means.means.valid in
    let is_parsed = (spellings_are_parsed bytes net flow).1 (spells.spelled, valid.formed, spells.typed) in
    let is_examined = fewest-examined net flow valid spells.serves.fewest in
    let output : output_of Check bytes ≡ Ok (count_line (codes "fewest") (unfolded net).dros) =
    ap (λ long. if long then Err TooLong else check_of bytes) (within bytes few)
    ∙ ap (λ (read : Result (PulseNet × Flow) TextFault). refused_as Text read >>= λ pair. examined_line pair.0 pair.1) is_parsed
    ∙ ap (λ (answer : Result ℕ Objection). refused_as Denied answer >>= λ dros. Ok (count_line (codes "fewest") dros)) is_examined in
    subst (λ (answer : Result (List ℕ) Refusal). IsOk answer) (sym output) refl
