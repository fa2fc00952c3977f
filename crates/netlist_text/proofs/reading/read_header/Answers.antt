use Rattle.std.proofs.Common.{List, ℕ, sym, subst}
use Rattle.net_base.specs.Name.{IsName}
use Rattle.netlist_text.specs.Faults.{IsFaultOfPrefix}
use Rattle.netlist_text.specs.declared.fault.TextReadFault.{TextReadFault}
use Rattle.netlist_text.proofs.FieldsWritten.{model_at-sound}
use Rattle.netlist_text.proofs.HeaderRead.{format-read, no-format, model-read, no-model, phases-read, no-phases, latency-read, no-latency}
use Rattle.netlist_text.proofs.reading.read_header.Goals as goal

pub returns-in_default-clause-fault : goal.returns-in_default-clause-fault
returns-in_default-clause-fault c =
    subst (λ (fault : TextReadFault). IsFaultOfPrefix c.args.text.now fault) (sym c.unread.ensures) (no-format c.args.text.now (sym c.in_default.ensures))

pub returns-in_default-model-clause-fault : goal.returns-in_default-model-clause-fault
returns-in_default-model-clause-fault c =
    let text = c.args.text.now in
    let one = format-read text _ _ (sym c.in-Some.ensures) in
    subst (λ (fault : TextReadFault). IsFaultOfPrefix text fault) (sym c.unread-in_default-model.ensures) (no-model text _ _ one (sym c.in_default-model.ensures))

pub returns-in_default-number_line-clause-fault : goal.returns-in_default-number_line-clause-fault
returns-in_default-number_line-clause-fault c =
    let text = c.args.text.now in
    let one = format-read text _ _ (sym c.in-Some.ensures) in
    let two = model-read text _ _ _ _ one (sym c.in-Some-model.ensures) in
    subst (λ (fault : TextReadFault). IsFaultOfPrefix text fault) (sym c.unread-in_default-number_line.ensures) (no-phases text _ _ _ two (sym c.in_default-number_line.ensures))

pub returns-in_default-number_line-2-clause-fault : goal.returns-in_default-number_line-2-clause-fault
returns-in_default-number_line-2-clause-fault c =
    let text = c.args.text.now in
    let one = format-read text _ _ (sym c.in-Some.ensures) in
    let two = model-read text _ _ _ _ one (sym c.in-Some-model.ensures) in
    let three = phases-read text _ _ _ _ _ two (sym c.in-Some-number_line.ensures) in
    subst (λ (fault : TextReadFault). IsFaultOfPrefix text fault) (sym c.unread-in_default-number_line-2.ensures) (no-latency text _ _ _ _ three (sym c.in_default-number_line-2.ensures))

pub of-requires : goal.of-requires
of-requires c =
    let read = model_at-sound _ _ (sym c.in-Some-model.ensures) in
    subst (λ (bytes : List ℕ). IsName bytes) (sym c.bytes.ensures) read.1

pub returns-clause-read : goal.returns-clause-read
returns-clause-read c =
    let text = c.args.text.now in
    let one = format-read text _ _ (sym c.in-Some.ensures) in
    let two = model-read text _ _ _ _ one (sym c.in-Some-model.ensures) in
    let three = phases-read text _ _ _ _ _ two (sym c.in-Some-number_line.ensures) in
    let four = latency-read text _ _ _ _ _ _ three (sym c.in-Some-number_line-2.ensures) in
    rw (c.new.ensures, c.in_ok-name.ensures, c.bytes.ensures) four
