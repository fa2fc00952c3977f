use Rattle.std.proofs.Common.{List, ℕ, sym, subst}
use Rattle.net_base.specs.Name.{IsName}
use Rattle.netlist_text.proofs.FieldsWritten.{input_at-sound}
use Rattle.netlist_text.proofs.reader.Reader.read_input.Goals as goal

pub of-requires : goal.of-requires
of-requires c =
    let read = input_at-sound c.args.bytes.now _ (sym c.in-Some.ensures) in
    subst (λ (bytes : List ℕ). IsName bytes) (sym c.bytes.ensures) read.1
