use Rattle.std.proofs.Common.{List, ℕ, sym, subst}
use Rattle.net_base.specs.Name.{IsName}
use Rattle.netlist_text.proofs.FieldsWritten.{output_at-sound}
use Rattle.netlist_text.proofs.reader.Reader.read_output.Goals as goal

pub of-requires : goal.of-requires
of-requires c =
    let read = output_at-sound c.args.bytes.now _ (sym c.in-Some.ensures) in
    subst (λ (bytes : List ℕ). IsName bytes) (sym c.bytes.ensures) read.1
