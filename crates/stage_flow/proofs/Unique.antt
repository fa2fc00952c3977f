-- Least epochs are unique: of two, each is no later than the other.
use Rattle.std.proofs.Common.{◌≡◌, ◌∙◌, length, sym, arith}
use Rattle.std.proofs.lemmas.List.{ext_get_or}
use Rattle.flow_net.specs.declared.net.Epochs.{Epochs}
use Rattle.stage_flow.specs.LeastEpochs.{AreNoLater}
use Rattle.stage_flow.specs.LawsOfEpochs.{LeastEpochsAreUnique}

-- Epochs are equal where their parts are,
pub epochs_from_parts : (a b : Epochs) → a.gates ≡ b.gates → a.sink ≡ b.sink → a ≡ b
epochs_from_parts a b gates sink = λ i. record { gates = gates i; sink = sink i }

-- and so where, for as many gates, neither are later.
pub neither-later : (a b : Epochs) → length a.gates ≡ length b.gates → AreNoLater a b → AreNoLater b a → a ≡ b
neither-later a b each low high =
    epochs_from_parts a b
    (ext_get_or 0 a.gates b.gates each (λ gate within. omega (arith, low.gates gate, high.gates gate)))
    (omega (arith, low.sink, high.sink))

pub least-unique : LeastEpochsAreUnique
least-unique net a b first second =
    neither-later a b (first.optimal.balanced.each ∙ sym second.optimal.balanced.each)
    (first.lowest b second.optimal second.least)
    (second.lowest a first.optimal first.least)
