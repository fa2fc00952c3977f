-- The table of faults for lines that aren't bad: rows, words that aren't read here, and what comes behind an `.end`.
use Rattle.std.proofs.Common.{◌≡◌, true, false, Some, None, refl}
use Rattle.blif_model.specs.declared.design.Table.{Table}
use Rattle.blif_read.specs.declared.fault.BlifKind.TheVariants as kind
use Rattle.blif_read.specs.declared.word.Word.{Word}
use Rattle.blif_read.specs.declared.word.Word.TheVariants.{Model, Inputs, Outputs, Names, End, Unsupported, Unknown, Row}
use Rattle.blif_read.specs.Words.{Line, first_token}
use Rattle.blif_read.specs.State.{State}
use Rattle.blif_read.specs.Faults.{fault_of, row_fault}

module _ (line : Line) (state : State) (good : line.bad ≡ false) where
  -- behind an `.end` any word but `.model` is one too many
  pub fault_of-behind_end : (word : Word) → (word ≡ Model → ⊥) → state.has_end ≡ true → fault_of word line state ≡ Some kind.AfterEnd
  unfolding fault_of
  fault_of-behind_end Model other ended = absurd (other refl)
  fault_of-behind_end Inputs other ended = rw (good, ended) refl
  fault_of-behind_end Outputs other ended = rw (good, ended) refl
  fault_of-behind_end Names other ended = rw (good, ended) refl
  fault_of-behind_end End other ended = rw (good, ended) refl
  fault_of-behind_end Unsupported other ended = rw (good, ended) refl
  fault_of-behind_end Unknown other ended = rw (good, ended) refl
  fault_of-behind_end Row other ended = rw (good, ended) refl

  -- before it
  module _ (here : state.has_end ≡ false) where
    pub fault_of-unsupported : fault_of Unsupported line state ≡ Some (kind.Unsupported (first_token line.tokens))
    unfolding fault_of
    fault_of-unsupported = rw (good, here) refl

    pub fault_of-unknown : fault_of Unknown line state ≡ Some kind.UnknownWord
    unfolding fault_of
    fault_of-unknown = rw (good, here) refl

    pub fault_of-row : (table : Table) → state.table ≡ Some table → fault_of Row line state ≡ row_fault line.tokens table
    unfolding fault_of
    fault_of-row table is = rw (good, here, is) refl

    pub fault_of-outside : state.table ≡ None → fault_of Row line state ≡ Some kind.RowOutsideTable
    unfolding fault_of
    fault_of-outside none = rw (good, here, none) refl
