use Rattle.std.proofs.Common.{◌↔◌, IsTrue, ℕ, List, slice_index_or, subst, arith}
use Rattle.cut_word.specs.Forms.{AreSingle, ArePair, AreTriple}
use Rattle.cut_word.proofs.WordForms.{single-iff, pair-iff, triple-iff, no-size}
use Rattle.cut_word.proofs.words.are_words.Goals as goal

both : (P Q R : Type 0) → P ↔ Q → Q ↔ R → P ↔ R
both P Q R pq qr = (λ p. qr.0 (pq.0 p), λ r. pq.1 (qr.1 r))

pub returns-in-4 : goal.returns-in-4
returns-in-4 c =
    both _ _ _
    (subst (λ (ns : List ℕ). IsTrue c.is_single.result ↔ AreSingle (slice_index_or ns 0 0) (slice_index_or ns 1 0) (slice_index_or ns 2 0) c.args.second) c.fields.ensures c.is_single.ensures)
    (single-iff c.args.first c.args.second c.in-4.is)

pub returns-in-8 : goal.returns-in-8
returns-in-8 c =
    both _ _ _
    (subst (λ (ns : List ℕ). IsTrue c.is_pair.result ↔ ArePair (slice_index_or ns 0 0) (slice_index_or ns 1 0) (slice_index_or ns 2 0) c.args.second) c.fields.ensures c.is_pair.ensures)
    (pair-iff c.args.first c.args.second c.in-8.is)

pub returns-in-12 : goal.returns-in-12
returns-in-12 c =
    both _ _ _
    (subst (λ (ns : List ℕ). IsTrue c.is_triple.result ↔ AreTriple (slice_index_or ns 0 0) (slice_index_or ns 1 0) (slice_index_or ns 2 0) c.args.second) c.fields.ensures c.is_triple.ensures)
    (triple-iff c.args.first c.args.second c.in-12.is)

pub returns-in_default : goal.returns-in_default
returns-in_default c = (λ found. absurd (cc), λ words. absurd (no-size c.args.first c.args.second (λ e. omega arith) (λ e. omega arith) (λ e. omega arith) words))
