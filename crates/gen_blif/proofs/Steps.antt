-- Of the names, tables or bits that are left, the first one and then the others; and none where none is left.
use Rattle.std.proofs.Common.{◌≡◌, ◌<◌, ◌+◌, ◌-◌, ◌++◌, ℕ, zero, suc, [], refl, ap, arith}
use Rattle.rand_xoshiro.specs.SplitMix64.{mix_u64}
use Rattle.gen_blif.specs.Lines.{name_of, field, fields}
use Rattle.gen_blif.specs.Random.{table_text, table_texts}
use Rattle.gen_blif.specs.RippleCarry.{next_bit, next_bits}

one-less : (count : ℕ) → count ≡ suc count - 1
one-less count = omega arith

pub fields-first : (letter first count : ℕ) → 0 < count → fields letter first count ≡ field (name_of letter first) ++ fields letter (first + 1) (count - 1)
unfolding fields
fields-first letter first zero some = absurd (omega arith)
fields-first letter first (suc count) some = ap (λ left. field (name_of letter first) ++ fields letter (first + 1) left) (one-less count)

pub fields-none : (letter first count : ℕ) → count ≡ 0 → fields letter first count ≡ []
unfolding fields
fields-none letter first zero none = refl
fields-none letter first (suc count) none = absurd (omega arith)

pub table_texts-first : (count table state word next rest : ℕ) → 0 < count → (word, next) ≡ mix_u64 state → rest ≡ count - 1 → table_texts count table state ≡ table_text table word ++ table_texts rest (table + 1) next
unfolding table_texts
table_texts-first zero table state word next rest some is one-less = absurd (omega arith)
table_texts-first (suc count) table state word next rest some is one-less =
    let first : word ≡ (mix_u64 state).0 = ap (λ step. step.0) is in
    let after : next ≡ (mix_u64 state).1 = ap (λ step. step.1) is in
    let left : rest ≡ count = omega arith in
    rw (first, after, left) refl

pub table_texts-none : (count table state : ℕ) → count ≡ 0 → table_texts count table state ≡ []
unfolding table_texts
table_texts-none zero table state none = refl
table_texts-none (suc count) table state none = absurd (omega arith)

pub next_bits-first : (bits count bit : ℕ) → 0 < count → next_bits bits count bit ≡ next_bit bits bit ++ next_bits bits (count - 1) (bit + 1)
unfolding next_bits
next_bits-first bits zero bit some = absurd (omega arith)
next_bits-first bits (suc count) bit some = ap (λ left. next_bit bits bit ++ next_bits bits left (bit + 1)) (one-less count)

pub next_bits-none : (bits count bit : ℕ) → count ≡ 0 → next_bits bits count bit ≡ []
unfolding next_bits
next_bits-none bits zero bit none = refl
next_bits-none bits (suc count) bit none = absurd (omega arith)
