-- The first two words from seed 0, and what they choose. Whole texts are cases of `tests/`.
use Rattle.std.proofs.Common.{◌≡◌, ◌/◌, ◌%◌, ◌^◌, codes, refl}
use Rattle.rand_xoshiro.specs.SplitMix64.{mix_u64, next_state}
use Rattle.gen_blif.specs.Random.{pin, rows, signal}
use Rattle.gen_blif.specs.RippleCarry.{carry}

first_word : (mix_u64 0).0 ≡ 0xE220A8397B1DCDAF
first_word = refl

second_word : (mix_u64 (next_state 0)).0 ≡ 0x6E789E6AA1B965F4
second_word = refl

-- table 0 reads i4 and i6, the first without the second
first_pin : pin 0 (0xE220A8397B1DCDAF % 2 ^ 32 / 4) ≡ record { letter = 105; number = 4 }
first_pin = refl

second_pin : pin 0 (0xE220A8397B1DCDAF / 2 ^ 32) ≡ record { letter = 105; number = 6 }
second_pin = refl

its_rows : rows (0xE220A8397B1DCDAF % 4) ≡ codes "10 1\n"
its_rows = refl

-- table 1 reads i9 and i15, both
next_pin : pin 1 (0x6E789E6AA1B965F4 % 2 ^ 32 / 4) ≡ record { letter = 105; number = 9 }
next_pin = refl

last_pin : pin 1 (0x6E789E6AA1B965F4 / 2 ^ 32) ≡ record { letter = 105; number = 15 }
last_pin = refl

next_rows : rows (0x6E789E6AA1B965F4 % 4) ≡ codes "11 1\n"
next_rows = refl

-- behind the inputs come the targets
first_target : signal 16 ≡ record { letter = 116; number = 0 }
first_target = refl

-- the carry out of the last bit is the highest bit of the sum
last_carry : carry 2 1 ≡ record { letter = 115; number = 2 }
last_carry = refl

inner_carry : carry 2 0 ≡ record { letter = 99; number = 1 }
inner_carry = refl
