use Rattle.std.proofs.Common.{◌≡◌, ◌≢◌, ◌⊎◌, inl, inr, ℕ, suc, ◌+◌, ◌*◌, ◌%◌, ◌/◌, ◌-◌, ◌<◌, ◌≤◌, Bool, true, false, ◌||◌, ◌&&◌, not, nat_eq, nat_lt, bit_and, bit_or, w64, sym, ◌∙◌, ap, arith}
use Prim.Native.Nat.{◌^◌, min}
use Rattle.std.specs.Int.{bit_at}
use Rattle.std.proofs.lemmas.Bool.{cases_eq}
use Rattle.std.proofs.lemmas.Bool.Decides.{nat_tests}
use Rattle.std.proofs.lemmas.Nat.Bits.{bit_at_and, bit_at_or, bit_at_not, bit_at-lt, bit_at_above, bit_at_set_same, bit_at_set_other, bit_at_clear_same, bit_at_clear_other, bit_at_ones, bit_at_ones_above, bit_at_lowest, bit_at-suc, bit_at-zero, bit_at_cat_low, bit_at_cat_high, same_from_bits}
use Rattle.std.proofs.lemmas.Nat.{and_le_l, pow-add, pow_pos}
use Rattle.std.proofs.Math.Pow.{pow-lt}
use Rattle.std.proofs.Math.Nat.{div-div-eq-div-mul, add-mul}

below_or_not : (a b : ℕ) → (a < b) ⊎ (b ≤ a)
below_or_not a b = search arith

-- the bit is set
abbrev pub is_set : ℕ → ℕ → Bool
is_set word k = nat_eq (bit_at word k) 1

tested : (k i a b : ℕ) → (k ≡ i → a ≡ 1) → (k ≢ i → a ≡ b) → nat_eq a 1 ≡ (nat_eq k i || nat_eq b 1)
tested k i a b same other = elim (cases_eq k i) [
  | inl e ↦ let h = same e in grind (arith, nat_tests)
  | inr ne ↦ let h = other ne in grind (arith, nat_tests)
]

untested : (k i a b : ℕ) → (k ≡ i → a ≡ 0) → (k ≢ i → a ≡ b) → nat_eq a 1 ≡ (not (nat_eq k i) && nat_eq b 1)
untested k i a b same other = elim (cases_eq k i) [
  | inl e ↦ let h = same e in grind (arith, nat_tests)
  | inr ne ↦ let h = other ne in grind (arith, nat_tests)
]

pub set_bit : (word i k : ℕ) → i < 64 → is_set (bit_or word (1 * 2 ^ i % 18446744073709551616)) k ≡ (nat_eq k i || is_set word k)
set_bit word i k within =
    tested k i (bit_at (bit_or word (1 * 2 ^ i % 18446744073709551616)) k) (bit_at word k)
    (λ e. ap (bit_at (bit_or word (1 * 2 ^ i % 18446744073709551616))) e ∙ bit_at_set_same w64 word i within)
    (bit_at_set_other w64 word i within k)

pub clear_bit : (word i k : ℕ) → word < 2 ^ 64 → i < 64 → is_set (bit_and word (18446744073709551615 - 1 * 2 ^ i % 18446744073709551616)) k ≡ (not (nat_eq k i) && is_set word k)
clear_bit word i k fits within =
    let cleared = bit_and word (18446744073709551615 - 1 * 2 ^ i % 18446744073709551616) in
    untested k i (bit_at cleared k) (bit_at word k)
    (λ e. ap (bit_at cleared) e ∙ bit_at_clear_same w64 word i within)
    (λ ne. elim (below_or_not k 64) [
      | inl low ↦ bit_at_clear_other w64 word i within k low ne
      | inr high ↦ bit_at_above cleared 64 k (omega (arith, fits, and_le_l word (18446744073709551615 - 1 * 2 ^ i % 18446744073709551616))) high ∙ sym (bit_at_above word 64 k fits high)
    ])

pub both_bits : (a b k : ℕ) → is_set (bit_and a b) k ≡ (is_set a k && is_set b k)
both_bits a b k = grind (arith, nat_tests, bit_at_and a b k, bit_at-lt a k, bit_at-lt b k)

pub not_set : (word k : ℕ) → bit_at word k ≡ 0 → is_set word k ≡ false
not_set word k h = ap (λ b. nat_eq b 1) h

pub is_set_one : (word k : ℕ) → bit_at word k ≡ 1 → is_set word k ≡ true
is_set_one word k h = ap (λ b. nat_eq b 1) h

pub either_bit : (a b k : ℕ) → is_set (bit_or a b) k ≡ (is_set a k || is_set b k)
either_bit a b k = grind (arith, nat_tests, bit_at_or a b k, bit_at-lt a k, bit_at-lt b k)

pub only_bits : (a b k : ℕ) → b < 2 ^ 64 → k < 64 → is_set (bit_and a (18446744073709551615 - b)) k ≡ (is_set a k && not (is_set b k))
only_bits a b k fits within =
    grind (arith, nat_tests, bit_at_and a (18446744073709551615 - b) k, bit_at_not w64 b k fits within, bit_at-lt a k, bit_at-lt b k)

-- a shift by j moves each bit down by j
shifted : (j word k : ℕ) → bit_at (word / 2 ^ j) k ≡ bit_at word (k + j)
shifted j word k =
    let turned : j + k ≡ k + j = omega arith in
    ap (λ (m : ℕ). m % 2) (div-div-eq-div-mul word (2 ^ j) (2 ^ k)
    ∙ ap (λ (d : ℕ). word / d) (sym (pow-add 2 j k) ∙ ap (λ (e : ℕ). 2 ^ e) turned))

pub upper_bit : (word k : ℕ) → is_set (word / 4294967296) k ≡ is_set word (k + 32)
upper_bit word k = ap (λ (b : ℕ). nat_eq b 1) (shifted 32 word k)

-- a mask of the lower half keeps the bits below 32
low_bit : (word k b : ℕ) → k < 32 → b ≡ 1 → bit_at (bit_and word 4294967295) k ≡ min (bit_at word k) b
    → is_set (bit_and word 4294967295) k ≡ (nat_lt k 32 && is_set word k)
low_bit word k b low one both = grind (arith, nat_tests, bit_at-lt word k)

high_bit : (word k b : ℕ) → 32 ≤ k → b ≡ 0 → bit_at (bit_and word 4294967295) k ≡ min (bit_at word k) b
    → is_set (bit_and word 4294967295) k ≡ (nat_lt k 32 && is_set word k)
high_bit word k b high none both = grind (arith, nat_tests)

pub lower_bit : (word k : ℕ) → is_set (bit_and word 4294967295) k ≡ (nat_lt k 32 && is_set word k)
lower_bit word k = elim (below_or_not k 32) [
  | inl low ↦ low_bit word k (bit_at 4294967295 k) low (bit_at_ones 32 k low) (bit_at_and word 4294967295 k)
  | inr high ↦ high_bit word k (bit_at 4294967295 k) high (bit_at_ones_above 32 k high) (bit_at_and word 4294967295 k)
]

-- a mask of the bits below i keeps these
within_mask : (word mask i k b : ℕ) → k < i → b ≡ 1 → bit_at (bit_and word mask) k ≡ min (bit_at word k) b
    → is_set (bit_and word mask) k ≡ (nat_lt k i && is_set word k)
within_mask word mask i k b low one both = grind (arith, nat_tests, bit_at-lt word k)

past_mask : (word mask i k b : ℕ) → i ≤ k → b ≡ 0 → bit_at (bit_and word mask) k ≡ min (bit_at word k) b
    → is_set (bit_and word mask) k ≡ (nat_lt k i && is_set word k)
past_mask word mask i k b high none both = grind (arith, nat_tests)

pub below_bit : (word i k : ℕ) → i < 64 → is_set (bit_and word (1 * 2 ^ i % 18446744073709551616 - 1)) k ≡ (nat_lt k i && is_set word k)
below_bit word i k within =
    let small : 2 ^ i < 2 ^ 64 = pow-lt within in
    let power : 1 * 2 ^ i % 18446744073709551616 ≡ 2 ^ i = omega (arith, small) in
    ap (λ (n : ℕ). is_set (bit_and word (n - 1)) k) power ∙ (elim (below_or_not k i) [
      | inl low ↦ within_mask word (2 ^ i - 1) i k (bit_at (2 ^ i - 1) k) low (bit_at_ones i k low) (bit_at_and word (2 ^ i - 1) k)
      | inr high ↦ past_mask word (2 ^ i - 1) i k (bit_at (2 ^ i - 1) k) high (bit_at_ones_above i k high) (bit_at_and word (2 ^ i - 1) k)
    ])

pub all_below : (word i k : ℕ) → word < 2 ^ 64 → 64 ≤ i → is_set word k ≡ (nat_lt k i && is_set word k)
all_below word i k fits past = elim (below_or_not k 64) [
  | inl low ↦ inside (is_set word k) (omega (arith, low, past))
  | inr high ↦ none (is_set word k) (ap (λ b. nat_eq b 1) (bit_at_above word 64 k fits high))
]
  where
    inside : (t : Bool) → k < i → t ≡ (nat_lt k i && t)
    inside t low = grind (arith, nat_tests)

    none : (t : Bool) → t ≡ false → t ≡ (nat_lt k i && t)
    none t h = grind (arith, nat_tests)

-- ---- a number less 1, and the lowest bit

-- below its lowest bit a number has none, so it is a multiple of that power
lowest_whole : (word i : ℕ) → ((j : ℕ) → j < i → bit_at word j ≡ 0) → word ≡ word / 2 ^ i * 2 ^ i + 0
lowest_whole word i none = same_from_bits word (word / 2 ^ i * 2 ^ i + 0) same
  where
    same : (j : ℕ) → bit_at word j ≡ bit_at (word / 2 ^ i * 2 ^ i + 0) j
    same j = elim (below_or_not j i) [
      | inl low ↦ none j low ∙ sym (bit_at_cat_low (word / 2 ^ i) i 0 j low ∙ bit_at-zero j)
      | inr high ↦
          let back : j - i + i ≡ j = omega (arith, high) in
          sym (bit_at_cat_high (word / 2 ^ i) i 0 j (pow_pos i) high ∙ shifted i word (j - i) ∙ ap (bit_at word) back)
    ]

-- so one less has all bits below it, not that one, and the higher ones as before
lowest_less : (word i : ℕ) → ((j : ℕ) → j < i → bit_at word j ≡ 0) → bit_at word i ≡ 1
    → word - 1 ≡ (word / 2 ^ i - 1) * 2 ^ i + (2 ^ i - 1)
lowest_less word i none one =
    let q = word / 2 ^ i in
    let split : q ≡ (q - 1) + 1 = omega (arith, one) in
    let more : q * 2 ^ i ≡ (q - 1) * 2 ^ i + 1 * 2 ^ i = ap (λ (k : ℕ). k * 2 ^ i) split ∙ add-mul (q - 1) 1 (2 ^ i) in
    omega (arith, lowest_whole word i none, more, pow_pos i)

lowest_above : (word i k : ℕ) → ((j : ℕ) → j < i → bit_at word j ≡ 0) → bit_at word i ≡ 1 → i < k → bit_at (word - 1) k ≡ bit_at word k
lowest_above word i k none one above =
    let q = word / 2 ^ i in
    let t = k - i - 1 in
    let step : k - i ≡ suc t = omega (arith, above) in
    let back : k - i + i ≡ k = omega (arith, above) in
    let half : (q - 1) / 2 ≡ q / 2 = omega (arith, one) in
    let fits : 2 ^ i - 1 < 2 ^ i = omega (arith, pow_pos i) in
    let within : i ≤ k = omega (arith, above) in
    ap (λ (n : ℕ). bit_at n k) (lowest_less word i none one) ∙ bit_at_cat_high (q - 1) i (2 ^ i - 1) k fits within
    ∙ ap (bit_at (q - 1)) step ∙ bit_at-suc (q - 1) t ∙ ap (λ (n : ℕ). bit_at n t) half ∙ sym (bit_at-suc q t) ∙ ap (bit_at q) (sym step)
    ∙ shifted i word (k - i) ∙ ap (bit_at word) back

lowest_here : (word i : ℕ) → ((j : ℕ) → j < i → bit_at word j ≡ 0) → bit_at word i ≡ 1 → bit_at (word - 1) i ≡ 0
lowest_here word i none one =
    let q = word / 2 ^ i in
    let fits : 2 ^ i - 1 < 2 ^ i = omega (arith, pow_pos i) in
    let within : i ≤ i = omega arith in
    let zero_steps : i - i ≡ 0 = omega arith in
    let even : (q - 1) % 2 ≡ 0 = omega (arith, one) in
    ap (λ (n : ℕ). bit_at n i) (lowest_less word i none one) ∙ bit_at_cat_high (q - 1) i (2 ^ i - 1) i fits within
    ∙ ap (bit_at (q - 1)) zero_steps ∙ bit_at_lowest (q - 1) ∙ even

cleared : (k i a b m : ℕ) → m ≡ min a b → (k < i → a ≡ 0) → (k ≡ i → b ≡ 0) → (i < k → b ≡ a)
    → nat_eq m 1 ≡ (not (nat_eq k i) && nat_eq a 1)
cleared k i a b m both low same high = elim (cases_eq k i) [
  | inl e ↦ cleared_same k i a b m both e (same e)
  | inr ne ↦ elim (below_or_not k i) [
    | inl below ↦ cleared_low k i a b m both ne (low below)
    | inr above ↦ cleared_high k i a b m both ne (high (omega (arith, above, ne)))
  ]
]
  where
    cleared_same : (k i a b m : ℕ) → m ≡ min a b → k ≡ i → b ≡ 0 → nat_eq m 1 ≡ (not (nat_eq k i) && nat_eq a 1)
    cleared_same k i a b m both e none = grind (arith, nat_tests)

    cleared_low : (k i a b m : ℕ) → m ≡ min a b → k ≢ i → a ≡ 0 → nat_eq m 1 ≡ (not (nat_eq k i) && nat_eq a 1)
    cleared_low k i a b m both ne none = grind (arith, nat_tests)

    cleared_high : (k i a b m : ℕ) → m ≡ min a b → k ≢ i → b ≡ a → nat_eq m 1 ≡ (not (nat_eq k i) && nat_eq a 1)
    cleared_high k i a b m both ne equal = grind (arith, nat_tests)

of_set : (word j : ℕ) → is_set word j ≡ false → bit_at word j ≡ 0
of_set word j h = grind (arith, nat_tests, bit_at-lt word j)

of_one : (word j : ℕ) → is_set word j ≡ true → bit_at word j ≡ 1
of_one word j h = grind (arith, nat_tests)

-- a number and one less have in common all its bits but the lowest
pub less_lowest : (word i k : ℕ) → is_set word i ≡ true → ((j : ℕ) → j < i → is_set word j ≡ false)
    → is_set (bit_and word (word - 1)) k ≡ (not (nat_eq k i) && is_set word k)
less_lowest word i k here earlier =
    let one = of_one word i here in
    let none = λ (j : ℕ) (below : j < i). of_set word j (earlier j below) in
    cleared k i (bit_at word k) (bit_at (word - 1) k) (bit_at (bit_and word (word - 1)) k) (bit_at_and word (word - 1) k)
    (none k)
    (λ e. ap (bit_at (word - 1)) e ∙ lowest_here word i none one)
    (lowest_above word i k none one)

-- 0 has no bit
pub no_lowest : (word i : ℕ) → word ≡ 0 → is_set word i ≡ true → ⊥
no_lowest word i zero_word here = omega (arith, of_one word i here, ap (λ (n : ℕ). bit_at n i) zero_word, bit_at-zero i)
