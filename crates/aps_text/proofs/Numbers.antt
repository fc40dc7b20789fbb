-- A number is read digit by digit: what was read so far is the text of a number.
use Rattle.std.proofs.Common.{◌≡◌, ℕ, zero, suc, ◌+◌, ◌-◌, ◌*◌, ◌/◌, ◌%◌, ◌^◌, ◌<◌, ◌≤◌, Bool, true, false, eqb, leb, ◌&&◌, List, [], ◌∷◌, ◌++◌, Ok, Err, refl, sym, ap, ◌∙◌, ◌⊎◌, inl, inr, append_assoc, arith}
use Rattle.std.proofs.lemmas.Bool.{cases_Bool, true≢false, cond-true, eqb-true, eqb-false, eq-eqb, ne_eqb, and_parts, and_from, leb-true, le-leb}
use Rattle.std.proofs.lemmas.Bool.Decides.{nat_tests}
use Rattle.std.proofs.lemmas.Fmt.{decimal_digit, decimal_step, decimal_by_steps}
use Rattle.std.specs.Fmt.{decimal}
use Rattle.std.specs.Char.{is_ascii_digit}
use Rattle.aps_text.specs.Reader.{ReadResult, whole_word, digits_at, number_at}
use Rattle.aps_text.proofs.Readers.{IsReader, IsStuck, IsFront, IsBegun, ok_parts, IsReader-word, SpellsWord, BeginsOther}

-- one digit more
pub decimal_push : (v d : ℕ) → 0 < v → d < 10 → v * 10 + d < 2 ^ 64 → decimal (v * 10 + d) ≡ decimal v ++ (48 + d) ∷ []
decimal_push v d some small fits =
    let front : (v * 10 + d) / 10 ≡ v = omega arith in
    let last : (v * 10 + d) % 10 ≡ d = omega arith in
    decimal_step (v * 10 + d) (omega arith) fits ∙ rw (front, last) refl

pub err_apart : {A : Type 0} (left : List ℕ) (x : A × List ℕ) → (λ (r : ReadResult A). r) (Err left) ≡ Ok x → ⊥
err_apart left x e = cc

err_is : (x y : List ℕ) → (λ (r : ReadResult ℕ). r) (Err x) ≡ Err y → x ≡ y
err_is x y e = cc

nil_apart : (x : ℕ) (xs : List ℕ) → [] ≡ x ∷ xs → ⊥
nil_apart x xs e = cc

-- a digit's test, by its bounds
digit_bounds : (c : ℕ) → is_ascii_digit c ≡ true → (48 ≤ c) × (c ≤ 57)
digit_bounds c e = grind (arith, nat_tests)

digit_test : (c : ℕ) → 48 ≤ c → c ≤ 57 → is_ascii_digit c ≡ true
digit_test c low high = grind (arith, nat_tests)

-- ---- the step on one byte

abbrev goes_on : (most value c : ℕ) → Bool
goes_on most value c = is_ascii_digit c && leb (value * 10 + (c - 48)) most

at_stop : (most stop value : ℕ) (cs : List ℕ) → digits_at most stop value (stop ∷ cs) ≡ Ok (value, cs)
at_stop most stop value cs = rw (eq-eqb stop stop refl) refl

at_digit : (most stop value c : ℕ) (cs : List ℕ) → eqb c stop ≡ false → goes_on most value c ≡ true → digits_at most stop value (c ∷ cs) ≡ digits_at most stop (value * 10 + (c - 48)) cs
at_digit most stop value c cs e g = rw (e, g) refl

at_other : (most stop value c : ℕ) (cs : List ℕ) → eqb c stop ≡ false → goes_on most value c ≡ false → digits_at most stop value (c ∷ cs) ≡ Err (c ∷ cs)
at_other most stop value c cs e g = rw (e, g) refl

-- ---- from a number's text on

-- the value at one digit more
more_is : (most value c : ℕ) → most < 2 ^ 64 → 0 < value → goes_on most value c ≡ true
    → (0 < value * 10 + (c - 48)) × (value * 10 + (c - 48) ≤ most) × (decimal (value * 10 + (c - 48)) ≡ decimal value ++ c ∷ [])
more_is most value c fits some g =
    let parts = and_parts (is_ascii_digit c) (leb (value * 10 + (c - 48)) most) g in
    let bounds = digit_bounds c parts.0 in
    let within : value * 10 + (c - 48) ≤ most = leb-true (value * 10 + (c - 48)) most parts.1 in
    let same : 48 + (c - 48) ≡ c = omega arith in
    (omega arith, within, decimal_push value (c - 48) some (omega arith) (omega arith) ∙ rw same refl)

regroup : (value c n : ℕ) (cs : List ℕ) → decimal n ≡ decimal value ++ c ∷ [] → decimal value ++ c ∷ cs ≡ decimal n ++ cs
regroup value c n cs e = sym (append_assoc (decimal value) (c ∷ []) cs) ∙ ap (λ (t : List ℕ). t ++ cs) (sym e)

digits_take : (most stop value : ℕ) (bytes : List ℕ) (n : ℕ) (rest : List ℕ) → most < 2 ^ 64 → 0 < value → value ≤ most → digits_at most stop value bytes ≡ Ok (n, rest)
    → (n ≤ most) × (decimal value ++ bytes ≡ (decimal n ++ stop ∷ []) ++ rest)
digits_take most stop value [] n rest fits some within e = absurd cc
digits_take most stop value (c ∷ cs) n rest fits some within e =
    elim (cases_Bool (eqb c stop)) [
      | inl here ↦
          let same = ok_parts value cs n rest (sym (cond-true (eqb c stop) _ _ here) ∙ e) in
          (omega arith, rw (eqb-true c stop here, same.0, same.1, append_assoc) refl)
      | inr not_here ↦ elim (cases_Bool (goes_on most value c)) [
        | inl goes ↦
            let more = more_is most value c fits some goes in
            let inner = digits_take most stop (value * 10 + (c - 48)) cs n rest fits more.0 more.1 (sym (at_digit most stop value c cs not_here goes) ∙ e) in
            (inner.0, regroup value c (value * 10 + (c - 48)) cs more.2 ∙ inner.1)
        | inr stays ↦ absurd (err_apart (c ∷ cs) (n, rest) (sym (at_other most stop value c cs not_here stays) ∙ e))
      ]
    ]

-- where no digit fits: the digits before are a number of the kind
record IsHalted (most stop value : ℕ) (bytes rest : List ℕ) : Type 0 where
  n : ℕ
  some : 0 < n
  within : n ≤ most
  parts : decimal value ++ bytes ≡ decimal n ++ rest
  local : (x : ℕ) (xs ys : List ℕ) → rest ≡ x ∷ xs → digits_at most stop n (x ∷ ys) ≡ Err (x ∷ ys)

stays_stuck : (most stop value c : ℕ) (cs : List ℕ) → eqb c stop ≡ false → goes_on most value c ≡ false → (x : ℕ) (xs ys : List ℕ) → c ∷ cs ≡ x ∷ xs → digits_at most stop value (x ∷ ys) ≡ Err (x ∷ ys)
stays_stuck most stop value c cs not_here stays x xs ys h =
    let same : c ≡ x = cc in
    rw (← same) (at_other most stop value c ys not_here stays)

digits_stuck : (most stop value : ℕ) (bytes rest : List ℕ) → most < 2 ^ 64 → 0 < value → value ≤ most → digits_at most stop value bytes ≡ Err rest → IsHalted most stop value bytes rest
digits_stuck most stop value [] rest fits some within e =
    let nothing : [] ≡ rest = cc in
    record { n = value; some = some; within = within; parts = ap (λ (t : List ℕ). decimal value ++ t) nothing; local = λ x xs ys h. absurd (nil_apart x xs (nothing ∙ h)) }
digits_stuck most stop value (c ∷ cs) rest fits some within e =
    elim (cases_Bool (eqb c stop)) [
      | inl here ↦ absurd (err_apart rest (value, cs) (sym e ∙ cond-true (eqb c stop) _ _ here))
      | inr not_here ↦ elim (cases_Bool (goes_on most value c)) [
        | inl goes ↦
            let more = more_is most value c fits some goes in
            let inner = digits_stuck most stop (value * 10 + (c - 48)) cs rest fits more.0 more.1 (sym (at_digit most stop value c cs not_here goes) ∙ e) in
            record { n = inner.n; some = inner.some; within = inner.within; parts = regroup value c (value * 10 + (c - 48)) cs more.2 ∙ inner.parts; local = inner.local }
        | inr stays ↦
            let same : c ∷ cs ≡ rest = err_is (c ∷ cs) rest (sym (at_other most stop value c cs not_here stays) ∙ e) in
            record {
              n = value;
              some = some;
              within = within;
              parts = ap (λ (t : List ℕ). decimal value ++ t) same;
              local = λ x xs ys h. stays_stuck most stop value c cs not_here stays x xs ys (same ∙ h);
            }
      ]
    ]

-- ---- from the first digit on

first_byte : (c : ℕ) (cs : List ℕ) → 48 ≤ c → c ≤ 57 → c ∷ cs ≡ decimal (c - 48) ++ cs
first_byte c cs low high =
    let same : 48 + (c - 48) ≡ c = omega arith in
    rw (decimal_digit (c - 48) (omega arith), same) refl

at_first : (most stop c : ℕ) (cs : List ℕ) → 0 < c - 48 → is_ascii_digit c ≡ true → c - 48 ≤ most → number_at most stop (c ∷ cs) ≡ digits_at most stop (c - 48) cs
at_first most stop c cs some digit within =
    let zero : eqb c 48 ≡ false = ne_eqb c 48 (λ e. omega arith) in
    rw (zero, digit, le-leb (c - 48) most within) refl

at_zero : (most stop : ℕ) (cs : List ℕ) → number_at most stop (48 ∷ cs) ≡ whole_word (stop ∷ []) 0 cs
at_zero most stop cs = refl

-- a stop is no digit
digit_apart : (stop c : ℕ) → is_ascii_digit stop ≡ false → is_ascii_digit c ≡ true → eqb c stop ≡ false
digit_apart stop c plain digit = ne_eqb c stop (λ e. true≢false (sym digit ∙ ap is_ascii_digit e ∙ plain))

one_digit : (most stop n : ℕ) (bytes : List ℕ) → n < 10 → 0 < n → n ≤ most → number_at most stop ((48 + n) ∷ bytes) ≡ digits_at most stop n bytes
one_digit most stop n bytes small some within =
    let same : 48 + n - 48 ≡ n = omega arith in
    at_first most stop (48 + n) bytes (omega arith) (digit_test (48 + n) (omega arith) (omega arith)) (omega arith) ∙ ap (λ (v : ℕ). digits_at most stop v bytes) same

last_digit : (most stop n : ℕ) (bytes : List ℕ) → is_ascii_digit stop ≡ false → n ≤ most → digits_at most stop (n / 10) ((48 + n % 10) ∷ bytes) ≡ digits_at most stop n bytes
last_digit most stop n bytes plain within =
    let digit = digit_test (48 + n % 10) (omega arith) (omega arith) in
    let value : n / 10 * 10 + (48 + n % 10 - 48) ≡ n = omega arith in
    let goes : goes_on most (n / 10) (48 + n % 10) ≡ true = and_from _ _ digit (rw value (le-leb n most within)) in
    at_digit most stop (n / 10) (48 + n % 10) bytes (digit_apart stop (48 + n % 10) plain digit) goes ∙ ap (λ (v : ℕ). digits_at most stop v bytes) value

-- the text of a number above 0 leads to the state behind its digits
digits_again : (most stop : ℕ) → most < 2 ^ 64 → is_ascii_digit stop ≡ false → (n : ℕ) → 0 < n → n ≤ most → (bytes : List ℕ) → number_at most stop (decimal n ++ bytes) ≡ digits_at most stop n bytes
digits_again most stop fits plain n some within =
    let Leads : ℕ → List ℕ → Type 0 = λ n ds. 0 < n → n ≤ most → (bytes : List ℕ) → number_at most stop (ds ++ bytes) ≡ digits_at most stop n bytes in
    decimal_by_steps Leads
    (λ n small some within bytes. one_digit most stop n bytes small some within)
    (λ n ds large so_far some within bytes.
    let grouped : (ds ++ (48 + n % 10) ∷ []) ++ bytes ≡ ds ++ (48 + n % 10) ∷ bytes = append_assoc ds ((48 + n % 10) ∷ []) bytes in
    ap (number_at most stop) grouped ∙ so_far (omega arith) (omega arith) ((48 + n % 10) ∷ bytes) ∙ last_digit most stop n bytes plain within)
    n (omega arith) some within

-- ---- the reader

-- a number in its range, and the stop
abbrev pub SpellsNumber : (most stop : ℕ) → List ℕ → ℕ → Type 0
SpellsNumber most stop text n = (text ≡ decimal n ++ stop ∷ []) × (n ≤ most)

number_again : (most stop : ℕ) → most < 2 ^ 64 → is_ascii_digit stop ≡ false → (n : ℕ) (rest : List ℕ) → n ≤ most → number_at most stop (decimal n ++ stop ∷ rest) ≡ Ok (n, rest)
number_again most stop fits plain zero rest within =
    rw (decimal_digit 0 (omega arith), eq-eqb stop stop refl) refl
number_again most stop fits plain (suc n) rest within =
    digits_again most stop fits plain (suc n) (omega arith) within (stop ∷ rest) ∙ at_stop most stop (suc n) rest

zero_text : (stop n : ℕ) (text : List ℕ) → n ≡ 0 → text ≡ stop ∷ [] → 48 ∷ text ≡ decimal n ++ stop ∷ []
zero_text stop n text e f = rw (e, f, decimal_digit 0 (omega arith)) refl

zero_takes : (most stop : ℕ) (cs : List ℕ) (n : ℕ) (rest : List ℕ) → whole_word (stop ∷ []) 0 cs ≡ Ok (n, rest) → IsFront (SpellsNumber most stop) (48 ∷ cs) n rest
zero_takes most stop cs n rest e =
    let t = (IsReader-word (stop ∷ []) 0).takes cs n rest e in
    record { text = 48 ∷ t.text; spells = (zero_text stop n t.text t.spells.1 t.spells.0, omega (arith, t.spells.1)); parts = ap (λ (s : List ℕ). 48 ∷ s) t.parts }

-- a first byte that begins no number
no_digit : (most stop c : ℕ) (cs : List ℕ) → eqb c 48 ≡ false → (is_ascii_digit c && leb (c - 48) most) ≡ false → number_at most stop (c ∷ cs) ≡ Err (c ∷ cs)
no_digit most stop c cs nonzero e = rw (nonzero, e) refl

no_digit_there : (most stop c : ℕ) (cs : List ℕ) → eqb c 48 ≡ false → (is_ascii_digit c && leb (c - 48) most) ≡ false → (x : ℕ) (xs ys : List ℕ) → c ∷ cs ≡ x ∷ xs → number_at most stop (x ∷ ys) ≡ Err (x ∷ ys)
no_digit_there most stop c cs nonzero e x xs ys h =
    let same : c ≡ x = cc in
    rw (← same) (no_digit most stop c ys nonzero e)

number_takes : (most stop : ℕ) → most < 2 ^ 64 → (bytes : List ℕ) (n : ℕ) (rest : List ℕ) → number_at most stop bytes ≡ Ok (n, rest) → IsFront (SpellsNumber most stop) bytes n rest
number_takes most stop fits [] n rest e = absurd cc
number_takes most stop fits (c ∷ cs) n rest e =
    elim (cases_Bool (eqb c 48)) [
      | inl zero_is ↦
          let same = eqb-true c 48 zero_is in
          let t = zero_takes most stop cs n rest (sym (cond-true (eqb c 48) _ _ zero_is) ∙ e) in
          record { text = t.text; spells = t.spells; parts = ap (λ (d : ℕ). d ∷ cs) same ∙ t.parts }
      | inr nonzero ↦ elim (cases_Bool (is_ascii_digit c && leb (c - 48) most)) [
        | inl first ↦
            let parts = and_parts (is_ascii_digit c) (leb (c - 48) most) first in
            let bounds = digit_bounds c parts.0 in
            let some : 0 < c - 48 = omega (arith, eqb-false c 48 nonzero) in
            let within = leb-true (c - 48) most parts.1 in
            let t = digits_take most stop (c - 48) cs n rest fits some within (sym (at_first most stop c cs some parts.0 within) ∙ e) in
            record { text = decimal n ++ stop ∷ []; spells = (refl, t.0); parts = first_byte c cs bounds.0 bounds.1 ∙ t.1 }
        | inr other ↦ absurd (err_apart (c ∷ cs) (n, rest) (sym (no_digit most stop c cs nonzero other) ∙ e))
      ]
    ]

zero_begun : (most stop : ℕ) (front : List ℕ) → (front ≡ []) ⊎ IsBegun {A = ℕ} (SpellsWord (stop ∷ []) 0) front → IsBegun (SpellsNumber most stop) (48 ∷ front)
zero_begun most stop front (inl e) =
    record { text = 48 ∷ stop ∷ []; value = 0; more = stop ∷ []; spells = (zero_text stop 0 (stop ∷ []) refl refl, omega arith); parts = rw e refl }
zero_begun most stop front (inr b) =
    record { text = 48 ∷ b.text; value = b.value; more = b.more; spells = (zero_text stop b.value b.text b.spells.1 b.spells.0, omega (arith, b.spells.1)); parts = ap (λ (t : List ℕ). 48 ∷ t) b.parts }

zero_stuck : (most stop : ℕ) (cs rest : List ℕ) → whole_word {A = ℕ} (stop ∷ []) 0 cs ≡ Err rest → IsStuck (number_at most stop) (SpellsNumber most stop) (48 ∷ cs) rest
zero_stuck most stop cs rest e =
    let s = (IsReader-word (stop ∷ []) 0).stuck cs rest e in
    record {
      front = 48 ∷ s.front;
      parts = ap (λ (t : List ℕ). 48 ∷ t) s.parts;
      begun = inr (zero_begun most stop s.front s.begun);
      local = λ x xs ys h. s.local x xs ys h;
    }

number_stuck : (most stop : ℕ) → most < 2 ^ 64 → is_ascii_digit stop ≡ false → (bytes rest : List ℕ) → number_at most stop bytes ≡ Err rest → IsStuck (number_at most stop) (SpellsNumber most stop) bytes rest
number_stuck most stop fits plain [] rest e =
    let nothing : [] ≡ rest = err_is [] rest e in
    record { front = []; parts = nothing; begun = inl refl; local = λ x xs ys h. absurd (nil_apart x xs (nothing ∙ h)) }
number_stuck most stop fits plain (c ∷ cs) rest e =
    elim (cases_Bool (eqb c 48)) [
      | inl zero_is ↦
          let same = eqb-true c 48 zero_is in
          let s = zero_stuck most stop cs rest (sym (cond-true (eqb c 48) _ _ zero_is) ∙ e) in
          record { front = s.front; parts = ap (λ (d : ℕ). d ∷ cs) same ∙ s.parts; begun = s.begun; local = s.local }
      | inr nonzero ↦ elim (cases_Bool (is_ascii_digit c && leb (c - 48) most)) [
        | inl first ↦
            let parts = and_parts (is_ascii_digit c) (leb (c - 48) most) first in
            let bounds = digit_bounds c parts.0 in
            let some : 0 < c - 48 = omega (arith, eqb-false c 48 nonzero) in
            let within = leb-true (c - 48) most parts.1 in
            let s = digits_stuck most stop (c - 48) cs rest fits some within (sym (at_first most stop c cs some parts.0 within) ∙ e) in
            record {
              front = decimal s.n;
              parts = first_byte c cs bounds.0 bounds.1 ∙ s.parts;
              begun = inr (record { text = decimal s.n ++ stop ∷ []; value = s.n; more = stop ∷ []; spells = (refl, s.within); parts = refl });
              local = λ x xs ys h. digits_again most stop fits plain s.n s.some s.within (x ∷ ys) ∙ s.local x xs ys h;
            }
        | inr other ↦
            let same : c ∷ cs ≡ rest = err_is (c ∷ cs) rest (sym (no_digit most stop c cs nonzero other) ∙ e) in
            record { front = []; parts = same; begun = inl refl; local = λ x xs ys h. no_digit_there most stop c cs nonzero other x xs ys (same ∙ h) }
      ]
    ]

pub IsReader-number : (most stop : ℕ) → most < 2 ^ 64 → is_ascii_digit stop ≡ false → IsReader (number_at most stop) (SpellsNumber most stop)
IsReader-number most stop fits plain = record {
  again = λ text n rest h. ap (λ (t : List ℕ). number_at most stop (t ++ rest)) h.0 ∙ ap (number_at most stop) (append_assoc (decimal n) (stop ∷ []) rest) ∙ number_again most stop fits plain n rest h.1;
  takes = number_takes most stop fits;
  stuck = number_stuck most stop fits plain;
}

-- ---- the first byte of a number

pub record BeginsWithDigit (ds : List ℕ) : Type 0 where
  pub digit : ℕ
  pub others : List ℕ
  pub low : 48 ≤ digit
  pub high : digit ≤ 57
  pub parts : ds ≡ digit ∷ others

pub first_digit : (n : ℕ) → n < 2 ^ 64 → BeginsWithDigit (decimal n)
first_digit n fits =
    let Begins : ℕ → List ℕ → Type 0 = λ n ds. BeginsWithDigit ds in
    decimal_by_steps Begins
    (λ n small. record { digit = 48 + n; others = []; low = omega arith; high = omega arith; parts = refl })
    (λ n ds large h. record { digit = h.digit; others = h.others ++ (48 + n % 10) ∷ []; low = h.low; high = h.high; parts = ap (λ (t : List ℕ). t ++ (48 + n % 10) ∷ []) h.parts })
    n fits

pub number_begins_other : (byte most stop : ℕ) → most < 2 ^ 64 → (byte < 48) ⊎ (57 < byte) → BeginsOther byte (SpellsNumber most stop)
number_begins_other byte most stop fits (inl low) text n h =
    let first = first_digit n (omega arith) in
    (first.digit, first.others ++ stop ∷ [], h.0 ∙ ap (λ (t : List ℕ). t ++ stop ∷ []) first.parts, λ e. omega (arith, first.low))
number_begins_other byte most stop fits (inr high) text n h =
    let first = first_digit n (omega arith) in
    (first.digit, first.others ++ stop ∷ [], h.0 ∙ ap (λ (t : List ℕ). t ++ stop ∷ []) first.parts, λ e. omega (arith, first.high))
