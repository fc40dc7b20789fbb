-- Who wakes first of those that are looked at one after another.
use Rattle.std.proofs.Common.{◌≡◌, ◌≢◌, ◌⊎◌, inl, inr, ℕ, ◌+◌, ◌*◌, ◌/◌, ◌%◌, ◌<◌, ◌≤◌, Bool, true, false, cond, not, ◌&&◌, nat_eq, List, get_or, refl, sym, ◌∙◌, ap, subst, Option, Some, None, IfSome, arith}
use Rattle.std.proofs.lemmas.Bool.{cases_eq}
use Rattle.std.proofs.lemmas.Bool.Decides.{nat_tests}
use Rattle.aps_model.specs.Limits.{last_thread}
use Rattle.aps_levels.specs.declared.bits.Bits64.{Bits64}
use Rattle.aps_levels.specs.Bits.{set_has, IsLeast}
use Rattle.aps_timer.specs.Lines.{IsOfLine, IsOfWord, no_bits, sleeper_of, stands_in, words_of_line}
use Rattle.aps_timer.specs.Order.{earlier_sleeper, wakes_before, wakes_by}
use Rattle.aps_timer.specs.Sleepers.{SleepsUntil}
use Rattle.aps_timer.proofs.Order.{before_chain, first_left, first_right}

abbrev Row : Type 0
Row = List (Option ℕ)

-- whoever doesn't go before the one doesn't go before the first of two
pub before_neither : (p a b : Option (ℕ × ℕ)) → wakes_before p a ≡ false → wakes_before p (earlier_sleeper a b) ≡ false
before_neither p a b h = before_chain p a (earlier_sleeper a b) h (first_left a b)

-- nor whoever doesn't go before the other
pub before_nor : (p a b : Option (ℕ × ℕ)) → wakes_before p b ≡ false → wakes_before p (earlier_sleeper a b) ≡ false
before_nor p a b h = before_chain p b (earlier_sleeper a b) h (first_right a b)

-- what holds of two holds of the first of them
pub one_of : (P : ℕ × ℕ → Type 0) (a b : Option (ℕ × ℕ)) → IfSome a P → IfSome b P → IfSome (earlier_sleeper a b) P
one_of P a b h k = by (wakes_before b a)
  where
    by : (t : Bool) → IfSome (cond t b a) P
    by true = k
    by false = h

-- ---- the threads of one word

-- all bits below this one are done with, and of those that are the first is this one
pub record IsDone (row : List (Option ℕ)) (bits left : Bits64) (word from : ℕ) (first : Option (ℕ × ℕ)) : Type 0 where
  pub one : IfSome first (IsOfWord row bits word)
  pub fewer : (k : ℕ) → set_has left k ≡ true → set_has bits k ≡ true
  pub lower : (k : ℕ) → set_has left k ≡ true → IfSome first (λ s. s.1 < 64 * word + k)
  pub below : (k : ℕ) → k < from → set_has left k ≡ false
  pub done : (k until : ℕ) → k < 64 → set_has bits k ≡ true → set_has left k ≡ false → SleepsUntil row (64 * word + k) until
      → wakes_before (Some (until, 64 * word + k)) first ≡ false

gone : (k bit : ℕ) (h : Bool) → (not (nat_eq k bit) && h) ≡ false → (k ≡ bit) ⊎ (h ≡ false)
gone k bit h e = by (cases_eq k bit)
  where
    by : (k ≡ bit) ⊎ (k ≢ bit) → (k ≡ bit) ⊎ (h ≡ false)
    by (inl same) = inl same
    by (inr other) = inr (sym (rw not_same refl) ∙ e)
      where
        not_same : nat_eq k bit ≡ false
        not_same = grind (arith, nat_tests)

-- a thread of the word as it sleeps, if it does
of_word : (row : Row) (bits : Bits64) (word bit : ℕ) (o : Option ℕ) → bit < 64 → set_has bits bit ≡ true → o ≡ get_or row (64 * word + bit) None
    → IfSome (sleeper_of (64 * word + bit) o) (IsOfWord row bits word)
of_word row bits word bit None within here read = tt
of_word row bits word bit (Some until) within here read =
    let rest : bit ≡ (64 * word + bit) % 64 = omega (arith, within) in
    record {
      asleep = sym read;
      place = omega (arith, within);
      bit = subst (λ (k : ℕ). set_has bits k ≡ true) rest here;
    }

-- one bit more
pub more_done : (row : List (Option ℕ)) (bits left rest : Bits64) (word from bit : ℕ) (first : Option (ℕ × ℕ)) (o : Option ℕ)
    → IsDone row bits left word from first → IsLeast 64 (set_has left) bit → ((k : ℕ) → set_has rest k ≡ (not (nat_eq k bit) && set_has left k))
    → o ≡ get_or row (64 * word + bit) None
    → IsDone row bits rest word (bit + 1) (earlier_sleeper first (sleeper_of (64 * word + bit) o))
more_done row bits left rest word from bit first o is least without read = record {
  one = one_of (IsOfWord row bits word) first (sleeper_of (64 * word + bit) o) is.one (of_word row bits word bit o least.below (is.fewer bit least.here) read);
  fewer = λ k more. is.fewer k (still (nat_eq k bit) (set_has left k) (sym (without k) ∙ more));
  lower = λ k more.
      let both = sym (without k) ∙ more in
      one_of (λ (s : ℕ × ℕ). s.1 < 64 * word + k) first (sleeper_of (64 * word + bit) o) (is.lower k (still (nat_eq k bit) (set_has left k) both))
      (higher o k (higher_bit k (still (nat_eq k bit) (set_has left k) both) (cases_eq k bit) both));
  below = λ k less. without k ∙ below k less (cases_eq k bit);
  done = λ k until within in_bits not asleep.
      done k until within in_bits asleep (gone k bit (set_has left k) (sym (without k) ∙ not));
}
  where
    still : (t h : Bool) → (not t && h) ≡ true → h ≡ true
    still true h more = absurd cc
    still false h more = more

    low_or_high : (a b : ℕ) → a ≢ b → (a < b) ⊎ (b < a)
    low_or_high a b apart = search arith

    apart : (k : ℕ) → set_has left k ≡ true → (k < bit) ⊎ (bit < k) → bit < k
    apart k more (inl low) = (let never : true ≡ false = sym more ∙ least.earlier k low in absurd cc)
    apart k more (inr high) = high

    higher_bit : (k : ℕ) → set_has left k ≡ true → (k ≡ bit) ⊎ (k ≢ bit) → (not (nat_eq k bit) && set_has left k) ≡ true → bit < k
    higher_bit k more (inl same) both = (let is_same : nat_eq k bit ≡ true = grind (arith, nat_tests) in
        let never : false ≡ true = sym (rw is_same refl) ∙ both in
        absurd cc)
    higher_bit k more (inr other) both = apart k more (low_or_high k bit other)

    higher : (o : Option ℕ) (k : ℕ) → bit < k → IfSome (sleeper_of (64 * word + bit) o) (λ s. s.1 < 64 * word + k)
    higher None k less = tt
    higher (Some until) k less = omega (arith, less)

    below : (k : ℕ) → k < bit + 1 → (k ≡ bit) ⊎ (k ≢ bit) → (not (nat_eq k bit) && set_has left k) ≡ false
    below k less (inl same) = grind (arith, nat_tests)
    below k less (inr other) = rw (least.earlier k (omega (arith, less, other))) (either (not (nat_eq k bit)))
      where
        either : (b : Bool) → (b && false) ≡ false
        either true = refl
        either false = refl

    done : (k until : ℕ) → k < 64 → set_has bits k ≡ true → SleepsUntil row (64 * word + k) until → (k ≡ bit) ⊎ (set_has left k ≡ false)
        → wakes_before (Some (until, 64 * word + k)) (earlier_sleeper first (sleeper_of (64 * word + bit) o)) ≡ false
    done k until within in_bits asleep (inl same) =
        let x = 64 * word + bit in
        let here : o ≡ Some until = read ∙ subst (λ (j : ℕ). SleepsUntil row (64 * word + j) until) same asleep in
        subst (λ (j : ℕ). wakes_before (Some (until, 64 * word + j)) (earlier_sleeper first (sleeper_of x o)) ≡ false) (sym same)
        (subst (λ (p : Option (ℕ × ℕ)). wakes_before p (earlier_sleeper first (sleeper_of x o)) ≡ false) (ap (sleeper_of x) here) (first_right first (sleeper_of x o)))
    done k until within in_bits asleep (inr not) =
        before_neither (Some (until, 64 * word + k)) first (sleeper_of (64 * word + bit) o) (is.done k until within in_bits not asleep)

not_before_by : (until x begin : ℕ) (s : ℕ × ℕ) → begin ≤ until → s.0 ≤ begin → s.1 < x → wakes_before (Some (until, x)) (Some s) ≡ false
not_before_by until x begin (moment, y) later by lower = grind (arith, nat_tests)

-- the look ends with one who wakes at the earliest moment: all others have higher numbers
pub ended : (o : Option (ℕ × ℕ)) (begin until x : ℕ) → wakes_by o begin ≡ true → begin ≤ until → IfSome o (λ s. s.1 < x)
    → wakes_before (Some (until, x)) o ≡ false
ended None begin until x by later lower = absurd cc
ended (Some s) begin until x by later lower = not_before_by until x begin s later (grind (arith, nat_tests, by)) lower

pub ended_in_word : (row : List (Option ℕ)) (bits left : Bits64) (word from begin : ℕ) (first : Option (ℕ × ℕ))
    → IsDone row bits left word from first → wakes_by first begin ≡ true
    → (k until : ℕ) → k < 64 → set_has bits k ≡ true → SleepsUntil row (64 * word + k) until → begin ≤ until
    → wakes_before (Some (until, 64 * word + k)) first ≡ false
ended_in_word row bits left word from begin first is by k until within in_bits asleep later = in_left (set_has left k) refl
  where
    in_left : (t : Bool) → set_has left k ≡ t → wakes_before (Some (until, 64 * word + k)) first ≡ false
    in_left true more = ended first begin until (64 * word + k) by later (is.lower k more)
    in_left false not = is.done k until within in_bits not asleep

-- ---- the words of one line

-- the words below this one are done with
pub record IsPast (row : List (Option ℕ)) (lines : List Bits64) (line begin word : ℕ) (first : Option (ℕ × ℕ)) : Type 0 where
  pub one : IfSome first (IsOfLine row lines line)
  pub lower : IfSome first (λ s. s.1 / 64 < word)
  pub done : (x until : ℕ) → x ≤ last_thread → x / 64 < word → stands_in lines line x ≡ true → SleepsUntil row x until → begin ≤ until
      → wakes_before (Some (until, x)) first ≡ false

of_line : (row : Row) (lines : List Bits64) (line word : ℕ) (bits : Bits64) (o : Option (ℕ × ℕ)) → word < words_of_line → bits ≡ get_or lines (words_of_line * line + word) no_bits
    → IfSome o (IsOfWord row bits word) → IfSome o (IsOfLine row lines line)
of_line row lines line word bits None few read is = tt
of_line row lines line word bits (Some s) few read is = record {
  asleep = is.asleep;
  few = omega (arith, is.place, few);
  stands = ap (λ (w : ℕ). set_has (get_or lines (words_of_line * line + w) no_bits) (s.1 % 64)) is.place
      ∙ ap (λ (b : Bits64). set_has b (s.1 % 64)) (sym read) ∙ is.bit;
}

pub more_past : (row : List (Option ℕ)) (lines : List Bits64) (line begin word : ℕ) (bits : Bits64) (first second : Option (ℕ × ℕ))
    → word < words_of_line → IsPast row lines line begin word first → bits ≡ get_or lines (words_of_line * line + word) no_bits
    → IfSome second (IsOfWord row bits word)
    → ((k until : ℕ) → k < 64 → set_has bits k ≡ true → SleepsUntil row (64 * word + k) until → begin ≤ until
    → wakes_before (Some (until, 64 * word + k)) second ≡ false)
    → IsPast row lines line begin (word + 1) (earlier_sleeper first second)
more_past row lines line begin word bits first second few is read one others = record {
  one = one_of (IsOfLine row lines line) first second is.one (of_line row lines line word bits second few read one);
  lower = one_of (λ (s : ℕ × ℕ). s.1 / 64 < word + 1) first second (lower first is.lower) (here second one);
  done = λ x until few below stands asleep later. done x until few stands asleep later (here_or_before x below);
}
  where
    lower : (o : Option (ℕ × ℕ)) → IfSome o (λ s. s.1 / 64 < word) → IfSome o (λ s. s.1 / 64 < word + 1)
    lower None is = tt
    lower (Some s) is = omega (arith, is)

    here : (o : Option (ℕ × ℕ)) → IfSome o (IsOfWord row bits word) → IfSome o (λ s. s.1 / 64 < word + 1)
    here None is = tt
    here (Some s) is = omega (arith, is.place)

    here_or_before : (x : ℕ) → x / 64 < word + 1 → (x / 64 < word) ⊎ (x / 64 ≡ word)
    here_or_before x below = search arith

    done : (x until : ℕ) → x ≤ last_thread → stands_in lines line x ≡ true → SleepsUntil row x until → begin ≤ until → (x / 64 < word) ⊎ (x / 64 ≡ word)
        → wakes_before (Some (until, x)) (earlier_sleeper first second) ≡ false
    done x until few stands asleep later (inl below) = before_neither (Some (until, x)) first second (is.done x until few below stands asleep later)
    done x until few stands asleep later (inr here) =
        let same : 64 * word + x % 64 ≡ x = omega (arith, here) in
        let bit : set_has bits (x % 64) ≡ true =
        ap (λ (b : Bits64). set_has b (x % 64)) read
        ∙ ap (λ (w : ℕ). set_has (get_or lines (words_of_line * line + w) no_bits) (x % 64)) (sym here) ∙ stands in
        before_nor (Some (until, x)) first second
        (subst (λ (y : ℕ). wakes_before (Some (until, y)) second ≡ false) same
        (others (x % 64) until (omega arith) bit (subst (λ (y : ℕ). SleepsUntil row y until) (sym same) asleep) later))

pub ended_in_line : (row : List (Option ℕ)) (lines : List Bits64) (line begin words : ℕ) (first : Option (ℕ × ℕ)) → IsPast row lines line begin words first
    → wakes_by first begin ≡ true → (x until : ℕ) → x ≤ last_thread → stands_in lines line x ≡ true → SleepsUntil row x until
    → begin ≤ until → wakes_before (Some (until, x)) first ≡ false
ended_in_line row lines line begin words first is by x until few stands asleep later = in_words (past_or_not (x / 64) words)
  where
    past_or_not : (a b : ℕ) → (a < b) ⊎ (b ≤ a)
    past_or_not a b = search arith

    further : (o : Option (ℕ × ℕ)) → words ≤ x / 64 → IfSome o (λ s. s.1 / 64 < words) → IfSome o (λ s. s.1 < x)
    further None past is = tt
    further (Some s) past is = omega (arith, past, is)

    in_words : (x / 64 < words) ⊎ (words ≤ x / 64) → wakes_before (Some (until, x)) first ≡ false
    in_words (inl below) = is.done x until few below stands asleep later
    in_words (inr past) = ended first begin until x by later (further first past is.lower)
