-- Where sleepers stand while threads come and go and the buckets go on, and that they are found there.
use Rattle.std.proofs.Common.{◌≡◌, ◌≢◌, ◌⊎◌, inl, inr, ℕ, ◌+◌, ◌*◌, ◌/◌, ◌%◌, ◌<◌, ◌≤◌, Bool, true, false, cond, ◌&&◌, nat_eq, List, length, get_or, replicate, set, refl, sym, ◌∙◌, ap, subst, Option, Some, None, IfSome, arith, get_or-set_same, get_or-set_other}
use Rattle.std.proofs.lemmas.Bool.{cases_eq}
use Rattle.std.proofs.lemmas.Bool.Decides.{nat_tests}
use Rattle.std.proofs.lemmas.List.{get_or-replicate, length-replicate}
use Rattle.std.proofs.lemmas.Nat.Bits.{bit_at-zero}
use Rattle.std.proofs.Math.ListN.{get_or-eq_default}
use Rattle.aps_model.specs.Limits.{last_thread}
use Rattle.aps_levels.specs.Bits.{set_has}
use Rattle.aps_levels.specs.declared.bits.Bits64.{Bits64}
use Rattle.aps_model.specs.TickWork.{is_earlier}
use Rattle.aps_timer.specs.Buckets.{AreKept, AreNear, IsFurther, IsNear, IsSleeperPlaced, bucket_count, bucket_of, further_line}
use Rattle.aps_timer.specs.Lines.{IsOfLine, no_bits, stands_in, words_of_line}
use Rattle.aps_timer.specs.Order.{wakes_before}
use Rattle.aps_timer.specs.Sleepers.{IsFirstDue, SleepsUntil}

abbrev Row : Type 0
Row = List (Option ℕ)

abbrev Lines : Type 0
Lines = List Bits64

-- ---- one thread comes to stand in a line, or leaves it

-- what one call leaves
abbrev pub IsSet : List Bits64 → List Bits64 → ℕ → ℕ → Bool → Type 0
IsSet lines lines' line x is_in = (l y : ℕ) → y ≤ last_thread
    → stands_in lines' l y ≡ cond (nat_eq l line && nat_eq y x) is_in (stands_in lines l y)

same_here : (x : ℕ) → nat_eq x x ≡ true
same_here x = grind (arith, nat_tests)

-- where the thread stood nowhere it stands in this line alone
pub stands_alone : (lines lines' : List Bits64) (line x : ℕ) → x ≤ last_thread → IsSet lines lines' line x true
    → ((l : ℕ) → stands_in lines l x ≡ false) → (l : ℕ) → stands_in lines' l x ≡ nat_eq l line
stands_alone lines lines' line x few is nowhere l = is l x few ∙ rw (same_here x, nowhere l) (either (nat_eq l line))
  where
    either : (t : Bool) → cond (t && true) true false ≡ t
    either true = refl
    either false = refl

-- no other thread stands elsewhere than before
pub others_same : (lines lines' : List Bits64) (line x y : ℕ) (is_in : Bool) → y ≤ last_thread → y ≢ x → IsSet lines lines' line x is_in
    → (l : ℕ) → stands_in lines' l y ≡ stands_in lines l y
others_same lines lines' line x y is_in few other is l =
    is l y few ∙ ap (λ t. cond (nat_eq l line && t) is_in (stands_in lines l y)) not_same ∙ neither (nat_eq l line) (stands_in lines l y)
  where
    not_same : nat_eq y x ≡ false
    not_same = grind (arith, nat_tests)

    neither : (t h : Bool) → cond (t && false) is_in h ≡ h
    neither true h = refl
    neither false h = refl

-- a thread that stands in its bucket or in the further list and leaves both stands nowhere
pub stands_nowhere : (lines between lines' : List Bits64) (begin further x until : ℕ) → x ≤ last_thread
    → IsSet lines between (bucket_of until % bucket_count) x false → IsSet between lines' further_line x false
    → IsSleeperPlaced lines begin further x (Some until) → (l : ℕ) → stands_in lines' l x ≡ false
stands_nowhere lines between lines' begin further x until few one two placed l =
    two l x few ∙ rw (same_here x, one l x few, same_here x) (by placed)
  where
    left : (s t : Bool) → cond (s && true) false (cond (t && true) false t) ≡ false
    left true t = refl
    left false true = refl
    left false false = refl

    right : (s t : Bool) → cond (s && true) false (cond (t && true) false s) ≡ false
    right true t = refl
    right false true = refl
    right false false = refl

    by : IsSleeperPlaced lines begin further x (Some until)
        → cond (nat_eq l further_line && true) false (cond (nat_eq l (bucket_of until % bucket_count) && true) false (stands_in lines l x)) ≡ false
    by (inl near) = rw (near.stands l) (left (nat_eq l further_line) (nat_eq l (bucket_of until % bucket_count)))
    by (inr late) = rw (late.stands l) (right (nat_eq l further_line) (nat_eq l (bucket_of until % bucket_count)))

pub placed_still : (lines lines' : List Bits64) (begin further further' y : ℕ) (other : Option ℕ) → ((l : ℕ) → stands_in lines' l y ≡ stands_in lines l y)
    → further' ≤ further → IsSleeperPlaced lines begin further y other → IsSleeperPlaced lines' begin further' y other
placed_still lines lines' begin further further' y None same less placed = λ l. same l ∙ placed l
placed_still lines lines' begin further further' y (Some until) same less (inl near) =
    inl (record { from = near.from; before = near.before; stands = λ l. same l ∙ near.stands l })
placed_still lines lines' begin further further' y (Some until) same less (inr late) =
    inr (record { from = omega (arith, less, late.from); stands = λ l. same l ∙ late.stands l })

-- nobody stands anywhere at first
pub kept_at_first : (lines : List Bits64) (bits : Bits64) (threads words further : ℕ) → lines ≡ replicate words bits → ((k : ℕ) → set_has bits k ≡ false)
    → AreKept (replicate threads None) lines 0 further
kept_at_first lines bits threads words further are none = record {
  few = λ x until asleep. (let never : None ≡ Some until = sym (awake x) ∙ asleep in absurd cc);
  each = λ x few. subst (IsSleeperPlaced lines 0 further x) (sym (awake x)) (λ line. nowhere line x);
}
  where
    within_or_not : (i n : ℕ) → (i < n) ⊎ (n ≤ i)
    within_or_not i n = search arith

    read : {A : Type 0} (n i : ℕ) (a d : A) → (get_or (replicate n a) i d ≡ a) ⊎ (get_or (replicate n a) i d ≡ d)
    read n i a d = elim (within_or_not i n) [
      | inl within ↦ inl (get_or-replicate n i a d within)
      | inr past ↦ inr (get_or-eq_default (replicate n a) d (omega (arith, past, length-replicate n a)))
    ]

    nobody : List (Option ℕ)
    nobody = replicate threads None

    awake : (x : ℕ) → get_or nobody x None ≡ None
    awake x = elim (read threads x None None) [
      | inl e ↦ e
      | inr e ↦ e
    ]

    nowhere : (line x : ℕ) → stands_in lines line x ≡ false
    nowhere line x =
        ap (λ (l : Lines). stands_in l line x) are ∙ (elim (read words (words_of_line * line + x / 64) bits no_bits) [
          | inl e ↦ ap (λ (b : Bits64). set_has b (x % 64)) e ∙ none (x % 64)
          | inr e ↦ ap (λ (b : Bits64). set_has b (x % 64)) e ∙ ap (λ (b : ℕ). nat_eq b 1) (bit_at-zero (x % 64))
        ])

-- ---- a thread falls asleep, or wakes

pub kept_set : (row : List (Option ℕ)) (lines lines' : List Bits64) (begin begin' further further' x : ℕ) (o : Option ℕ) → AreKept row lines begin further
    → x < length row → x ≤ last_thread → IsSleeperPlaced lines' begin' further' x o
    → ((y : ℕ) (other : Option ℕ) → y ≤ last_thread → y ≢ x → IsSleeperPlaced lines begin further y other → IsSleeperPlaced lines' begin' further' y other)
    → AreKept (set row x o) lines' begin' further'
kept_set row lines lines' begin begin' further further' x o kept within few here others = record {
  few = λ y until asleep. by y until asleep (cases_eq y x);
  each = λ y fits. stands y fits (cases_eq y x);
}
  where
    by : (y until : ℕ) → SleepsUntil (set row x o) y until → (y ≡ x) ⊎ (y ≢ x) → y ≤ last_thread
    by y until asleep (inl same) = omega (arith, same, few)
    by y until asleep (inr apart) = kept.few y until (sym (get_or-set_other row x y o None apart) ∙ asleep)

    stands : (y : ℕ) → y ≤ last_thread → (y ≡ x) ⊎ (y ≢ x) → IsSleeperPlaced lines' begin' further' y (get_or (set row x o) y None)
    stands y fits (inl same) =
        subst (λ (z : ℕ). IsSleeperPlaced lines' begin' further' z (get_or (set row x o) z None)) (sym same)
        (subst (IsSleeperPlaced lines' begin' further' x) (sym (get_or-set_same row x o None within)) here)
    stands y fits (inr apart) =
        subst (IsSleeperPlaced lines' begin' further' y) (sym (get_or-set_other row x y o None apart)) (others y (get_or row y None) fits apart (kept.each y fits))

-- where whoever sleeps stands
pub placed : (row : List (Option ℕ)) (lines : List Bits64) (begin further x until : ℕ) → AreKept row lines begin further → SleepsUntil row x until
    → IsSleeperPlaced lines begin further x (Some until)
placed row lines begin further x until kept asleep = subst (IsSleeperPlaced lines begin further x) asleep (kept.each x (kept.few x until asleep))

-- whoever sleeps still stands where it is looked for
pub kept_still : (row : List (Option ℕ)) (lines : List Bits64) (begin begin' further further' : ℕ) → AreKept row lines begin further
    → ((x until : ℕ) → x ≤ last_thread → SleepsUntil row x until → IsNear lines begin x until → IsNear lines begin' x until)
    → ((x until : ℕ) → x ≤ last_thread → SleepsUntil row x until → IsFurther lines further x until → IsFurther lines further' x until)
    → AreKept row lines begin' further'
kept_still row lines begin begin' further further' kept near late = record {
  few = kept.few;
  each = λ x few. by x few (get_or row x None) refl (kept.each x few);
}
  where
    by : (x : ℕ) → x ≤ last_thread → (o : Option ℕ) → get_or row x None ≡ o → IsSleeperPlaced lines begin further x (get_or row x None)
        → IsSleeperPlaced lines begin' further' x (get_or row x None)
    by x few None is stands = subst (IsSleeperPlaced lines begin' further' x) (sym is) (subst (IsSleeperPlaced lines begin further x) is stands)
    by x few (Some until) is stands =
        subst (IsSleeperPlaced lines begin' further' x) (sym is) (elim (subst (IsSleeperPlaced lines begin further x) is stands) [
          | inl at ↦ inl (near x until few is at)
          | inr at ↦ inr (late x until few is at)
        ])

-- whoever stands in a bucket sleeps until a moment of it
pub kept_near : (row : List (Option ℕ)) (lines : List Bits64) (begin further : ℕ) → AreKept row lines begin further → AreNear row lines begin
kept_near row lines begin further kept line x below few stands = by (get_or row x None) refl (kept.each x few)
  where
    by : (o : Option ℕ) → get_or row x None ≡ o → IsSleeperPlaced lines begin further x (get_or row x None)
        → (until : ℕ) × SleepsUntil row x until × IsNear lines begin x until
    by None is at =
        let nowhere : IsSleeperPlaced lines begin further x None = subst (IsSleeperPlaced lines begin further x) is at in
        let never : true ≡ false = sym stands ∙ nowhere line in
        absurd cc
    by (Some until) is at = elim (subst (IsSleeperPlaced lines begin further x) is at) [
      | inl near ↦ (until, is, near)
      | inr late ↦
          let never : nat_eq line further_line ≡ true = sym (late.stands line) ∙ stands in
          absurd (grind (arith, nat_tests))
    ]

-- ---- the buckets go on

-- nobody stands in the buckets from the first on up to this one
pub record IsPassed (row : List (Option ℕ)) (lines : List Bits64) (begin bucket : ℕ) : Type 0 where
  pub from : bucket_of begin ≤ bucket
  pub few : bucket ≤ bucket_of begin + bucket_count
  pub none : (x until : ℕ) → x ≤ last_thread → SleepsUntil row x until → IsNear lines begin x until → bucket ≤ bucket_of until

-- the first of a line in which nobody wakes before this moment
abbrev pub IsFirstIn : List (Option ℕ) → List Bits64 → ℕ → ℕ → Option (ℕ × ℕ) → Type 0
IsFirstIn row lines begin line first = (x until : ℕ) → x ≤ last_thread → stands_in lines line x ≡ true → SleepsUntil row x until → begin ≤ until
    → wakes_before (Some (until, x)) first ≡ false

-- it stands in the line of its bucket
stands_near : (lines : Lines) (begin bucket x until : ℕ) → IsNear lines begin x until → bucket_of until ≡ bucket → stands_in lines (bucket % bucket_count) x ≡ true
stands_near lines begin bucket x until near same =
    ap (λ (b : ℕ). stands_in lines (b % bucket_count) x) (sym same) ∙ near.stands (bucket_of until % bucket_count) ∙ same_here (bucket_of until % bucket_count)

-- the buckets begin later, with a moment before which nobody in them wakes
pub near_on : (lines : List Bits64) (begin later x until : ℕ) → IsNear lines begin x until → begin ≤ later → later ≤ until → IsNear lines later x until
near_on lines begin later x until near more still = record {
  from = still;
  before = (let before = near.before in omega (arith, before, more));
  stands = near.stands;
}

earlier_bucket : (until x : ℕ) (s : ℕ × ℕ) → bucket_of s.0 < bucket_of until → wakes_before (Some (until, x)) (Some s) ≡ false
earlier_bucket until x (moment, y) less = let before : moment < until = omega (arith, less) in grind (arith, nat_tests)

-- of 1,024 buckets in a row no two have the same line
one_line : (base a b : ℕ) → base ≤ a → a < base + bucket_count → base ≤ b → b < base + bucket_count → a % bucket_count ≡ b % bucket_count → a ≡ b
one_line base a b from before from' before' same = omega arith

-- whoever stands in the line of the bucket at hand is of that bucket
of_bucket : (row : Row) (lines : Lines) (begin bucket : ℕ) (s : ℕ × ℕ) → AreNear row lines begin → bucket_of begin ≤ bucket → bucket < bucket_of begin + bucket_count
    → IsOfLine row lines (bucket % bucket_count) s → bucket_of s.0 ≡ bucket
of_bucket row lines begin bucket s near from before is = by (near (bucket % bucket_count) s.1 (omega arith) is.few is.stands)
  where
    later : (until : ℕ) → begin ≤ until → bucket_of begin ≤ bucket_of until
    later until more = omega (arith, more)

    by : ((until : ℕ) × SleepsUntil row s.1 until × IsNear lines begin s.1 until) → bucket_of s.0 ≡ bucket
    by (until, asleep, at) =
        let both : Some until ≡ Some s.0 = sym asleep ∙ is.asleep in
        let moment : until ≡ s.0 = cc in
        let line : nat_eq (bucket % bucket_count) (bucket_of until % bucket_count) ≡ true = sym (at.stands (bucket % bucket_count)) ∙ is.stands in
        let same : bucket % bucket_count ≡ bucket_of until % bucket_count = grind (arith, nat_tests, line) in
        sym (ap bucket_of moment) ∙ one_line (bucket_of begin) (bucket_of until) bucket (later until at.from) at.before from before (sym same)

-- the first of the bucket at hand is the first of all buckets
pub first_of_near : (row : List (Option ℕ)) (lines : List Bits64) (begin bucket : ℕ) (s : ℕ × ℕ) → AreNear row lines begin → IsPassed row lines begin bucket
    → bucket < bucket_of begin + bucket_count → IsOfLine row lines (bucket % bucket_count) s → IsFirstIn row lines begin (bucket % bucket_count) (Some s)
    → (x until : ℕ) → x ≤ last_thread → SleepsUntil row x until → IsNear lines begin x until → wakes_before (Some (until, x)) (Some s) ≡ false
first_of_near row lines begin bucket s all is before one first x until few asleep near = by (cases_eq (bucket_of until) bucket)
  where
    by : (bucket_of until ≡ bucket) ⊎ (bucket_of until ≢ bucket) → wakes_before (Some (until, x)) (Some s) ≡ false
    by (inl same) = first x until few (stands_near lines begin bucket x until near same) asleep near.from
    by (inr other) =
        earlier_bucket until x s (omega (arith, other, of_bucket row lines begin bucket s all is.from before one, is.none x until few asleep near))

-- ---- who is taken out

earlier_or_other : (y other : ℕ) (s : ℕ × ℕ) → y ≢ s.1 → is_earlier (other, y) s ≡ false → is_earlier s (other, y) ≡ true
earlier_or_other y other (until, x) apart not = grind (arith, nat_tests)

earlier_now : (y other : ℕ) (s : ℕ × ℕ) → s.0 < other → is_earlier s (other, y) ≡ true
earlier_now y other (until, x) less = grind (arith, nat_tests)

pub not_earlier : (y other : ℕ) (s : ℕ × ℕ) → is_earlier (other, y) s ≡ false → s.0 ≤ other
not_earlier y other (until, x) not = grind (arith, nat_tests)

due_or_not : (until now : ℕ) → (until ≤ now) ⊎ (now < until)
due_or_not until now = search arith

-- nobody whose moment has come goes before this one
abbrev pub IsFirst : List (Option ℕ) → ℕ → Option (ℕ × ℕ) → Type 0
IsFirst row now o = (x until : ℕ) → SleepsUntil row x until → until ≤ now → wakes_before (Some (until, x)) o ≡ false

pub first_due : (row : List (Option ℕ)) (now : ℕ) (s : ℕ × ℕ) → SleepsUntil row s.1 s.0 → IsFirst row now (Some s) → s.0 ≤ now
    → IsFirstDue row now s.1
first_due row now s asleep first due = record {
  until = s.0;
  asleep = asleep;
  due = due;
  first = λ y other apart sleeps. by y other apart sleeps (due_or_not other now);
}
  where
    by : (y other : ℕ) → y ≢ s.1 → SleepsUntil row y other → (other ≤ now) ⊎ (now < other) → is_earlier s (other, y) ≡ true
    by y other apart sleeps (inl came) = earlier_or_other y other s apart (first y other sleeps came)
    by y other apart sleeps (inr later) = earlier_now y other s (omega (arith, due, later))

-- where the moment of the first hasn't come, no other has
pub all_later : (row : List (Option ℕ)) (now : ℕ) (o : Option (ℕ × ℕ)) → IsFirst row now o → IfSome o (λ s. now < s.0)
    → (x until : ℕ) → SleepsUntil row x until → now < until
all_later row now o first later x until asleep = by o first later (due_or_not until now)
  where
    by : (o : Option (ℕ × ℕ)) → IsFirst row now o → IfSome o (λ s. now < s.0) → (until ≤ now) ⊎ (now < until) → now < until
    by o first later (inr is) = is
    by None first later (inl came) =
        let never : true ≡ false = first x until asleep came in
        absurd cc
    by (Some s) first later (inl came) = omega (arith, later, came, not_earlier x until s (first x until asleep came))
