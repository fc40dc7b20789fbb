-- Those who are due, gathered word by word, of each word by its bits.
use Rattle.std.proofs.Common.{◌≡◌, ◌⊎◌, inl, inr, ℕ, ◌+◌, ◌-◌, ◌*◌, ◌/◌, ◌%◌, ◌<◌, ◌≤◌, Bool, true, false, not, ◌&&◌, ◌||◌, nat_eq, List, length, get_or, refl, sym, ◌∙◌, ap, subst, Option, Some, None, arith}
use Rattle.std.proofs.lemmas.Bool.{cases_eq, cases_lt}
use Rattle.std.proofs.lemmas.Bool.Decides.{nat_tests}
use Rattle.std.proofs.lemmas.List.{get_or_past}
use Rattle.aps_model.specs.Limits.{last_thread}
use Rattle.aps_levels.specs.Bits.{set_has, IsLeast}
use Rattle.aps_levels.specs.declared.bits.Bits64.{Bits64}
use Rattle.aps_timer.specs.Buckets.{IsFurther, IsNear, IsSleeperPlaced, bucket_count, bucket_of}
use Rattle.aps_timer.specs.Lines.{no_bits, stands_in, words_of_line}
use Rattle.aps_timer.specs.Sleepers.{SleepsUntil, all_due, due_below, due_by}
use Rattle.aps_timer.proofs.Due.{due_later}
use Rattle.aps_timer.proofs.Gathered.{gathered_up}

abbrev Row : Type 0
Row = List (Option ℕ)

-- whoever of the word is due has a bit
abbrev pub HasDue : List (Option ℕ) → Bits64 → ℕ → ℕ → Type 0
HasDue row bits word now = (k until : ℕ) → k < 64 → SleepsUntil row (64 * word + k) until → until ≤ now → set_has bits k ≡ true

clash : true ≡ false → ⊥
clash e = cc

-- who has no bit isn't due
not_due : (row : Row) (bits : Bits64) (word now k : ℕ) → HasDue row bits word now → k < 64 → set_has bits k ≡ false
    → due_by now (64 * word + k) (get_or row (64 * word + k) None) ≡ None
not_due row bits word now k all below absent = by (get_or row (64 * word + k) None) refl
  where
    by : (o : Option ℕ) → get_or row (64 * word + k) None ≡ o → due_by now (64 * word + k) (get_or row (64 * word + k) None) ≡ None
    by None is = ap (due_by now (64 * word + k)) is
    by (Some until) is = elim (cases_lt now until) [
      | inl later ↦ ap (due_by now (64 * word + k)) is ∙ due_later now (64 * word + k) until later
      | inr due ↦ absurd (clash (sym (all k until below is due) ∙ absent))
    ]

-- ---- the bits of one word

-- those below this bit are added, and those from it on are left
pub record IsAdded (row : List (Option ℕ)) (bits left : Bits64) (word now from : ℕ) (due : List (ℕ × ℕ)) : Type 0 where
  pub within : from ≤ 64
  pub gathered : due ≡ due_below row now (64 * word + from)
  pub below : (k : ℕ) → k < from → set_has left k ≡ false
  pub same : (k : ℕ) → from ≤ k → set_has left k ≡ set_has bits k

-- none is due from there up to this one
up : (row : Row) (bits left : Bits64) (word now from to : ℕ) (due : List (ℕ × ℕ)) → IsAdded row bits left word now from due → HasDue row bits word now
    → from ≤ to → to ≤ 64 → ((k : ℕ) → k < to → set_has left k ≡ false) → due ≡ due_below row now (64 * word + to)
up row bits left word now from to due is all le few none =
    is.gathered ∙ sym (gathered_up (λ y. due_by now y (get_or row y None)) (64 * word + from) (64 * word + to) (omega (arith, le)) skipped)
  where
    skipped : (y : ℕ) → 64 * word + from ≤ y → y < 64 * word + to → due_by now y (get_or row y None) ≡ None
    skipped y above below =
        let k : ℕ = y - 64 * word in
        let here : 64 * word + k ≡ y = omega (arith, above) in
        let absent : set_has bits k ≡ false = sym (is.same k (omega (arith, above))) ∙ none k (omega (arith, above, below)) in
        subst (λ (z : ℕ). due_by now z (get_or row z None) ≡ None) here (not_due row bits word now k all (omega (arith, below, few, above)) absent)

-- the least that is left
pub up_to_least : (row : List (Option ℕ)) (bits left : Bits64) (word now from bit : ℕ) (due : List (ℕ × ℕ)) → IsAdded row bits left word now from due
    → HasDue row bits word now → IsLeast 64 (set_has left) bit → due ≡ due_below row now (64 * word + bit)
up_to_least row bits left word now from bit due is all least = up row bits left word now from bit due is all (at_or_after (cases_lt bit from)) (omega (arith, least.below)) least.earlier
  where
    at_or_after : (bit < from) ⊎ (from ≤ bit) → from ≤ bit
    at_or_after (inl before) = absurd (clash (sym least.here ∙ is.below bit before))
    at_or_after (inr after) = after

-- once nothing is left
pub up_to_end : (row : List (Option ℕ)) (bits left : Bits64) (word now from : ℕ) (due : List (ℕ × ℕ)) → IsAdded row bits left word now from due
    → HasDue row bits word now → ((k : ℕ) → set_has left k ≡ false) → due ≡ due_below row now (64 * word + 64)
up_to_end row bits left word now from due is all none = up row bits left word now from 64 due is all is.within (omega arith) (λ k below. none k)

-- one bit more
pub more_added : (row : List (Option ℕ)) (bits left rest : Bits64) (word now from bit : ℕ) (due next : List (ℕ × ℕ)) → IsAdded row bits left word now from due
    → IsLeast 64 (set_has left) bit → ((k : ℕ) → set_has rest k ≡ (not (nat_eq k bit) && set_has left k)) → next ≡ due_below row now (64 * word + bit + 1)
    → IsAdded row bits rest word now (bit + 1) next
more_added row bits left rest word now from bit due next is least without added = record {
  within = omega (arith, least.below);
  gathered = added ∙ ap (due_below row now) (omega arith);
  below = λ k less. without k ∙ (elim (cases_eq k bit) [
    | inl here ↦ gone k here
    | inr other ↦ ap (λ (h : Bool). not (nat_eq k bit) && h) (least.earlier k (omega (arith, less, other))) ∙ neither (not (nat_eq k bit))
  ]);
  same = λ k from. without k ∙ stays k (omega (arith, from)) ∙ is.same k (after k from);
}
  where
    gone : (k : ℕ) → k ≡ bit → (not (nat_eq k bit) && set_has left k) ≡ false
    gone k here = grind (arith, nat_tests)

    neither : (b : Bool) → (b && false) ≡ false
    neither true = refl
    neither false = refl

    stays : (k : ℕ) → bit < k → (not (nat_eq k bit) && set_has left k) ≡ set_has left k
    stays k later = ap (λ (t : Bool). not t && set_has left k) (apart k later)
      where
        apart : (k : ℕ) → bit < k → nat_eq k bit ≡ false
        apart k later = grind (arith, nat_tests)

    after : (k : ℕ) → bit + 1 ≤ k → from ≤ k
    after k later = elim (cases_lt bit from) [
      | inl before ↦ absurd (clash (sym least.here ∙ is.below bit before))
      | inr at ↦ omega (arith, later, at)
    ]

-- ---- all words

pub whole_row : (row : List (Option ℕ)) (now words : ℕ) → ((x until : ℕ) → SleepsUntil row x until → x ≤ last_thread)
    → ((x : ℕ) → x < length row → x ≤ last_thread → x / 64 < words) → due_below row now (64 * words) ≡ all_due row now
whole_row row now words few enough = elim (cases_lt (64 * words) (length row)) [
  | inl less ↦ sym (gathered_up due (64 * words) (length row) (omega (arith, less)) (λ y from below. high y from below (get_or row y None) refl))
  | inr more ↦ gathered_up due (length row) (64 * words) more (λ y from below. ap (due_by now y) (get_or_past row y None from))
]
  where
    due : ℕ → Option (ℕ × ℕ)
    due y = due_by now y (get_or row y None)

    high : (y : ℕ) → 64 * words ≤ y → y < length row → (o : Option ℕ) → get_or row y None ≡ o → due y ≡ None
    high y from below None is = ap (due_by now y) is
    high y from below (Some until) is =
        let word = enough y below (few y until is) in
        absurd (omega (arith, word, from))

-- ---- whose bits

-- those who are due of the further list and of the buckets below this one have bits
pub record AreSeen (lines : List Bits64) (begin further now word bucket : ℕ) (bits : Bits64) : Type 0 where
  pub from : bucket_of begin ≤ bucket
  pub late : (x until : ℕ) → x / 64 ≡ word → IsFurther lines further x until → until ≤ now → set_has bits (x % 64) ≡ true
  pub near : (x until : ℕ) → x / 64 ≡ word → IsNear lines begin x until → bucket_of until < bucket → set_has bits (x % 64) ≡ true

left_true : (a b : Bool) → a ≡ true → (a || b) ≡ true
left_true true b e = refl
left_true false b e = absurd cc

right_true : (a b : Bool) → b ≡ true → (a || b) ≡ true
right_true true b e = refl
right_true false b e = e

same_here : (x : ℕ) → nat_eq x x ≡ true
same_here x = grind (arith, nat_tests)

pub more_seen : (lines : List Bits64) (begin further now word bucket : ℕ) (bits line more : Bits64) → AreSeen lines begin further now word bucket bits
    → line ≡ get_or lines (words_of_line * (bucket % bucket_count) + word) no_bits → ((k : ℕ) → set_has more k ≡ (set_has bits k || set_has line k))
    → AreSeen lines begin further now word (bucket + 1) more
more_seen lines begin further now word bucket bits line more seen read join = record {
  from = omega (arith, seen.from);
  late = λ x until of late due. join (x % 64) ∙ left_true (set_has bits (x % 64)) (set_has line (x % 64)) (seen.late x until of late due);
  near = λ x until of near below. join (x % 64) ∙ (elim (cases_eq (bucket_of until) bucket) [
    | inl here ↦ right_true (set_has bits (x % 64)) (set_has line (x % 64)) (stands x until of near here)
    | inr other ↦ left_true (set_has bits (x % 64)) (set_has line (x % 64)) (seen.near x until of near (omega (arith, below, other)))
  ]);
}
  where
    stands : (x until : ℕ) → x / 64 ≡ word → IsNear lines begin x until → bucket_of until ≡ bucket → set_has line (x % 64) ≡ true
    stands x until of near here =
        ap (λ (b : Bits64). set_has b (x % 64)) read
        ∙ ap (λ (w : ℕ). set_has (get_or lines (words_of_line * (bucket % bucket_count) + w) no_bits) (x % 64)) (sym of)
        ∙ ap (λ (b : ℕ). stands_in lines (b % bucket_count) x) (sym here)
        ∙ near.stands (bucket_of until % bucket_count) ∙ same_here (bucket_of until % bucket_count)

pub all_seen : (lines : List Bits64) (begin further now word bucket : ℕ) (bits : Bits64) → AreSeen lines begin further now word bucket bits
    → (bucket ≤ bucket_of now → bucket < bucket_of begin + bucket_count → ⊥)
    → (x until : ℕ) → x / 64 ≡ word → IsSleeperPlaced lines begin further x (Some until) → until ≤ now → set_has bits (x % 64) ≡ true
all_seen lines begin further now word bucket bits seen over x until of (inl near) due =
    seen.near x until of near (elim (cases_lt (bucket_of until) bucket) [
      | inl below ↦ below
      | inr above ↦ absurd (over (omega (arith, above, due)) (omega (arith, above, near.before)))
    ])
all_seen lines begin further now word bucket bits seen over x until of (inr late) due = seen.late x until of late due
