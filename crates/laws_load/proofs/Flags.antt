-- Who is flagged, and what it says that nobody is.
use Rattle.std.proofs.Common.{◌≡◌, ◌≢◌, ℕ, zero, suc, ◌+◌, ◌<◌, ◌≤◌, List, ◌∷◌, map, refl, sym, ◌∙◌, ap, subst, Bool, true, false, cond, not, ◌&&◌, nat_eq, nat_lt, Option, Some, None, arith, inl, inr}
use Rattle.std.specs.List.{AllByRecursion, filter, fold, range_with_len}
use Rattle.std.specs.Option.{option_map}
use Rattle.std.proofs.lemmas.Bool.{cases_eq}
use Rattle.std.proofs.lemmas.Bool.Decides.{nat_tests}
use Rattle.aps_model.specs.declared.entry.Entry.{Entry}
use Rattle.aps_model.specs.declared.merit.Contender.{Contender}
use Rattle.aps_model.specs.declared.merit.Merit.{Merit}
use Rattle.aps_model.specs.declared.merit.PartFacts.{PartFacts}
use Rattle.aps_model.specs.declared.merit.Rank.{Rank}
use Rattle.aps_model.specs.declared.merit.Rank.TheVariants.{Idle, Running}
use Rattle.aps_model.specs.declared.shape.Free.{Free}
use Rattle.aps_model.specs.declared.shape.Free.TheVariants.{Priority, Ratio}
use Rattle.aps_model.specs.declared.state.Pick.{Pick}
use Rattle.aps_model.specs.Due.{due}
use Rattle.aps_model.specs.Flag.{at_most, flag_for, looked_at, lower_ranked, merit_now, rank_of}
use Rattle.aps_model.specs.Merit.{is_below, is_greater}
use Rattle.aps_model.specs.Pick.{merit_among}
use Rattle.aps_model.specs.SchedulerState.{SchedulerState, cpu_at}

-- ---- the scan of the processors

abbrev scan : (ℕ → Option Rank) → Option (ℕ × Rank) → ℕ → ℕ → Option (ℕ × Rank)
scan look best a n = fold (λ best d. lower_ranked d (look d) best) best (range_with_len a n)

some_none : {X : Type 0} (x : X) → Some x ≡ None → ⊥
some_none x e = cc

-- one more leaves none only where there was none
lower_none : (d : ℕ) (o : Option Rank) (best : Option (ℕ × Rank)) → lower_ranked d o best ≡ None → (o ≡ None) × (best ≡ None)
lower_none d None best is = (refl, is)
lower_none d (Some k) None is = absurd (some_none (d, k) is)
lower_none d (Some k) (Some (other, least)) is = by_test (at_most k least) is
  where
    by_test : (t : Bool) → cond {A = Option (ℕ × Rank)} t (Some (d, k)) (Some (other, least)) ≡ None → (Some k ≡ None) × (◌≡◌ {A = Option (ℕ × Rank)} (Some (other, least)) None)
    by_test true e = absurd (some_none (d, k) e)
    by_test false e = absurd (some_none (other, least) e)

record ScanNone (look : ℕ → Option Rank) (best : Option (ℕ × Rank)) (a n : ℕ) : Type 0 where
  start : best ≡ None
  each : (d : ℕ) → a ≤ d → d < a + n → look d ≡ None

scan_none : (look : ℕ → Option Rank) (best : Option (ℕ × Rank)) (a n : ℕ) → scan look best a n ≡ None → ScanNone look best a n
scan_none look best a zero is = record { start = is; each = λ d low high. absurd (omega (arith, low, high)) }
scan_none look best a (suc n) is =
    let rest = scan_none look (lower_ranked a (look a) best) (a + 1) n is in
    let here = lower_none a (look a) best rest.start in
    record {
      start = here.1;
      each = λ d low high. elim (cases_eq d a) [
        | inl same ↦ ap look same ∙ here.0
        | inr ne ↦ rest.each d (omega (arith, low, ne)) (omega (arith, high))
      ];
    }

-- who is found is one of those that are looked at
abbrev IsGood : (ℕ → Type 0) → Option (ℕ × Rank) → Type 0
IsGood P None = Unit {0}
IsGood P (Some b) = P b.0

lower_good : (P : ℕ → Type 0) (d : ℕ) (o : Option Rank) (best : Option (ℕ × Rank)) → P d → IsGood P best → IsGood P (lower_ranked d o best)
lower_good P d None best here good = good
lower_good P d (Some k) None here good = here
lower_good P d (Some k) (Some (other, least)) here good = by_test (at_most k least)
  where
    by_test : (t : Bool) → IsGood P (cond {A = Option (ℕ × Rank)} t (Some (d, k)) (Some (other, least)))
    by_test true = here
    by_test false = good

scan_good : (P : ℕ → Type 0) (look : ℕ → Option Rank) (best : Option (ℕ × Rank)) (a n : ℕ) → IsGood P best → ((d : ℕ) → a ≤ d → d < a + n → P d) → IsGood P (scan look best a n)
scan_good P look best a zero good all = good
scan_good P look best a (suc n) good all =
    scan_good P look (lower_ranked a (look a) best) (a + 1) n (lower_good P a (look a) best (all a (omega arith) (omega arith)) good)
    (λ d low high. all d (omega (arith, low)) (omega (arith, high)))

-- ---- the flag

-- a flagged processor exists
pub flagged_exists : (s : SchedulerState) (h : List Entry) (ps : List PartFacts) (c now d : ℕ) (left : Option Contender) → flag_for s h ps c now left ≡ Some d → d < s.shape.cpus
flagged_exists s h ps c now d None is = absurd cc
flagged_exists s h ps c now d (Some left) is =
    at_best (scan (looked_at s h ps (merit_among ps left) c now) None 0 s.shape.cpus)
    (scan_good (λ d. d < s.shape.cpus) (looked_at s h ps (merit_among ps left) c now) None 0 s.shape.cpus tt (λ d low high. omega (arith, high))) is
  where
    some_same : (a b : ℕ) → Some a ≡ Some b → a ≡ b
    some_same a b k = cc

    at_best : (best : Option (ℕ × Rank)) → IsGood (λ d. d < s.shape.cpus) best → option_map (λ (b : ℕ × Rank). b.0) best ≡ Some d → d < s.shape.cpus
    at_best None good k = absurd cc
    at_best (Some b) good k = subst (λ n. n < s.shape.cpus) (some_same b.0 d k) good

-- the processor runs a thread that isn't below
pub record RunsNotBelow (s : SchedulerState) (ps : List PartFacts) (left : Merit) (o : Option Pick) : Type 0 where
  pub pick : Pick
  pub runs : o ≡ Some pick
  pub no_less : is_below s.shape.free (merit_now s ps pick.thread) left ≡ false

no_rank : (s : SchedulerState) (ps : List PartFacts) (left : Merit) (o : Option Pick) → rank_of s ps left o ≡ None → RunsNotBelow s ps left o
no_rank s ps left None is = absurd (some_none Idle is)
no_rank s ps left (Some p) is = by_test (is_below s.shape.free (merit_now s ps p.thread) left) refl is
  where
    by_test : (t : Bool) → is_below s.shape.free (merit_now s ps p.thread) left ≡ t
        → cond t (Some (Running (merit_now s ps p.thread).class (merit_now s ps p.thread).priority)) None ≡ None → RunsNotBelow s ps left (Some p)
    by_test true same e = absurd (some_none _ e)
    by_test false same e = record { pick = p; runs = refl; no_less = same }

-- where nobody is flagged, every other processor that is due later runs a thread that isn't below
pub none_below : (s : SchedulerState) (h : List Entry) (ps : List PartFacts) (c now d : ℕ) (left : Contender) → flag_for s h ps c now (Some left) ≡ None
    → d < s.shape.cpus → d ≢ c → now < due s h d → RunsNotBelow s ps (merit_among ps left) (cpu_at s d).running
none_below s h ps c now d left is exists ne late =
    let look = looked_at s h ps (merit_among ps left) c now in
    let none = scan_none look None 0 s.shape.cpus (no_best (scan look None 0 s.shape.cpus) is) in
    no_rank s ps (merit_among ps left) (cpu_at s d).running (by_tests (nat_eq d c) (nat_lt now (due s h d)) refl refl (none.each d (omega arith) (omega (arith, exists))))
  where
    no_best : (best : Option (ℕ × Rank)) → option_map (λ (b : ℕ × Rank). b.0) best ≡ None → best ≡ None
    no_best None e = refl
    no_best (Some b) e = absurd (some_none b.0 e)

    by_tests : (one two : Bool) → nat_eq d c ≡ one → nat_lt now (due s h d) ≡ two
        → cond (not one && two) (rank_of s ps (merit_among ps left) (cpu_at s d).running) None ≡ None → rank_of s ps (merit_among ps left) (cpu_at s d).running ≡ None
    by_tests true two x y e = absurd (grind (arith, nat_tests, x, ne))
    by_tests false false x y e = absurd (grind (arith, nat_tests, y, late))
    by_tests false true x y e = e

-- ---- whom nobody beats isn't below

pub not_below : (free : Free) (a b : Merit) → is_greater free b a ≡ false → is_below free a b ≡ false
not_below Priority a b unbeaten = grind (arith, nat_tests)
not_below Ratio a b unbeaten = grind (arith, nat_tests)

-- ---- what holds of each of the filtered

abbrev AllPassing : {X : Type 0} → (X → Type 0) → (X → Bool) → X → List X → Bool → Type 0
AllPassing P q y ys t = AllByRecursion P (cond t (y ∷ filter q ys) (filter q ys))

-- the first of a list that passes the first test
first_passing : {X : Type 0} (p q : X → Bool) (P : X → Type 0) (y : X) (ys : List X) (s t : Bool) → s ≡ true → t ≡ true → q y ≡ t → AllByRecursion P (filter q (cond s (y ∷ ys) ys)) → P y
first_passing p q P y ys true true x z same all = (subst (AllPassing P q y ys) same all).0
first_passing p q P y ys true false x z same all = absurd cc
first_passing p q P y ys false t x z same all = absurd cc

-- and the others
others_passing : {X : Type 0} (p q : X → Bool) (P : X → Type 0) (y : X) (ys : List X) (s t : Bool) → q y ≡ t → AllByRecursion P (filter q (cond s (y ∷ ys) ys)) → AllByRecursion P (filter q ys)
others_passing p q P y ys true true same all = (subst (AllPassing P q y ys) same all).1
others_passing p q P y ys true false same all = subst (AllPassing P q y ys) same all
others_passing p q P y ys false t same all = all

-- what holds of each of those that pass two tests holds of the one
pub each_filtered : {X : Type 0} (f : ℕ → X) (p q : X → Bool) (P : X → Type 0) (a n x : ℕ) → AllByRecursion P (filter q (filter p (map f (range_with_len a n)))) → a ≤ x → x < a + n
    → p (f x) ≡ true → q (f x) ≡ true → P (f x)
each_filtered f p q P a zero x all low high one two = absurd (omega (arith, low, high))
each_filtered f p q P a (suc n) x all low high one two =
    let later = filter p (map f (range_with_len (a + 1) n)) in
    elim (cases_eq x a) [
      | inl same ↦ subst (λ y. P (f y)) (sym same)
          (first_passing p q P (f a) later (p (f a)) (q (f a)) (ap (λ y. p (f y)) (sym same) ∙ one) (ap (λ y. q (f y)) (sym same) ∙ two) refl all)
      | inr ne ↦ each_filtered f p q P (a + 1) n x (others_passing p q P (f a) later (p (f a)) (q (f a)) refl all) (omega (arith, low, ne)) (omega (arith, high)) one two
    ]
