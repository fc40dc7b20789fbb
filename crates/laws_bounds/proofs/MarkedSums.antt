-- What marked entries add up to, and what their picks say.
use Rattle.std.proofs.Common.{◌≡◌, ℕ, ◌+◌, ◌*◌, ◌≤◌, Bool, true, false, if◌then◌else◌, ◌&&◌, not, nat_eq, List, [], ◌∷◌, ◌++◌, refl, sym, ◌∙◌, ap, subst, append_assoc, Option, Some, None, arith}
use Rattle.std.specs.List.{sum_by}
use Rattle.std.specs.Option.{option_map}
use Rattle.std.proofs.Math.Nat.{mul-le-mul_left}
use Rattle.std.proofs.lemmas.Bool.{eqb-true}
use Rattle.std.proofs.lemmas.List.Sums.{sum_by-cons, sum_by_push}
use Rattle.aps_model.specs.declared.entry.Entry.{Entry}
use Rattle.aps_model.specs.Scenario.{Scenario}
use Rattle.aps_model.specs.Usage.{billed_by, critical_by, critical_used, names, overlap, used}
use Rattle.laws_runs.specs.Window.{Kept, bill_with_mark}
use Rattle.laws_bounds.specs.Lanes.{in_window, is_critical, is_of, is_ordinary, paid, paid_of}
use Rattle.laws_bounds.specs.Debts.{Never, Resets}
use Rattle.laws_bounds.specs.FreeTime.{free_by, sum_along}
use Rattle.laws_bounds.specs.Kinds.{Kind, Kind.idle, Kind.funded, Kind.critical, Kind.free, is_free, is_funded, kind_by, last_kind}
use Rattle.laws_bounds.proofs.Marked.{Along, BillsLast, marked, marked_from, marked_of, with_mark}
use Rattle.aps_model.specs.Tiled.{through_last}
use Rattle.laws_bounds.specs.Picks.{wide_at}

-- the pick is of a thread whose partition isn't in budget
abbrev pub is_unfunded : Kind → Bool
is_unfunded idle = false
is_unfunded funded = false
is_unfunded critical = true
is_unfunded free = true

-- ---- one entry

abbrev bills : Option ℕ → Bool → Kept
bills o m = option_map (λ q. (q, m)) o

of_billed : (k p : ℕ) (mark m : Bool) (o : Option ℕ) → (if is_of p (with_mark mark (bills o m)) then k else 0) ≡ (if names o p then k else 0)
of_billed k p mark m None = refl
of_billed k p mark m (Some q) = refl

pub ordinary_billed : (k p : ℕ) (mark m : Bool) (o : Option ℕ) → (if is_ordinary p (with_mark mark (bills o m)) then k else 0) ≤ (if names o p then k else 0)
ordinary_billed k p mark m None = omega arith
ordinary_billed k p mark m (Some q) = by_tests (nat_eq q p) mark
  where
    by_tests : (one two : Bool) → (if one && not two then k else 0) ≤ (if one then k else 0)
    by_tests true true = omega arith
    by_tests true false = omega arith
    by_tests false two = omega arith

unfunded_tests : (k : ℕ) (one two three : Bool) (p q : ℕ) (test : ℕ → Bool) → nat_eq q p ≡ one → test q ≡ two
    → (if one && is_unfunded (if two then funded else if three then critical else free) then k else 0)
    ≤ (if one && three then k else 0) + (if one && is_free (if two then funded else if three then critical else free) then k else 0)
unfunded_tests k true true three p q test x y = omega arith
unfunded_tests k true false true p q test x y = omega arith
unfunded_tests k true false false p q test x y = omega arith
unfunded_tests k false true three p q test x y = omega arith
unfunded_tests k false false true p q test x y = omega arith
unfunded_tests k false false false p q test x y = omega arith

unfunded_billed : (k p : ℕ) (test : ℕ → Bool) (m : Bool) (o : Option ℕ)
    → (if is_critical p (with_mark (is_unfunded (kind_by test (bills o m))) (bills o m)) then k else 0)
    ≤ (if names o p && m then k else 0) + (if names o p && is_free (kind_by test (bills o m)) then k else 0)
unfunded_billed k p test m None = omega arith
unfunded_billed k p test m (Some q) = unfunded_tests k (nat_eq q p) (test q) m p q test refl refl

unfunded_entry : (scenario : Scenario) (tick a b p : ℕ) (before : List Entry) (e : Entry) → BillsLast scenario before e
    → paid (is_critical p) tick a b (marked_of is_unfunded scenario before e) ≤ critical_by tick p a b e + free_by scenario tick p a b before e
unfunded_entry scenario tick a b p before e last =
    let test : ℕ → Bool = is_funded scenario (through_last e.cpu before) in
    let k : ℕ = overlap tick a b e.from e.to in
    subst (λ (kept : Kept). (if is_critical p (with_mark (is_unfunded (kind_by test kept)) (bill_with_mark e)) then k else 0)
    ≤ (if names e.billed p && e.critical then k else 0) + (if names e.billed p && is_free (kind_by test kept) then k else 0)) last
    (unfunded_billed k p test e.critical e.billed)

-- ---- all entries

pub used_marked : (mark : Kind → Bool) (scenario : Scenario) (tick a b p : ℕ) (g es : List Entry) → paid_of tick a b (marked_from mark scenario g es) p ≡ used tick es p a b
used_marked mark scenario tick a b p g [] = refl
used_marked mark scenario tick a b p g (e ∷ es) =
    omega (
      arith,
      sum_by-cons (paid (is_of p) tick a b) (marked_of mark scenario g e) (marked_from mark scenario (g ++ e ∷ []) es),
      sum_by-cons (billed_by tick p a b) e es,
      of_billed (overlap tick a b e.from e.to) p (mark (last_kind scenario g e.cpu)) e.critical e.billed,
      used_marked mark scenario tick a b p (g ++ e ∷ []) es,
    )

pub unfunded_marked : (scenario : Scenario) (tick a b p : ℕ) (g es : List Entry) → Along (BillsLast scenario) g es
    → sum_by (paid (is_critical p) tick a b) (marked_from is_unfunded scenario g es) ≤ critical_used tick es p a b + sum_along (free_by scenario tick p a b) g es
unfunded_marked scenario tick a b p g [] last = omega arith
unfunded_marked scenario tick a b p g (e ∷ es) last =
    omega (
      arith,
      sum_by-cons (paid (is_critical p) tick a b) (marked_of is_unfunded scenario g e) (marked_from is_unfunded scenario (g ++ e ∷ []) es),
      sum_by-cons (critical_by tick p a b) e es,
      unfunded_entry scenario tick a b p g e last.0,
      unfunded_marked scenario tick a b p (g ++ e ∷ []) es last.1,
    )

-- ---- picks

-- an unmarked pick of the partition finds it in budget
pub unmarked_funded : (test : ℕ → Bool) (p : ℕ) (kept : Kept) → is_ordinary p (with_mark (is_unfunded (kind_by test kept)) kept) ≡ true → test p ≡ true
unmarked_funded test p None is = absurd cc
unmarked_funded test p (Some k) is = by_tests (nat_eq k.0 p) (test k.0) k.1 refl refl is
  where
    by_tests : (one two three : Bool) → nat_eq k.0 p ≡ one → test k.0 ≡ two
        → (one && not (is_unfunded (if two then funded else if three then critical else free))) ≡ true → test p ≡ true
    by_tests true true three x y z = ap test (sym (eqb-true k.0 p x)) ∙ y
    by_tests true false true x y z = absurd cc
    by_tests true false false x y z = absurd cc
    by_tests false two three x y z = absurd cc

-- at each pick in ticks a to b-1 that finds the partition in budget, what it used in them is within the limit
abbrev pub FundedWithin : Scenario → ℕ → ℕ → ℕ → ℕ → ℕ → ℕ → List Entry → Type 0
FundedWithin scenario tick p a b scale limit h =
    (before later : List Entry) (e : Entry) → h ≡ before ++ e ∷ later → is_funded scenario (before ++ e ∷ []) p ≡ true → in_window tick a b e.to ≡ true
    → scale * used tick (before ++ e ∷ []) p a b ≤ limit

module _ (scenario : Scenario) (tick a b p scale limit : ℕ) (h : List Entry) (within : FundedWithin scenario tick p a b scale limit h) where
  resets_from : (g es : List Entry) (so_far : ℕ) → h ≡ g ++ es → so_far ≤ used tick g p a b
      → Resets (is_ordinary p) tick a b scale limit so_far (marked_from is_unfunded scenario g es)
  resets_from g [] so_far same less = tt
  resets_from g (e ∷ es) so_far same less =
      let w = marked_of is_unfunded scenario g e in
      let one : paid (is_ordinary p) tick a b w ≤ billed_by tick p a b e = ordinary_billed (overlap tick a b e.from e.to) p (is_unfunded (last_kind scenario g e.cpu)) e.critical e.billed in
      let more : so_far + paid (is_ordinary p) tick a b w ≤ used tick (g ++ e ∷ []) p a b = omega (arith, less, one, sum_by_push (billed_by tick p a b) g e) in (
        λ counted inside.
            let funded' = unmarked_funded (is_funded scenario (g ++ e ∷ [])) p (wide_at scenario g e).keeps counted in
            omega (arith, mul-le-mul_left scale more, within g es e same funded' inside),
        resets_from (g ++ e ∷ []) es (so_far + paid (is_ordinary p) tick a b w) (same ∙ sym (append_assoc g (e ∷ []) es)) more,
      )

  pub resets_marked : Resets (is_ordinary p) tick a b scale limit 0 (marked is_unfunded scenario h)
  resets_marked = resets_from [] h 0 refl (omega arith)

-- the partition is in budget at no pick in ticks a to b-1
abbrev pub NeverFunded : Scenario → ℕ → ℕ → ℕ → ℕ → List Entry → Type 0
NeverFunded scenario tick p a b h =
    (before later : List Entry) (e : Entry) → h ≡ before ++ e ∷ later → is_funded scenario (before ++ e ∷ []) p ≡ true → in_window tick a b e.to ≡ false

never_from : (scenario : Scenario) (tick a b p : ℕ) (h g es : List Entry) → NeverFunded scenario tick p a b h → h ≡ g ++ es
    → Never (is_ordinary p) tick a b (marked_from is_unfunded scenario g es)
never_from scenario tick a b p h g [] never same = tt
never_from scenario tick a b p h g (e ∷ es) never same = (
  λ counted. never g es e same (unmarked_funded (is_funded scenario (g ++ e ∷ [])) p (wide_at scenario g e).keeps counted),
  never_from scenario tick a b p h (g ++ e ∷ []) es never (same ∙ sym (append_assoc g (e ∷ []) es)),
)

pub never_marked : (scenario : Scenario) (tick a b p : ℕ) (h : List Entry) → NeverFunded scenario tick p a b h → Never (is_ordinary p) tick a b (marked is_unfunded scenario h)
never_marked scenario tick a b p h never = never_from scenario tick a b p h [] h never refl
