-- A fixed window and the one that was tested at a pick inside it.
use Rattle.std.proofs.Common.{◌≡◌, ℕ, ◌+◌, ◌-◌, ◌*◌, ◌/◌, ◌<◌, ◌≤◌, Bool, true, false, ◌&&◌, if◌then◌else◌, nat_le, nat_lt, List, [], ◌∷◌, refl, arith}
use Rattle.std.proofs.lemmas.Bool.Decides.{nat_tests}
use Rattle.std.proofs.lemmas.List.Sums.{sum_by-cons}
use Rattle.std.proofs.Math.Nat.{mul-le-mul_right, div-mul-le_self, lt_of_mul-lt-mul_right}
use Rattle.aps_model.specs.declared.entry.Entry.{Entry}
use Rattle.aps_model.specs.Usage.{billed_by, critical_by, critical_used, names, overlap, used}
use Rattle.laws_bounds.specs.Lanes.{in_window}
use Rattle.laws_bounds.proofs.Prefixes.{AllBefore}

-- a window that a tested one contains has no more in it, where all is before the tested one's end
overlap_inside : (tick a b c d from to : ℕ) → c ≤ a → to ≤ d * tick → overlap tick a b from to ≤ overlap tick c d from to
overlap_inside tick a b c d from to le late = omega (arith, mul-le-mul_right tick le)

counted_inside : (one : Bool) (k n : ℕ) → k ≤ n → (if one then k else 0) ≤ (if one then n else 0)
counted_inside true k n le = le
counted_inside false k n le = omega arith

pub used_inside : (tick p a b c d : ℕ) (h : List Entry) → c ≤ a → AllBefore (d * tick) h → used tick h p a b ≤ used tick h p c d
used_inside tick p a b c d [] le before = omega arith
used_inside tick p a b c d (e ∷ es) le before =
    omega (
      arith,
      sum_by-cons (billed_by tick p a b) e es,
      sum_by-cons (billed_by tick p c d) e es,
      used_inside tick p a b c d es le before.1,
      counted_inside (names e.billed p) (overlap tick a b e.from e.to) (overlap tick c d e.from e.to) (overlap_inside tick a b c d e.from e.to le before.0),
    )

pub critical_inside : (tick p a b c d : ℕ) (h : List Entry) → c ≤ a → AllBefore (d * tick) h → critical_used tick h p a b ≤ critical_used tick h p c d
critical_inside tick p a b c d [] le before = omega arith
critical_inside tick p a b c d (e ∷ es) le before =
    omega (
      arith,
      sum_by-cons (critical_by tick p a b) e es,
      sum_by-cons (critical_by tick p c d) e es,
      critical_inside tick p a b c d es le before.1,
      counted_inside (names e.billed p && e.critical) (overlap tick a b e.from e.to) (overlap tick c d e.from e.to) (overlap_inside tick a b c d e.from e.to le before.0),
    )

pub before_later : (m n : ℕ) (h : List Entry) → m ≤ n → AllBefore m h → AllBefore n h
before_later m n [] le before = tt
before_later m n (e ∷ es) le before = (omega (arith, before.0), before_later m n es le before.1)

-- ---- the tick of a moment in the window

pub record IsInTicks (tick a b moment : ℕ) : Type 0 where
  pub from : a ≤ moment / tick
  pub below : moment / tick < b
  pub inside : moment ≤ (moment / tick + 1) * tick

pub window_ends : (tick a b moment : ℕ) → in_window tick a b moment ≡ true → (a * tick ≤ moment) × (moment < b * tick)
window_ends tick a b moment inside = tests (nat_le (a * tick) moment) (nat_lt moment (b * tick)) refl refl inside
  where
    tests : (one two : Bool) → nat_le (a * tick) moment ≡ one → nat_lt moment (b * tick) ≡ two → (one && two) ≡ true → (a * tick ≤ moment) × (moment < b * tick)
    tests true true x y e = (grind (arith, nat_tests), grind (arith, nat_tests))
    tests true false x y e = absurd cc
    tests false two x y e = absurd cc

pub inside_window : (tick a b moment : ℕ) → a * tick ≤ moment → moment < b * tick → in_window tick a b moment ≡ true
inside_window tick a b moment low high = grind (arith, nat_tests)

pub in_ticks : (tick a b moment : ℕ) → 0 < tick → in_window tick a b moment ≡ true → IsInTicks tick a b moment
in_ticks tick a b moment pos inside =
    let q : ℕ = moment / tick in
    let low : q * tick ≤ moment = div-mul-le_self moment tick in
    let high : moment < (q + 1) * tick = boundary_above tick moment pos in
    let both = window_ends tick a b moment inside in
    let above : a * tick < (q + 1) * tick = omega (arith, both.0, high) in
    let under : q * tick < b * tick = omega (arith, both.1, low) in
    let one : a < q + 1 = lt_of_mul-lt-mul_right tick above in
    record { from = omega (arith, one); below = lt_of_mul-lt-mul_right tick under; inside = omega (arith, high) }
  where
    boundary_above : (tick z : ℕ) → 0 < tick → z < (z / tick + 1) * tick
    boundary_above tick z pos = search (arith)

-- ---- the window that was tested at such a moment

tested_earlier : (w a b j : ℕ) → b ≡ a + w → j < b → j + 1 - w ≤ a
tested_earlier w a b j is below = omega arith

pub used_tested : (tick p a w moment : ℕ) (h : List Entry) → 0 < tick → in_window tick a (a + w) moment ≡ true → AllBefore moment h
    → used tick h p a (a + w) ≤ used tick h p (moment / tick + 1 - w) (moment / tick + 1)
used_tested tick p a w moment h pos inside before =
    let i = in_ticks tick a (a + w) moment pos inside in
    used_inside tick p a (a + w) (moment / tick + 1 - w) (moment / tick + 1) h (tested_earlier w a (a + w) (moment / tick) refl i.below)
    (before_later moment ((moment / tick + 1) * tick) h i.inside before)

pub critical_tested : (tick p a w moment : ℕ) (h : List Entry) → 0 < tick → in_window tick a (a + w) moment ≡ true → AllBefore moment h
    → critical_used tick h p a (a + w) ≤ critical_used tick h p (moment / tick + 1 - w) (moment / tick + 1)
critical_tested tick p a w moment h pos inside before =
    let i = in_ticks tick a (a + w) moment pos inside in
    critical_inside tick p a (a + w) (moment / tick + 1 - w) (moment / tick + 1) h (tested_earlier w a (a + w) (moment / tick) refl i.below)
    (before_later moment ((moment / tick + 1) * tick) h i.inside before)
