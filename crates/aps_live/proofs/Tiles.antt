-- What the entries bill is what the processors have passed.
use Rattle.std.proofs.Common.{◌≡◌, ◌≢◌, ℕ, zero, suc, ◌+◌, ◌-◌, ◌*◌, ◌<◌, ◌≤◌, min, max, List, [], ◌∷◌, ◌++◌, refl, sym, ◌∙◌, ap, subst, Bool, true, false, cond, nat_eq, ◌&&◌, Option, Some, None, arith, mul-le-mul_right}
use Rattle.std.specs.Prelude.{unwrap_or}
use Rattle.std.specs.List.{fold, range_with_len, sum_by}
use Rattle.std.proofs.Math.Nat.{mul-le-mul_left}
use Rattle.std.proofs.lemmas.List.Sums.{fold-append, sum_by-append, sum_by-cons}
use Rattle.aps_model.specs.declared.entry.Entry.{Entry}
use Rattle.aps_model.specs.Due.{last_end, last_to}
use Rattle.aps_model.specs.Limits.{longest_tick, most_cpus, most_time_of_tick}
use Rattle.aps_model.specs.Usage.{billed_by, names, overlap, used}
use Rattle.laws_runs.specs.Numbers.{time_within}
use Rattle.laws_runs.proofs.MomentLaws.{last_other, last_own}
use Rattle.laws_runs.proofs.SmallNumbers.{sum_bounded, sum_changed, sum_less}
use Rattle.aps_live.specs.LiveHistory.{latest}
use Rattle.aps_live.specs.Tied.{FitsTicks}

-- ---- moments

pub latest_more : (h : List Entry) (e : Entry) → latest h ≤ e.to → latest (h ++ e ∷ []) ≡ e.to
latest_more h e later = fold-append (λ found (x : Entry). max found x.to) 0 h (e ∷ []) ∙ omega (arith, later)

late_from : (c : ℕ) (found : Option ℕ) (best : ℕ) (h : List Entry) → unwrap_or found 0 ≤ best
    → unwrap_or (fold (λ o (e : Entry). cond (nat_eq e.cpu c) (Some e.to) o) found h) 0 ≤ fold (λ k (e : Entry). max k e.to) best h
late_from c found best [] l = l
late_from c found best (e ∷ h) l = late_from c (cond (nat_eq e.cpu c) (Some e.to) found) (max best e.to) h (by_test (nat_eq e.cpu c))
  where
    by_test : (t : Bool) → unwrap_or (cond t (Some e.to) found) 0 ≤ max best e.to
    by_test true = omega arith
    by_test false = omega (arith, l)

-- no processor has stepped after the latest moment
pub last_late : (h : List Entry) (c : ℕ) → last_end h c ≤ latest h
last_late h c = late_from c None 0 h (omega arith)

pub end_own : (h : List Entry) (e : Entry) → last_end (h ++ e ∷ []) e.cpu ≡ e.to
end_own h e = ap (λ o. unwrap_or o 0) (last_own h e e.cpu refl)

pub end_other : (h : List Entry) (e : Entry) (d : ℕ) → d ≢ e.cpu → last_end (h ++ e ∷ []) d ≡ last_end h d
end_other h e d ne = ap (λ o. unwrap_or o 0) (last_other h e d (λ k. ne (sym k)))

-- ---- tiles

overlap_joins : (tick a b from to : ℕ) → from ≤ to → overlap tick a b 0 to ≡ overlap tick a b 0 from + overlap tick a b from to
overlap_joins tick a b from to l = joined (a * tick) (b * tick) from to l
  where
    joined : (low high from to : ℕ) → from ≤ to → min to high - max 0 low ≡ (min from high - max 0 low) + (min to high - max from low)
    joined low high from to l = omega arith

overlap_bounded : (tick a b to : ℕ) → overlap tick a b 0 to ≤ (b - a) * tick
overlap_bounded tick a b to = bounded (a * tick) (b * tick) ((b - a) * tick) to width
  where
    bounded : (low high wide to : ℕ) → high ≤ wide + low → min to high - max 0 low ≤ wide
    bounded low high wide to l = omega arith

    width : b * tick ≤ (b - a) * tick + a * tick
    width = let l : b * tick ≤ (b - a + a) * tick = mul-le-mul_right tick (omega arith) in let e : (b - a + a) * tick ≡ (b - a) * tick + a * tick = search (arith) in omega (arith, l, e)

-- what processor c has passed in ticks a to b-1
abbrev pub passed : ℕ → ℕ → ℕ → List Entry → ℕ → ℕ
passed tick a b h c = overlap tick a b 0 (last_end h c)

-- the entries fill what the processors have passed, of all ticks
abbrev pub AreTiled : ℕ → ℕ → List Entry → Type 0
AreTiled tick cpus h = (a b : ℕ) → time_within tick h a b ≡ sum_by (passed tick a b h) (range_with_len 0 cpus)

pub tiled_more : (tick cpus : ℕ) (h : List Entry) (e : Entry) → e.cpu < cpus → e.from ≡ last_end h e.cpu → e.from ≤ e.to → AreTiled tick cpus h → AreTiled tick cpus (h ++ e ∷ [])
tiled_more tick cpus h e exists joins forward m a b =
    let here : passed tick a b (h ++ e ∷ []) e.cpu ≡ passed tick a b h e.cpu + overlap tick a b e.from e.to =
    ap (overlap tick a b 0) (end_own h e) ∙ overlap_joins tick a b e.from e.to forward ∙ ap (λ k. overlap tick a b 0 k + overlap tick a b e.from e.to) joins in
    let more = sum_changed (passed tick a b h) (passed tick a b (h ++ e ∷ [])) e.cpu (overlap tick a b e.from e.to) cpus 0 (omega arith) (omega (arith, exists)) here (λ d ne. ap (overlap tick a b 0) (end_other h e d ne)) in
    let one = sum_by-append (λ (x : Entry). overlap tick a b x.from x.to) h (e ∷ []) in
    let last = sum_by-cons (λ (x : Entry). overlap tick a b x.from x.to) e [] in
    omega (arith, more, one, last, m a b)

sum_zero : (f : ℕ → ℕ) (n a : ℕ) → ((c : ℕ) → f c ≡ 0) → sum_by f (range_with_len a n) ≡ 0
sum_zero f n a none = let l = sum_bounded f 0 n a (λ c. omega (arith, none c)) in omega (arith, l)

pub tiled_start : (tick cpus : ℕ) → AreTiled tick cpus []
tiled_start tick cpus a b = sym (sum_zero (passed tick a b []) cpus 0 (λ c. omega arith))

billed_less : (tick p a b : ℕ) (e : Entry) → billed_by tick p a b e ≤ overlap tick a b e.from e.to
billed_less tick p a b e = by_test (names e.billed p)
  where
    by_test : (t : Bool) → cond t (overlap tick a b e.from e.to) 0 ≤ overlap tick a b e.from e.to
    by_test true = omega arith
    by_test false = omega arith

-- no partition is billed more than the time of all processors
pub tiled_fits : (tick cpus : ℕ) (h : List Entry) → tick ≤ longest_tick → cpus ≤ most_cpus → AreTiled tick cpus h → FitsTicks tick h
tiled_fits tick cpus h short few m p k =
    let less = sum_less (billed_by tick p k (k + 1)) (λ (e : Entry). overlap tick k (k + 1) e.from e.to) h (billed_less tick p k (k + 1)) in
    let all = sum_bounded (passed tick k (k + 1) h) ((k + 1 - k) * tick) cpus 0 (λ c. overlap_bounded tick k (k + 1) (last_end h c)) in
    let one : (k + 1 - k) * tick ≡ tick = ap (λ n. n * tick) (one_tick k) ∙ omega arith in
    let most : cpus * ((k + 1 - k) * tick) ≤ most_time_of_tick = product cpus ((k + 1 - k) * tick) few (omega (arith, one, short)) in
    omega (arith, less, all, most, m k (k + 1))
  where
    one_tick : (k : ℕ) → k + 1 - k ≡ 1
    one_tick k = omega arith

    product : (cpus tick : ℕ) → cpus ≤ most_cpus → tick ≤ longest_tick → cpus * tick ≤ most_time_of_tick
    product cpus tick few short =
        let y : cpus * tick ≤ cpus * longest_tick = mul-le-mul_left cpus short in
        omega (arith, y, few)
