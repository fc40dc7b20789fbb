-- All time of some ticks is billed to partitions, or to nobody.
use Rattle.std.proofs.Common.{◌≡◌, ℕ, zero, suc, ◌+◌, ◌-◌, ◌*◌, ◌<◌, ◌≤◌, List, [], ◌∷◌, length, refl, sym, ◌∙◌, ap, subst, Bool, true, false, if◌then◌else◌, Some, None, slice_set, arith}
use Rattle.std.specs.List.{All, sum_by}
use Rattle.std.proofs.Math.ListN.{get_or}
use Rattle.std.proofs.Math.Nat.{add-mul, mul-le-mul_right}
use Rattle.std.proofs.lemmas.List.Sums.{sum_by-cons, sum_by-set}
use Rattle.std.proofs.lemmas.Option.{get_or_from_slice_get, slice_get_within}
use Rattle.aps_model.specs.Usage.{overlap}
use Rattle.laws_runs.specs.Window.{Kept, Lane, Tiles, Wide, lane_after}
use Rattle.laws_bounds.specs.Lanes.{is_of, lanes_at, paid, paid_of}
use Rattle.laws_bounds.specs.Pasts.{Filled, past}
use Rattle.laws_bounds.specs.Sums.{sum_below}
use Rattle.laws_bounds.proofs.Budget.{length_lanes}
use Rattle.laws_bounds.proofs.Sums.{single_full, single_one, sum_below_add, sum_below_zero}

abbrev pub is_nobody : Kept → Bool
is_nobody None = true
is_nobody (Some k) = false

-- of the rows below n, if it names one at all
abbrev pub IsKnown : ℕ → Kept → Type 0
IsKnown n kept = (k : ℕ × Bool) → kept ≡ Some k → k.0 < n

-- each entry that reaches into the ticks bills nobody or one of the first n partitions
abbrev pub AreKnown : ℕ → ℕ → ℕ → ℕ → List Wide → Type 0
AreKnown tick a b n [] = Unit {0}
AreKnown tick a b n (e ∷ es) = (0 < overlap tick a b e.from e.to → IsKnown n e.bills) × AreKnown tick a b n es

-- ---- one entry

-- its time is billed to one partition, or to nobody
billed_apart : (n k : ℕ) (bills : Kept) → (0 < k → IsKnown n bills) → sum_below n (λ p. if is_of p bills then k else 0) + (if is_nobody bills then k else 0) ≡ k
billed_apart n k None known = omega (arith, sum_below_zero n (λ p. 0) (λ p. refl))
billed_apart n zero (Some q) known = omega (arith, single_one n 0 q.0)
billed_apart n (suc k) (Some q) known = omega (arith, single_full n (suc k) q.0 (known (omega arith) q refl))

overlap_add : (tick a b x y : ℕ) → a * tick ≤ b * tick → x ≤ y → overlap tick a b 0 x + overlap tick a b x y ≡ overlap tick a b 0 y
overlap_add tick a b x y order le = grind (arith, order, le)

-- ---- all entries

pub all_time : (tick a b n : ℕ) (lanes : List Lane) (entries : List Wide) → a ≤ b → Tiles lanes entries → AreKnown tick a b n entries
    → sum_below n (paid_of tick a b entries) + sum_by (paid is_nobody tick a b) entries + sum_by (past tick a b) lanes ≡ sum_by (past tick a b) (lanes_at lanes entries)
all_time tick a b n lanes [] order t known = omega (arith, sum_below_zero n (paid_of tick a b []) (λ p. refl))
all_time tick a b n lanes (e ∷ es) order (lane, found, from, on, later) (one, more) =
    let f : Lane → ℕ = past tick a b in
    let lanes' = slice_set lanes e.cpu (lane_after e) in
    let sums : sum_by f lanes' + f lane ≡ sum_by f lanes + f (lane_after e) = subst (λ (l : Lane). sum_by f lanes' + f l ≡ sum_by f lanes + f (lane_after e)) (get_or_from_slice_get lanes e.cpu lane lane found) (sum_by-set f lanes e.cpu (lane_after e) lane (slice_get_within lanes e.cpu lane found)) in
    let split = sum_below_add n (λ p. paid (is_of p) tick a b e) (paid_of tick a b es) (paid_of tick a b (e ∷ es)) (λ p. sum_by-cons (paid (is_of p) tick a b) e es) in
    let once = billed_apart n (overlap tick a b e.from e.to) e.bills one in
    let rest = all_time tick a b n lanes' es order later more in
    let grown : f lane + overlap tick a b e.from e.to ≡ f (lane_after e) = subst (λ z. overlap tick a b 0 z + overlap tick a b e.from e.to ≡ overlap tick a b 0 e.to) from (overlap_add tick a b e.from e.to (mul-le-mul_right tick order) on) in
    omega (arith, sums, split, once, rest, grown, sum_by-cons (paid is_nobody tick a b) e es)

pub past_whole : (tick a b last : ℕ) → a ≤ b → b * tick ≤ last → overlap tick a b 0 last ≡ (b - a) * tick
past_whole tick a b last order le =
    let cut : b * tick ≡ a * tick + (b - a) * tick = subst (λ n. n * tick ≡ a * tick + (b - a) * tick) (omega (arith, order)) (add-mul a (b - a) tick) in
    omega (arith, le, cut)

pub sum_by_same : {X : Type 0} (f : X → ℕ) (k : ℕ) (xs : List X) → All (λ x. f x ≡ k) xs → sum_by f xs ≡ length xs * k
sum_by_same f k [] all = omega (arith)
sum_by_same f k (x ∷ xs) all = omega (arith, sum_by-cons f x xs, sum_by_same f k xs (λ i d in'. all (suc i) d (omega (arith, in'))), all 0 x (omega (arith)), add-mul (length xs) 1 k)

-- ---- with nobody idle

known_filled : (tick a b n : ℕ) (entries : List Wide) → Filled tick a b n entries → AreKnown tick a b n entries
known_filled tick a b n [] full = tt
known_filled tick a b n (e ∷ es) (one, more) = (λ some. known e.bills (one some), known_filled tick a b n es more)
  where
    known : (kept : Kept) → (k : ℕ × Bool) × (kept ≡ Some k) × (k.0 < n) → IsKnown n kept
    known kept (k, is, inside) l same = subst (λ (m : ℕ × Bool). m.0 < n) (some_same k l (sym is ∙ same)) inside
      where
        some_same : (k l : ℕ × Bool) → ◌≡◌ {A = Kept} (Some k) (Some l) → k ≡ l
        some_same k l e = cc

nobody_filled : (tick a b n : ℕ) (entries : List Wide) → Filled tick a b n entries → sum_by (paid is_nobody tick a b) entries ≡ 0
nobody_filled tick a b n [] full = refl
nobody_filled tick a b n (e ∷ es) (one, more) =
    omega (arith, sum_by-cons (paid is_nobody tick a b) e es, nobody_filled tick a b n es more, nothing (overlap tick a b e.from e.to) e.bills one)
  where
    nothing : (k : ℕ) (kept : Kept) → (0 < k → (r : ℕ × Bool) × (kept ≡ Some r) × (r.0 < n)) → (if is_nobody kept then k else 0) ≡ 0
    nothing zero None some = refl
    nothing (suc k) None some = absurd (none (some (omega arith)).0 (some (omega arith)).1)
      where
        none : (r : ℕ × Bool) → ◌≡◌ {A = Kept} None (Some r) → ⊥
        none r is = cc
    nothing k (Some r) some = refl

-- all usages of a window that everybody has billed, with nobody idle, are the whole
pub usages : (tick a w n : ℕ) (lanes : List Lane) (entries : List Wide) → sum_by (past tick a (a + w)) lanes ≡ 0 → Tiles lanes entries → Filled tick a (a + w) n entries
    → All (λ (l : Lane). (a + w) * tick ≤ l.last) (lanes_at lanes entries) → sum_below n (paid_of tick a (a + w) entries) ≡ length lanes * (w * tick)
usages tick a w n lanes entries new tiles full late =
    let ls = lanes_at lanes entries in
    let each : All (λ (l : Lane). past tick a (a + w) l ≡ (a + w - a) * tick) ls = λ i d in'. past_whole tick a (a + w) (get_or ls i d).last (omega arith) (late i d in') in
    let sum = sum_by_same (past tick a (a + w)) ((a + w - a) * tick) ls each in
    let time : length ls * ((a + w - a) * tick) ≡ length lanes * (w * tick) = ap (λ m. length ls * (m * tick)) (omega arith) ∙ ap (λ m. m * (w * tick)) (length_lanes lanes entries) in
    omega (
      arith,
      all_time tick a (a + w) n lanes entries (omega arith) tiles (known_filled tick a (a + w) n entries full),
      nobody_filled tick a (a + w) n entries full,
      sum,
      time,
      new,
    )
