-- What is billed of a window, against the whole of it.
use Rattle.std.proofs.Common.{◌≡◌, ℕ, zero, suc, ◌+◌, ◌-◌, ◌*◌, ◌≤◌, ◌<◌, Bool, true, false, if◌then◌else◌, nat_eq, nat_le, List, [], ◌∷◌, length, slice_set, Some, None, refl, arith, sym, subst, ap, ◌∙◌}
use Rattle.std.specs.List.{sum_by, All}
use Rattle.std.proofs.lemmas.List.Sums.{sum_by-set, sum_by-cons, sum_by-le}
use Rattle.std.proofs.lemmas.Option.{slice_get_within, get_or_from_slice_get}
use Rattle.std.proofs.lemmas.Bool.Decides.{nat_tests}
use Rattle.std.proofs.Math.Nat.{mul-le-mul_right, mul-pos, add-mul, mul-add, mul-lt-mul_of_pos_left}
use Rattle.std.proofs.Math.ListN.{get_or}
use Rattle.std.proofs.lemmas.List.{length-set}
use Rattle.aps_model.specs.Usage.{overlap}
use Rattle.laws_runs.specs.Window.{Kept, Lane, Wide, lane_after, Tiles}
use Rattle.laws_bounds.specs.Lanes.{lanes_at, is_of, paid, paid_of}
use Rattle.laws_bounds.specs.Sums.{sum_below}
use Rattle.laws_bounds.specs.Pasts.{past}
use Rattle.laws_bounds.proofs.Sums.{sum_below_zero, sum_below_add, single_one, some_less, sum_below_scale, one_of_sum, each_below}

-- at most one partition is billed
single : (n k : ℕ) (bills : Kept) → sum_below n (λ p. if is_of p bills then k else 0) ≤ k
single n k None = omega (arith, sum_below_zero n (λ p. 0) (λ p. refl))
single n k (Some r) = single_one n k r.0

overlap_more : (tick a b x y : ℕ) → x ≤ y → overlap tick a b 0 x + overlap tick a b x y ≤ overlap tick a b 0 y
overlap_more tick a b x y le = grind (arith, le)

pub covered : (tick a b n : ℕ) (lanes : List Lane) (entries : List Wide) → Tiles lanes entries
    → sum_below n (paid_of tick a b entries) + sum_by (past tick a b) lanes ≤ sum_by (past tick a b) (lanes_at lanes entries)
covered tick a b n lanes [] t = omega (arith, sum_below_zero n (paid_of tick a b []) (λ p. refl))
covered tick a b n lanes (e ∷ es) (lane, found, from, on, later) =
    let f : Lane → ℕ = past tick a b in
    let lanes' = slice_set lanes e.cpu (lane_after e) in
    let sums : sum_by f lanes' + f lane ≡ sum_by f lanes + f (lane_after e) = subst (λ (l : Lane). sum_by f lanes' + f l ≡ sum_by f lanes + f (lane_after e)) (get_or_from_slice_get lanes e.cpu lane lane found) (sum_by-set f lanes e.cpu (lane_after e) lane (slice_get_within lanes e.cpu lane found)) in
    let split = sum_below_add n (λ p. paid (is_of p) tick a b e) (paid_of tick a b es) (paid_of tick a b (e ∷ es)) (λ p. sum_by-cons (paid (is_of p) tick a b) e es) in
    let once = single n (overlap tick a b e.from e.to) e.bills in
    let rest = covered tick a b n lanes' es later in
    let more : f lane + overlap tick a b e.from e.to ≤ f (lane_after e) = subst (λ z. overlap tick a b 0 z + overlap tick a b e.from e.to ≤ overlap tick a b 0 e.to) from (overlap_more tick a b e.from e.to on) in
    omega (arith, sums, split, once, rest, more)

past_cases : (tick a w j now last : ℕ) → last ≤ now → now < (j + 1) * tick → 0 < w → 0 < tick → a ≡ (j + 1) - w → (b : Bool) → nat_le w (j + 1) ≡ b → overlap tick a (j + 1) 0 last < w * tick
past_cases tick a w j now last le inside some pos is true test =
    let k : a + w ≡ j + 1 = grind (arith, nat_tests, is, test) in
    let whole : (j + 1) * tick ≡ a * tick + w * tick = rw (sym k) (add-mul a w tick) in
    let more : 0 < w * tick = mul-pos some pos in
    omega (arith, le, inside, whole, more)
past_cases tick a w j now last le inside some pos is false test =
    let le' : j + 1 ≤ w = grind (arith, nat_tests, test) in
    let whole : (j + 1) * tick ≤ w * tick = mul-le-mul_right tick le' in
    let more : 0 < w * tick = mul-pos some pos in
    omega (arith, le, inside, whole, more)

-- a lane's part of a window that isn't over is less than the window
past_less : (tick a w j now : ℕ) (l : Lane) → l.last ≤ now → now < (j + 1) * tick → 0 < w → 0 < tick → a ≡ (j + 1) - w → past tick a (j + 1) l < w * tick
past_less tick a w j now l le inside some pos is = past_cases tick a w j now l.last le inside some pos is (nat_le w (j + 1)) refl

pub length_lanes : (lanes : List Lane) (entries : List Wide) → length (lanes_at lanes entries) ≡ length lanes
length_lanes lanes [] = refl
length_lanes lanes (e ∷ es) = length_lanes (slice_set lanes e.cpu (lane_after e)) es ∙ length-set lanes e.cpu (lane_after e)

-- what is billed of a window that isn't over is less than the whole of it
pub below : (tick a w j now n : ℕ) (lanes : List Lane) (entries : List Wide) → 0 < tick → 0 < w → 0 < length lanes → now < (j + 1) * tick → a ≡ (j + 1) - w
    → Tiles lanes entries → All (λ (l : Lane). l.last ≤ now) (lanes_at lanes entries)
    → sum_below n (paid_of tick a (j + 1) entries) < length lanes * (w * tick)
below tick a w j now n lanes entries pos some seats inside is tiles late =
    let ls = lanes_at lanes entries in
    let k : ℕ = w * tick - 1 in
    let big : 0 < w * tick = mul-pos some pos in
    let each : All (λ (l : Lane). past tick a (j + 1) l ≤ k) ls = λ i d in'. omega (arith, past_less tick a w j now (get_or ls i d) (late i d in') inside some pos is) in
    let sum : sum_by (past tick a (j + 1)) ls ≤ length ls * k = sum_by-le (past tick a (j + 1)) k ls each in
    let sum' : sum_by (past tick a (j + 1)) ls ≤ length lanes * k = subst (λ m. sum_by (past tick a (j + 1)) ls ≤ m * k) (length_lanes lanes entries) sum in
    let less : length lanes * k < length lanes * (w * tick) = mul-lt-mul_of_pos_left (omega (arith, big)) seats in
    omega (arith, covered tick a (j + 1) n lanes entries tiles, sum', less)

-- some partition is in budget
pub in_budget : (n parts whole : ℕ) (uses budgets : ℕ → ℕ) → 0 < parts → sum_below n budgets ≡ parts → sum_below n uses < whole
    → (p : ℕ) × (p < n) × (parts * uses p < whole * budgets p)
in_budget n parts whole uses budgets pos all less =
    let left : sum_below n (λ p. parts * uses p) ≡ parts * sum_below n uses = sum_below_scale n parts uses in
    let right : sum_below n (λ p. whole * budgets p) ≡ whole * parts = sum_below_scale n whole budgets ∙ ap (λ m. whole * m) all in
    let smaller : parts * sum_below n uses < parts * whole = mul-lt-mul_of_pos_left less pos in
    some_less n (λ p. parts * uses p) (λ p. whole * budgets p) (omega (arith, left, right, smaller))

apart_step : (n i : ℕ) (f g k : ℕ → ℕ) → i < suc n → ((q : ℕ) → q < suc n → f q ≤ g q + k q) → (b : Bool) → nat_eq i n ≡ b
    → (i < n → sum_below n f + (g i + k i) ≤ (sum_below n g + sum_below n k) + f i)
    → sum_below (suc n) f + (g i + k i) ≤ (sum_below (suc n) g + sum_below (suc n) k) + f i
apart_step n i f g k in' each true is ih =
    let same : i ≡ n = grind (arith, nat_tests, is) in
    let rest = each_below n f g k (λ q less. each q (omega (arith, less))) in
    subst (λ m. sum_below (suc n) f + (g m + k m) ≤ (sum_below (suc n) g + sum_below (suc n) k) + f m) (sym same) (omega (arith, rest))
apart_step n i f g k in' each false is ih = omega (arith, ih (grind (arith, nat_tests, is, in')), each n (omega (arith)))

-- all but one: the sum of the others is at most theirs
one_apart : (n i : ℕ) (f g k : ℕ → ℕ) → i < n → ((q : ℕ) → q < n → f q ≤ g q + k q) → sum_below n f + (g i + k i) ≤ (sum_below n g + sum_below n k) + f i
one_apart zero i f g k in' each = absurd (omega (arith, in'))
one_apart (suc n) i f g k in' each = apart_step n i f g k in' each (nat_eq i n) refl (λ less. one_apart n i f g k less (λ q l. each q (omega (arith, l))))

-- the lower line, by subtraction: all usages sum to the whole, each other one is at most its budget and its slack
pub others : (n parts whole i : ℕ) (uses budgets slack : ℕ → ℕ) → i < n → sum_below n budgets ≡ parts → sum_below n uses ≡ whole
    → ((q : ℕ) → q < n → parts * uses q ≤ whole * budgets q + parts * slack q)
    → whole * budgets i ≤ parts * uses i + parts * (sum_below n slack - slack i)
others n parts whole i uses budgets slack in' all full each =
    let left : sum_below n (λ p. parts * uses p) ≡ parts * whole = sum_below_scale n parts uses ∙ ap (λ m. parts * m) full in
    let right : sum_below n (λ p. whole * budgets p) ≡ whole * parts = sum_below_scale n whole budgets ∙ ap (λ m. whole * m) all in
    let slacks : sum_below n (λ p. parts * slack p) ≡ parts * sum_below n slack = sum_below_scale n parts slack in
    let apart = one_apart n i (λ p. parts * uses p) (λ p. whole * budgets p) (λ p. parts * slack p) in' each in
    let part : slack i ≤ sum_below n slack = one_of_sum n i slack in' in
    let cut : parts * (sum_below n slack - slack i) + parts * slack i ≡ parts * sum_below n slack = sym (mul-add parts (sum_below n slack - slack i) (slack i)) ∙ ap (λ m. parts * m) (omega (arith, part)) in
    omega (arith, left, right, slacks, apart, cut)
