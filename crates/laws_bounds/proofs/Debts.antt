-- What lanes owe bounds what a window is paid.
use Rattle.std.proofs.Common.{rules, ◌≡◌, ℕ, ◌+◌, ◌-◌, ◌*◌, ◌/◌, ◌≤◌, ◌<◌, ◌⊎◌, Bool, true, false, ◌&&◌, if◌then◌else◌, List, [], ◌∷◌, length, slice_set, zero, suc, refl, arith, inl, inr, sym, subst}
use Rattle.std.specs.List.{sum_by}
use Rattle.std.proofs.lemmas.List.Sums.{sum_by-set, sum_by-le, sum_by-cons}
use Rattle.std.proofs.lemmas.List.{length-set}
use Rattle.std.proofs.lemmas.Option.{slice_get_within, get_or_from_slice_get}
use Rattle.std.proofs.Math.Nat.{mul-le-mul_left, mul-le-mul_right, div-mul-le_self, lt_of_mul-lt-mul_right}
use Rattle.std.proofs.Math.ListN.{get_or}
use Rattle.std.proofs.lemmas.Bool.Decides.{nat_tests}
use Rattle.aps_model.specs.Usage.{overlap}
use Rattle.aps_model.specs.Due.{next_boundary}
use Rattle.laws_runs.specs.Window.{Kept, Lane, Wide, lane_after, Walks}
use Rattle.laws_bounds.specs.Lanes.{lanes_at, in_window, paid}
use Rattle.laws_bounds.specs.Debts.{debt, Resets, Never}

-- a run that counts in the window began inside it
pub began : (tick a b from to : ℕ) → 0 < tick → to ≤ next_boundary tick from → 0 < overlap tick a b from to → (a * tick ≤ from) × (from < b * tick)
began tick a b from to pos near some =
    let q : ℕ = from / tick in
    let low : q * tick ≤ from = div-mul-le_self from tick in
    let before : a * tick < (q + 1) * tick = omega (arith, some, near) in
    let few : a < q + 1 = lt_of_mul-lt-mul_right tick before in
    let few' : a ≤ q = omega (arith, few) in
    (omega (arith, mul-le-mul_right tick few', low), omega (arith, some))

none_left : (n : ℕ) → (0 < n → ⊥) → n ≤ 0
none_left zero never = omega (arith)
none_left (suc n) never = absurd (never (omega (arith)))

bill_tests : (tick a b from to : ℕ) → 0 < tick → to ≤ next_boundary tick from → (two : Bool) → in_window tick a b from ≡ two
    → overlap tick a b from to ≤ (if two then next_boundary tick from - from else 0)
bill_tests tick a b from to pos near true is = omega (arith, near)
bill_tests tick a b from to pos near false is = none_left (overlap tick a b from to) (λ some. grind (arith, nat_tests, began tick a b from to pos near some, is))

bill_cases : (one : Bool) (tick a b from to : ℕ) → 0 < tick → to ≤ next_boundary tick from
    → (if one then overlap tick a b from to else 0) ≤ (if one && in_window tick a b from then next_boundary tick from - from else 0)
bill_cases false tick a b from to pos near = omega (arith)
bill_cases true tick a b from to pos near = bill_tests tick a b from to pos near (in_window tick a b from) refl

bill_le : (counts : Kept → Bool) (tick a b from to : ℕ) (runs : Kept) → 0 < tick → to ≤ next_boundary tick from
    → (if counts runs then overlap tick a b from to else 0) ≤ (if counts runs && in_window tick a b from then next_boundary tick from - from else 0)
bill_le counts tick a b from to runs pos near = bill_cases (counts runs) tick a b from to pos near

debt_le : (counts : Kept → Bool) (tick a b : ℕ) (l : Lane) → 0 < tick → debt counts tick a b l ≤ tick
debt_le counts tick a b l pos = search rules

debts_le : (counts : Kept → Bool) (tick a b : ℕ) (ls : List Lane) → 0 < tick → sum_by (debt counts tick a b) ls ≤ length ls * tick
debts_le counts tick a b ls pos = sum_by-le (debt counts tick a b) tick ls (λ k l in'. debt_le counts tick a b (get_or ls k l) pos)

-- a lane that doesn't count, or stands outside, owes nothing; else the limit was just seen to hold
debt_new : (counts : Kept → Bool) (tick a b scale limit n last : ℕ) (runs : Kept) (one two : Bool) → counts runs ≡ one → in_window tick a b last ≡ two
    → (counts runs ≡ true → in_window tick a b last ≡ true → scale * n ≤ limit)
    → (debt counts tick a b record { last = last; runs = runs } ≡ 0) ⊎ (scale * n ≤ limit)
debt_new counts tick a b scale limit n last runs true true is_one is_two seen = inr (seen is_one is_two)
debt_new counts tick a b scale limit n last runs true false is_one is_two seen = inl (rw (is_one, is_two) refl)
debt_new counts tick a b scale limit n last runs false two is_one is_two seen = inl (rw is_one refl)

step_sum : (scale limit most counted before after owed anew pays : ℕ) → after + owed ≡ before + anew → pays ≤ owed → after ≤ most
    → (anew ≡ 0) ⊎ (scale * (counted + pays) ≤ limit) → scale * (counted + before) ≤ limit + scale * most → scale * ((counted + pays) + after) ≤ limit + scale * most
step_sum scale limit most counted before after owed anew pays sums less few (inl none) so_far =
    let fewer : (counted + pays) + after ≤ counted + before = omega (arith, sums, none, less) in
    omega (arith, mul-le-mul_left scale fewer, so_far)
step_sum scale limit most counted before after owed anew pays sums less few (inr seen) so_far = omega (arith, mul-le-mul_left scale few, seen)

pub walk : (counts : Kept → Bool) (tick a b scale limit so_far : ℕ) (lanes : List Lane) (entries : List Wide) → 0 < tick
    → scale * (so_far + sum_by (debt counts tick a b) lanes) ≤ limit + scale * (length lanes * tick)
    → Walks tick lanes entries → Resets counts tick a b scale limit so_far entries
    → scale * (so_far + (sum_by (paid counts tick a b) entries + sum_by (debt counts tick a b) (lanes_at lanes entries))) ≤ limit + scale * (length lanes * tick)
walk counts tick a b scale limit so_far lanes [] pos start w r = omega (arith, start)
walk counts tick a b scale limit so_far lanes (e ∷ es) pos start (lane, found, from, bills, near, later) (reset, resets) =
    let d : Lane → ℕ = debt counts tick a b in
    let lanes' = slice_set lanes e.cpu (lane_after e) in
    let same : length lanes' ≡ length lanes = length-set lanes e.cpu (lane_after e) in
    let sums : sum_by d lanes' + d lane ≡ sum_by d lanes + d (lane_after e) = subst (λ (l : Lane). sum_by d lanes' + d l ≡ sum_by d lanes + d (lane_after e)) (get_or_from_slice_get lanes e.cpu lane lane found) (sum_by-set d lanes e.cpu (lane_after e) lane (slice_get_within lanes e.cpu lane found)) in
    let less : paid counts tick a b e ≤ d lane = subst (λ (z : ℕ). paid counts tick a b e ≤ (if counts lane.runs && in_window tick a b z then next_boundary tick z - z else 0)) from (subst (λ (k : Kept). paid counts tick a b e ≤ (if counts k && in_window tick a b e.from then next_boundary tick e.from - e.from else 0)) bills (bill_le counts tick a b e.from e.to e.bills pos near)) in
    let few : sum_by d lanes' ≤ length lanes * tick = subst (λ k. sum_by d lanes' ≤ k * tick) same (debts_le counts tick a b lanes' pos) in
    let anew = debt_new counts tick a b scale limit (so_far + paid counts tick a b e) e.to e.keeps (counts e.keeps) (in_window tick a b e.to) refl refl reset in
    let now : scale * ((so_far + paid counts tick a b e) + sum_by d lanes') ≤ limit + scale * (length lanes * tick) = step_sum scale limit (length lanes * tick) so_far (sum_by d lanes) (sum_by d lanes') (d lane) (d (lane_after e)) (paid counts tick a b e) sums less few anew start in
    let now' : scale * ((so_far + paid counts tick a b e) + sum_by d lanes') ≤ limit + scale * (length lanes' * tick) = subst (λ k. scale * ((so_far + paid counts tick a b e) + sum_by d lanes') ≤ limit + scale * (k * tick)) (sym same) now in
    let rest = walk counts tick a b scale limit (so_far + paid counts tick a b e) lanes' es pos now' later resets in
    let total : ℕ = sum_by (paid counts tick a b) es + sum_by d (lanes_at lanes' es) in
    let rest' : scale * ((so_far + paid counts tick a b e) + total) ≤ limit + scale * (length lanes * tick) = subst (λ k. scale * ((so_far + paid counts tick a b e) + total) ≤ limit + scale * (k * tick)) same rest in
    let order : so_far + (sum_by (paid counts tick a b) (e ∷ es) + sum_by d (lanes_at lanes' es)) ≡ (so_far + paid counts tick a b e) + total = omega (arith, sum_by-cons (paid counts tick a b) e es) in
    subst (λ k. scale * k ≤ limit + scale * (length lanes * tick)) (sym order) rest'

debt_none : (counts : Kept → Bool) (tick a b last : ℕ) (runs : Kept) (one two : Bool) → counts runs ≡ one → in_window tick a b last ≡ two
    → (counts runs ≡ true → in_window tick a b last ≡ false) → debt counts tick a b record { last = last; runs = runs } ≡ 0
debt_none counts tick a b last runs true two is_one is_two never = rw (is_one, never is_one) refl
debt_none counts tick a b last runs false two is_one is_two never = rw is_one refl

-- without such picks nothing counts
pub walk_none : (counts : Kept → Bool) (tick a b : ℕ) (lanes : List Lane) (entries : List Wide) → 0 < tick
    → sum_by (debt counts tick a b) lanes ≡ 0 → Walks tick lanes entries → Never counts tick a b entries → sum_by (paid counts tick a b) entries ≡ 0
walk_none counts tick a b lanes [] pos none w r = refl
walk_none counts tick a b lanes (e ∷ es) pos none (lane, found, from, bills, near, later) (never, nevers) =
    let d : Lane → ℕ = debt counts tick a b in
    let lanes' = slice_set lanes e.cpu (lane_after e) in
    let sums : sum_by d lanes' + d lane ≡ sum_by d lanes + d (lane_after e) = subst (λ (l : Lane). sum_by d lanes' + d l ≡ sum_by d lanes + d (lane_after e)) (get_or_from_slice_get lanes e.cpu lane lane found) (sum_by-set d lanes e.cpu (lane_after e) lane (slice_get_within lanes e.cpu lane found)) in
    let less : paid counts tick a b e ≤ d lane = subst (λ (z : ℕ). paid counts tick a b e ≤ (if counts lane.runs && in_window tick a b z then next_boundary tick z - z else 0)) from (subst (λ (k : Kept). paid counts tick a b e ≤ (if counts k && in_window tick a b e.from then next_boundary tick e.from - e.from else 0)) bills (bill_le counts tick a b e.from e.to e.bills pos near)) in
    let zero' = debt_none counts tick a b e.to e.keeps (counts e.keeps) (in_window tick a b e.to) refl refl never in
    let rest = walk_none counts tick a b lanes' es pos (omega (arith, sums, none, zero')) later nevers in
    omega (arith, rest, sum_by-cons (paid counts tick a b) e es, less, sums, none, zero')

-- from lanes that owe nothing
pub from_picks : (counts : Kept → Bool) (tick a b scale limit : ℕ) (lanes : List Lane) (entries : List Wide) → 0 < tick → sum_by (debt counts tick a b) lanes ≡ 0
    → Walks tick lanes entries → Resets counts tick a b scale limit 0 entries
    → scale * (sum_by (paid counts tick a b) entries + sum_by (debt counts tick a b) (lanes_at lanes entries)) ≤ limit + scale * (length lanes * tick)
from_picks counts tick a b scale limit lanes entries pos none walks resets =
    let start : scale * (0 + sum_by (debt counts tick a b) lanes) ≤ limit + scale * (length lanes * tick) = rw none (omega arith) in
    omega (arith, walk counts tick a b scale limit 0 lanes entries pos start walks resets)
