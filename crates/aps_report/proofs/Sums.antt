use Rattle.std.proofs.Common.{◌≡◌, ℕ, ◌+◌, ◌*◌, ◌<◌, ◌≤◌, ◌^◌, take, Bool, true, false, List, [], ◌∷◌, ◌++◌, All, Option, Some, None, length, get_or, slice_index, if◌then◌else◌, is_none, arith, refl, ap, ◌∙◌}
use Rattle.std.specs.List.{sum_by}
use Rattle.std.proofs.lemmas.Bool.Decides.{nat_tests}
use Rattle.std.proofs.lemmas.Grind.{common_steps}
use Rattle.std.proofs.lemmas.List.{get_or-replicate}
use Rattle.std.proofs.lemmas.List.Sums.{sum_by_push, sum_by-le, sum_by-take-le}
use Rattle.aps_model.specs.declared.entry.Entry.{Entry}
use Rattle.aps_model.specs.Usage.{names}
use Rattle.aps_model.specs.History.{IsEntry}
use Rattle.aps_model.specs.Report.{length_of, total_billed, total_critical, total_ran, total_idle}
use Rattle.std.proofs.Common.{replicate}
use Rattle.aps_model.specs.Limits.{longest_tick, most_partitions, most_threads}
use Rattle.aps_report.specs.Totals.{added, unless_some, Sums, HavePlaces, no_sums, sums_with, HaveRoom, AreSums}

-- what an addition leaves at a place
added-at : (xs : List ℕ) (place : Option ℕ) (n i : ℕ) → i < length xs
    → slice_index (added xs place n) i ≡ slice_index xs i + (if names place i then n else 0)
added-at xs None n i h = omega arith
added-at xs (Some p) n i h = grind (arith, nat_tests, common_steps)

-- the sum of what entries put at a place, with one entry more
billed_more : (h : List Entry) (e : Entry) (p : ℕ) → total_billed (h ++ e ∷ []) p ≡ total_billed h p + (if names e.billed p then length_of e else 0)
billed_more h e p = sum_by_push _ h e

critical_more : (h : List Entry) (e : Entry) (p : ℕ)
    → total_critical (h ++ e ∷ []) p ≡ total_critical h p + (if names e.billed p then (if e.critical then length_of e else 0) else 0)
critical_more h e p = sum_by_push _ h e

ran_more : (h : List Entry) (e : Entry) (x : ℕ) → total_ran (h ++ e ∷ []) x ≡ total_ran h x + (if names e.ran x then length_of e else 0)
ran_more h e x = sum_by_push _ h e

idle-at : (ran : Option ℕ) (n : ℕ) → (if is_none ran then n else 0) ≡ unless_some ran n
idle-at None n = refl
idle-at (Some x) n = refl

idle_more : (h : List Entry) (e : Entry) → total_idle (h ++ e ∷ []) ≡ total_idle h + unless_some e.ran (length_of e)
idle_more h e = sum_by_push _ h e ∙ ap (λ n. total_idle h + n) (idle-at e.ran (length_of e))

-- the sums over no entries
pub sums_none : AreSums [] no_sums
sums_none = record {
  billed = λ p small. get_or-replicate most_partitions p 0 0 small;
  critical = λ p small. get_or-replicate most_partitions p 0 0 small;
  ran = λ x small. get_or-replicate most_threads x 0 0 small;
  idle = refl;
}

-- one entry more
pub sums_more : (h : List Entry) (e : Entry) (sums : Sums) → HavePlaces sums → AreSums h sums → AreSums (h ++ e ∷ []) (sums_with sums e)
sums_more h e sums places so_far = record {
  billed = λ p small. rw (added-at sums.billed e.billed (length_of e) p (omega arith), billed_more h e p, so_far.billed p small) refl;
  critical = λ p small. rw (added-at sums.critical e.billed (if e.critical then length_of e else 0) p (omega arith), critical_more h e p, so_far.critical p small) refl;
  ran = λ x small. rw (added-at sums.ran e.ran (length_of e) x (omega arith), ran_more h e x, so_far.ran x small) refl;
  idle = rw (idle_more h e, so_far.idle) refl;
}

-- each sum over the first entries is far below the greatest number
pub few : (f : Entry → ℕ) (h : List Entry) (i : ℕ) → ((e : Entry) → IsEntry e → f e ≤ longest_tick) → All IsEntry h → length h < 2 ^ 64 → sum_by f (take i h) < 2 ^ 127
few f h i short entries small =
    let each : All (λ e. f e ≤ longest_tick) h = λ k d here. short (get_or h k d) (entries k d here) in
    let whole : sum_by f h ≤ length h * longest_tick = sum_by-le f longest_tick h each in
    omega (arith, sum_by-take-le f h i)

pub part : (b : Bool) (n m : ℕ) → n ≤ m → (if b then n else 0) ≤ m
part true n m h = h
part false n m h = omega arith

pub sums-HaveRoom : (h : List Entry) (i : ℕ) (sums : Sums) → All IsEntry h → length h < 2 ^ 64 → AreSums (take i h) sums → HaveRoom sums
sums-HaveRoom h i sums entries small so_far = record {
  billed = λ p here. rw (so_far.billed p here) (few _ h i (λ e is. part (names e.billed p) _ _ is.short) entries small);
  critical = λ p here. rw (so_far.critical p here) (few _ h i (λ e is. part (names e.billed p) _ _ (part e.critical _ _ is.short)) entries small);
  ran = λ x here. rw (so_far.ran x here) (few _ h i (λ e is. part (names e.ran x) _ _ is.short) entries small);
  idle = rw so_far.idle (few _ h i (λ e is. part (is_none e.ran) _ _ is.short) entries small);
}

abbrev made : List ℕ → List ℕ → List ℕ → ℕ → Sums
made billed critical ran idle = record { billed = billed; critical = critical; ran = ran; idle = idle }

same_parts : (sums : Sums) (billed critical ran : List ℕ) → sums.billed ≡ billed → sums.critical ≡ critical → sums.ran ≡ ran → sums.idle ≡ 0
    → sums ≡ record { billed = billed; critical = critical; ran = ran; idle = 0 }
same_parts sums billed critical ran b k r i =
    ap (λ x. made x sums.critical sums.ran sums.idle) b ∙ ap (λ x. made billed x sums.ran sums.idle) k
    ∙ ap (λ x. made billed critical x sums.idle) r ∙ ap (λ x. made billed critical ran x) i

pub no_time-by : (sums : Sums) → sums.billed ≡ replicate most_partitions 0 → sums.critical ≡ replicate most_partitions 0 → sums.ran ≡ replicate most_threads 0 → sums.idle ≡ 0
    → sums ≡ no_sums
no_time-by sums b k r i = same_parts sums (replicate most_partitions 0) (replicate most_partitions 0) (replicate most_threads 0) b k r i
