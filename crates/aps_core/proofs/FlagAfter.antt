-- Who is flagged for the greatest candidate left: the lowest of all processors, where that stands below the candidate; and nobody where it doesn't stand below
-- the pick itself, than which the candidate is no greater.
use Rattle.std.proofs.Common.{◌≡◌, ◌≢◌, ℕ, zero, suc, ◌+◌, ◌-◌, ◌*◌, ◌/◌, ◌%◌, min, ◌<◌, ◌≤◌, List, [], ◌∷◌, set, refl, sym, ◌∙◌, ap, subst, Bool, true, false, cond, not, ◌&&◌, nat_eq, nat_le, nat_lt, Option, Some, None, length, arith, inl, inr}
use Rattle.std.specs.List.{AllByRecursion, filter, fold, range_with_len}
use Rattle.std.specs.Option.{option_map}
use Rattle.std.proofs.lemmas.Bool.{cases_eq, cases_lt}
use Rattle.std.proofs.lemmas.Bool.Decides.{nat_tests}
use Rattle.std.proofs.lemmas.List.Elements.{All-contains, All-from_recursion}
use Rattle.aps_model.specs.declared.entry.Entry.{Entry}
use Rattle.aps_model.specs.declared.merit.Contender.{Contender}
use Rattle.aps_model.specs.declared.merit.Merit.{Merit}
use Rattle.aps_model.specs.declared.merit.PartFacts.{PartFacts}
use Rattle.aps_model.specs.declared.merit.Rank.{Rank}
use Rattle.aps_model.specs.declared.merit.Rank.TheVariants.{Idle, Running}
use Rattle.aps_model.specs.declared.shape.Free.{Free}
use Rattle.aps_model.specs.declared.shape.Free.TheVariants.{Priority, Ratio}
use Rattle.aps_model.specs.declared.shape.Shape.{Shape}
use Rattle.aps_model.specs.declared.state.Pick.{Pick}
use Rattle.aps_model.specs.Budget.{part_at}
use Rattle.aps_model.specs.Due.{due}
use Rattle.aps_model.specs.Flag.{at_most, flag_for, looked_at, lower_ranked, merit_now, rank_of}
use Rattle.aps_model.specs.Limits.{greatest_priority, last_cpu, most_cpus}
use Rattle.aps_model.specs.Merit.{is_below, is_candidate, is_greater}
use Rattle.aps_model.specs.Pick.{candidates, contenders, greatest, merit_among}
use Rattle.aps_model.specs.SchedulerState.{SchedulerState, cpu_at}
use Rattle.aps_model.specs.Step.{chosen}
use Rattle.aps_model.proofs.Ranges.{fold_more}
use Rattle.aps_model.proofs.GreatestLaws.{IsUnbeaten, beats, greatest-is, greatest-unbeaten}
use Rattle.laws_runs.proofs.PickSays.{chosen_shape}
use Rattle.aps_ready.specs.Ready.{members, contenders_without}
use Rattle.aps_ready.specs.declared.ahead.Ahead.{Ahead}
use Rattle.aps_ready.specs.Ahead.{IsAhead, IsAheadOf}
use Rattle.aps_ready.specs.Gates.{is_first}
use Rattle.aps_core.specs.Lowest.{IsNoLess, IsRank, IsFoundLowest, IsKey, IsLeastKey, IsLeastOf, height, limit, lowest, rank_now, ranked_at, height_past_all, key_past_all}
use Rattle.aps_core.specs.Seats.{seats_of}
use Rattle.aps_core.proofs.Seats.{missing_in}

-- ---- tests

lt_true : (a b : ℕ) → a < b → nat_lt a b ≡ true
lt_true a b less = grind (arith, nat_tests)

lt_false : (a b : ℕ) → b ≤ a → nat_lt a b ≡ false
lt_false a b most = grind (arith, nat_tests)

pub le_true : (a b : ℕ) → a ≤ b → nat_le a b ≡ true
le_true a b most = grind (arith, nat_tests)

pub le_false : (a b : ℕ) → b < a → nat_le a b ≡ false
le_false a b less = grind (arith, nat_tests)

-- ---- heights

height_small : (r : Rank) → IsRank (Some r) → height r ≤ 512
height_small Idle is = omega arith
height_small (Running zero priority) is = let few = is.1 in omega (arith, few)
height_small (Running (suc zero) priority) is = let few = is.1 in omega (arith, few)
height_small (Running (suc (suc class)) priority) is = let few = is.0 in absurd (omega (arith, few))

-- who stands no higher is the lower one, or they are equal
height_lower : (a b : Rank) → IsRank (Some a) → IsRank (Some b) → height a ≤ height b → at_most a b ≡ true
height_lower Idle b is_a is_b least = refl
height_lower (Running zero priority) Idle is_a is_b least = absurd (omega (arith, least))
height_lower (Running (suc zero) priority) Idle is_a is_b least = absurd (omega (arith, least))
height_lower (Running (suc (suc class)) priority) b is_a is_b least = let few = is_a.0 in absurd (omega (arith, few))
height_lower (Running zero priority) (Running zero other) is_a is_b least = le_true priority other (omega (arith, least))
height_lower (Running zero priority) (Running (suc zero) other) is_a is_b least = refl
height_lower (Running (suc zero) priority) (Running zero other) is_a is_b least = let few = is_b.1 in absurd (omega (arith, least, few))
height_lower (Running (suc zero) priority) (Running (suc zero) other) is_a is_b least = le_true priority other (omega (arith, least))
height_lower (Running class priority) (Running (suc (suc other_class)) other) is_a is_b least = let few = is_b.0 in absurd (omega (arith, few))

-- and who stands higher is not
height_higher : (a b : Rank) → IsRank (Some a) → IsRank (Some b) → height b < height a → at_most a b ≡ false
height_higher Idle Idle is_a is_b more = absurd (omega (arith, more))
height_higher Idle (Running zero priority) is_a is_b more = absurd (omega (arith, more))
height_higher Idle (Running (suc zero) priority) is_a is_b more = absurd (omega (arith, more))
height_higher a (Running (suc (suc class)) priority) is_a is_b more = let few = is_b.0 in absurd (omega (arith, few))
height_higher (Running (suc (suc class)) priority) b is_a is_b more = let few = is_a.0 in absurd (omega (arith, few))
height_higher (Running class priority) Idle is_a is_b more = refl
height_higher (Running zero priority) (Running zero other) is_a is_b more = le_false priority other (omega (arith, more))
height_higher (Running zero priority) (Running (suc zero) other) is_a is_b more = let few = is_a.1 in absurd (omega (arith, more, few))
height_higher (Running (suc zero) priority) (Running zero other) is_a is_b more = refl
height_higher (Running (suc zero) priority) (Running (suc zero) other) is_a is_b more = le_false priority other (omega (arith, more))

-- ---- the scan

-- the key of a processor, if it is another one that isn't due yet
pub key_of : (s : SchedulerState) (h : List Entry) (parts : List PartFacts) (c now d next own past : ℕ) → (d ≢ c → next ≡ due s h d) → (d ≡ c → next ≤ now)
    → own ≡ height (rank_now s parts (cpu_at s d).running) * most_cpus + (last_cpu - d) → (next ≤ now → past ≡ key_past_all) → (now < next → past ≡ 0) → IsKey (ranked_at s h parts c now d) d (own + past)
key_of s h parts c now d next own past others at is high low = elim (cases_eq d c) [
  | inl same ↦ subst (λ t. IsKey (cond (not t && nat_lt now (due s h d)) (Some rank) None) d (own + past)) (sym (eq_true d c same)) (is_past (at same))
  | inr ne ↦ subst (λ t. IsKey (cond (not t && nat_lt now (due s h d)) (Some rank) None) d (own + past)) (sym (eq_false d c ne))
      (elim (cases_lt now next) [
        | inl less ↦ subst (λ t. IsKey (cond t (Some rank) None) d (own + past)) (sym (lt_true now (due s h d) (subst (λ n. now < n) (others ne) less))) (is_later less)
        | inr most ↦ subst (λ t. IsKey (cond t (Some rank) None) d (own + past)) (sym (lt_false now (due s h d) (subst (λ n. n ≤ now) (others ne) most))) (is_past most)
      ])
]
  where
    rank : Rank
    rank = rank_now s parts (cpu_at s d).running

    eq_true : (a b : ℕ) → a ≡ b → nat_eq a b ≡ true
    eq_true a b same = grind (arith, nat_tests)

    eq_false : (a b : ℕ) → a ≢ b → nat_eq a b ≡ false
    eq_false a b other = grind (arith, nat_tests)

    is_past : next ≤ now → key_past_all ≤ own + past
    is_past most = let there = high most in omega (arith, there)

    is_later : now < next → own + past ≡ height rank * most_cpus + (last_cpu - d)
    is_later less = let there = low less in omega (arith, there, is)

pub rank_of_look : (s : SchedulerState) (h : List Entry) (parts : List PartFacts) (c now d : ℕ) → IsRank (Some (rank_now s parts (cpu_at s d).running)) → IsRank (ranked_at s h parts c now d)
rank_of_look s h parts c now d is = by_test (not (nat_eq d c) && nat_lt now (due s h d))
  where
    by_test : (t : Bool) → IsRank (cond t (Some (rank_now s parts (cpu_at s d).running)) None)
    by_test true = is
    by_test false = tt

-- with one processor more
pub least_more : (d : ℕ) (o : Option Rank) (best : Option (ℕ × Rank)) (least key next : ℕ) → d < most_cpus → IsLeastKey best d least → IsRank o → IsKey o d key → next ≡ min least key
    → IsLeastKey (lower_ranked d o best) (d + 1) next
least_more d None None least key next inside told rank is more = omega (arith, told, is, more)
least_more d None (Some b) least key next inside told rank is more =
    let small = height_small b.1 told.2 in
    let below = told.0 in
    let there = told.1 in
    (omega (arith, below), omega (arith, small, there, is, more), told.2)
least_more d (Some r) None least key next inside told rank is more =
    let small = height_small r rank in
    (omega arith, omega (arith, small, told, is, more), rank)
least_more d (Some r) (Some b) least key next inside told rank is more =
    let below = told.0 in
    let there = told.1 in
    elim (cases_lt (height b.1) (height r)) [
      | inl less ↦ subst (λ t. IsLeastKey (cond t (Some (d, r)) (Some b)) (d + 1) next) (sym (height_higher r b.1 rank told.2 less)) (omega (arith, below), omega (arith, inside, below, there, is, more, less), told.2)
      | inr most ↦ subst (λ t. IsLeastKey (cond t (Some (d, r)) (Some b)) (d + 1) next) (sym (height_lower r b.1 rank told.2 most)) (omega arith, omega (arith, inside, below, there, is, more, most), rank)
    ]

pub least_small : (best : Option (ℕ × Rank)) (count least : ℕ) → IsLeastKey best count least → least ≤ key_past_all
least_small None count least told = omega (arith, told)
least_small (Some b) count least told =
    let small = height_small b.1 told.2 in
    let there = told.1 in
    omega (arith, small, there)

-- the same, where there may be no such processor
pub least_of_more : (s : SchedulerState) (h : List Entry) (parts : List PartFacts) (c now d least key next : ℕ) → d < most_cpus → IsLeastOf s h parts c now d least
    → (d < length s.cpus → IsRank (ranked_at s h parts c now d)) → (d < length s.cpus → IsKey (ranked_at s h parts c now d) d key) → (length s.cpus ≤ d → key_past_all ≤ key)
    → next ≡ min least key → IsLeastOf s h parts c now (d + 1) next
least_of_more s h parts c now d least key next below told rank is past more = elim (cases_lt d (length s.cpus)) [
  | inl inside ↦
      let before : min d (length s.cpus) ≡ d = omega (arith, inside) in
      let after : min (d + 1) (length s.cpus) ≡ d + 1 = omega (arith, inside) in
      let one : lowest s h parts c now (d + 1) ≡ lower_ranked d (ranked_at s h parts c now d) (lowest s h parts c now d) =
      fold_more (λ (best : Option (ℕ × Rank)) k. lower_ranked k (ranked_at s h parts c now k) best) _ 0 d d (omega arith) in
      subst (λ k. IsLeastKey (lowest s h parts c now k) k next) (sym after)
      (subst (λ o. IsLeastKey o (d + 1) next) (sym one)
      (least_more d (ranked_at s h parts c now d) (lowest s h parts c now d) least key next below (subst (λ k. IsLeastKey (lowest s h parts c now k) k least) before told) (rank inside) (is inside) more))
  | inr outside ↦
      let same : min (d + 1) (length s.cpus) ≡ min d (length s.cpus) = omega (arith, outside) in
      let small = least_small (lowest s h parts c now (min d (length s.cpus))) (min d (length s.cpus)) least told in
      let great = past outside in
      let stays : next ≡ least = omega (arith, more, small, great) in
      subst (λ k. IsLeastKey (lowest s h parts c now k) k next) (sym same) (subst (IsLeastKey (lowest s h parts c now (min d (length s.cpus))) (min d (length s.cpus))) (sym stays) told)
]

-- the processor and its height are read from its key
pub least_told : (best : Option (ℕ × Rank)) (count least : ℕ) → count ≤ most_cpus → IsLeastKey best count least → IsFoundLowest best (last_cpu - least % most_cpus) (least / most_cpus)
least_told None count least few told = omega (arith, told)
least_told (Some b) count least few told =
    let below = told.0 in
    let there = told.1 in
    (omega (arith, few, below, there), omega (arith, few, below, there), told.2)

pub least_within : (best : Option (ℕ × Rank)) (count least : ℕ) → count ≤ most_cpus → IsLeastKey best count least → least / most_cpus < height_past_all → last_cpu - least % most_cpus < count
least_within None count least few told low = absurd (omega (arith, told, low))
least_within (Some b) count least few told low =
    let below = told.0 in
    let there = told.1 in
    omega (arith, few, below, there)

-- ---- who is below a candidate

-- a processor of this rank is below a candidate
abbrev is_lower : Free → Merit → Rank → Bool
is_lower free left Idle = true
is_lower free left (Running class priority) = is_below free (record { class = class; priority = priority; used = 0; budget = 0; stamp = 0 }) left

below_same : (free : Free) (running left : Merit) → is_below free running left ≡ is_lower free left (Running running.class running.priority)
below_same Priority running left = refl
below_same Ratio running left = refl

-- who is below one that is no greater is below the other
below_less : (free : Free) (running left picked : Merit) → is_greater free left picked ≡ false → is_below free running picked ≡ false → is_below free running left ≡ false
below_less Priority running left picked least none = grind (arith, nat_tests)
below_less Ratio running left picked least none = grind (arith, nat_tests)

lower_less : (free : Free) (left picked : Merit) (r : Rank) → is_greater free left picked ≡ false → is_lower free picked r ≡ false → is_lower free left r ≡ false
lower_less free left picked Idle least none = absurd (clash none)
  where
    clash : true ≡ false → ⊥
    clash e = cc
lower_less free left picked (Running class priority) least none = below_less free (record { class = class; priority = priority; used = 0; budget = 0; stamp = 0 }) left picked least none

-- that is so for each lower rank too
lower_then : (free : Free) (left : Merit) (a b : Rank) → at_most a b ≡ true → is_lower free left b ≡ true → is_lower free left a ≡ true
lower_then free left Idle b most below = refl
lower_then free left (Running class priority) Idle most below = absurd (clash most)
  where
    clash : false ≡ true → ⊥
    clash e = cc
lower_then Priority left (Running class priority) (Running other_class other) most below = grind (arith, nat_tests)
lower_then Ratio left (Running class priority) (Running other_class other) most below = grind (arith, nat_tests)

higher_then : (free : Free) (left : Merit) (a b : Rank) → at_most a b ≡ false → is_lower free left a ≡ true → is_lower free left b ≡ true
higher_then free left a Idle most below = refl
higher_then free left Idle (Running other_class other) most below = absurd (clash most)
  where
    clash : true ≡ false → ⊥
    clash e = cc
higher_then Priority left (Running class priority) (Running other_class other) most below = grind (arith, nat_tests)
higher_then Ratio left (Running class priority) (Running other_class other) most below = grind (arith, nat_tests)

-- a rank, and a processor with its rank, where it is below the candidate
abbrev if_lower : Free → Merit → Option Rank → Option Rank
if_lower free left None = None
if_lower free left (Some r) = cond (is_lower free left r) (Some r) None

abbrev best_if_lower : Free → Merit → Option (ℕ × Rank) → Option (ℕ × Rank)
best_if_lower free left None = None
best_if_lower free left (Some b) = cond (is_lower free left b.1) (Some b) None

looked_if_lower : (s : SchedulerState) (h : List Entry) (parts : List PartFacts) (left : Merit) (c now d : ℕ)
    → looked_at s h parts left c now d ≡ if_lower s.shape.free left (ranked_at s h parts c now d)
looked_if_lower s h parts left c now d = by_test (not (nat_eq d c) && nat_lt now (due s h d))
  where
    by_running : (o : Option Pick) → rank_of s parts left o ≡ if_lower s.shape.free left (Some (rank_now s parts o))
    by_running None = refl
    by_running (Some p) =
        ap (λ t. cond t (Some (Running (merit_now s parts p.thread).class (merit_now s parts p.thread).priority)) None) (below_same s.shape.free (merit_now s parts p.thread) left)

    by_test : (t : Bool) → cond t (rank_of s parts left (cpu_at s d).running) None ≡ if_lower s.shape.free left (cond t (Some (rank_now s parts (cpu_at s d).running)) None)
    by_test true = by_running (cpu_at s d).running
    by_test false = refl

-- the lowest of those below the candidate is the lowest of all, where that is below it
one_more : (free : Free) (left : Merit) (d : ℕ) (o : Option Rank) (best : Option (ℕ × Rank))
    → lower_ranked d (if_lower free left o) (best_if_lower free left best) ≡ best_if_lower free left (lower_ranked d o best)
one_more free left d None best = refl
one_more free left d (Some r) None = by_test (is_lower free left r)
  where
    by_test : (t : Bool) → lower_ranked d (cond t (Some r) None) None ≡ cond t (Some (d, r)) None
    by_test true = refl
    by_test false = refl
one_more free left d (Some r) (Some b) =
    by_tests (is_lower free left r) (is_lower free left b.1) (at_most r b.1) refl refl refl
  where
    clash : true ≡ false → ⊥
    clash e = cc

    by_tests : (t u m : Bool) → is_lower free left r ≡ t → is_lower free left b.1 ≡ u → at_most r b.1 ≡ m
        → lower_ranked d (cond (is_lower free left r) (Some r) None) (cond (is_lower free left b.1) (Some b) None)
        ≡ best_if_lower free left (cond (at_most r b.1) (Some (d, r)) (Some b))
    by_tests true true true is_r is_b is_m = rw (is_r, is_b, is_m, is_r) refl
    by_tests true true false is_r is_b is_m = rw (is_r, is_b, is_m, is_b) refl
    by_tests true false true is_r is_b is_m = rw (is_r, is_b, is_m, is_r) refl
    by_tests true false false is_r is_b is_m = absurd (clash (sym (higher_then free left r b.1 is_m is_r) ∙ is_b))
    by_tests false true true is_r is_b is_m = absurd (clash (sym (lower_then free left r b.1 is_m is_b) ∙ is_r))
    by_tests false true false is_r is_b is_m = rw (is_r, is_b, is_m, is_b) refl
    by_tests false false true is_r is_b is_m = rw (is_r, is_b, is_m, is_r) refl
    by_tests false false false is_r is_b is_m = rw (is_r, is_b, is_m, is_b) refl

all_looked : (s : SchedulerState) (h : List Entry) (parts : List PartFacts) (left : Merit) (c now : ℕ) (ds : List ℕ) (best : Option (ℕ × Rank))
    → fold (λ best d. lower_ranked d (looked_at s h parts left c now d) best) (best_if_lower s.shape.free left best) ds
    ≡ best_if_lower s.shape.free left (fold (λ best d. lower_ranked d (ranked_at s h parts c now d) best) best ds)
all_looked s h parts left c now [] best = refl
all_looked s h parts left c now (d ∷ ds) best =
    ap (λ (z : Option (ℕ × Rank)). fold (λ best d. lower_ranked d (looked_at s h parts left c now d) best) z ds)
    (ap (λ o. lower_ranked d o (best_if_lower s.shape.free left best)) (looked_if_lower s h parts left c now d) ∙ one_more s.shape.free left d (ranked_at s h parts c now d) best)
    ∙ all_looked s h parts left c now ds (lower_ranked d (ranked_at s h parts c now d) best)

-- ---- the limit

-- the priority of a candidate has its range, where it counts
abbrev IsShort : Free → Bool → ℕ → Type 0
IsShort Priority first priority = priority ≤ greatest_priority
IsShort Ratio true priority = priority ≤ greatest_priority
IsShort Ratio false priority = Unit {0}

pub short_of : (free : Free) (first : Bool) (priority : ℕ) → priority ≤ greatest_priority → IsShort free first priority
short_of Priority first priority few = few
short_of Ratio true priority few = few
short_of Ratio false priority few = tt

-- a limit is never past all
pub limit_few : (free : Free) (first : Bool) (priority : ℕ) → priority ≤ greatest_priority → limit free first priority ≤ 512
limit_few Priority true priority few = omega (arith, few)
limit_few Priority false priority few = omega (arith, few)
limit_few Ratio true priority few = omega (arith, few)
limit_few Ratio false priority few = omega arith

-- who is below a candidate stands below its limit
below_limit : (free : Free) (r : Rank) (left : Merit) (first : Bool) → IsRank (Some r) → IsShort free first left.priority → left.class ≡ cond first 1 0
    → is_lower free left r ≡ nat_lt (height r) (limit free first left.priority)
below_limit Priority Idle left true is few class = sym (lt_true 0 (257 + left.priority) (omega arith))
below_limit Priority Idle left false is few class = sym (lt_true 0 (1 + left.priority) (omega arith))
below_limit Ratio Idle left true is few class = sym (lt_true 0 (257 + left.priority) (omega arith))
below_limit Ratio Idle left false is few class = refl
below_limit free (Running (suc (suc class)) priority) left first is few same = let small = is.0 in absurd (omega (arith, small))
below_limit Priority (Running zero priority) left true is few class = let small = is.1 in grind (arith, nat_tests)
below_limit Priority (Running zero priority) left false is few class = grind (arith, nat_tests)
below_limit Priority (Running (suc zero) priority) left true is few class = grind (arith, nat_tests)
below_limit Priority (Running (suc zero) priority) left false is few class = grind (arith, nat_tests)
below_limit Ratio (Running zero priority) left true is few class = let small = is.1 in grind (arith, nat_tests)
below_limit Ratio (Running zero priority) left false is few class = grind (arith, nat_tests)
below_limit Ratio (Running (suc zero) priority) left true is few class = grind (arith, nat_tests)
below_limit Ratio (Running (suc zero) priority) left false is few class = grind (arith, nat_tests)

limit_small : (free : Free) (first : Bool) (priority : ℕ) → IsShort free first priority → limit free first priority ≤ 512
limit_small Priority true priority few = omega (arith, few)
limit_small Priority false priority few = omega (arith, few)
limit_small Ratio true priority few = omega (arith, few)
limit_small Ratio false priority few = omega arith

class_one : (first : Bool) → nat_eq (cond first 1 0) 1 ≡ first
class_one true = refl
class_one false = refl

-- the class of a candidate
class_is : (parts : List PartFacts) (left : Contender) → (merit_among parts left).class ≡ cond (is_first (part_at parts left.facts.partition) left.facts.critical) 1 0
class_is parts left = refl

-- what a processor has to stand below that is flagged for this candidate
abbrev pub limit_among : Free → List PartFacts → Contender → ℕ
limit_among free parts left = limit free (is_first (part_at parts left.facts.partition) left.facts.critical) left.facts.priority

-- the same by what the candidate is ahead by
pub limit_ahead : (free : Free) (parts : List PartFacts) (left : Contender) (ahead : Ahead) → IsAheadOf free parts left ahead
    → limit free (nat_eq ahead.class 1) ahead.priority ≡ limit_among free parts left
limit_ahead Priority parts left ahead is =
    ap (λ n. limit Priority (nat_eq n 1) ahead.priority) is.class
    ∙ ap (limit Priority (nat_eq (cond (is_first (part_at parts left.facts.partition) left.facts.critical) 1 0) 1)) (is.priority refl)
    ∙ ap (λ t. limit Priority t left.facts.priority) (class_one (is_first (part_at parts left.facts.partition) left.facts.critical))
limit_ahead Ratio parts left ahead is =
    ap (λ n. limit Ratio (nat_eq n 1) ahead.priority) is.class ∙ by_first (is_first (part_at parts left.facts.partition) left.facts.critical) is.priority
  where
    by_first : (first : Bool) → ((nat_eq (cond first 1 0) 0 && nat_eq (cond first 1 0) 0) ≡ false → ahead.priority ≡ left.facts.priority)
        → limit Ratio (nat_eq (cond first 1 0) 1) ahead.priority ≡ limit Ratio first left.facts.priority
    by_first true priority = ap (limit Ratio true) (priority refl)
    by_first false priority = refl

pub short_ahead : (free : Free) (parts : List PartFacts) (left : Contender) (ahead : Ahead) → IsAheadOf free parts left ahead → ahead.priority ≤ greatest_priority
    → IsShort free (is_first (part_at parts left.facts.partition) left.facts.critical) left.facts.priority
short_ahead Priority parts left ahead is few = let same = is.priority refl in omega (arith, few, same)
short_ahead Ratio parts left ahead is few = by_first (is_first (part_at parts left.facts.partition) left.facts.critical) is.priority
  where
    by_first : (first : Bool) → ((nat_eq (cond first 1 0) 0 && nat_eq (cond first 1 0) 0) ≡ false → ahead.priority ≡ left.facts.priority) → IsShort Ratio first left.facts.priority
    by_first true priority = let same = priority refl in omega (arith, few, same)
    by_first false priority = tt

looked_all : (s : SchedulerState) (h : List Entry) (parts : List PartFacts) (c now : ℕ) (left : Contender)
    → flag_for s h parts c now (Some left) ≡ option_map (λ (best : ℕ × Rank). best.0) (best_if_lower s.shape.free (merit_among parts left) (lowest s h parts c now s.shape.cpus))
looked_all s h parts c now left =
    ap (option_map (λ (best : ℕ × Rank). best.0)) (all_looked s h parts (merit_among parts left) c now (range_with_len 0 s.shape.cpus) None)

-- who stands below it is flagged
pub told_flagged : (s : SchedulerState) (h : List Entry) (parts : List PartFacts) (c now at least : ℕ) (left : Contender)
    → IsFoundLowest (lowest s h parts c now s.shape.cpus) at least → IsShort s.shape.free (is_first (part_at parts left.facts.partition) left.facts.critical) left.facts.priority → least < limit_among s.shape.free parts left → flag_for s h parts c now (Some left) ≡ Some at
told_flagged s h parts c now at least left told few low = looked_all s h parts c now left ∙ by_best (lowest s h parts c now s.shape.cpus) told
  where
    by_best : (best : Option (ℕ × Rank)) → IsFoundLowest best at least → option_map (λ (best : ℕ × Rank). best.0) (best_if_lower s.shape.free (merit_among parts left) best) ≡ Some at
    by_best None there =
        let most = limit_small s.shape.free (is_first (part_at parts left.facts.partition) left.facts.critical) left.facts.priority few in
        absurd (omega (arith, there, low, most))
    by_best (Some b) there =
        let same = there.1 in
        ap (λ t. option_map (λ (best : ℕ × Rank). best.0) (cond t (Some b) None))
        (below_limit s.shape.free b.1 (merit_among parts left) (is_first (part_at parts left.facts.partition) left.facts.critical) there.2 few (class_is parts left)
        ∙ lt_true (height b.1) (limit_among s.shape.free parts left) (omega (arith, same, low)))
        ∙ ap (λ d. Some d) there.0

-- where the lowest doesn't stand below it nobody is
not_lower : (s : SchedulerState) (h : List Entry) (parts : List PartFacts) (c now at least : ℕ) (left : Contender) (b : ℕ × Rank)
    → IsFoundLowest (Some b) at least → IsShort s.shape.free (is_first (part_at parts left.facts.partition) left.facts.critical) left.facts.priority → limit_among s.shape.free parts left ≤ least → is_lower s.shape.free (merit_among parts left) b.1 ≡ false
not_lower s h parts c now at least left b there few high =
    let same = there.1 in
    below_limit s.shape.free b.1 (merit_among parts left) (is_first (part_at parts left.facts.partition) left.facts.critical) there.2 few (class_is parts left)
    ∙ lt_false (height b.1) (limit_among s.shape.free parts left) (omega (arith, same, high))

pub nobody_told : (s : SchedulerState) (h : List Entry) (parts : List PartFacts) (c now at least : ℕ) (left : Contender)
    → IsFoundLowest (lowest s h parts c now s.shape.cpus) at least → IsShort s.shape.free (is_first (part_at parts left.facts.partition) left.facts.critical) left.facts.priority → limit_among s.shape.free parts left ≤ least → flag_for s h parts c now (Some left) ≡ None
nobody_told s h parts c now at least left told few high = looked_all s h parts c now left ∙ by_best (lowest s h parts c now s.shape.cpus) told
  where
    by_best : (best : Option (ℕ × Rank)) → IsFoundLowest best at least → option_map (λ (best : ℕ × Rank). best.0) (best_if_lower s.shape.free (merit_among parts left) best) ≡ None
    by_best None there = refl
    by_best (Some b) there = ap (λ t. option_map (λ (best : ℕ × Rank). best.0) (cond t (Some b) None)) (not_lower s h parts c now at least left b there few high)

-- who is flagged for the greatest of these, by what that is ahead by
pub flagged_ahead : (s : SchedulerState) (h : List Entry) (parts : List PartFacts) (c now at least : ℕ) (o : Option Contender) (ahead : Ahead)
    → IsFoundLowest (lowest s h parts c now s.shape.cpus) at least → IsAhead s.shape.free parts o (Some ahead) → ahead.priority ≤ greatest_priority
    → least < limit s.shape.free (nat_eq ahead.class 1) ahead.priority → flag_for s h parts c now o ≡ Some at
flagged_ahead s h parts c now at least None ahead told is few low = absurd is
flagged_ahead s h parts c now at least (Some left) ahead told is few low =
    let same = limit_ahead s.shape.free parts left ahead is in
    told_flagged s h parts c now at least left told (short_ahead s.shape.free parts left ahead is few) (omega (arith, low, same))

pub nobody_ahead : (s : SchedulerState) (h : List Entry) (parts : List PartFacts) (c now at least : ℕ) (o : Option Contender) (ahead : Ahead)
    → IsFoundLowest (lowest s h parts c now s.shape.cpus) at least → IsAhead s.shape.free parts o (Some ahead) → ahead.priority ≤ greatest_priority
    → limit s.shape.free (nat_eq ahead.class 1) ahead.priority ≤ least → flag_for s h parts c now o ≡ None
nobody_ahead s h parts c now at least None ahead told is few high = refl
nobody_ahead s h parts c now at least (Some left) ahead told is few high =
    let same = limit_ahead s.shape.free parts left ahead is in
    nobody_told s h parts c now at least left told (short_ahead s.shape.free parts left ahead is few) (omega (arith, high, same))

-- and nobody where that tells nothing
pub nobody_left : (s : SchedulerState) (h : List Entry) (parts : List PartFacts) (c now : ℕ) (o : Option Contender) → IsAhead s.shape.free parts o None → flag_for s h parts c now o ≡ None
nobody_left s h parts c now None is = refl
nobody_left s h parts c now (Some left) is = absurd is

-- nor for the greatest of these, than which that one is no less
pub nobody_flagged : (s : SchedulerState) (h : List Entry) (parts : List PartFacts) (c now at least : ℕ) (cs : List Contender) (picked : Contender)
    → IsFoundLowest (lowest s h parts c now s.shape.cpus) at least → IsShort s.shape.free (is_first (part_at parts picked.facts.partition) picked.facts.critical) picked.facts.priority → limit_among s.shape.free parts picked ≤ least → IsNoLess s.shape.free parts cs (Some picked)
    → flag_for s h parts c now (greatest s.shape.free parts cs) ≡ None
nobody_flagged s h parts c now at least cs picked told few high none_less = by_left (greatest s.shape.free parts cs) refl
  where
    by_best : (left : Contender) → greatest s.shape.free parts cs ≡ Some left → (best : Option (ℕ × Rank)) → IsFoundLowest best at least
        → option_map (λ (best : ℕ × Rank). best.0) (best_if_lower s.shape.free (merit_among parts left) best) ≡ None
    by_best left is None there = refl
    by_best left is (Some b) there =
        ap (λ t. option_map (λ (best : ℕ × Rank). best.0) (cond t (Some b) None))
        (lower_less s.shape.free (merit_among parts left) (merit_among parts picked) b.1 (none_less left is) (not_lower s h parts c now at least picked b there few high))

    by_left : (left : Option Contender) → greatest s.shape.free parts cs ≡ left → flag_for s h parts c now left ≡ None
    by_left None is = refl
    by_left (Some left) is = looked_all s h parts c now left ∙ by_best left is (lowest s h parts c now s.shape.cpus) told

-- ---- who is left is no greater than who was picked

module _ (q : Contender → Bool) (P : Contender → Type 0) where
  -- all of these that pass are so
  abbrev AllPass : List (Option Contender) → Type 0
  AllPass seats = AllByRecursion P (filter q (members seats))

  first_out : (c : Contender) (seats : List (Option Contender)) (t : Bool) → AllByRecursion P (cond t (c ∷ filter q (members seats)) (filter q (members seats))) → AllPass seats
  first_out c seats true all = all.1
  first_out c seats false all = all

  later_out : (c : Contender) (seats rest : List (Option Contender)) (t : Bool) → (AllPass seats → AllPass rest)
      → AllByRecursion P (cond t (c ∷ filter q (members seats)) (filter q (members seats)))
      → AllByRecursion P (cond t (c ∷ filter q (members rest)) (filter q (members rest)))
  later_out c seats rest true fewer all = (all.0, fewer all.1)
  later_out c seats rest false fewer all = fewer all

  -- what holds of all that pass holds of them without one place
  all_without : (seats : List (Option Contender)) (x : ℕ) → AllPass seats → AllPass (set seats x None)
  all_without [] x all = all
  all_without (None ∷ seats) zero all = all
  all_without (None ∷ seats) (suc x) all = all_without seats x all
  all_without (Some c ∷ seats) zero all = first_out c seats (q c) all
  all_without (Some c ∷ seats) (suc x) all = later_out c seats (set seats x None) (q c) (all_without seats x) all

left_no_less : (free : Free) (parts : List PartFacts) (seats : List (Option Contender)) (best : Option Contender)
    → greatest free parts (members seats) ≡ best → IsNoLess free parts (members (contenders_without best seats)) best
left_no_less free parts seats None is = is
left_no_less free parts seats (Some best) is = λ c left.
    let all : IsUnbeaten free parts (candidates parts (members seats)) best = greatest-unbeaten free parts (members seats) best is in
    let rest = all_without (λ (d : Contender). is_candidate d.facts (part_at parts d.facts.partition)) (λ d. beats free parts d best ≡ false) seats best.thread all in
    All-contains (λ d. beats free parts d best ≡ false) (candidates parts (members (set seats best.thread None))) c
    (All-from_recursion (λ d. beats free parts d best ≡ false) (candidates parts (members (set seats best.thread None))) rest)
    (greatest-is free parts (members (set seats best.thread None)) c left).candidate

-- after the pick the greatest of those who are ready is no greater than who was picked
pub picked_no_less : (s s1 : SchedulerState) (free : Free) (parts : List PartFacts) (c : ℕ) (best : Option Contender) (seats rest : List (Option Contender))
    → free ≡ s.shape.free → best ≡ greatest free parts (members seats) → rest ≡ contenders_without best seats → rest ≡ seats_of s1 → s1 ≡ chosen s parts c best
    → IsNoLess s1.shape.free parts (contenders s1) best
picked_no_less s s1 free parts c best seats rest same is out are chose =
    let free1 : free ≡ s1.shape.free = same ∙ sym (ap (λ (t : SchedulerState). t.shape.free) chose ∙ ap (λ (shape : Shape). shape.free) (chosen_shape s parts c best)) in
    let ready : members (contenders_without best seats) ≡ contenders s1 = ap members (sym out) ∙ missing_in s1 rest are in
    subst (λ cs. IsNoLess s1.shape.free parts cs best) ready
    (subst (λ f. IsNoLess f parts (members (contenders_without best seats)) best) free1 (left_no_less free parts seats best (sym is)))
