-- How large the moments of a legal history get, and the time that its entries bill.
use Rattle.std.proofs.Common.{◌≡◌, ◌≢◌, ℕ, zero, suc, ◌+◌, ◌-◌, ◌*◌, ◌/◌, ◌<◌, ◌≤◌, min, max, List, [], ◌∷◌, ◌++◌, refl, sym, ◌∙◌, ap, subst, Bool, true, false, cond, nat_eq, ◌&&◌, Option, Some, None, slice_index_or, arith, inl, inr, mul-le-mul_right}
use Rattle.std.specs.Prelude.{All, unwrap_or}
use Rattle.std.specs.List.{range_with_len, sum_by}
use Rattle.std.proofs.Math.Nat.{div-mul-le_self, mul-le-mul_left}
use Rattle.std.proofs.lemmas.Bool.{cases_eq}
use Rattle.std.proofs.lemmas.List.Elements.{All-append, All-cons, All-nil}
use Rattle.std.proofs.lemmas.List.Sums.{sum_by-append, sum_by-cons}
use Rattle.aps_model.specs.declared.entry.Entry.{Entry}
use Rattle.aps_model.specs.declared.entry.Order.{Order}
use Rattle.aps_model.specs.declared.shape.Shape.{Shape}
use Rattle.aps_model.specs.Limits.{last_moment, longest_tick, longest_window, most_cpus, most_critical, most_time_of_run, most_time_of_tick}
use Rattle.laws_runs.specs.Moments.{IsTimely, moment}
use Rattle.laws_runs.specs.Numbers.{AreMomentsSmall, FitsWindow, IsEntrySmall, IsUsageSmall, time_within}
use Rattle.laws_runs.specs.Sizes.{IsSameSizes}
use Rattle.laws_runs.specs.Sound.{IsSound}
use Rattle.laws_runs.specs.Untouched.{IsStepOf}
use Rattle.laws_runs.proofs.Carry.{carried}
use Rattle.laws_runs.proofs.MomentLaws.{first_is_due, last_other, last_own}
use Rattle.laws_runs.proofs.Sound.{next_of, running_on, sound_opening, sound_step, sound_step_of, tick_pos}
use Rattle.laws_runs.proofs.StepOf.{horizon_same}
use Rattle.laws_runs.proofs.ThreadFit.{horizon_small}
use Rattle.laws_runs.proofs.WaitFacts.{test_eq, test_ne}
use Rattle.aps_model.specs.After.{After, after, over, state_after}
use Rattle.aps_model.specs.Due.{HasTurn, due, last_end, last_to, next_boundary}
use Rattle.aps_model.specs.Legal.{IsLegal}
use Rattle.aps_model.specs.Scenario.{Scenario}
use Rattle.aps_model.specs.SchedulerState.{SchedulerState}
use Rattle.aps_model.specs.Shape.{horizon, whole}
use Rattle.aps_model.specs.Step.{step}
use Rattle.aps_model.specs.Usage.{billed_by, critical_by, critical_used, names, overlap, used, window_critical, window_used}
use Rattle.aps_model.specs.Valid.{IsScenario}

-- ---- sums over numbers

pub sum_same : (f g : ℕ → ℕ) (n a : ℕ) → ((d : ℕ) → a ≤ d → g d ≡ f d) → sum_by g (range_with_len a n) ≡ sum_by f (range_with_len a n)
sum_same f g zero a same = refl
sum_same f g (suc n) a same =
    omega (arith, sum_by-cons g a (range_with_len (a + 1) n), sum_by-cons f a (range_with_len (a + 1) n), same a (omega arith), sum_same f g n (a + 1) (λ d l. same d (omega (arith, l))))

-- one of the terms is so much more
pub sum_changed : (f g : ℕ → ℕ) (c more n a : ℕ) → a ≤ c → c < a + n → g c ≡ f c + more → ((d : ℕ) → d ≢ c → g d ≡ f d) → sum_by g (range_with_len a n) ≡ sum_by f (range_with_len a n) + more
sum_changed f g c more zero a low high here others = absurd (omega arith)
sum_changed f g c more (suc n) a low high here others = elim (cases_eq a c) [
  | inl e ↦
      let now : g a ≡ f a + more = subst (λ k. g k ≡ f k + more) (sym e) here in
      omega (arith, sum_by-cons g a (range_with_len (a + 1) n), sum_by-cons f a (range_with_len (a + 1) n), now, sum_same f g n (a + 1) (λ d l. others d (λ k. absurd (omega (arith, l, e, k)))))
  | inr ne ↦
      omega (arith, sum_by-cons g a (range_with_len (a + 1) n), sum_by-cons f a (range_with_len (a + 1) n), others a ne, sum_changed f g c more n (a + 1) (omega (arith, ne)) (omega arith) here others)
]

pub sum_bounded : (f : ℕ → ℕ) (most n a : ℕ) → ((d : ℕ) → f d ≤ most) → sum_by f (range_with_len a n) ≤ n * most
sum_bounded f most zero a small = omega arith
sum_bounded f most (suc n) a small = let more : suc n * most ≡ n * most + most = search (arith) in omega (arith, sum_by-cons f a (range_with_len (a + 1) n), small a, sum_bounded f most n (a + 1) small, more)

pub sum_added : (f g : ℕ → ℕ) (xs : List ℕ) → sum_by (λ x. f x + g x) xs ≡ sum_by f xs + sum_by g xs
sum_added f g [] = refl
sum_added f g (x ∷ xs) = omega (arith, sum_by-cons (λ y. f y + g y) x xs, sum_by-cons f x xs, sum_by-cons g x xs, sum_added f g xs)

-- ---- what one entry bills

overlap_joins : (tick a b from to : ℕ) → from ≤ to → overlap tick a b 0 to ≡ overlap tick a b 0 from + overlap tick a b from to
overlap_joins tick a b from to l = joined (a * tick) (b * tick) from to l
  where
    joined : (low high from to : ℕ) → from ≤ to → min to high - max 0 low ≡ (min from high - max 0 low) + (min to high - max from low)
    joined low high from to l = omega arith

overlap_bounded : (tick a b to : ℕ) → overlap tick a b 0 to ≤ (b - a) * tick
overlap_bounded tick a b to = bounded (a * tick) (b * tick) ((b - a) * tick) to width
  where
    bounded : (low high wide to : ℕ) → high ≤ wide + low → min to high - max 0 low ≤ wide
    bounded low high wide to l = omega arith

    width : b * tick ≤ (b - a) * tick + a * tick
    width = let l : b * tick ≤ (b - a + a) * tick = mul-le-mul_right tick (omega arith) in let e : (b - a + a) * tick ≡ (b - a) * tick + a * tick = search (arith) in omega (arith, l, e)

overlap_small : (tick a b to : ℕ) → overlap tick a b 0 to ≤ to
overlap_small tick a b to = small (a * tick) (b * tick) to
  where
    small : (low high to : ℕ) → min to high - max 0 low ≤ to
    small low high to = omega arith

pub one_of : (q most n a : ℕ) → sum_by (λ p. cond (nat_eq q p) most 0) (range_with_len a n) ≤ most
one_of q most zero a = omega arith
one_of q most (suc n) a = elim (cases_eq q a) [
  | inl e ↦
      let here : cond (nat_eq q a) most 0 ≡ most = ap (λ t. cond t most 0) (test_eq q a e) in
      let rest = sum_same (λ p. 0) (λ p. cond (nat_eq q p) most 0) n (a + 1) (λ d l. ap (λ t. cond t most 0) (test_ne q d (λ k. absurd (omega (arith, e, k, l))))) in
      omega (arith, sum_by-cons (λ p. cond (nat_eq q p) most 0) a (range_with_len (a + 1) n), here, rest, sum_bounded (λ p. 0) 0 n (a + 1) (λ d. omega arith))
  | inr ne ↦
      let here : cond (nat_eq q a) most 0 ≡ 0 = ap (λ t. cond t most 0) (test_ne q a ne) in
      omega (arith, sum_by-cons (λ p. cond (nat_eq q p) most 0) a (range_with_len (a + 1) n), here, one_of q most n (a + 1))
]

billed_once : (tick a b n : ℕ) (e : Entry) → sum_by (λ p. billed_by tick p a b e) (range_with_len 0 n) ≤ overlap tick a b e.from e.to
billed_once tick a b n e = by_billed e.billed
  where
    by_billed : (o : Option ℕ) → sum_by (λ p. cond (names o p) (overlap tick a b e.from e.to) 0) (range_with_len 0 n) ≤ overlap tick a b e.from e.to
    by_billed None = let z = sum_bounded (λ p. 0) 0 n 0 (λ d. omega arith) in omega (arith, z)
    by_billed (Some q) = one_of q (overlap tick a b e.from e.to) n 0

billed_less : (tick p a b : ℕ) (e : Entry) → (billed_by tick p a b e ≤ overlap tick a b e.from e.to) × (critical_by tick p a b e ≤ billed_by tick p a b e)
billed_less tick p a b e = by_tests (names e.billed p) e.critical
  where
    by_tests : (t u : Bool) → (cond t (overlap tick a b e.from e.to) 0 ≤ overlap tick a b e.from e.to) × (cond (t && u) (overlap tick a b e.from e.to) 0 ≤ cond t (overlap tick a b e.from e.to) 0)
    by_tests true true = (omega arith, omega arith)
    by_tests true false = (omega arith, omega arith)
    by_tests false u = (omega arith, omega arith)

pub sum_less : {X : Type 0} (f g : X → ℕ) (xs : List X) → ((x : X) → f x ≤ g x) → sum_by f xs ≤ sum_by g xs
sum_less f g [] l = omega arith
sum_less f g (x ∷ xs) l = omega (arith, sum_by-cons f x xs, sum_by-cons g x xs, l x, sum_less f g xs l)

used_once : (tick a b n : ℕ) (h : List Entry) → sum_by (λ p. used tick h p a b) (range_with_len 0 n) ≤ time_within tick h a b
used_once tick a b n [] = let z = sum_bounded (λ p. 0) 0 n 0 (λ d. omega arith) in omega (arith, z)
used_once tick a b n (e ∷ es) =
    let split = sum_same (λ p. billed_by tick p a b e + used tick es p a b) (λ p. used tick (e ∷ es) p a b) n 0 (λ p l. sum_by-cons (billed_by tick p a b) e es) in
    omega (arith, split, sum_added (λ p. billed_by tick p a b e) (λ p. used tick es p a b) (range_with_len 0 n), billed_once tick a b n e, used_once tick a b n es, sum_by-cons (λ (x : Entry). overlap tick a b x.from x.to) e es)

-- ---- all that is billed is what each processor has passed

-- what processor c has passed in ticks a to b-1
abbrev passed : ℕ → ℕ → ℕ → List Entry → ℕ → ℕ
passed tick a b h c = overlap tick a b 0 (last_end h c)

-- how an entry stands after a history
record IsAdded (shape : Shape) (h : List Entry) (e : Entry) : Type 0 where
  joins : e.from ≡ last_end h e.cpu
  small : IsEntrySmall shape e

within_passed : (tick a b cpus : ℕ) (h : List Entry) (e : Entry) → e.cpu < cpus → e.from ≡ last_end h e.cpu → e.from ≤ e.to → time_within tick h a b ≡ sum_by (passed tick a b h) (range_with_len 0 cpus)
    → time_within tick (h ++ e ∷ []) a b ≡ sum_by (passed tick a b (h ++ e ∷ [])) (range_with_len 0 cpus)
within_passed tick a b cpus h e exists joins forward m =
    let own : last_end (h ++ e ∷ []) e.cpu ≡ e.to = ap (λ o. unwrap_or o 0) (last_own h e e.cpu refl) in
    let here : passed tick a b (h ++ e ∷ []) e.cpu ≡ passed tick a b h e.cpu + overlap tick a b e.from e.to = ap (overlap tick a b 0) own ∙ overlap_joins tick a b e.from e.to forward ∙ ap (λ k. overlap tick a b 0 k + overlap tick a b e.from e.to) joins in
    let more = sum_changed (passed tick a b h) (passed tick a b (h ++ e ∷ [])) e.cpu (overlap tick a b e.from e.to) cpus 0 (omega arith) (omega arith) here (λ d ne. ap (λ o. overlap tick a b 0 (unwrap_or o 0)) (last_other h e d (λ k. ne (sym k)))) in
    let one = sum_by-append (λ (x : Entry). overlap tick a b x.from x.to) h (e ∷ []) in
    let last = sum_by-cons (λ (x : Entry). overlap tick a b x.from x.to) e [] in
    omega (arith, more, one, last, m)

-- all that is carried
record AllSmall (scenario : Scenario) (a : After) (h : List Entry) : Type 0 where
  sound : IsSound scenario a.state h
  entries : All (IsEntrySmall scenario.shape) h
  passes : (first last : ℕ) → time_within scenario.shape.tick h first last ≡ sum_by (passed scenario.shape.tick first last h) (range_with_len 0 scenario.shape.cpus)

boundary_near : (tick z : ℕ) → next_boundary tick z ≤ z + tick
boundary_near tick z = let l = div-mul-le_self z tick in let e : (z / tick + 1) * tick ≡ z / tick * tick + tick = search (arith) in omega (arith, l, e)

added : (scenario : Scenario) (order : Order) (a : After) (h : List Entry) (c : ℕ) → IsScenario scenario → IsSound scenario a.state h → over a h ≡ None → HasTurn order a.state h c → IsAdded scenario.shape h (step scenario a.state h c).entry
added scenario order a h c r m over turn =
    let s = a.state in
    let e = (step scenario s h c).entry in
    let t = (step scenario s h c).state in
    let st = sound_step_of scenario order s h c r m turn in
    let here : HasTurn order s h e.cpu = subst (HasTurn order s h) (sym st.cpu) turn in
    let next = next_of scenario order s h e t (tick_pos scenario s r m.grounded.sizes) m.grounded.cpu_count m.timely (running_on a h over).early here (subst (λ k. IsStepOf scenario s h k e t) (sym st.cpu) st) in
    let end = horizon_same scenario.shape s.shape m.grounded.sizes in
    let near = boundary_near s.shape.tick e.from in
    let short = next.short in
    let within' = next.within in
    let far = horizon_small scenario r in
    record {
      joins = next.joins;
      small = record {
        cpu = subst (λ n. e.cpu < n) m.grounded.sizes.cpus here.exists;
        forward = next.forward;
        short = omega (arith, short, near, m.grounded.sizes.tick);
        small = omega (arith, within', end, far);
      };
    }

all_small : (scenario : Scenario) (order : Order) (h : List Entry) → IsScenario scenario → IsLegal scenario order h → AllSmall scenario (after scenario h) h
all_small scenario order h r legal =
    carried scenario order (λ h a. AllSmall scenario a h)
    (record { sound = sound_opening scenario; entries = All-nil (IsEntrySmall scenario.shape); passes = λ first last. let z = sum_same (λ p. 0) (passed scenario.shape.tick first last []) scenario.shape.cpus 0 (λ d l. nothing (first * scenario.shape.tick) (last * scenario.shape.tick)) in let y = sum_bounded (λ p. 0) 0 scenario.shape.cpus 0 (λ d. omega arith) in omega (arith, z, y) })
    (λ h a c m run turn.
    let e = (step scenario a.state h c).entry in
    let d = added scenario order a h c r m.sound run turn in
    record {
      sound = sound_step scenario order a.state h c r m.sound (running_on a h run).early turn;
      entries = All-append (IsEntrySmall scenario.shape) h (e ∷ []) m.entries (All-cons (IsEntrySmall scenario.shape) e [] d.small (All-nil (IsEntrySmall scenario.shape)));
      passes = λ first last. within_passed scenario.shape.tick first last scenario.shape.cpus h e d.small.cpu d.joins d.small.forward (m.passes first last);
    }) h legal
  where
    nothing : (low high : ℕ) → min 0 high - max 0 low ≡ 0
    nothing low high = omega arith

-- ---- the laws

same_shape : (a b : Shape) (e : Entry) → b.cpus ≡ a.cpus → b.tick ≡ a.tick → IsEntrySmall a e → IsEntrySmall b e
same_shape a b e cpus tick m = record {
  cpu = let l = m.cpu in omega (arith, l, cpus);
  forward = m.forward;
  short = let l = m.short in omega (arith, l, tick);
  small = m.small;
}

pub moments_small : (scenario : Scenario) (order : Order) (h : List Entry) → IsScenario scenario → IsLegal scenario order h → AreMomentsSmall (state_after scenario h) h
moments_small scenario order h r legal =
    let m = all_small scenario order h r legal in
    let s = state_after scenario h in
    let g = m.sound.grounded in
    let t = m.sound.timely in
    let far = horizon_small scenario r in
    let end = horizon_same scenario.shape s.shape g.sizes in
    let tick : s.shape.tick ≤ longest_tick = let l = r.shape.tick_short in omega (arith, l, g.sizes.tick) in
    let last : moment h ≤ last_moment = let l = t.moment_within in omega (arith, l, end, far) in
    let ends : (c : ℕ) → last_end h c ≤ last_moment = λ c. ended s h c t far end (last_to h c) refl in
    record {
      entries = λ k d below. same_shape scenario.shape s.shape (slice_index_or h k d) g.sizes.cpus g.sizes.tick (m.entries k d below);
      last = last;
      ends = ends;
      boundaries = λ c. let l = ends c in let n = boundary_near s.shape.tick (last_end h c) in omega (arith, l, n, tick);
      dues = λ c. due_small s h c t tick (ends c) (last_to h c) refl;
      flags = λ c f is. let l = t.flag_now c f is in omega (arith, l, last);
    }
  where
    ended : (s : SchedulerState) (h : List Entry) (c : ℕ) → IsTimely s h → horizon scenario.shape ≤ last_moment → horizon s.shape ≡ horizon scenario.shape → (last : Option ℕ) → last_to h c ≡ last → last_end h c ≤ last_moment
    ended s h c t far end None is = omega (arith, ap (λ o. unwrap_or o 0) is)
    ended s h c t far end (Some z) is = let b = t.within c z is in omega (arith, ap (λ o. unwrap_or o 0) is, b, end, far)

    due_small : (s : SchedulerState) (h : List Entry) (c : ℕ) → IsTimely s h → s.shape.tick ≤ longest_tick → last_end h c ≤ last_moment → (last : Option ℕ) → last_to h c ≡ last → due s h c ≤ 10000010000000
    due_small s h c t tick l None is = omega (arith, first_is_due s h c is)
    due_small s h c t tick l (Some z) is = let b = t.soon c z is in let n = boundary_near s.shape.tick z in omega (arith, ap (λ o. unwrap_or o 0) is, b, n, l, tick)

-- where all that is billed is what the processors have passed
usage_of : (scenario : Scenario) → IsScenario scenario → (h : List Entry) (a b : ℕ) → time_within scenario.shape.tick h a b ≡ sum_by (passed scenario.shape.tick a b h) (range_with_len 0 scenario.shape.cpus) → ((c : ℕ) → last_end h c ≤ last_moment)
    → IsUsageSmall scenario.shape h a b
usage_of scenario r h a b passes ends =
    let tick = scenario.shape.tick in
    let cpus = scenario.shape.cpus in
    let time : time_within tick h a b ≤ cpus * ((b - a) * tick) = let l = sum_bounded (passed tick a b h) ((b - a) * tick) cpus 0 (λ c. overlap_bounded tick a b (last_end h c)) in omega (arith, passes, l) in
    let run : time_within tick h a b ≤ cpus * last_moment = let l = sum_bounded (passed tick a b h) last_moment cpus 0 (λ c. let o = overlap_small tick a b (last_end h c) in let f = ends c in omega (arith, o, f)) in omega (arith, passes, l) in
    let few : cpus ≤ most_cpus = r.shape.few_cpus in
    let short : tick ≤ longest_tick = r.shape.tick_short in
    record {
      time = time;
      one_tick = λ near. let l = product cpus (b - a) tick 1 few (omega (arith, near)) short in omega (arith, time, l);
      window = λ near. let l = product cpus (b - a) tick longest_window few (omega (arith, near)) short in omega (arith, time, l);
      run = omega (arith, run, few);
      each = λ p. sum_less (billed_by tick p a b) (λ (e : Entry). overlap tick a b e.from e.to) h (λ e. (billed_less tick p a b e).0);
      critical = λ p. sum_less (critical_by tick p a b) (billed_by tick p a b) h (λ e. (billed_less tick p a b e).1);
      all = λ n. used_once tick a b n h;
    }
  where
    product : (cpus ticks tick most : ℕ) → cpus ≤ most_cpus → ticks ≤ most → tick ≤ longest_tick → cpus * (ticks * tick) ≤ most_cpus * (most * longest_tick)
    product cpus ticks tick most few near short =
        let x : ticks * tick ≤ most * tick = mul-le-mul_right tick near in
        let y : most * tick ≤ most * longest_tick = mul-le-mul_left most short in
        let z : cpus * (ticks * tick) ≤ most_cpus * (ticks * tick) = mul-le-mul_right (ticks * tick) few in
        omega (arith, x, y, z)

pub usage_small : (scenario : Scenario) (order : Order) (h : List Entry) (a b : ℕ) → IsScenario scenario → IsLegal scenario order h → IsUsageSmall scenario.shape h a b
usage_small scenario order h a b r legal = usage_of scenario r h a b ((all_small scenario order h r legal).passes a b) (moments_small scenario order h r legal).ends

-- with the entry in hand, whatever else stands in it
pub usage_in_hand : (scenario : Scenario) (order : Order) (h : List Entry) (e : Entry) (a b : ℕ) → IsScenario scenario → IsLegal scenario order h → over (after scenario h) h ≡ None → HasTurn order (state_after scenario h) h e.cpu
    → e.from ≡ last_end h e.cpu → e.to ≡ due (state_after scenario h) h e.cpu → IsUsageSmall scenario.shape (h ++ e ∷ []) a b
usage_in_hand scenario order h e a b r legal running turn from to =
    let m = all_small scenario order h r legal in
    let s = state_after scenario h in
    let x = (step scenario s h e.cpu).entry in
    let st = sound_step_of scenario order s h e.cpu r m.sound turn in
    let d = added scenario order (after scenario h) h e.cpu r m.sound running turn in
    let exists : e.cpu < scenario.shape.cpus = subst (λ n. e.cpu < n) m.sound.grounded.sizes.cpus turn.exists in
    let small : e.to ≤ last_moment = let l = d.small.small in omega (arith, l, st.to, to) in
    let forward : e.from ≤ e.to = let l = d.small.forward in omega (arith, l, st.to, to, st.from, from) in
    let ends = (moments_small scenario order h r legal).ends in
    usage_of scenario r (h ++ e ∷ []) a b (within_passed scenario.shape.tick a b scenario.shape.cpus h e exists from forward (m.passes a b))
    (λ c. elim (cases_eq c e.cpu) [
      | inl same ↦ omega (arith, small, ap (λ o. unwrap_or o 0) (last_own h e c (sym same)))
      | inr ne ↦ let l = ends c in omega (arith, l, ap (λ o. unwrap_or o 0) (last_other h e c (λ k. ne (sym k))))
    ])

-- a window of so many ticks holds at most the whole
pub window_small : (shape : Shape) (h : List Entry) (j p : ℕ) → IsUsageSmall shape h (j + 1 - shape.window) (j + 1) → (window_used shape h j p ≤ whole shape) × (window_critical shape h j p ≤ window_used shape h j p)
window_small shape h j p m =
    let a = j + 1 - shape.window in
    let near : (j + 1 - a) * shape.tick ≤ shape.window * shape.tick = mul-le-mul_right shape.tick (omega arith) in
    let all : shape.cpus * ((j + 1 - a) * shape.tick) ≤ shape.cpus * (shape.window * shape.tick) = mul-le-mul_left shape.cpus near in
    let same : shape.cpus * (shape.window * shape.tick) ≡ shape.cpus * shape.window * shape.tick = search (arith) in
    let time = m.time in
    let each = m.each p in
    (omega (arith, all, same, time, each), m.critical p)

-- the same of a shape of these sizes
usage_like : (shape other : Shape) (h : List Entry) (a b : ℕ) → IsSameSizes shape other → IsUsageSmall shape h a b → IsUsageSmall other h a b
usage_like shape other h a b sizes m =
    let t = sym sizes.tick in
    record {
      time = subst (λ n. time_within other.tick h a b ≤ n * ((b - a) * other.tick)) (sym sizes.cpus) (subst (λ n. time_within n h a b ≤ shape.cpus * ((b - a) * n)) t m.time);
      one_tick = subst (λ n. b ≤ a + 1 → time_within n h a b ≤ most_time_of_tick) t m.one_tick;
      window = subst (λ n. b ≤ a + longest_window → time_within n h a b ≤ most_critical) t m.window;
      run = subst (λ n. time_within n h a b ≤ most_time_of_run) t m.run;
      each = subst (λ n. (p : ℕ) → used n h p a b ≤ time_within n h a b) t m.each;
      critical = subst (λ n. (p : ℕ) → critical_used n h p a b ≤ used n h p a b) t m.critical;
      all = subst (λ n. (k : ℕ) → sum_by (λ p. used n h p a b) (range_with_len 0 k) ≤ time_within n h a b) t m.all;
    }

pub windows_small : (scenario : Scenario) (order : Order) (h : List Entry) → IsScenario scenario → IsLegal scenario order h → FitsWindow (state_after scenario h) h
windows_small scenario order h r legal j p =
    let s = state_after scenario h in
    let sizes = (all_small scenario order h r legal).sound.grounded.sizes in
    let first = j + 1 - s.shape.window in
    let m = usage_small scenario order h first (j + 1) r legal in
    window_small s.shape h j p (usage_like scenario.shape s.shape h first (j + 1) sizes m)
