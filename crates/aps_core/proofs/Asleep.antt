-- Who sleeps in the timer, and who should.
use Rattle.std.proofs.Common.{◌≡◌, ◌≢◌, inl, inr, ℕ, ◌+◌, ◌<◌, ◌≤◌, Bool, true, false, ◌||◌, nat_eq, List, [], ◌∷◌, drop, length, get_or, set, Option, None, refl, sym, ◌∙◌, ap, subst, arith, length-set, get_or-set_same, get_or-set_other, Some}
use Rattle.aps_model.specs.declared.state.State.TheVariants.{Running}
use Rattle.aps_model.specs.declared.state.Pick.{Pick}
use Rattle.std.specs.Option.{option_map}
use Rattle.std.proofs.lemmas.Bool.{cases_eq, cases_lt}
use Rattle.std.proofs.lemmas.List.{drop_more, ext_get_or, get_or_past, length-map, map-set, set-get_or}
use Rattle.std.proofs.lemmas.Option.{none-some}
use Rattle.std.proofs.Math.ListN.{get_or-map}
use Rattle.aps_model.specs.declared.state.ThreadNow.{ThreadNow}
use Rattle.aps_model.specs.Operation.{go_on}
use Rattle.aps_model.specs.Scenario.{Scenario}
use Rattle.aps_model.specs.SchedulerState.{SchedulerState, no_thread, with_thread, thread_at}
use Rattle.aps_model.specs.TickWork.{waking}
use Rattle.laws_runs.proofs.Walk.{go_on_other}
use Rattle.laws_runs.proofs.WaitFacts.{test_eq, test_ne}
use Rattle.aps_timer.specs.Sleepers.{all_due, without_all}
use Rattle.aps_timer.specs.Waking.{sleeps_until}
use Rattle.aps_timer.proofs.Wakes.{wakes}
use Rattle.aps_core.specs.Sleepers.{IsTimed, numbers_of, sleepers_of, until_at}
use Rattle.aps_core.specs.Touched.{woke}
use Rattle.aps_core.proofs.Touched.{some_number}

-- ---- the sleepers of a state

pub sleepers_count : (s : SchedulerState) → length (sleepers_of s) ≡ length s.threads
sleepers_count s = length-map s.threads (λ (t : ThreadNow). sleeps_until t.state)

pub timed_each : (s : SchedulerState) (timer : List (Option ℕ)) → timer ≡ sleepers_of s → (x : ℕ) → IsTimed s timer x
timed_each s timer are x =
    ap (λ (row : List (Option ℕ)). get_or row x None) are ∙ get_or-map (λ (t : ThreadNow). sleeps_until t.state) s.threads x no_thread

pub sleepers_by : (s : SchedulerState) (timer : List (Option ℕ)) → length timer ≡ length s.threads → ((x : ℕ) → x < length s.threads → IsTimed s timer x) → timer ≡ sleepers_of s
sleepers_by s timer count each =
    ext_get_or None timer (sleepers_of s) (count ∙ sym (sleepers_count s))
    (λ x below. each x (omega (arith, below, count)) ∙ sym (timed_each s (sleepers_of s) refl x))

pub those_due : (s : SchedulerState) (timer : List (Option ℕ)) (now : ℕ) → timer ≡ sleepers_of s → all_due timer now ≡ waking s now
those_due s timer now are = ap (λ (row : List (Option ℕ)). all_due row now) are ∙ wakes s now

-- a thread that sleeps as it did, or didn't
pub sleep_stays : (s : SchedulerState) (x : ℕ) (t : ThreadNow) → sleeps_until t.state ≡ until_at s x → sleepers_of (with_thread s x t) ≡ sleepers_of s
sleep_stays s x t same =
    map-set (λ (u : ThreadNow). sleeps_until u.state) s.threads x t
    ∙ ap (set (sleepers_of s) x) (same ∙ sym (timed_each s (sleepers_of s) refl x))
    ∙ set-get_or (sleepers_of s) x None

-- ---- one place of the timer is set

-- past the threads nobody sleeps
nobody_past : (s : SchedulerState) (x : ℕ) → length s.threads ≤ x → until_at s x ≡ None
nobody_past s x past = ap (λ (t : ThreadNow). sleeps_until t.state) (get_or_past s.threads x no_thread past)

pub set_own : (s : SchedulerState) (timer : List (Option ℕ)) (x : ℕ) → length timer ≡ length s.threads → IsTimed s (set timer x (until_at s x)) x
set_own s timer x count = elim (cases_lt x (length s.threads)) [
  | inl below ↦ get_or-set_same timer x (until_at s x) None (omega (arith, below, count))
  | inr past ↦
      get_or_past (set timer x (until_at s x)) x None (omega (arith, past, count, length-set timer x (until_at s x))) ∙ sym (nobody_past s x past)
]

pub set_others : (s : SchedulerState) (timer : List (Option ℕ)) (x y : ℕ) → length timer ≡ length s.threads → IsTimed s timer y → IsTimed s (set timer x (until_at s x)) y
set_others s timer x y count right = elim (cases_eq y x) [
  | inl same ↦ subst (IsTimed s (set timer x (until_at s x))) (sym same) (set_own s timer x count)
  | inr other ↦ get_or-set_other timer x y (until_at s x) None other ∙ right
]

-- ---- those who woke

clash : true ≡ false → ⊥
clash e = cc

parts : (a b : Bool) → (a || b) ≡ false → (a ≡ false) × (b ≡ false)
parts true b e = absurd cc
parts false b e = (refl, e)

whole : (a b : Bool) → a ≡ false → b ≡ false → (a || b) ≡ false
whole true b e f = absurd cc
whole false b e f = f

apart : (x y : ℕ) → nat_eq x y ≡ false → y ≢ x
apart x y absent same = clash (sym (test_eq x y (sym same)) ∙ absent)

-- another than the next one, who isn't one of those after it
pub woke_after : (woken : List ℕ) (i y : ℕ) → i < length woken → y ≢ get_or woken i 0 → woke (drop (i + 1) woken) y ≡ false → woke (drop i woken) y ≡ false
woke_after woken i y below other absent =
    ap (λ (l : List ℕ). woke l y) (drop_more woken i 0 below) ∙ whole (nat_eq (get_or woken i 0) y) (woke (drop (i + 1) woken) y) (test_ne (get_or woken i 0) y (λ e. other (sym e))) absent

-- whoever isn't one of those who are taken out sleeps as before
pub without_others : (row : List (Option ℕ)) (sleepers : List (ℕ × ℕ)) (y : ℕ) → woke (numbers_of sleepers) y ≡ false → get_or (without_all row sleepers) y None ≡ get_or row y None
without_others row [] y absent = refl
without_others row (s ∷ ss) y absent =
    let both = parts (nat_eq s.1 y) (woke (numbers_of ss) y) absent in
    without_others (set row s.1 None) ss y both.1 ∙ get_or-set_other row s.1 y None None (apart s.1 y both.0)

-- a thread that doesn't go on sleeps as before
pub others_sleep : (scenario : Scenario) (s : SchedulerState) (timer : List (Option ℕ)) (x now y : ℕ) → y ≢ x → IsTimed s timer y → IsTimed (go_on scenario s x now) timer y
others_sleep scenario s timer x now y other right = right ∙ ap (λ (t : ThreadNow). sleeps_until t.state) (sym (go_on_other scenario s x now y other))

-- ---- who runs

-- whoever a processor runs doesn't sleep
pub running_awake : (s : SchedulerState) (c y : ℕ) (timer : List (Option ℕ)) (o : Option Pick) → timer ≡ sleepers_of s → ((p : Pick) → o ≡ Some p → (thread_at s p.thread).state ≡ Running c)
    → option_map (λ (p : Pick). p.thread) o ≡ Some y → get_or timer y None ≡ None
running_awake s c y timer None are runs own = absurd (none-some y own)
running_awake s c y timer (Some p) are runs own =
    timed_each s timer are y ∙ ap sleeps_until (ap (λ x. (thread_at s x).state) (sym (some_number p.thread y own)) ∙ runs p refl)
