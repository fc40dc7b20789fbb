-- Who sits in the queues of ready threads, and who should.
use Rattle.std.proofs.Common.{◌≡◌, ◌≢◌, inl, inr, ℕ, ◌<◌, ◌≤◌, Bool, true, false, cond, List, [], ◌∷◌, length, map, get_or, set, Option, Some, None, refl, sym, ◌∙◌, ap, arith, length-set, get_or-set_same, get_or-set_other}
use Rattle.std.specs.List.{filter, range_with_len}
use Rattle.std.proofs.lemmas.Bool.{cases_eq, cases_lt}
use Rattle.std.proofs.lemmas.List.{map-set, set-get_or, get_or_past}
use Rattle.std.proofs.lemmas.List.FromFn.{fill_by_all, get_or-map-range_with_len, length-map-range_with_len}
use Rattle.aps_model.specs.declared.merit.Contender.{Contender}
use Rattle.aps_model.specs.declared.merit.PartFacts.{PartFacts}
use Rattle.aps_model.specs.declared.state.Facts.{Facts}
use Rattle.aps_model.specs.declared.state.State.TheVariants.{Running}
use Rattle.aps_model.specs.declared.state.ThreadNow.{ThreadNow}
use Rattle.aps_model.specs.Flag.{with_flag}
use Rattle.aps_model.specs.Inherit.{facts_of, inherited, inheritance_of}
use Rattle.aps_model.specs.Pick.{contender_of, contenders, is_ready}
use Rattle.aps_model.specs.SchedulerState.{SchedulerState, no_facts, no_thread, thread_at, with_thread}
use Rattle.aps_model.specs.Step.{chosen}
use Rattle.laws_runs.proofs.Chains.{own_at}
use Rattle.laws_runs.proofs.ThreadFacts.{set_same, set_other}
use Rattle.aps_ready.specs.Ready.{members, contenders_without}
use Rattle.aps_core.specs.Seats.{seat_at, seats_of, who_at}

-- ---- the seats of a state

members_of : (s : SchedulerState) (xs : List ℕ) → members (map (seat_at s) xs) ≡ filter (λ (c : Contender). is_ready (thread_at s c.thread).state) (map (contender_of s) xs)
members_of s [] = refl
members_of s (x ∷ xs) = by_test (is_ready (thread_at s x).state) (members_of s xs)
  where
    by_test : (t : Bool) → members (map (seat_at s) xs) ≡ filter (λ (c : Contender). is_ready (thread_at s c.thread).state) (map (contender_of s) xs)
        → members (cond t (Some (contender_of s x)) None ∷ map (seat_at s) xs)
        ≡ cond t (contender_of s x ∷ filter (λ (c : Contender). is_ready (thread_at s c.thread).state) (map (contender_of s) xs)) (filter (λ (c : Contender). is_ready (thread_at s c.thread).state) (map (contender_of s) xs))
    by_test true e = ap (λ cs. contender_of s x ∷ cs) e
    by_test false e = e

-- those who sit are the ready threads
pub members_seats : (s : SchedulerState) → members (seats_of s) ≡ contenders s
members_seats s = members_of s (range_with_len 0 (length s.threads))

pub seats_count : (s : SchedulerState) → length (seats_of s) ≡ length s.threads
seats_count s = length-map-range_with_len (seat_at s) 0 (length s.threads)

nobody_past : (s : SchedulerState) (x : ℕ) → length s.threads ≤ x → seat_at s x ≡ None
nobody_past s x past = ap (λ (t : ThreadNow). cond (is_ready t.state) (Some (contender_of s x)) None) (get_or_past s.threads x no_thread past)

pub who_seats : (s : SchedulerState) (x : ℕ) → who_at (seats_of s) x ≡ seat_at s x
who_seats s x = elim (cases_lt x (length s.threads)) [
  | inl below ↦ get_or-map-range_with_len (seat_at s) 0 (length s.threads) x x None below (omega arith)
  | inr past ↦ get_or_past (seats_of s) x None (omega (arith, past, seats_count s)) ∙ sym (nobody_past s x past)
]

-- they are known by each seat
pub seats_by : (s : SchedulerState) (seats : List (Option Contender)) → length seats ≡ length s.threads → ((y : ℕ) → y < length s.threads → who_at seats y ≡ seat_at s y) → seats ≡ seats_of s
seats_by s seats count each = fill_by_all (seat_at s) seats (length s.threads) None count each

-- ---- one thread changes

-- own values that stay
pub own_stays : (threads : List ThreadNow) (x : ℕ) (t : ThreadNow) → t.own ≡ (get_or threads x no_thread).own → map (λ (u : ThreadNow). u.own) (set threads x t) ≡ map (λ (u : ThreadNow). u.own) threads
own_stays threads x t same =
    map-set (λ (u : ThreadNow). u.own) threads x t
    ∙ ap (set (map (λ (u : ThreadNow). u.own) threads) x) (same ∙ sym (own_at threads x))
    ∙ set-get_or (map (λ (u : ThreadNow). u.own) threads) x no_facts

pub facts_stay : (s : SchedulerState) (x y : ℕ) (t : ThreadNow) → t.own ≡ (thread_at s x).own → facts_of (with_thread s x t) y ≡ facts_of s y
facts_stay s x y t same =
    ap (λ (own : List Facts). inherited (record { own = own; triples = (inheritance_of s).triples; tops = (inheritance_of s).tops }) y) (own_stays s.threads x t same)

seat_from : Bool → ℕ → Facts → ℕ → Option Contender
seat_from ready y facts stamp = cond ready (Some (record { thread = y; facts = facts; stamp = stamp })) None

-- each other thread sits as before
pub seat_stays : (s : SchedulerState) (x y : ℕ) (t : ThreadNow) → y ≢ x → t.own ≡ (thread_at s x).own → seat_at (with_thread s x t) y ≡ seat_at s y
unfolding seat_from
seat_stays s x y t other same =
    let there : thread_at (with_thread s x t) y ≡ thread_at s y = set_other s.threads x y t other in
    ap (λ (f : Facts). seat_from (is_ready (thread_at (with_thread s x t) y).state) y f (thread_at (with_thread s x t) y).stamp) (facts_stay s x y t same)
    ∙ ap (λ (u : ThreadNow). seat_from (is_ready u.state) y (facts_of s y) u.stamp) there

-- after the pick those who were in are, but for the picked thread
pub chosen_seats : (s : SchedulerState) (parts : List PartFacts) (c : ℕ) (best : Option Contender) (seats : List (Option Contender))
    → seats ≡ seats_of s → contenders_without best seats ≡ seats_of (chosen s parts c best)
chosen_seats s parts c best seats are = by_best best
  where
    by_best : (best : Option Contender) → contenders_without best seats ≡ seats_of (chosen s parts c best)
    by_best None = are
    by_best (Some b) =
        let x = b.thread in
        let t : ThreadNow = record (thread_at s x) { state = Running c } in
        let left = set seats x None in
        let count : length left ≡ length (set s.threads x t) = length-set seats x None ∙ ap length are ∙ seats_count s ∙ sym (length-set s.threads x t) in
        seats_by (chosen s parts c (Some b)) left count (λ y below. elim (cases_eq y x) [
          | inl same ↦
              let inside : x < length s.threads = omega (arith, below, same, length-set s.threads x t) in
              let out : who_at left x ≡ None = get_or-set_same seats x None None (omega (arith, inside, ap length are, seats_count s)) in
              let runs : seat_at (with_thread s x t) x ≡ None = ap (λ (u : ThreadNow). cond (is_ready u.state) (Some (contender_of (with_thread s x t) x)) None) (set_same s.threads x t inside) in
              ap (who_at left) same ∙ out ∙ sym runs ∙ ap (seat_at (with_thread s x t)) (sym same)
          | inr other ↦
              get_or-set_other seats x y None None other ∙ ap (λ (l : List (Option Contender)). who_at l y) are ∙ who_seats s y ∙ sym (seat_stays s x y t other refl)
        ])

-- so the queues without the picked thread are those of the state after the choice
pub taken_seats : (s s1 : SchedulerState) (parts : List PartFacts) (c : ℕ) (best : Option Contender) (seats rest : List (Option Contender))
    → seats ≡ seats_of s → rest ≡ contenders_without best seats → s1 ≡ chosen s parts c best → rest ≡ seats_of s1
taken_seats s s1 parts c best seats rest are out chose = out ∙ chosen_seats s parts c best seats are ∙ ap seats_of (sym chose)

-- a flag changes nobody's seat
pub flagged_seats : (s : SchedulerState) (now : ℕ) (o : Option ℕ) → seats_of (with_flag s now o) ≡ seats_of s
flagged_seats s now None = refl
flagged_seats s now (Some d) = refl

-- ---- the tie read by its parts

pub missing_in : (s : SchedulerState) (seats : List (Option Contender)) → seats ≡ seats_of s → members seats ≡ contenders s
missing_in s seats are = ap members are ∙ members_seats s
