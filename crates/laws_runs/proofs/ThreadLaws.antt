-- A property of threads and stamps that bears both updates, and the pick of a ready thread, is kept by the step.
use Rattle.std.proofs.Common.{◌≡◌, ◌≢◌, ℕ, zero, suc, ◌+◌, ◌-◌, ◌/◌, ◌^◌, ◌<◌, ◌≤◌, List, [], ◌∷◌, ◌++◌, length, refl, sym, ◌∙◌, ap, subst, Option, Some, None, slice_index_or, slice_set, arith, inl, inr}
use Rattle.std.proofs.lemmas.Bool.{cases_eq}
use Rattle.aps_model.specs.declared.state.State.{State}
use Rattle.aps_model.specs.declared.state.State.TheVariants.{Ready, Running, Sleeping, Sending, Receiving, Replying, Gone}
use Rattle.aps_model.specs.declared.state.ThreadNow.{ThreadNow}
use Rattle.aps_model.specs.declared.state.Pick.{Pick}
use Rattle.aps_model.specs.declared.merit.PartFacts.{PartFacts}
use Rattle.aps_model.specs.declared.merit.Contender.{Contender}
use Rattle.aps_model.specs.declared.scenario.ThreadRow.{ThreadRow}
use Rattle.aps_model.specs.declared.shape.Shape.{Shape}
use Rattle.aps_model.specs.declared.entry.Entry.{Entry}
use Rattle.aps_model.specs.declared.entry.Order.{Order}
use Rattle.laws_runs.specs.Waits.{IsPlain, state_at}
use Rattle.laws_runs.specs.Bears.{NamesChannels}
use Rattle.laws_runs.specs.Untouched.{AgreesOnRunning}
use Rattle.laws_runs.specs.Stamps.{IsActive, IsStamped}
use Rattle.laws_runs.specs.Sound.{IsSound}
use Rattle.laws_runs.proofs.ThreadFacts.{within, set_same, set_other}
use Rattle.laws_runs.proofs.WaitBears.{state_of}
use Rattle.laws_runs.proofs.Walk.{tick_kept, returned_kept, spent_kept}
use Rattle.laws_runs.proofs.ThreadMoves.{IsAsleep, IsQuiet, ThreadsBear, threads_bear}
use Rattle.aps_model.specs.declared.shape.Bankruptcy.{Bankruptcy}
use Rattle.laws_runs.proofs.Channels.{names_channels}
use Rattle.laws_runs.proofs.Commands.{sizes_same}
use Rattle.laws_runs.proofs.ThreadMoves.{alike_state}
use Rattle.laws_runs.proofs.Mid.{IsFramed, framed_bears, command_kept, ticked, unflagged, tested_by}
use Rattle.laws_runs.proofs.Picked.{IsReadyBest, greatest_ready}
use Rattle.laws_runs.proofs.StepOf.{step_by, bill_at, tested_at}
use Rattle.laws_runs.proofs.Opening.{IsFirst, first_in}
use Rattle.laws_runs.proofs.Carry.{carried}
use Rattle.laws_runs.proofs.Sound.{sound_step, sound_opening, running_on}
use Rattle.aps_model.specs.After.{after, state_after}
use Rattle.aps_model.specs.Bill.{after_test, spend}
use Rattle.aps_model.specs.Budget.{all_parts}
use Rattle.aps_model.specs.Due.{due}
use Rattle.aps_model.specs.Flag.{flag_for, with_flag}
use Rattle.aps_model.specs.Legal.{IsLegal}
use Rattle.aps_model.specs.Opening.{first_op, first_stamp, first_state, opening, stamp_after, start_stamps, start_threads}
use Rattle.aps_model.specs.Pick.{contenders, greatest}
use Rattle.aps_model.specs.Scenario.{Scenario}
use Rattle.aps_model.specs.SchedulerState.{SchedulerState, cpu_at, no_thread}
use Rattle.aps_model.specs.Step.{Step, begun, billed, chosen, settled, step}
use Rattle.aps_model.specs.TickWork.{tick_work}
use Rattle.aps_model.specs.Usage.{names}
use Rattle.aps_model.specs.Valid.{IsScenario}

-- what a property of threads and stamps has to bear
pub record IsBorne (N : List ThreadNow → ℕ → Type 0) : Type 0 where
  pub moves : (c x : ℕ) → ThreadsBear c x N
  pub picks : (ts : List ThreadNow) (n z c : ℕ) (t : ThreadNow) → N ts n → z < length ts → state_of ts z ≡ Ready → t.state ≡ Running c → t.stamp ≡ (slice_index_or ts z no_thread).stamp → N (slice_set ts z t) n

abbrev pub Both : Scenario → (List ThreadNow → ℕ → Type 0) → SchedulerState → Type 0
Both scenario N s = IsPlain scenario s × N s.threads s.stamps

pub ticked_both : (scenario : Scenario) (N : List ThreadNow → ℕ → Type 0) → IsBorne N → (s : SchedulerState) (h : List Entry) (c now : ℕ) → Both scenario N s → Both scenario N (tick_work scenario (unflagged s c) h now)
ticked_both scenario N b s h c now m =
    let s' = unflagged s c in
    (tick_kept scenario now (λ t. Both scenario N t × IsFramed s' t)
    (λ t y u. (framed_bears scenario now c 0 s' (Both scenario N) (threads_bear scenario now c 0 N (b.moves c 0))).woken t y u)
    (λ g j t k. command_kept scenario c 0 s' N (b.moves c 0) g j t k) s' h
    ((record { waiting = m.0.waiting; channels = m.0.channels }, m.1), record { cpus = refl; sizes = sizes_same s.shape })).0

running_ticked : (scenario : Scenario) (s : SchedulerState) (h : List Entry) (c now : ℕ) (p : Pick) → IsPlain scenario s → AgreesOnRunning s → (cpu_at s c).running ≡ Some p → state_at (tick_work scenario (unflagged s c) h now) p.thread ≡ Running c
running_ticked scenario s h c now p plain k e =
    alike_state ((ticked scenario (unflagged s c) h now (record { waiting = plain.waiting; channels = plain.channels })).as_before p.thread c (k.runs c p e)) ∙ k.runs c p e

-- with the state of c's thread
abbrev pub OnC : Scenario → (List ThreadNow → ℕ → Type 0) → ℕ → Option Pick → SchedulerState → Type 0
OnC scenario N c running s = Both scenario N s × ((p : Pick) → running ≡ Some p → state_at s p.thread ≡ Running c)

billed_both : (scenario : Scenario) (N : List ThreadNow → ℕ → Type 0) → IsBorne N → (s : SchedulerState) (h : List Entry) (c now ns : ℕ) (running : Option Pick) → AgreesOnRunning s → (cpu_at s c).running ≡ running
    → Both scenario N s → OnC scenario N c running (spend (begun scenario s h c now) ns running)
billed_both scenario N b s h c now ns None k e m = (ticked_both scenario N b s h c now m, λ p f. absurd cc)
billed_both scenario N b s h c now ns (Some p) k e m =
    let done = spent_kept scenario now c p (Both scenario N) (threads_bear scenario now c p.thread N (b.moves c p.thread)) (tick_work scenario (unflagged s c) h now) ns (ticked_both scenario N b s h c now m) (running_ticked scenario s h c now p m.0 k e) in
    (done.0, λ q f. subst (λ (z : Pick). state_at (spend (begun scenario s h c now) ns (Some p)) z.thread ≡ Running c) (some_same p q f) done.1)
  where
    some_same : (a b : Pick) → Some a ≡ Some b → a ≡ b
    some_same a b e = cc

tested_both : (scenario : Scenario) (N : List ThreadNow → ℕ → Type 0) (c : ℕ) (running : Option Pick) (r : SchedulerState) (policy : Bankruptcy) (j : ℕ) (o : Option ℕ) → OnC scenario N c running r → OnC scenario N c running (after_test policy r j o).state
tested_both scenario N c running r policy j o m =
    tested_by policy r j o (OnC scenario N c running) m (λ p. ((record { waiting = m.0.0.waiting; channels = m.0.0.channels }, m.0.1), m.1))

test_both : (scenario : Scenario) (N : List ThreadNow → ℕ → Type 0) → IsBorne N → (s : SchedulerState) (h : List Entry) (c : ℕ) → AgreesOnRunning s → Both scenario N s → OnC scenario N c (cpu_at s c).running (tested_at scenario s h c).state
test_both scenario N b s h c k m =
    let e = bill_at s h c in
    let running = (cpu_at s c).running in
    tested_both scenario N c running (billed (begun scenario s h c (due s h c)) e running) _ _ _ (billed_both scenario N b s h c (due s h c) (e.to - e.from) running k refl m)

pub back_both : (scenario : Scenario) (N : List ThreadNow → ℕ → Type 0) → IsBorne N → (r : SchedulerState) (c now : ℕ) (running : Option Pick) → NamesChannels scenario → OnC scenario N c running r
    → Both scenario N (settled scenario r now running).state
back_both scenario N b r c now None names m = m.0
back_both scenario N b r c now (Some p) names m =
    (returned_kept scenario now c p (Both scenario N) (threads_bear scenario now c p.thread N (b.moves c p.thread)) names r m.0 (m.1 p refl)).0

picked_both : (N : List ThreadNow → ℕ → Type 0) → IsBorne N → (r : SchedulerState) (ps : List PartFacts) (c : ℕ) (best : Option Contender) → ((b : Contender) → best ≡ Some b → IsReadyBest r b)
    → N r.threads r.stamps → N (chosen r ps c best).threads (chosen r ps c best).stamps
picked_both N b r ps c None ready n = n
picked_both N b r ps c (Some best) ready n =
    let is = (ready best refl).ready in
    b.picks r.threads r.stamps best.thread c _ n (within r.threads best.thread (λ g. cc)) is refl refl

flagged_both : (N : List ThreadNow → ℕ → Type 0) (s : SchedulerState) (now : ℕ) (o : Option ℕ) → N s.threads s.stamps → N (with_flag s now o).threads (with_flag s now o).stamps
flagged_both N s now None n = n
flagged_both N s now (Some d) n = n

pub threads_kept : (scenario : Scenario) (N : List ThreadNow → ℕ → Type 0) → IsBorne N → (s : SchedulerState) (h : List Entry) (c : ℕ) → NamesChannels scenario → AgreesOnRunning s
    → Both scenario N s → N (step scenario s h c).state.threads (step scenario s h c).state.stamps
threads_kept scenario N b s h c names k m =
    let tested' = test_both scenario N b s h c k m in
    let now = due s h c in
    let running = (cpu_at s c).running in
    step_by scenario s h c (λ (out : Step). N out.state.threads out.state.stamps)
    (λ o why. tested'.0.1)
    (λ early.
    let did = settled scenario (tested_at scenario s h c).state now running in
    let r = did.state in
    let ps = all_parts r.shape r.rows (h ++ (record (bill_at s h c) { done = did.done }) ∷ []) (now / r.shape.tick) in
    let best = greatest r.shape.free ps (contenders r) in
    let q = chosen r ps c best in
    flagged_both N q now (flag_for q h ps c now (greatest r.shape.free ps (contenders q)))
    (picked_both N b r ps c best (greatest_ready r r.shape.free ps) (back_both scenario N b (tested_at scenario s h c).state c now running names tested').1))

-- at the start and by each step, so of each legal history
pub threads_law : (scenario : Scenario) (order : Order) (N : List ThreadNow → ℕ → Type 0) → IsScenario scenario → IsBorne N → N (opening scenario).threads (opening scenario).stamps
    → (h : List Entry) → IsLegal scenario order h → N (state_after scenario h).threads (state_after scenario h).stamps
threads_law scenario order N r b start h legal =
    (carried scenario order (λ h a. IsSound scenario a.state h × N a.state.threads a.state.stamps) (sound_opening scenario, start)
    (λ h a c m run turn. (sound_step scenario order a.state h c r m.0 (running_on a h run).early turn, threads_kept scenario N b a.state h c (names_channels scenario r) m.0.grounded.kept (m.0.grounded.plain, m.1))) h legal).1

-- ---- stamps

asleep_idle : (st : State) → IsAsleep st → IsActive st → ⊥
asleep_idle Ready a i = a
asleep_idle (Running c) a i = a
asleep_idle (Sleeping until) a i = i
asleep_idle (Sending d) a i = i
asleep_idle (Receiving d) a i = i
asleep_idle (Replying x) a i = i
asleep_idle Gone a i = a

quiet_active : (c x z : ℕ) (a b : State) → IsQuiet c x z a b → IsActive b → IsActive a
quiet_active c x z a b (inl q) i = subst IsActive (sym q.1) tt
quiet_active c x z a b (inr q) i = absurd (asleep_idle b q.1 i)

-- an update that keeps the stamp, of a thread that was active if it is now
stamped_quiet : (ts : List ThreadNow) (n z : ℕ) (t : ThreadNow) → IsStamped ts n → z < length ts → (IsActive t.state → IsActive (state_of ts z)) → t.stamp ≡ (slice_index_or ts z no_thread).stamp → IsStamped (slice_set ts z t) n
stamped_quiet ts n z t m below was same = record {
  below = λ x a. let o = old x a in omega (arith, o.1, m.below x o.0);
  distinct = λ x y a b e. let o = old x a in let p = old y b in m.distinct x y o.0 p.0 (sym o.1 ∙ e ∙ p.1);
}
  where
    old : (x : ℕ) → IsActive (state_of (slice_set ts z t) x) → IsActive (state_of ts x) × ((slice_index_or (slice_set ts z t) x no_thread).stamp ≡ (slice_index_or ts x no_thread).stamp)
    old x a = elim (cases_eq x z) [
      | inl e ↦
          subst (λ k. IsActive (state_of ts k) × ((slice_index_or (slice_set ts z t) k no_thread).stamp ≡ (slice_index_or ts k no_thread).stamp)) (sym e) (
            was (subst (λ (k : ThreadNow). IsActive k.state) (set_same ts z t below) (subst (λ k. IsActive (state_of (slice_set ts z t) k)) e a)),
            ap (λ (k : ThreadNow). k.stamp) (set_same ts z t below) ∙ same,
          )
      | inr ne ↦ (subst (λ (k : ThreadNow). IsActive k.state) (set_other ts z x t ne) a, ap (λ (k : ThreadNow). k.stamp) (set_other ts z x t ne))
    ]

-- the next stamp is new
stamped_fresh : (ts : List ThreadNow) (n z : ℕ) (t : ThreadNow) → IsStamped ts n → z < length ts → t.stamp ≡ n → IsStamped (slice_set ts z t) (n + 1)
stamped_fresh ts n z t m below is = record {
  below = λ x a. elim (cases_eq x z) [
    | inl e ↦ omega (arith, at x e)
    | inr ne ↦ let o = old x ne a in omega (arith, o.1, m.below x o.0)
  ];
  distinct = λ x y a b e. elim (cases_eq x z) [
    | inl ex ↦ elim (cases_eq y z) [
      | inl ey ↦ ex ∙ sym ey
      | inr ny ↦ let o = old y ny b in absurd (omega (arith, at x ex, o.1, e, m.below y o.0))
    ]
    | inr nx ↦ elim (cases_eq y z) [
      | inl ey ↦ let o = old x nx a in absurd (omega (arith, at y ey, o.1, e, m.below x o.0))
      | inr ny ↦ let o = old x nx a in let p = old y ny b in m.distinct x y o.0 p.0 (sym o.1 ∙ e ∙ p.1)
    ]
  ];
}
  where
    at : (x : ℕ) → x ≡ z → (slice_index_or (slice_set ts z t) x no_thread).stamp ≡ n
    at x e = ap (λ k. (slice_index_or (slice_set ts z t) k no_thread).stamp) e ∙ ap (λ (k : ThreadNow). k.stamp) (set_same ts z t below) ∙ is

    old : (x : ℕ) → x ≢ z → IsActive (state_of (slice_set ts z t) x) → IsActive (state_of ts x) × ((slice_index_or (slice_set ts z t) x no_thread).stamp ≡ (slice_index_or ts x no_thread).stamp)
    old x ne a = (subst (λ (k : ThreadNow). IsActive k.state) (set_other ts z x t ne) a, ap (λ (k : ThreadNow). k.stamp) (set_other ts z x t ne))

pub stamps_borne : IsBorne IsStamped
stamps_borne = record {
  moves = λ c x. record {
    quiet = λ ts n z t m below q same. stamped_quiet ts n z t m below (quiet_active c x z (state_of ts z) t.state q) same;
    fresh = λ ts n z t m below q. stamped_fresh ts n z _ m below refl;
    owned = λ ts n z own m below. stamped_quiet ts n z _ m below (λ a. a) refl;
  };
  picks = λ ts n z c t m below was is same. stamped_quiet ts n z t m below (λ a. subst IsActive (sym was) tt) same;
}

-- ---- stamps at the start: of those from number on, each active one is at least next and below the last
record IsStart (next : ℕ) (ts : List ThreadNow) (last : ℕ) : Type 0 where
  least : (x : ℕ) → IsActive (state_of ts x) → next ≤ (slice_index_or ts x no_thread).stamp
  below : (x : ℕ) → IsActive (state_of ts x) → (slice_index_or ts x no_thread).stamp < last
  distinct : (x y : ℕ) → IsActive (state_of ts x) → IsActive (state_of ts y) → (slice_index_or ts x no_thread).stamp ≡ (slice_index_or ts y no_thread).stamp → x ≡ y
  grows : next ≤ last

start_cons : (next last : ℕ) (t : ThreadNow) (ts : List ThreadNow) (after : ℕ) → next ≤ after → (IsActive t.state → (t.stamp ≡ next) × (after ≡ next + 1)) → IsStart after ts last → IsStart next (t ∷ ts) last
start_cons next last t ts after up first m = record {
  least = least;
  below = below;
  distinct = distinct;
  grows = let g = m.grows in omega arith;
}
  where
    least : (x : ℕ) → IsActive (state_of (t ∷ ts) x) → next ≤ (slice_index_or (t ∷ ts) x no_thread).stamp
    least zero a = omega (arith, (first a).0)
    least (suc x) a = let l = m.least x a in omega arith

    below : (x : ℕ) → IsActive (state_of (t ∷ ts) x) → (slice_index_or (t ∷ ts) x no_thread).stamp < last
    below zero a = let g = m.grows in omega (arith, (first a).0, (first a).1)
    below (suc x) a = m.below x a

    distinct : (x y : ℕ) → IsActive (state_of (t ∷ ts) x) → IsActive (state_of (t ∷ ts) y) → (slice_index_or (t ∷ ts) x no_thread).stamp ≡ (slice_index_or (t ∷ ts) y no_thread).stamp → x ≡ y
    distinct zero zero a b e = refl
    distinct zero (suc y) a b e = let l = m.least y b in absurd (omega (arith, (first a).0, (first a).1, e))
    distinct (suc x) zero a b e = let l = m.least x a in absurd (omega (arith, (first b).0, (first b).1, e))
    distinct (suc x) (suc y) a b e = ap (λ n. suc n) (m.distinct x y a b e)

first_number : (st : State) (next other : ℕ) → IsFirst st → IsActive st → (first_stamp st next other ≡ next) × (stamp_after st next ≡ next + 1)
first_number Ready next other f a = (refl, refl)
first_number (Running c) next other f a = absurd f
first_number (Sleeping until) next other f a = absurd a
first_number (Sending d) next other f a = absurd a
first_number (Receiving d) next other f a = absurd a
first_number (Replying x) next other f a = absurd a
first_number Gone next other f a = absurd a

after_grows : (st : State) (next : ℕ) → next ≤ stamp_after st next
after_grows Ready next = omega arith
after_grows (Running c) next = omega arith
after_grows (Sleeping until) next = omega arith
after_grows (Sending d) next = omega arith
after_grows (Receiving d) next = omega arith
after_grows (Replying x) next = omega arith
after_grows Gone next = omega arith

started_stamps : (shape : Shape) (rows : List ThreadRow) (number next : ℕ) → IsStart next (start_threads shape number next rows) (start_stamps next rows)
started_stamps shape [] number next = record { least = λ x a. absurd a; below = λ x a. absurd a; distinct = λ x y a b e. absurd a; grows = omega arith }
started_stamps shape (row ∷ rows) number next =
    let st = first_state row in
    start_cons next (start_stamps (stamp_after st next) rows) _ (start_threads shape (number + 1) (stamp_after st next) rows) (stamp_after st next) (after_grows st next)
    (λ a. first_number st next (2 ^ 63 + number) (first_in (first_op row)) a)
    (started_stamps shape rows (number + 1) (stamp_after st next))

pub stamps_law : (scenario : Scenario) (order : Order) → IsScenario scenario → (h : List Entry) → IsLegal scenario order h → IsStamped (state_after scenario h).threads (state_after scenario h).stamps
stamps_law scenario order r h legal =
    let m = started_stamps scenario.shape scenario.threads 0 0 in
    threads_law scenario order IsStamped r stamps_borne (record { below = m.below; distinct = m.distinct }) h legal
