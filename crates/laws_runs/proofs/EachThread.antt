-- A property of each thread, where one is set or goes on.
use Rattle.std.proofs.Common.{◌≡◌, ◌≢◌, ℕ, ◌+◌, ◌<◌, List, length, refl, sym, subst, Some, slice_index_or, slice_set, inl, inr, ◌⊎◌, length-set}
use Rattle.std.specs.Bool.{⊤}
use Rattle.std.proofs.lemmas.Bool.{cases_eq}
use Rattle.aps_model.specs.declared.program.Op.{Op}
use Rattle.aps_model.specs.declared.program.Op.TheVariants.{Run, Forever, Sleep, Yield, Send, Receive, Reply, Join, Priority, CriticalOn, CriticalOff, Repeat, Exit}
use Rattle.aps_model.specs.declared.shape.Shape.{Shape}
use Rattle.aps_model.specs.declared.state.State.{State}
use Rattle.aps_model.specs.declared.state.State.TheVariants.{Ready, Running, Sleeping, Sending, Receiving, Replying, Gone}
use Rattle.aps_model.specs.declared.state.ThreadNow.{ThreadNow}
use Rattle.laws_runs.specs.ThreadFits.{Each, IsAwake}
use Rattle.laws_runs.specs.Waits.{state_at}
use Rattle.laws_runs.proofs.ThreadFacts.{set_same, set_other}
use Rattle.aps_model.specs.Operation.{duration, go_on, state_in, with_ready, with_stamped}
use Rattle.aps_model.specs.Scenario.{Scenario, op_at}
use Rattle.aps_model.specs.SchedulerState.{SchedulerState, no_thread, thread_at, with_thread}

pub each_set : (P : ℕ → ThreadNow → Type 0) (ts : List ThreadNow) (z : ℕ) (t : ThreadNow) → Each P ts → (z < length ts → P z t) → Each P (slice_set ts z t)
each_set P ts z t m here y below =
    let inside : y < length ts = subst (λ n. y < n) (length-set ts z t) below in
    elim (cases_eq y z) [
      | inl e ↦
          let at : z < length ts = subst (λ k. k < length ts) e inside in
          subst (λ k. P k (slice_index_or (slice_set ts z t) k no_thread)) (sym e) (subst (P z) (sym (set_same ts z t at)) (here at))
      | inr ne ↦ subst (P y) (sym (set_other ts z y t ne)) (m y inside)
    ]

-- the property of all beside x, where x is set
pub each_beside : (Q : ℕ → ThreadNow → Type 0) (ts : List ThreadNow) (x : ℕ) (t : ThreadNow) → Each (λ y u. y ≢ x → Q y u) ts → Each (λ y u. y ≢ x → Q y u) (slice_set ts x t)
each_beside Q ts x t m = each_set (λ y u. y ≢ x → Q y u) ts x t m (λ at ne. absurd (ne refl))

-- the property of all, from that of all beside x and that of x
pub each_whole : (Q : ℕ → ThreadNow → Type 0) (ts : List ThreadNow) (x : ℕ) → Each (λ y u. y ≢ x → Q y u) ts → Q x (slice_index_or ts x no_thread) → Each Q ts
each_whole Q ts x m here y below = elim (cases_eq y x) [
  | inl e ↦ subst (λ k. Q k (slice_index_or ts k no_thread)) (sym e) here
  | inr ne ↦ m y below ne
]

-- a thread that waits for what may set it going
abbrev pub MayGoOn : State → Type 0
MayGoOn Ready = ⊥
MayGoOn (Running c) = ⊥
MayGoOn (Sleeping until) = ⊤
MayGoOn (Sending d) = ⊥
MayGoOn (Receiving d) = ⊤
MayGoOn (Replying x) = ⊤
MayGoOn Gone = ⊥

-- a thread that goes on is ready with a new stamp, or sleeps; with all that is known of it
pub go_on_exact : (scenario : Scenario) (s : SchedulerState) (x now : ℕ) (P : SchedulerState → Type 0)
    → (IsAwake (op_at scenario x ((thread_at s x).place + 1)) → P (with_stamped s x (record (thread_at s x) { place = (thread_at s x).place + 1; left = duration s.shape (op_at scenario x ((thread_at s x).place + 1)); state = Ready })))
    → ((ns : ℕ) → op_at scenario x ((thread_at s x).place + 1) ≡ Sleep ns → P (with_thread s x (record (thread_at s x) { place = (thread_at s x).place + 1; left = Some 0; state = Sleeping (now + ns) })))
    → P (go_on scenario s x now)
go_on_exact scenario s x now P ready sleeps = by_op (op_at scenario x ((thread_at s x).place + 1)) ready sleeps
  where
    by_op : (op : Op)
        → (IsAwake op → P (with_stamped s x (record (thread_at s x) { place = (thread_at s x).place + 1; left = duration s.shape op; state = Ready })))
        → ((ns : ℕ) → op ≡ Sleep ns → P (with_thread s x (record (thread_at s x) { place = (thread_at s x).place + 1; left = Some 0; state = Sleeping (now + ns) })))
        → P (with_ready s x (record (thread_at s x) { place = (thread_at s x).place + 1; left = duration s.shape op; state = state_in op now Ready }) (state_in op now Ready))
    by_op (Sleep ns) r w = w ns refl
    by_op (Run ns) r w = r tt
    by_op Forever r w = r tt
    by_op Yield r w = r tt
    by_op (Send d) r w = r tt
    by_op (Receive d) r w = r tt
    by_op Reply r w = r tt
    by_op (Join name) r w = r tt
    by_op (Priority n) r w = r tt
    by_op CriticalOn r w = r tt
    by_op CriticalOff r w = r tt
    by_op Repeat r w = r tt
    by_op Exit r w = r tt

-- what a property of one thread has to bear where it goes on
pub record GoesOn (scenario : Scenario) (now : ℕ) (P : ℕ → ThreadNow → Type 0) : Type 0 where
  pub readies : (shape : Shape) (y n : ℕ) (t : ThreadNow) → shape.call_ns ≡ scenario.shape.call_ns → P y t → MayGoOn t.state → IsAwake (op_at scenario y (t.place + 1))
      → P y (record t { place = t.place + 1; left = duration shape (op_at scenario y (t.place + 1)); state = Ready; stamp = n; since = 0 })
  pub sleeps : (y ns : ℕ) (t : ThreadNow) → P y t → MayGoOn t.state → op_at scenario y (t.place + 1) ≡ Sleep ns
      → P y (record t { place = t.place + 1; left = Some 0; state = Sleeping (now + ns) })

pub go_on_each : (scenario : Scenario) (now : ℕ) (P : ℕ → ThreadNow → Type 0) → GoesOn scenario now P → (s : SchedulerState) (y : ℕ) → s.shape.call_ns ≡ scenario.shape.call_ns
    → y < length s.threads → MayGoOn (state_at s y) → Each P s.threads → Each P (go_on scenario s y now).threads
go_on_each scenario now P g s y call below may m =
    go_on_exact scenario s y now (λ u. Each P u.threads)
    (λ awake. each_set P s.threads y _ m (λ at. g.readies s.shape y s.stamps (thread_at s y) call (m y below) may awake))
    (λ ns is. each_set P s.threads y _ m (λ at. g.sleeps y ns (thread_at s y) (m y below) may is))

pub go_on_count : (scenario : Scenario) (s : SchedulerState) (y now : ℕ) → length (go_on scenario s y now).threads ≡ length s.threads
go_on_count scenario s y now =
    go_on_exact scenario s y now (λ u. length u.threads ≡ length s.threads) (λ awake. length-set s.threads y _) (λ ns is. length-set s.threads y _)

pub go_on_shape : (scenario : Scenario) (s : SchedulerState) (y now : ℕ) → (go_on scenario s y now).shape ≡ s.shape
go_on_shape scenario s y now = go_on_exact scenario s y now (λ u. u.shape ≡ s.shape) (λ awake. refl) (λ ns is. refl)

-- a sleep, or an operation in which a thread is as it is
pub sleep_or_awake : (op : Op) → ((ns : ℕ) × (op ≡ Sleep ns)) ⊎ IsAwake op
sleep_or_awake (Sleep ns) = inl (ns, refl)
sleep_or_awake (Run ns) = inr tt
sleep_or_awake Forever = inr tt
sleep_or_awake Yield = inr tt
sleep_or_awake (Send d) = inr tt
sleep_or_awake (Receive d) = inr tt
sleep_or_awake Reply = inr tt
sleep_or_awake (Join name) = inr tt
sleep_or_awake (Priority n) = inr tt
sleep_or_awake CriticalOn = inr tt
sleep_or_awake CriticalOff = inr tt
sleep_or_awake Repeat = inr tt
sleep_or_awake Exit = inr tt

pub awake_in : (op : Op) (now : ℕ) (st : State) → IsAwake op → state_in op now st ≡ st
awake_in (Sleep ns) now st a = absurd a
awake_in (Run ns) now st a = refl
awake_in Forever now st a = refl
awake_in Yield now st a = refl
awake_in (Send d) now st a = refl
awake_in (Receive d) now st a = refl
awake_in Reply now st a = refl
awake_in (Join name) now st a = refl
awake_in (Priority n) now st a = refl
awake_in CriticalOn now st a = refl
awake_in CriticalOff now st a = refl
awake_in Repeat now st a = refl
awake_in Exit now st a = refl
