-- What an update of one thread leaves.
use Rattle.std.proofs.Common.{◌≡◌, ◌≢◌, ℕ, ◌+◌, ◌<◌, ◌≤◌, List, length, refl, sym, ap, subst, slice_index_or, slice_set, arith, inl, inr}
use Rattle.std.proofs.lemmas.List.{get_or-set_same, get_or-set_other, get_or_past}
use Rattle.std.proofs.lemmas.Bool.{cases_lt}
use Rattle.aps_model.specs.declared.program.Op.{Op}
use Rattle.aps_model.specs.declared.program.Op.TheVariants.{Run, Forever, Sleep, Yield, Send, Receive, Reply, Join, Priority, CriticalOn, CriticalOff, Repeat, Exit}
use Rattle.aps_model.specs.declared.state.ThreadNow.{ThreadNow}
use Rattle.aps_model.specs.declared.state.State.{State}
use Rattle.aps_model.specs.declared.state.State.TheVariants.{Ready, Running, Sleeping, Gone}
use Rattle.laws_runs.specs.Waits.{state_at}
use Rattle.aps_model.specs.Operation.{enter, go_on, state_in, with_ready, with_stamped}
use Rattle.aps_model.specs.Scenario.{Scenario, op_at}
use Rattle.aps_model.specs.SchedulerState.{SchedulerState, no_thread, thread_at, with_thread}

-- a thread that is not gone is one of the threads
pub within : (threads : List ThreadNow) (x : ℕ) → ((slice_index_or threads x no_thread).state ≡ Gone → ⊥) → x < length threads
within threads x not_gone = elim (cases_lt x (length threads)) [
  | inl below ↦ below
  | inr past ↦ absurd (not_gone (ap (λ (t : ThreadNow). t.state) (get_or_past threads x no_thread past)))
]

pub set_same : (threads : List ThreadNow) (x : ℕ) (t : ThreadNow) → x < length threads → slice_index_or (slice_set threads x t) x no_thread ≡ t
set_same threads x t below = get_or-set_same threads x t no_thread below

pub set_other : (threads : List ThreadNow) (x y : ℕ) (t : ThreadNow) → y ≢ x → slice_index_or (slice_set threads x t) y no_thread ≡ slice_index_or threads y no_thread
set_other threads x y t ne = get_or-set_other threads x y t no_thread ne

pub running_within : (s : SchedulerState) (x c : ℕ) → state_at s x ≡ Running c → x < length s.threads
running_within s x c e = within s.threads x (λ g. cc)

-- a thread that goes on is ready with a new stamp, or sleeps with its old one
pub go_on_by : (scenario : Scenario) (s : SchedulerState) (x now : ℕ) (P : SchedulerState → Type 0)
    → ((t : ThreadNow) → t.state ≡ Ready → t.own ≡ (thread_at s x).own → P (with_stamped s x t))
    → ((t : ThreadNow) (u : ℕ) → t.state ≡ Sleeping u → t.own ≡ (thread_at s x).own → t.stamp ≡ (thread_at s x).stamp → now ≤ u → P (with_thread s x t))
    → P (go_on scenario s x now)
go_on_by scenario s x now P ready sleeps =
    by_op (op_at scenario x ((thread_at s x).place + 1)) (enter scenario s.shape x ((thread_at s x).place + 1) now Ready (thread_at s x)) refl refl refl
  where
    by_op : (op : Op) (t : ThreadNow) → t.state ≡ state_in op now Ready → t.own ≡ (thread_at s x).own → t.stamp ≡ (thread_at s x).stamp → P (with_ready s x t t.state)
    by_op (Sleep ns) t e o p = subst (λ (z : State). P (with_ready s x t z)) (sym e) (sleeps t (now + ns) e o p (omega arith))
    by_op (Run ns) t e o p = subst (λ (z : State). P (with_ready s x t z)) (sym e) (ready t e o)
    by_op Forever t e o p = subst (λ (z : State). P (with_ready s x t z)) (sym e) (ready t e o)
    by_op Yield t e o p = subst (λ (z : State). P (with_ready s x t z)) (sym e) (ready t e o)
    by_op (Send ch) t e o p = subst (λ (z : State). P (with_ready s x t z)) (sym e) (ready t e o)
    by_op (Receive ch) t e o p = subst (λ (z : State). P (with_ready s x t z)) (sym e) (ready t e o)
    by_op Reply t e o p = subst (λ (z : State). P (with_ready s x t z)) (sym e) (ready t e o)
    by_op (Join name) t e o p = subst (λ (z : State). P (with_ready s x t z)) (sym e) (ready t e o)
    by_op (Priority n) t e o p = subst (λ (z : State). P (with_ready s x t z)) (sym e) (ready t e o)
    by_op CriticalOn t e o p = subst (λ (z : State). P (with_ready s x t z)) (sym e) (ready t e o)
    by_op CriticalOff t e o p = subst (λ (z : State). P (with_ready s x t z)) (sym e) (ready t e o)
    by_op Repeat t e o p = subst (λ (z : State). P (with_ready s x t z)) (sym e) (ready t e o)
    by_op Exit t e o p = subst (λ (z : State). P (with_ready s x t z)) (sym e) (ready t e o)
