-- The sleepers of the scheduler state that wake are those of its row that are due.
use Rattle.std.proofs.Common.{◌≡◌, ℕ, length, get_or, refl, ◌∙◌, ap, Option, None}
use Rattle.std.proofs.lemmas.List.{length-map}
use Rattle.std.proofs.Math.ListN.{get_or-map}
use Rattle.aps_model.specs.declared.state.State.{State}
use Rattle.aps_model.specs.declared.state.State.TheVariants.{Ready, Running, Sleeping, Sending, Receiving, Replying, Gone}
use Rattle.aps_model.specs.declared.state.ThreadNow.{ThreadNow}
use Rattle.aps_model.specs.SchedulerState.{SchedulerState, no_thread, thread_at}
use Rattle.aps_model.specs.TickWork.{waking, wakes_at}
use Rattle.aps_timer.specs.Sleepers.{all_due, due_by}
use Rattle.aps_timer.specs.Waking.{asleep_of, sleeps_until}
use Rattle.aps_timer.proofs.Turns.{gathered, gathered_same}

due_wakes : (now x : ℕ) (state : State) → due_by now x (sleeps_until state) ≡ wakes_at now x state
due_wakes now x Ready = refl
due_wakes now x (Running c) = refl
due_wakes now x (Sleeping until) = refl
due_wakes now x (Sending c) = refl
due_wakes now x (Receiving c) = refl
due_wakes now x (Replying y) = refl
due_wakes now x Gone = refl

pub wakes : (s : SchedulerState) (now : ℕ) → all_due (asleep_of s.threads) now ≡ waking s now
wakes s now =
    let of : ThreadNow → Option ℕ = λ thread. sleeps_until thread.state in
    let f : ℕ → Option (ℕ × ℕ) = λ x. due_by now x (get_or (asleep_of s.threads) x None) in
    let g : ℕ → Option (ℕ × ℕ) = λ x. wakes_at now x (thread_at s x).state in
    ap (gathered f) (length-map s.threads of)
    ∙ gathered_same f g (length s.threads) (λ x.
    ap (due_by now x) (get_or-map of s.threads x no_thread) ∙ due_wakes now x (thread_at s x).state)
