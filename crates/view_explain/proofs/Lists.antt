-- What a step leaves of channels and triples, beside its operation.
use Rattle.std.proofs.Common.{◌≡◌, ℕ, List, refl, Bool, true, false, cond, Option, Some, None}
use Rattle.aps_model.specs.declared.merit.Contender.{Contender}
use Rattle.aps_model.specs.declared.merit.PartFacts.{PartFacts}
use Rattle.aps_model.specs.declared.program.Op.{Op}
use Rattle.aps_model.specs.declared.state.State.{State}
use Rattle.aps_model.specs.declared.state.State.TheVariants.{Ready, Running, Sleeping, Sending, Receiving, Replying, Gone}
use Rattle.aps_model.specs.Flag.{with_flag}
use Rattle.aps_model.specs.Operation.{go_on, is_slice_over, with_stamped}
use Rattle.aps_model.specs.Scenario.{Scenario, thread_row}
use Rattle.aps_model.specs.SchedulerState.{SchedulerState, thread_at, with_state}
use Rattle.aps_model.specs.Step.{chosen, enter_next, give_back}
use Rattle.laws_runs.proofs.ThreadFacts.{go_on_by}
use Rattle.view_explain.specs.Ties.{ties_of}

pub on_lists : (scenario : Scenario) (s : SchedulerState) (y now : ℕ) → ties_of (go_on scenario s y now) ≡ ties_of s
on_lists scenario s y now = go_on_by scenario s y now (λ u. ties_of u ≡ ties_of s) (λ t e o. refl) (λ t u e o p l. refl)

pub entered_lists : (scenario : Scenario) (s : SchedulerState) (x now : ℕ) (op : Op) (st : State) → ties_of (enter_next scenario s x now op st) ≡ ties_of s
entered_lists scenario s x now op (Running c) = refl
entered_lists scenario s x now op Ready = refl
entered_lists scenario s x now op (Sleeping until) = refl
entered_lists scenario s x now op (Sending d) = refl
entered_lists scenario s x now op (Receiving d) = refl
entered_lists scenario s x now op (Replying y) = refl
entered_lists scenario s x now op Gone = refl

pub given_lists : (scenario : Scenario) (s : SchedulerState) (x : ℕ) (st : State) → ties_of (give_back scenario s x st) ≡ ties_of s
given_lists scenario s x (Running c) = by_slice (is_slice_over s.shape (thread_row scenario x).policy (thread_at s x).since)
  where
    by_slice : (over : Bool) → ties_of (cond over (with_stamped s x (record (thread_at s x) { state = Ready })) (with_state s x Ready)) ≡ ties_of s
    by_slice true = refl
    by_slice false = refl
given_lists scenario s x Ready = refl
given_lists scenario s x (Sleeping until) = refl
given_lists scenario s x (Sending d) = refl
given_lists scenario s x (Receiving d) = refl
given_lists scenario s x (Replying y) = refl
given_lists scenario s x Gone = refl

pub chosen_lists : (s : SchedulerState) (ps : List PartFacts) (c : ℕ) (best : Option Contender) → ties_of (chosen s ps c best) ≡ ties_of s
chosen_lists s ps c None = refl
chosen_lists s ps c (Some b) = refl

pub flagged_lists : (s : SchedulerState) (now : ℕ) (o : Option ℕ) → ties_of (with_flag s now o) ≡ ties_of s
flagged_lists s now None = refl
flagged_lists s now (Some d) = refl
