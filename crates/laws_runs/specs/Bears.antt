-- What happens to threads between two picks of a processor, as moves. A property that bears each of them is kept by the step.
use Rattle.std.specs.Prelude.{◌≡◌, ℕ, ◌<◌, List, [], ◌∷◌, length, Some, None}
use Rattle.std.specs.Bool.{⊤}
use Rattle.aps_model.specs.declared.program.Op.TheVariants.{Send, Receive}
use Rattle.aps_model.specs.declared.state.State.{State}
use Rattle.aps_model.specs.declared.state.State.TheVariants.{Ready, Running, Sleeping, Sending, Receiving, Replying, Gone}
use Rattle.aps_model.specs.declared.state.ThreadNow.{ThreadNow}
use Rattle.laws_runs.specs.Waits.{IsWaiting, state_at}
use Rattle.aps_model.specs.Inherit.{client_of}
use Rattle.aps_model.specs.Messages.{first_message, received_message, replied, sent}
use Rattle.aps_model.specs.Operation.{go_on, with_stamped}
use Rattle.aps_model.specs.Scenario.{Scenario, op_at}
use Rattle.aps_model.specs.SchedulerState.{Message, SchedulerState, channel_at, thread_at, with_state, with_thread}

-- the state of a thread that c runs, or that c gave back or put to sleep
abbrev pub IsLoose : ℕ → State → Type 0
IsLoose c Ready = ⊤
IsLoose c (Running d) = d ≡ c
IsLoose c (Sleeping until) = ⊤
IsLoose c (Sending d) = ⊥
IsLoose c (Receiving d) = ⊥
IsLoose c (Replying x) = ⊥
IsLoose c Gone = ⊥

-- the state of a thread that c runs, or that c gave back
abbrev pub IsUp : ℕ → State → Type 0
IsUp c Ready = ⊤
IsUp c (Running d) = d ≡ c
IsUp c (Sleeping until) = ⊥
IsUp c (Sending d) = ⊥
IsUp c (Receiving d) = ⊥
IsUp c (Replying x) = ⊥
IsUp c Gone = ⊥

-- programs name only channels that exist
pub record NamesChannels (scenario : Scenario) : Type 0 where
  pub sends : (x place d : ℕ) → op_at scenario x place ≡ Send d → d < length scenario.channels
  pub receives : (x place d : ℕ) → op_at scenario x place ≡ Receive d → d < length scenario.channels

-- the property is kept by all that may happen to threads where processor c runs thread x
pub record Bears (scenario : Scenario) (now c x : ℕ) (M : SchedulerState → Type 0) : Type 0 where
  pub waiting : (s : SchedulerState) → M s → IsWaiting (state_at s) (channel_at s) s.triples
  pub woken : (s : SchedulerState) (y u : ℕ) → M s → state_at s y ≡ Sleeping u → M (go_on scenario s y now)
  pub put : (s : SchedulerState) (t : ThreadNow) → M s → state_at s x ≡ Running c → IsLoose c t.state
      → t.stamp ≡ (thread_at s x).stamp → M (with_thread s x t)
  pub stamped : (s : SchedulerState) (t : ThreadNow) → M s → state_at s x ≡ Running c → IsUp c t.state → M (with_stamped s x t)
  pub send_waits : (s : SchedulerState) (d : ℕ) → d < length scenario.channels → M s → state_at s x ≡ Running c
      → (channel_at s d).receivers ≡ [] → M (sent scenario s x d now []).state
  pub send_meets : (s : SchedulerState) (d r : ℕ) (rest : List ℕ) → d < length scenario.channels → M s → state_at s x ≡ Running c
      → (channel_at s d).receivers ≡ r ∷ rest → M (sent scenario s x d now (r ∷ rest)).state
  pub receive_waits : (s : SchedulerState) (d : ℕ) → d < length scenario.channels → M s → state_at s x ≡ Running c
      → client_of s.triples x ≡ None → first_message (channel_at s d).messages ≡ None → M (received_message s x d None).state
  pub receive_takes : (s : SchedulerState) (d : ℕ) (m : Message) → d < length scenario.channels → M s → state_at s x ≡ Running c
      → client_of s.triples x ≡ None → first_message (channel_at s d).messages ≡ Some m → M (received_message s x d (Some m)).state
  pub replies : (s : SchedulerState) (y : ℕ) → M s → state_at s x ≡ Running c → client_of s.triples x ≡ Some y
      → M (replied scenario s x now (Some y)).state
  pub leaves : (s : SchedulerState) → M s → state_at s x ≡ Running c → client_of s.triples x ≡ None → M (with_state s x Gone)
