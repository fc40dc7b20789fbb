-- Who waits at a channel and who serves whom, by counts, so that one equation says that a thread stands there exactly where its state
-- says so, and at most once.
use Rattle.std.specs.Prelude.{◌≡◌, ◌⊎◌, ℕ, ◌+◌, List, [], ◌∷◌, Bool, true, false, nat_eq, ◌&&◌, None, length}
use Rattle.aps_model.specs.declared.state.State.{State}
use Rattle.aps_model.specs.declared.state.State.TheVariants.{Ready, Running, Sleeping, Sending, Receiving, Replying, Gone}
use Rattle.aps_model.specs.Inherit.{client_of, IsMade}
use Rattle.aps_model.specs.Scenario.{Scenario}
use Rattle.aps_model.specs.SchedulerState.{ChannelNow, Message, SchedulerState, Triple, channel_at, thread_at}

abbrev pub one_if : Bool → ℕ
one_if true = 1
one_if false = 0

-- how often the thread stands among these
abbrev pub times : ℕ → List ℕ → ℕ
times x [] = 0
times x (y ∷ ys) = one_if (nat_eq y x) + times x ys

-- how many of these messages it sent
abbrev pub times_sent : ℕ → List Message → ℕ
times_sent x [] = 0
times_sent x (m ∷ ms) = one_if (nat_eq m.sender x) + times_sent x ms

-- how many of these pairs are these two
abbrev pub times_paired : ℕ → ℕ → List Triple → ℕ
times_paired server client [] = 0
times_paired server client (pair ∷ older) =
    one_if (nat_eq pair.server server && nat_eq pair.client client) + times_paired server client older

abbrev pub is_sending : ℕ → State → ℕ
is_sending d (Sending c) = one_if (nat_eq c d)
is_sending d Ready = 0
is_sending d (Running c) = 0
is_sending d (Sleeping until) = 0
is_sending d (Receiving c) = 0
is_sending d (Replying x) = 0
is_sending d Gone = 0

abbrev pub is_receiving : ℕ → State → ℕ
is_receiving d (Receiving c) = one_if (nat_eq c d)
is_receiving d Ready = 0
is_receiving d (Running c) = 0
is_receiving d (Sleeping until) = 0
is_receiving d (Sending c) = 0
is_receiving d (Replying x) = 0
is_receiving d Gone = 0

abbrev pub is_replying : ℕ → State → ℕ
is_replying d (Replying x) = one_if (nat_eq x d)
is_replying d Ready = 0
is_replying d (Running c) = 0
is_replying d (Sleeping until) = 0
is_replying d (Sending c) = 0
is_replying d (Receiving x) = 0
is_replying d Gone = 0

-- a thread in this state stands where the state says, and nowhere else
pub record IsPlaced (st : State) (channels : ℕ → ChannelNow) (pairs : List Triple) (y : ℕ) : Type 0 where
  pub sends : (d : ℕ) → times_sent y (channels d).messages ≡ is_sending d st
  pub receives : (d : ℕ) → times y (channels d).receivers ≡ is_receiving d st
  pub waits : (z : ℕ) → times_paired z y pairs ≡ is_replying z st
  pub receiver_free : (d : ℕ) → st ≡ Receiving d → client_of pairs y ≡ None
  pub gone_free : st ≡ Gone → client_of pairs y ≡ None

-- the same of every thread, and the pairs lead to older ones
pub record IsWaiting (states : ℕ → State) (channels : ℕ → ChannelNow) (pairs : List Triple) : Type 0 where
  pub at : (y : ℕ) → IsPlaced (states y) channels pairs y
  pub made : IsMade pairs
  pub either : (d : ℕ) → ((channels d).messages ≡ []) ⊎ ((channels d).receivers ≡ [])

abbrev pub state_at : SchedulerState → ℕ → State
state_at s x = (thread_at s x).state

-- every thread stands where its state says, and the channels are the scenario's
pub record IsPlain (scenario : Scenario) (s : SchedulerState) : Type 0 where
  pub waiting : IsWaiting (state_at s) (channel_at s) s.triples
  pub channels : length s.channels ≡ length scenario.channels
