-- What a thread does, as its life shows it.
use Rattle.std.specs.Prelude.{ℕ, Bool, true, false, nat_eq, ◌&&◌, not, if◌then◌else◌, Option, Some, None}
use Rattle.aps_model.specs.declared.state.Pick.{Pick}
use Rattle.aps_model.specs.declared.state.State.{State}
use Rattle.aps_model.specs.declared.state.State.TheVariants as state
use Rattle.aps_model.specs.SchedulerState.{SchedulerState, cpu_at, thread_at}
use Rattle.view_lives.specs.declared.doing.Doing.{Doing}
use Rattle.view_lives.specs.declared.doing.Doing.TheVariants.{Ready, Running, Sleeping, Sending, Receiving, Replying, Gone}

-- who runs on a processor is billed and marked as the pick that it keeps; a processor that keeps none bills row 0
abbrev pub running_by : ℕ → Option Pick → Doing
running_by c (Some pick) = Running c pick.partition pick.critical
running_by c None = Running c 0 false

abbrev pub doing_by : SchedulerState → State → Doing
doing_by s state.Ready = Ready
doing_by s (state.Running c) = running_by c (cpu_at s c).running
doing_by s (state.Sleeping until) = Sleeping
doing_by s (state.Sending c) = Sending c
doing_by s (state.Receiving c) = Receiving c
doing_by s (state.Replying y) = Replying y
doing_by s state.Gone = Gone

-- what thread x does in this state
abbrev pub doing_of : SchedulerState → ℕ → Doing
doing_of s x = doing_by s (thread_at s x).state

-- both are the same
abbrev pub is_same_doing : Doing → Doing → Bool
is_same_doing Ready Ready = true
is_same_doing (Running c p m) (Running d q n) = nat_eq c d && nat_eq p q && (if m then n else not n)
is_same_doing Sleeping Sleeping = true
is_same_doing (Sending c) (Sending d) = nat_eq c d
is_same_doing (Receiving c) (Receiving d) = nat_eq c d
is_same_doing (Replying x) (Replying y) = nat_eq x y
is_same_doing Gone Gone = true
is_same_doing doing other = false
