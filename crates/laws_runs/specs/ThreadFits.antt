-- What holds of each thread by itself: its place, what is left of its operation, when it wakes, and its own values.
use Rattle.std.specs.Prelude.{◌≡◌, ◌≢◌, ℕ, ◌*◌, ◌/◌, ◌<◌, ◌≤◌, List, length, Option, Some, None, slice_index_or}
use Rattle.std.specs.Bool.{⊤}
use Rattle.aps_model.specs.declared.program.Op.{Op}
use Rattle.aps_model.specs.declared.program.Op.TheVariants.{Forever, Sleep, Send, Receive, Exit}
use Rattle.aps_model.specs.declared.state.State.{State}
use Rattle.aps_model.specs.declared.state.State.TheVariants.{Ready, Running, Sleeping, Sending, Receiving, Replying, Gone}
use Rattle.aps_model.specs.declared.state.ThreadNow.{ThreadNow}
use Rattle.aps_model.specs.declared.entry.Entry.{Entry}
use Rattle.laws_runs.specs.Moments.{moment}
use Rattle.aps_model.specs.Due.{last_end, last_to}
use Rattle.aps_model.specs.Program.{IsPriority}
use Rattle.aps_model.specs.Scenario.{Scenario, op_at, thread_row}
use Rattle.aps_model.specs.SchedulerState.{no_thread}
use Rattle.aps_model.specs.Shape.{horizon}
use Rattle.aps_model.specs.Limits.{last_moment}

-- P holds of each of these threads, under its number
abbrev pub Each : (ℕ → ThreadNow → Type 0) → List ThreadNow → Type 0
Each P threads = (x : ℕ) → x < length threads → P x (slice_index_or threads x no_thread)

-- the operation is no sleep
abbrev pub IsAwake : Op → Type 0
IsAwake (Sleep ns) = ⊥
IsAwake op = ⊤

-- the operation at which a thread in this state stands
abbrev pub StandsAt : State → Op → Type 0
StandsAt Ready op = IsAwake op
StandsAt (Running c) op = IsAwake op
StandsAt (Sleeping until) op = (ns : ℕ) × (op ≡ Sleep ns)
StandsAt (Sending d) op = op ≡ Send d
StandsAt (Receiving d) op = op ≡ Receive d
StandsAt (Replying y) op = (d : ℕ) × (op ≡ Send d)
StandsAt Gone op = op ≡ Exit

-- thread x stands at an operation of its program that fits its state, with nothing left exactly where that has no
-- end; its numbers are small, and its own partition is one of so many rows
pub record IsThreadFit (scenario : Scenario) (rows x : ℕ) (t : ThreadNow) : Type 0 where
  pub place : t.place < length (thread_row scenario x).program
  pub stands : StandsAt t.state (op_at scenario x t.place)
  pub endless : t.left ≡ None → op_at scenario x t.place ≡ Forever
  pub forever : op_at scenario x t.place ≡ Forever → t.left ≡ None
  pub left_small : (n : ℕ) → t.left ≡ Some n → n ≤ last_moment
  pub wakes_soon : (u : ℕ) → t.state ≡ Sleeping u → u ≤ 20000000000000
  pub priority : IsPriority t.own.priority
  pub partition : t.own.partition < rows

-- time is left to a ready thread, and to a running one whose processor steps again; the time that it ran since its
-- stamp is one that has passed
pub record IsThreadTimed (scenario : Scenario) (reboot : Option ℕ) (h : List Entry) (t : ThreadNow) : Type 0 where
  pub ready : t.state ≡ Ready → t.left ≢ Some 0
  pub running : (c : ℕ) → t.state ≡ Running c → last_to h c ≢ Some (horizon scenario.shape) → reboot ≡ None → t.left ≢ Some 0
  pub since : t.since ≤ moment h
  pub since_running : (c : ℕ) → t.state ≡ Running c → t.since ≤ last_end h c

-- below the horizon a sleeper's moment is later than the begin of the tick
abbrev pub SleepsOn : Scenario → List Entry → ThreadNow → Type 0
SleepsOn scenario h t =
    moment h < horizon scenario.shape → (u : ℕ) → t.state ≡ Sleeping u → moment h / scenario.shape.tick * scenario.shape.tick < u
