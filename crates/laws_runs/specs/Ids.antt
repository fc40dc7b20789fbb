-- Each number by which a state names something names one that exists, and each priority has its range.
use Rattle.std.specs.Prelude.{◌≡◌, ℕ, ◌<◌, length, All, Some}
use Rattle.std.specs.Bool.{⊤}
use Rattle.aps_model.specs.declared.state.Facts.{Facts}
use Rattle.aps_model.specs.declared.state.Pick.{Pick}
use Rattle.aps_model.specs.declared.state.State.{State}
use Rattle.aps_model.specs.declared.state.State.TheVariants.{Ready, Running, Sleeping, Sending, Receiving, Replying, Gone}
use Rattle.laws_runs.specs.Waits.{state_at}
use Rattle.aps_model.specs.Inherit.{facts_of}
use Rattle.aps_model.specs.Program.{IsPriority}
use Rattle.aps_model.specs.Scenario.{Scenario}
use Rattle.aps_model.specs.SchedulerState.{Message, SchedulerState, Triple, channel_at, cpu_at}

-- the state names a processor, a channel or a thread that exists
abbrev pub NamesKnown : Scenario → State → Type 0
NamesKnown scenario Ready = ⊤
NamesKnown scenario (Running c) = c < scenario.shape.cpus
NamesKnown scenario (Sleeping until) = ⊤
NamesKnown scenario (Sending d) = d < length scenario.channels
NamesKnown scenario (Receiving d) = d < length scenario.channels
NamesKnown scenario (Replying y) = y < length scenario.threads
NamesKnown scenario Gone = ⊤

-- a message of a thread that exists, with a priority
pub record IsMessageFit (threads : ℕ) (m : Message) : Type 0 where
  pub sender : m.sender < threads
  pub priority : IsPriority m.priority

pub record IsTripleFit (threads channels : ℕ) (t : Triple) : Type 0 where
  pub server : t.server < threads
  pub client : t.client < threads
  pub channel : t.channel < channels

-- a row and a priority
pub record AreFactsFit (rows : ℕ) (facts : Facts) : Type 0 where
  pub partition : facts.partition < rows
  pub priority : IsPriority facts.priority

pub record IsPickFit (threads rows : ℕ) (p : Pick) : Type 0 where
  pub thread : p.thread < threads
  pub partition : p.partition < rows

pub record IsInRange (scenario : Scenario) (s : SchedulerState) : Type 0 where
  pub states : (x : ℕ) → NamesKnown scenario (state_at s x)
  pub messages : (d : ℕ) → All (IsMessageFit (length scenario.threads)) (channel_at s d).messages
  pub receivers : (d : ℕ) → All (λ y. y < length scenario.threads) (channel_at s d).receivers
  pub triples : All (IsTripleFit (length scenario.threads) (length scenario.channels)) s.triples
  pub inherited : (x : ℕ) → x < length scenario.threads → AreFactsFit (length s.rows) (facts_of s x)
  pub kept : (c : ℕ) (p : Pick) → (cpu_at s c).running ≡ Some p → IsPickFit (length scenario.threads) (length s.rows) p
