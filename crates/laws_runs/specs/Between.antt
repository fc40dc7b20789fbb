-- The states that a step goes through, and what holds in each.
use Rattle.std.specs.Prelude.{◌≡◌, ◌≢◌, ℕ, ◌+◌, ◌<◌, ◌≤◌, List, length, All, Some}
use Rattle.aps_model.specs.declared.entry.Entry.{Entry}
use Rattle.aps_model.specs.declared.state.Pick.{Pick}
use Rattle.aps_model.specs.declared.state.State.TheVariants.{Ready, Running}
use Rattle.laws_runs.specs.Ids.{AreFactsFit}
use Rattle.laws_runs.specs.Sizes.{IsSameSizes}
use Rattle.laws_runs.specs.Stamps.{IsStamped}
use Rattle.laws_runs.specs.ThreadFits.{Each, IsThreadFit}
use Rattle.laws_runs.specs.Waits.{IsWaiting, state_at}
use Rattle.aps_model.specs.Bill.{bill_of}
use Rattle.aps_model.specs.Due.{due, last_end}
use Rattle.aps_model.specs.Inherit.{facts_of}
use Rattle.aps_model.specs.Program.{IsPriority}
use Rattle.aps_model.specs.Scenario.{Scenario}
use Rattle.aps_model.specs.SchedulerState.{Message, SchedulerState, channel_at, cpu_at, thread_at}
use Rattle.aps_model.specs.Step.{begun, billed, settled, tested}

-- the entry of the step of processor c, before its operation and its pick
abbrev pub bill_in : SchedulerState → List Entry → ℕ → Entry
bill_in s h c = bill_of c (last_end h c) (due s h c) (cpu_at s c).running

-- after the work of the tick
abbrev pub after_tick : Scenario → SchedulerState → List Entry → ℕ → SchedulerState
after_tick scenario s h c = begun scenario s h c (due s h c)

-- after the bill and the test of bankruptcy
abbrev pub after_bill : Scenario → SchedulerState → List Entry → ℕ → SchedulerState
after_bill scenario s h c =
    (tested (billed (after_tick scenario s h c) (bill_in s h c) (cpu_at s c).running) h (bill_in s h c)).state

-- before the pick
abbrev pub before_pick : Scenario → SchedulerState → List Entry → ℕ → SchedulerState
before_pick scenario s h c = (settled scenario (after_bill scenario s h c) (due s h c) (cpu_at s c).running).state

-- what holds in each of them, at a moment
pub record IsWellFormed (scenario : Scenario) (now : ℕ) (s : SchedulerState) : Type 0 where
  pub waiting : IsWaiting (state_at s) (channel_at s) s.triples
  pub threads : length s.threads ≡ length scenario.threads
  pub cpus : length s.cpus ≡ scenario.shape.cpus
  pub channels : length s.channels ≡ length scenario.channels
  pub sizes : IsSameSizes scenario.shape s.shape
  pub fit : Each (IsThreadFit scenario (length s.rows)) s.threads
  pub since : Each (λ x t. t.since ≤ now) s.threads
  pub stamped : IsStamped s.threads s.stamps
  pub messages : (d : ℕ) → All (λ (m : Message). IsPriority m.priority) (channel_at s d).messages
  pub inherited : (x : ℕ) → x < length s.threads → AreFactsFit (length s.rows) (facts_of s x)

-- what holds in the step of processor c that comes next: its thread runs until its operation is over, it is billed no
-- more than is left of that, and before the pick nobody runs there and each ready thread has time left
pub record IsBetween (scenario : Scenario) (s : SchedulerState) (h : List Entry) (c : ℕ) : Type 0 where
  pub ticked : IsWellFormed scenario (due s h c) (after_tick scenario s h c)
  pub billed' : IsWellFormed scenario (due s h c) (after_bill scenario s h c)
  pub settled' : IsWellFormed scenario (due s h c) (before_pick scenario s h c)
  pub runs_ticked : (p : Pick) → (cpu_at s c).running ≡ Some p → state_at (after_tick scenario s h c) p.thread ≡ Running c
  pub runs_billed : (p : Pick) → (cpu_at s c).running ≡ Some p → state_at (after_bill scenario s h c) p.thread ≡ Running c
  pub exact : (p : Pick) (n : ℕ) → (cpu_at s c).running ≡ Some p → (thread_at (after_tick scenario s h c) p.thread).left ≡ Some n
      → due s h c ≤ last_end h c + n
  pub vacant : (x : ℕ) → state_at (before_pick scenario s h c) x ≢ Running c
  pub ready : Each (λ x t. t.state ≡ Ready → t.left ≢ Some 0) (before_pick scenario s h c).threads
  pub stamps_ticked : (after_tick scenario s h c).stamps ≤ s.stamps + length s.threads
  pub stamps_billed : (after_bill scenario s h c).stamps ≤ s.stamps + length s.threads
  pub stamps_settled : (before_pick scenario s h c).stamps ≤ s.stamps + (length s.threads + 2)
