use Rattle.std.specs.Prelude.{◌≡◌, ◌≢◌, ℕ, ◌<◌, List, length, Option, Some, None, Bool, false, ◌⊎◌, ◌/◌, ◌++◌, [], ◌∷◌}
use Rattle.std.specs.Option.{option_map}
use Rattle.aps_model.specs.declared.state.State.TheVariants.{Running}
use Rattle.aps_model.specs.declared.state.ThreadNow.{ThreadNow}
use Rattle.aps_model.specs.declared.state.Pick.{Pick}
use Rattle.aps_model.specs.declared.entry.Entry.{Entry}
use Rattle.laws_runs.specs.Sizes.{IsSameSizes}
use Rattle.laws_runs.specs.Waits.{IsPlain, state_at}
use Rattle.aps_model.specs.Budget.{all_parts, part_at}
use Rattle.aps_model.specs.Due.{due, last_end}
use Rattle.aps_model.specs.Inherit.{facts_of}
use Rattle.aps_model.specs.Merit.{is_critical_pick}
use Rattle.aps_model.specs.Scenario.{Scenario}
use Rattle.aps_model.specs.SchedulerState.{SchedulerState, cpu_at, thread_at}
use Rattle.aps_model.specs.Shape.{horizon}

abbrev pub thread_kept : Option Pick → Option ℕ
thread_kept o = option_map (λ (p : Pick). p.thread) o

-- who runs on a processor is what the processor keeps
pub record AgreesOnRunning (s : SchedulerState) : Type 0 where
  pub runs : (d : ℕ) (p : Pick) → (cpu_at s d).running ≡ Some p → state_at s p.thread ≡ Running d
  pub kept : (y d : ℕ) → state_at s y ≡ Running d → thread_kept (cpu_at s d).running ≡ Some y

-- the same thread but for its own values
pub record IsAlike (t u : ThreadNow) : Type 0 where
  pub state : u.state ≡ t.state
  pub place : u.place ≡ t.place
  pub left : u.left ≡ t.left
  pub stamp : u.stamp ≡ t.stamp
  pub since : u.since ≡ t.since

abbrev pub partition_kept : Option Pick → Option ℕ
partition_kept o = option_map (λ (p : Pick). p.partition) o

abbrev pub mark_kept : Option Pick → Bool
mark_kept None = false
mark_kept (Some p) = p.critical

-- what one step of processor c says and leaves
pub record IsStepOf (scenario : Scenario) (s : SchedulerState) (h : List Entry) (c : ℕ) (e : Entry) (t : SchedulerState) : Type 0 where
  pub cpu : e.cpu ≡ c
  pub from : e.from ≡ last_end h c
  pub to : e.to ≡ due s h c
  pub ran : e.ran ≡ thread_kept (cpu_at s c).running
  pub billed : e.billed ≡ partition_kept (cpu_at s c).running
  pub critical : e.critical ≡ mark_kept (cpu_at s c).running
  pub plain : IsPlain scenario t
  pub kept : AgreesOnRunning t
  pub others_running : (d : ℕ) → d ≢ c → (cpu_at t d).running ≡ (cpu_at s d).running
  pub others_flag : (d : ℕ) → d ≢ c
      → ((cpu_at t d).flag ≡ (cpu_at s d).flag)
      ⊎ (((cpu_at t d).flag ≡ Some (due s h c)) × (due s h c < due s h d) × (due s h c ≢ horizon s.shape))
  pub others_thread : (d : ℕ) (p : Pick) → d ≢ c → (cpu_at s d).running ≡ Some p → IsAlike (thread_at s p.thread) (thread_at t p.thread)
  pub own_flag : (cpu_at t c).flag ≡ None
  pub sizes : IsSameSizes s.shape t.shape
  pub count : length t.threads ≡ length s.threads
  pub cpu_count : length t.cpus ≡ length s.cpus

-- the step made no pick, since it stood at the horizon or ended the run
abbrev pub IsComplete : SchedulerState → ℕ → Option ℕ → Type 0
IsComplete s now reboot = (now ≡ horizon s.shape) ⊎ (reboot ≡ None → ⊥)

-- what the entry says of the pick, and what the processor keeps of it
pub record IsPickSaid (s : SchedulerState) (h : List Entry) (c : ℕ) (e : Entry) (t : SchedulerState) (reboot : Option ℕ) : Type 0 where
  pub some : (x : ℕ) → e.picked ≡ Some x → (cpu_at t c).running ≡ Some (record {
    thread = x;
    partition = (facts_of t x).partition;
    critical =
        is_critical_pick (facts_of t x)
        (part_at (all_parts t.shape t.rows (h ++ e ∷ []) (e.to / t.shape.tick)) (facts_of t x).partition);
  })
  pub none : e.picked ≡ None → ((cpu_at t c).running ≡ None) ⊎ IsComplete s e.to reboot
