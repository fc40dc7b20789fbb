use Rattle.std.specs.Prelude.{◌≡◌, ℕ, ◌+◌, ◌*◌, ◌/◌, ◌<◌, ◌≤◌, List, min, nat_eq, nat_lt, zero, suc, if◌then◌else◌, Option, Some, None, unwrap_or}
use Rattle.std.specs.List.{fold}
use Rattle.aps_model.specs.declared.entry.Entry.{Entry}
use Rattle.aps_model.specs.declared.entry.Order.{Order}
use Rattle.aps_model.specs.declared.entry.Order.TheVariants.{Fixed}
use Rattle.aps_model.specs.declared.state.Pick.{Pick}
use Rattle.aps_model.specs.Shape.{horizon}
use Rattle.aps_model.specs.SchedulerState.{SchedulerState, cpu_at, thread_at}

-- where the processor's last entry ended
abbrev pub last_to : List Entry → ℕ → Option ℕ
last_to h c = fold (λ found (e : Entry). if nat_eq e.cpu c then Some e.to else found) None h

-- the same, or 0 where it has no entry
abbrev pub last_end : List Entry → ℕ → ℕ
last_end h c = unwrap_or (last_to h c) 0

-- the first boundary after a moment
abbrev pub next_boundary : ℕ → ℕ → ℕ
next_boundary tick moment = (moment / tick + 1) * tick

-- a moment, or an earlier one where the operation ends before
abbrev pub or_end : ℕ → ℕ → Option ℕ → ℕ
or_end boundary moment None = boundary
or_end boundary moment (Some left) = min boundary (moment + left)

-- what remains of the operation that the processor runs
abbrev pub left_running : SchedulerState → Option Pick → Option ℕ
left_running s None = None
left_running s (Some pick) = (thread_at s pick.thread).left

-- when a processor steps next, by the flag, the end of its last entry and what is left of its operation: at 0 where
-- it has no entry, else at its flag, else at the next boundary or, unless it stands at the end of the run, where
-- the operation ends before
abbrev pub due_at : ℕ → ℕ → Option ℕ → Option ℕ → Option ℕ → ℕ
due_at tick end flag None left = 0
due_at tick end (Some moment) (Some last) left = moment
due_at tick end None (Some last) left =
    if nat_eq last end then next_boundary tick last else or_end (next_boundary tick last) last left

abbrev pub due : SchedulerState → List Entry → ℕ → ℕ
due s h c =
    due_at s.shape.tick (horizon s.shape) (cpu_at s c).flag (last_to h c) (left_running s (cpu_at s c).running)

-- the processor may step now
pub record HasTurn (order : Order) (s : SchedulerState) (h : List Entry) (c : ℕ) : Type 0 where
  pub exists : c < s.shape.cpus
  pub least : (d : ℕ) → d < s.shape.cpus → due s h c ≤ due s h d
  pub lowest : order ≡ Fixed → (d : ℕ) → d < c → due s h c < due s h d

-- the lowest processor that is due least, of those below a number
abbrev pub first_due : SchedulerState → List Entry → ℕ → ℕ
first_due s h zero = 0
first_due s h (suc c) =
    let best = first_due s h c in
    if nat_lt (due s h c) (due s h best) then c else best
