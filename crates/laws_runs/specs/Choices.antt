-- What each entry picks, in the words of candidates.
use Rattle.std.specs.Prelude.{◌≡◌, ℕ, ◌/◌, ◌⊎◌, ◌++◌, List, [], ◌∷◌, Option, None}
use Rattle.std.specs.Option.{option_map}
use Rattle.aps_model.specs.declared.entry.Entry.{Entry}
use Rattle.aps_model.specs.declared.merit.Contender.{Contender}
use Rattle.laws_runs.specs.Untouched.{IsComplete}
use Rattle.aps_model.specs.After.{after, state_after}
use Rattle.aps_model.specs.Bill.{bill_of}
use Rattle.aps_model.specs.Budget.{all_parts}
use Rattle.aps_model.specs.Due.{due, last_end}
use Rattle.aps_model.specs.Pick.{contenders, greatest, missing}
use Rattle.aps_model.specs.Scenario.{Scenario}
use Rattle.aps_model.specs.SchedulerState.{SchedulerState, cpu_at}
use Rattle.aps_model.specs.Step.{begun, billed, settled, tested}

-- the state in which a step picks: its flag is cleared and the tick's work done, its time is billed and tested, and
-- the operation that is over has had its effect
abbrev pub state_to_pick : Scenario → SchedulerState → List Entry → ℕ → SchedulerState
state_to_pick scenario s h c =
    let now = due s h c in
    let running = (cpu_at s c).running in
    let e = bill_of c (last_end h c) now running in
    (settled scenario (tested (billed (begun scenario s h c now) e running) h e).state now running).state

-- the greatest candidate of a state, by the usage of this history at this moment
abbrev pub greatest_in : SchedulerState → List Entry → ℕ → Option Contender
greatest_in s h now = greatest s.shape.free (all_parts s.shape s.rows h (now / s.shape.tick)) (contenders s)

-- the lowest partition with a budget that has no candidate then
abbrev pub starved_in : SchedulerState → List Entry → ℕ → Option ℕ
starved_in s h now = missing (all_parts s.shape s.rows h (now / s.shape.tick)) (contenders s)

-- the entry picks the greatest candidate of the state, if there is one, and names the starved partition
pub record PicksGreatest (s : SchedulerState) (h : List Entry) (e : Entry) : Type 0 where
  pub picked : e.picked ≡ option_map (λ (b : Contender). b.thread) (greatest_in s (h ++ e ∷ []) e.to)
  pub starved : e.starved ≡ starved_in s (h ++ e ∷ []) e.to

-- the entry made no pick, since it stood at the horizon or ended the run
pub record MadeNoPick (s : SchedulerState) (e : Entry) (reboot : Option ℕ) : Type 0 where
  pub none : e.picked ≡ None
  pub complete : IsComplete s e.to reboot

-- each entry that makes a pick picks the greatest candidate
abbrev pub EachPickIsGreatest : Scenario → List Entry → Type 0
EachPickIsGreatest scenario h =
    (before later : List Entry) (e : Entry) → h ≡ before ++ e ∷ later
    → PicksGreatest (state_to_pick scenario (state_after scenario before) before e.cpu) before e
    ⊎ MadeNoPick (state_after scenario before) e (after scenario (before ++ e ∷ [])).reboot
