-- What is seen at a pick.
use Rattle.std.specs.Prelude.{◌≡◌, ℕ, ◌<◌, List, length, is_some, nat_lt, Bool, true, false, not, slice_index_or, Some, None}
use Rattle.std.specs.List.{list_all}
use Rattle.aps_model.specs.Limits.{most_partitions}
use Rattle.aps_model.specs.declared.entry.Entry.{Entry}
use Rattle.aps_model.specs.declared.merit.PartFacts.{PartFacts}
use Rattle.aps_model.specs.Scenario.{Scenario}
use Rattle.aps_model.specs.SchedulerState.{SchedulerState, cpu_at}
use Rattle.laws_bounds.specs.Kinds.{is_free, kind_of}
use Rattle.laws_load.specs.Passing.{parts_now}
use Rattle.view_samples.specs.declared.look.Look.{Look}
use Rattle.view_samples.specs.Picks.{changes_by, had_candidate, is_in_budget, is_unfunded, lacks_test, out_test}

-- the entry came last and left this state, so many changes stood before it
pub record IsLookAtEntry (s : SchedulerState) (h : List Entry) (changes : ℕ) (e : Entry) (look : Look) : Type 0 where
  pub lacking : (p : ℕ) → p < most_partitions → slice_index_or look.lacking p false ≡ not (had_candidate s h e.cpu p)
  pub out : (p : ℕ) → p < most_partitions → slice_index_or look.out p false ≡ not (is_in_budget s h p)
  pub starved : look.starved ≡ is_some e.starved
  pub changed : look.changed ≡ nat_lt changes (length s.changes)
  pub free : look.free ≡ is_unfunded (parts_now s h) e.picked (cpu_at s e.cpu).running

-- the same of an entry that follows on these
pub record IsLook (scenario : Scenario) (before : List Entry) (e : Entry) (look : Look) : Type 0 where
  pub lacking : (p : ℕ) → p < most_partitions → slice_index_or look.lacking p false ≡ lacks_test scenario p before e
  pub out : (p : ℕ) → p < most_partitions → slice_index_or look.out p false ≡ out_test scenario p before e
  pub starved : look.starved ≡ is_some e.starved
  pub changed : look.changed ≡ changes_by scenario before e
  pub free : look.free ≡ is_free (kind_of scenario before e)

-- ---- what an entry tells of candidates

-- somebody was picked, and nobody is starved
pub record TellsOfNobody (e : Entry) : Type 0 where
  pub thread : ℕ
  pub picked : e.picked ≡ Some thread
  pub starved : e.starved ≡ None

abbrev pub have_budgets : List PartFacts → Bool
have_budgets parts = list_all (λ (part : PartFacts). nat_lt 0 part.budget) parts

-- and each partition has a budget
pub record EachHad (parts : List PartFacts) (e : Entry) : Type 0 where
  pub tells : TellsOfNobody e
  pub budgets : have_budgets parts ≡ true
