-- The own values of a thread, read and changed.
use Rattle.std.specs.Prelude.{ℕ, slice_index_or, slice_set}
use Rattle.aps_model.specs.declared.state.Facts.{Facts}
use Rattle.aps_model.specs.SchedulerState.{no_facts}
use Rattle.aps_model.specs.Inherit.{Inheritance}

abbrev pub own_of : Inheritance → ℕ → Facts
own_of i x = slice_index_or i.own x no_facts

-- with these as the own values of the thread, if there is such a thread
abbrev pub with_own_values : Inheritance → ℕ → Facts → Inheritance
with_own_values i x own = record i { own = slice_set i.own x own }
