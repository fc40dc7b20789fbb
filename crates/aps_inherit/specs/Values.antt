-- Kept values: what each thread's are by its client's, or by its own.
use Rattle.std.specs.Prelude.{◌≡◌, ℕ, List, Bool, false, ◌||◌, ◌&&◌, nat_eq, Option, Some, None, slice_index_or}
use Rattle.aps_model.specs.declared.state.Facts.{Facts}
use Rattle.aps_model.specs.SchedulerState.{Triple, no_facts}
use Rattle.aps_model.specs.Inherit.{Inheritance, raised, top_at, triple_of}
use Rattle.aps_inherit.specs.Own.{own_of}

-- the values kept for the thread
abbrev pub kept_at : List Facts → ℕ → Facts
kept_at kept x = slice_index_or kept x no_facts

-- the values of a thread with this triple: its own ones where it serves nobody, else those kept for its client, raised to
-- what waits at the channel
abbrev pub values_with : Inheritance → List Facts → ℕ → Option Triple → Facts
values_with i kept x None = own_of i x
values_with i kept x (Some t) = raised (top_at i.tops t.channel) (kept_at kept t.client)

abbrev pub values_by : Inheritance → List Facts → ℕ → Facts
values_by i kept x = values_with i kept x (triple_of i.triples x)

-- the kept values are right, but perhaps for the threads that pass this test
abbrev pub AreRightBut : (ℕ → Bool) → Inheritance → List Facts → Type 0
AreRightBut late i kept = (x : ℕ) → late x ≡ false → kept_at kept x ≡ values_by i kept x

-- where the values before were right but for these threads, those after are right but for those ones
abbrev pub Mends : Inheritance → List Facts → List Facts → (ℕ → Bool) → (ℕ → Bool) → Type 0
Mends i before after late left = AreRightBut late i before → AreRightBut left i after

-- the test that no thread passes
abbrev pub nobody : ℕ → Bool
nobody x = false

-- also this thread, if there is one
abbrev pub or_at : (ℕ → Bool) → Option ℕ → ℕ → Bool
or_at late None x = late x
or_at late (Some y) x = nat_eq y x || late x

-- the thread serves by the channel
abbrev pub is_by : Option Triple → ℕ → Bool
is_by None c = false
is_by (Some t) c = nat_eq t.channel c

abbrev pub serves_by : Inheritance → ℕ → ℕ → Bool
serves_by i c x = is_by (triple_of i.triples x) c

-- those of them that serve by the channel
abbrev pub of_channel : Inheritance → ℕ → (ℕ → Bool) → ℕ → Bool
of_channel i c late x = late x && serves_by i c x
