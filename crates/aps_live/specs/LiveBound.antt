-- By how much a partition of a live history may exceed its budget.
use Rattle.std.specs.Prelude.{◌≡◌, ℕ, ◌+◌, ◌-◌, ◌*◌, ◌<◌, ◌≤◌, max, List, length, nat_eq, if◌then◌else◌, None}
use Rattle.std.specs.List.{All, fold, range_with_len, sum_by}
use Rattle.aps_model.specs.declared.entry.Entry.{Entry}
use Rattle.aps_model.specs.Partition.{row_or_none}
use Rattle.aps_model.specs.Scenario.{Scenario}
use Rattle.aps_model.specs.Shape.{whole}
use Rattle.aps_model.specs.Usage.{critical_used, used}

-- the longest time between two steps of the processor, or 0
abbrev pub gap : List Entry → ℕ → ℕ
gap h c = fold (λ found (e : Entry). if nat_eq e.cpu c then max found (e.to - e.from) else found) 0 h

-- the gaps of so many processors together
abbrev pub gaps : List Entry → ℕ → ℕ
gaps h cpus = sum_by (gap h) (range_with_len 0 cpus)

-- no partition with a budget was without a candidate at a pick of ticks a to b-1
abbrev pub IsCalmIn : ℕ → List Entry → ℕ → ℕ → Type 0
IsCalmIn tick h a b = All (λ (e : Entry). a * tick ≤ e.to → e.to < b * tick → e.starved ≡ None) h

-- in each window where nobody is starved each partition uses at most its budget, its critical time, and the gaps
abbrev pub KeepsLiveBound : Scenario → List Entry → Type 0
KeepsLiveBound scenario h =
    (a p : ℕ)
    → IsCalmIn scenario.shape.tick h a (a + scenario.shape.window)
    → p < length scenario.partitions
    → scenario.shape.parts * used scenario.shape.tick h p a (a + scenario.shape.window)
    ≤ (row_or_none scenario.partitions p).budget * whole scenario.shape
    + scenario.shape.parts * (gaps h scenario.shape.cpus + critical_used scenario.shape.tick h p a (a + scenario.shape.window))
