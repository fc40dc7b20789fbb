use Rattle.std.specs.Prelude.{ℕ, ◌≤◌}
use Rattle.aps_model.specs.Limits.{most_cpus, most_partitions, most_ticks}
use Rattle.aps_model.specs.Valid.{IsScenario}
use Rattle.aps_gen.specs.Generated.{generated}

-- whatever the seed, what is generated is a scenario
abbrev pub GeneratedIsValid : Type 0
GeneratedIsValid =
    (seed m k ticks : ℕ) → 1 ≤ m → m ≤ most_cpus → 1 ≤ k → k ≤ most_partitions → 1 ≤ ticks → ticks ≤ most_ticks
    → IsScenario (generated seed m k ticks)
