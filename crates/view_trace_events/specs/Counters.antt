-- The events that tell usages and allowances, by tick.
use lib.Chars.{codes}
use Rattle.std.specs.Prelude.{ℕ, zero, suc, ◌+◌, ◌*◌, ◌++◌, List, [], slice_index, Bool, false, nat_eq, ◌&&◌, if◌then◌else◌, Option, Some, None}
use Rattle.std.specs.List.{flat_map, range_with_len}
use Rattle.std.specs.Fmt.{decimal}
use Rattle.aps_model.specs.declared.entry.Entry.{Entry}
use Rattle.aps_model.specs.Loaded.{finished_ticks}
use Rattle.aps_model.specs.Scenario.{Scenario}
use Rattle.view_samples.specs.declared.sample.Sample.{Sample}
use Rattle.view_samples.specs.Sample.{sample_of}
use Rattle.view_trace_events.specs.Time.{us_text}
use Rattle.view_trace_events.specs.Track.{of_partition}

abbrev pub value_event : List ℕ → ℕ → ℕ → ℕ → List ℕ
value_event name moment p ns =
    (codes ",\n{\"ph\":\"C\",\"name\":\"" ++ (name ++ (codes "\",\"pid\":" ++ (decimal (of_partition p).process ++ codes ",\"ts\":"))))
    ++ (us_text moment ++ (codes ",\"args\":{\"ns\":" ++ (decimal ns ++ codes "}}")))

-- what partition p used, what of that was critical, and what its budget allows
abbrev pub values_events : ℕ → Sample → ℕ → List ℕ
values_events moment sample p =
    value_event (codes "used") moment p (slice_index sample.usage.used p)
    ++ (value_event (codes "critical used") moment p (slice_index sample.usage.critical p)
    ++ value_event (codes "allowance") moment p (slice_index sample.allowance p))

abbrev pub is_same_usage : Sample → Sample → ℕ → Bool
is_same_usage before sample p =
    nat_eq (slice_index before.usage.used p) (slice_index sample.usage.used p)
    && (nat_eq (slice_index before.usage.critical p) (slice_index sample.usage.critical p)
    && nat_eq (slice_index before.allowance p) (slice_index sample.allowance p))

-- the sample before has the same values
abbrev pub is_told : Option Sample → Sample → ℕ → Bool
is_told None sample p = false
is_told (Some before) sample p = is_same_usage before sample p

abbrev pub partition_counters : ℕ → Option Sample → Sample → ℕ → List ℕ
partition_counters moment before sample p = if is_told before sample p then [] else values_events moment sample p

-- at the end of its tick, of so many partitions, where a value differs from that in the sample before
abbrev pub sample_events : ℕ → ℕ → Option Sample → Sample → List ℕ
sample_events tick rows before sample = flat_map (partition_counters ((sample.tick + 1) * tick) before sample) (range_with_len 0 rows)

-- the sample before that of tick j
abbrev pub before_tick : Scenario → List Entry → ℕ → Option Sample
before_tick scenario h zero = None
before_tick scenario h (suc j) = Some (sample_of scenario h j)

abbrev pub tick_events : Scenario → List Entry → ℕ → ℕ → List ℕ
tick_events scenario h rows j = sample_events scenario.shape.tick rows (before_tick scenario h j) (sample_of scenario h j)

-- by each finished tick
abbrev pub counters_text : Scenario → List Entry → ℕ → List ℕ
counters_text scenario h rows = flat_map (tick_events scenario h rows) (range_with_len 0 (finished_ticks scenario.shape h))
