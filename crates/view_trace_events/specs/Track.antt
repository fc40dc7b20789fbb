-- On which track of a trace something stands.
use Rattle.std.specs.Prelude.{ℕ, ◌+◌, ◌≤◌, List, slice_index_or, ⊤}
use Rattle.aps_model.specs.declared.scenario.ThreadRow.{ThreadRow}
use Rattle.aps_model.specs.Limits.{last_cpu, last_partition, last_thread}
use Rattle.aps_model.specs.Scenario.{no_thread_row}
use Rattle.view_trace_events.specs.declared.laws.Owner.{Owner}
use Rattle.view_trace_events.specs.declared.laws.Owner.TheVariants.{Processors, Processor, Partition, Thread}
use Rattle.view_trace_events.specs.declared.tracks.Track.{Track}

-- all processors together have a process, and each is a thread of it
abbrev pub of_processors : Track
of_processors = record { process = 3000; thread = 0 }

abbrev pub of_processor : ℕ → Track
of_processor c = record { process = 3000; thread = 2001 + c }

-- each partition has a process
abbrev pub of_partition : ℕ → Track
of_partition p = record { process = 3001 + p; thread = 0 }

-- a thread is one of the process of the partition that these rows give it
abbrev pub of_thread : List ThreadRow → ℕ → Track
of_thread threads x = record { process = 3001 + (slice_index_or threads x no_thread_row).partition; thread = 1 + x }

abbrev pub track_of : List ThreadRow → Owner → Track
track_of threads Processors = of_processors
track_of threads (Processor c) = of_processor c
track_of threads (Partition p) = of_partition p
track_of threads (Thread x) = of_thread threads x

-- numbers that there are
abbrev pub IsOwner : Owner → Type 0
IsOwner Processors = ⊤
IsOwner (Processor c) = c ≤ last_cpu
IsOwner (Partition p) = p ≤ last_partition
IsOwner (Thread x) = x ≤ last_thread
