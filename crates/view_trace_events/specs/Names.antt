-- The events that name the tracks of a trace, and order them.
use lib.Chars.{codes}
use Rattle.std.specs.Prelude.{ℕ, ◌+◌, ◌++◌, List}
use Rattle.std.specs.List.{flat_map, range_with_len}
use Rattle.std.specs.Fmt.{decimal}
use Rattle.aps_model.specs.declared.partition.PartitionRow.{PartitionRow}
use Rattle.aps_model.specs.declared.scenario.ThreadRow.{ThreadRow}
use Rattle.view_trace_events.specs.declared.tracks.Track.{Track}
use Rattle.view_trace_events.specs.Place.{track_text}
use Rattle.view_trace_events.specs.Track.{of_partition, of_processor, of_processors, of_thread}

-- the event of this kind that names a track, up to the name
abbrev pub track_head_text : List ℕ → Track → List ℕ
track_head_text kind track =
    (codes ",\n{\"ph\":\"M\",\"name\":\"" ++ (kind ++ codes "\"")) ++ (track_text track ++ codes ",\"args\":{\"name\":\"")

-- the event that gives a track its place
abbrev pub index_event : List ℕ → Track → ℕ → List ℕ
index_event kind track place =
    (codes ",\n{\"ph\":\"M\",\"name\":\"" ++ (kind ++ codes "_sort_index\""))
    ++ (track_text track ++ (codes ",\"args\":{\"sort_index\":" ++ (decimal place ++ codes "}}")))

abbrev pub first_text : List ℕ
first_text =
    codes "{\"displayTimeUnit\":\"ns\",\"traceEvents\":[\n{\"ph\":\"M\",\"name\":\"process_name\""
    ++ (track_text of_processors ++ (codes ",\"args\":{\"name\":\"processors\"}}" ++ index_event (codes "process") of_processors 0))

abbrev pub processor_names : ℕ → List ℕ
processor_names c =
    track_head_text (codes "thread_name") (of_processor c)
    ++ ((codes "cpu " ++ (decimal c ++ codes "\"}}")) ++ index_event (codes "thread") (of_processor c) c)

abbrev pub processors_text : ℕ → List ℕ
processors_text cpus = first_text ++ flat_map processor_names (range_with_len 0 cpus)

abbrev pub named_partition : ℕ → List ℕ → List ℕ
named_partition p name =
    track_head_text (codes "process_name") (of_partition p)
    ++ ((codes "partition " ++ (name ++ codes "\"}}")) ++ index_event (codes "process") (of_partition p) (p + 1))

abbrev pub partition_names : ℕ × PartitionRow → List ℕ
partition_names (p, row) = named_partition p row.name

abbrev pub named_thread : Track → ℕ → List ℕ → List ℕ
named_thread track place name =
    track_head_text (codes "thread_name") track ++ ((name ++ codes "\"}}") ++ index_event (codes "thread") track place)

abbrev pub thread_names : List ThreadRow → ℕ × ThreadRow → List ℕ
thread_names threads (x, row) = named_thread (of_thread threads x) x row.name
