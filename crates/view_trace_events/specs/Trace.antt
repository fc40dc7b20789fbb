-- A history as trace events.
use lib.Chars.{codes}
use Rattle.std.specs.Prelude.{ℕ, ◌++◌, List, length}
use Rattle.std.specs.List.{flat_map, enumerate_from, range_with_len}
use Rattle.aps_model.specs.declared.entry.Entry.{Entry}
use Rattle.aps_model.specs.declared.partition.PartitionRow.{PartitionRow}
use Rattle.aps_model.specs.After.{state_after}
use Rattle.aps_model.specs.Scenario.{Scenario}
use Rattle.view_marks.specs.declared.bar.Bar.{Bar}
use Rattle.view_samples.specs.declared.overspent.Overspent.{Overspent}
use Rattle.view_marks.specs.Alteration.{alterations_of}
use Rattle.view_marks.specs.Bar.{lane_of}
use Rattle.view_lives.specs.Life.{life_of}
use Rattle.view_trace_events.specs.Arrows.{arrows_text}
use Rattle.view_trace_events.specs.Counters.{counters_text}
use Rattle.view_trace_events.specs.Instants.{alteration_event, overspent_event}
use Rattle.view_trace_events.specs.Names.{partition_names, processors_text, thread_names}
use Rattle.view_trace_events.specs.Slices.{lane_events, life_events}

-- the names of all tracks, by the rows that stand last
abbrev pub names_text : Scenario → List PartitionRow → List ℕ
names_text scenario rows =
    processors_text scenario.shape.cpus
    ++ (flat_map partition_names (enumerate_from 0 rows) ++ flat_map (thread_names scenario.threads) (enumerate_from 0 scenario.threads))

-- and what these lanes have
abbrev pub drawn_part : Scenario → List PartitionRow → List (List Bar) → List ℕ
drawn_part scenario rows lanes = names_text scenario rows ++ flat_map (lane_events scenario.threads rows) (enumerate_from 0 lanes)

-- what each processor ran
abbrev pub lane_part : Scenario → List Entry → List PartitionRow → ℕ → List ℕ
lane_part scenario h rows c = lane_events scenario.threads rows (c, lane_of scenario h c)

abbrev pub processors_part : Scenario → List Entry → List ℕ
processors_part scenario h =
    let rows = (state_after scenario h).rows in
    names_text scenario rows ++ flat_map (lane_part scenario h rows) (range_with_len 0 scenario.shape.cpus)

-- what each thread did
abbrev pub life_part : Scenario → List Entry → List PartitionRow → ℕ → List ℕ
life_part scenario h rows x = life_events scenario rows (x, life_of scenario h x)

abbrev pub lives_part : Scenario → List Entry → List PartitionRow → List ℕ
lives_part scenario h rows = flat_map (life_part scenario h rows) (range_with_len 0 (length scenario.threads))

-- that, messages and replies, and usages
abbrev pub lasting_part : Scenario → List Entry → List PartitionRow → List ℕ
lasting_part scenario h rows =
    lives_part scenario h rows ++ (arrows_text scenario.threads h ++ counters_text scenario h (length rows))

-- all events, where these are the entries that made their partition bankrupt
abbrev pub events_text : Scenario → List Entry → List Overspent → List ℕ
events_text scenario h overspent =
    let rows = (state_after scenario h).rows in
    processors_part scenario h
    ++ (lasting_part scenario h rows
    ++ (flat_map overspent_event overspent ++ flat_map (alteration_event scenario.threads rows) (alterations_of scenario h)))

abbrev pub trace_text : Scenario → List Entry → List Overspent → List ℕ
trace_text scenario h overspent = events_text scenario h overspent ++ codes "\n]}\n"
