-- The events that last: bars of processors, and what threads do.
use lib.Chars.{codes}
use Rattle.std.specs.Prelude.{ℕ, ◌-◌, ◌++◌, List, [], Bool}
use Rattle.std.specs.List.{flat_map}
use Rattle.std.specs.Fmt.{decimal}
use Rattle.aps_model.specs.declared.partition.PartitionRow.{PartitionRow}
use Rattle.aps_model.specs.declared.scenario.ThreadRow.{ThreadRow}
use Rattle.aps_model.specs.Scenario.{Scenario}
use Rattle.view_marks.specs.declared.bar.Bar.{Bar}
use Rattle.view_marks.specs.Text.{partition_row_name, thread_name}
use Rattle.view_lives.specs.declared.doing.Doing.{Doing}
use Rattle.view_lives.specs.declared.doing.Doing.TheVariants.{Ready, Running, Sleeping, Sending, Receiving, Replying, Gone}
use Rattle.view_lives.specs.declared.life.Segment.{Segment}
use Rattle.view_samples.specs.Csv.{bit}
use Rattle.view_trace_events.specs.declared.tracks.Track.{Track}
use Rattle.view_trace_events.specs.Place.{track_place_text}
use Rattle.view_trace_events.specs.Time.{us_text}
use Rattle.view_trace_events.specs.Track.{of_processor, of_thread}
use Rattle.view_trace_events.specs.Words.{channel_name}

-- the begin of an event, with its name of two words
abbrev pub start_text : List ℕ → List ℕ → List ℕ
start_text word name = codes ",\n{\"ph\":\"X\",\"name\":\"" ++ (word ++ (name ++ codes "\",\"cat\":\"run\""))

-- where it stands, when, and how long it lasts
abbrev pub span_text : Track → ℕ → ℕ → List ℕ
span_text track from to = track_place_text track from ++ (codes ",\"dur\":" ++ (us_text (to - from) ++ codes ",\"args\":"))

-- the end of an event: which partition is billed, and whether for critical time
abbrev pub bill_end : List PartitionRow → ℕ → Bool → List ℕ
bill_end rows p critical =
    codes "\"billed\":\"" ++ (partition_row_name rows p ++ (codes "\",\"critical\":" ++ (decimal (bit critical) ++ codes "}}")))

-- ---- what a processor ran

abbrev pub bar_event : List ThreadRow → List PartitionRow → Track → Bar → List ℕ
bar_event threads rows track bar =
    start_text [] (thread_name threads bar.thread)
    ++ (span_text track bar.from bar.to ++ (codes "{" ++ bill_end rows bar.partition bar.critical))

abbrev pub lane_events : List ThreadRow → List PartitionRow → ℕ × List Bar → List ℕ
lane_events threads rows (c, bars) = flat_map (bar_event threads rows (of_processor c)) bars

-- ---- what a thread does

abbrev pub doing_start : Scenario → Doing → List ℕ
doing_start scenario Ready = start_text (codes "ready") []
doing_start scenario (Running c p critical) = start_text (codes "running") []
doing_start scenario Sleeping = start_text (codes "sleeping") []
doing_start scenario (Sending c) = start_text (codes "sending ") (channel_name scenario.channels c)
doing_start scenario (Receiving c) = start_text (codes "receiving ") (channel_name scenario.channels c)
doing_start scenario (Replying x) = start_text (codes "replying ") (thread_name scenario.threads x)
doing_start scenario Gone = start_text (codes "gone") []

abbrev pub running_details : List PartitionRow → ℕ → ℕ → Bool → List ℕ
running_details rows c p critical = (codes "{\"cpu\":" ++ (decimal c ++ codes ",")) ++ bill_end rows p critical

abbrev pub details : List PartitionRow → Doing → List ℕ
details rows (Running c p critical) = running_details rows c p critical
details rows doing = codes "{}}"

abbrev pub segment_event : Scenario → List PartitionRow → Track → Segment → List ℕ
segment_event scenario rows track segment =
    doing_start scenario segment.doing ++ (span_text track segment.from segment.to ++ details rows segment.doing)

abbrev pub life_events : Scenario → List PartitionRow → ℕ × List Segment → List ℕ
life_events scenario rows (x, segments) = flat_map (segment_event scenario rows (of_thread scenario.threads x)) segments
