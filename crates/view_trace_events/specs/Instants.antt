-- The events that take no time: overspent budgets, and changes.
use lib.Chars.{codes}
use Rattle.std.specs.Prelude.{ℕ, ◌++◌, List}
use Rattle.std.specs.Fmt.{decimal}
use Rattle.aps_model.specs.declared.partition.PartitionRow.{PartitionRow}
use Rattle.aps_model.specs.declared.scenario.ThreadRow.{ThreadRow}
use Rattle.view_marks.specs.declared.alteration.Alteration.{Alteration}
use Rattle.view_samples.specs.declared.overspent.Overspent.{Overspent}
use Rattle.view_marks.specs.Text.{alteration_text}
use Rattle.view_trace_events.specs.Place.{track_place_text}
use Rattle.view_trace_events.specs.Track.{of_partition, of_processors}

abbrev pub overspent_event : Overspent → List ℕ
overspent_event one =
    codes ",\n{\"ph\":\"i\",\"s\":\"p\",\"name\":\"overspent\""
    ++ (track_place_text (of_partition one.partition) one.moment ++ (codes ",\"args\":{\"ns\":" ++ (decimal one.excess ++ codes "}}")))

-- an event of all processors at this moment, behind its name
abbrev pub instant_end : ℕ → List ℕ
instant_end moment = codes "\"" ++ (track_place_text of_processors moment ++ codes ",\"args\":{}}")

abbrev pub alteration_event : List ThreadRow → List PartitionRow → Alteration → List ℕ
alteration_event threads rows one =
    codes ",\n{\"ph\":\"i\",\"s\":\"g\",\"name\":\"" ++ (alteration_text threads rows one ++ instant_end one.moment)
