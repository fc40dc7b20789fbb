-- Where an event stands, and when.
use lib.Chars.{codes}
use Rattle.std.specs.Prelude.{ℕ, ◌++◌, List}
use Rattle.std.specs.Fmt.{decimal}
use Rattle.view_trace_events.specs.declared.tracks.Track.{Track}
use Rattle.view_trace_events.specs.Time.{us_text}

abbrev pub track_text : Track → List ℕ
track_text track = codes ",\"pid\":" ++ (decimal track.process ++ (codes ",\"tid\":" ++ decimal track.thread))

abbrev pub track_place_text : Track → ℕ → List ℕ
track_place_text track moment = track_text track ++ (codes ",\"ts\":" ++ us_text moment)
