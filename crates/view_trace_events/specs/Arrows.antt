-- The events of messages and replies: each is an arrow from one thread to another.
use lib.Chars.{codes}
use Rattle.std.specs.Prelude.{ℕ, ◌+◌, ◌-◌, ◌++◌, List, [], Option, Some, None}
use Rattle.std.specs.List.{fold}
use Rattle.std.specs.Fmt.{decimal}
use Rattle.aps_model.specs.declared.entry.Entry.{Entry}
use Rattle.aps_model.specs.declared.scenario.ThreadRow.{ThreadRow}
use Rattle.view_marks.specs.declared.arrow.Arrow.{Arrow}
use Rattle.view_marks.specs.declared.arrow.Carried.{Carried}
use Rattle.view_marks.specs.declared.arrow.Carried.TheVariants.{Message, Reply}
use Rattle.view_marks.specs.Arrow.{arrow_of}
use Rattle.view_trace_events.specs.Place.{track_place_text}
use Rattle.view_trace_events.specs.Track.{of_thread}

abbrev pub carried_word : Carried → List ℕ
carried_word Message = codes "message"
carried_word Reply = codes "reply"

-- one end of an arrow
abbrev pub end_text : List ThreadRow → List ℕ → Carried → ℕ → ℕ → ℕ → List ℕ
end_text threads phase carried number x moment =
    (codes ",\n{\"ph\":\""
    ++ (phase ++ (codes "\",\"name\":\"" ++ (carried_word carried ++ (codes "\",\"cat\":\"message\",\"id\":" ++ decimal number)))))
    ++ track_place_text (of_thread threads x) moment

-- an arrow begins a nanosecond before it ends
abbrev pub arrow_events : List ThreadRow → ℕ → Arrow → ℕ → List ℕ
arrow_events threads number arrow moment =
    end_text threads (codes "s") arrow.carried number arrow.source (moment - 1)
    ++ (codes "}" ++ (end_text threads (codes "f") arrow.carried number arrow.target moment ++ codes ",\"bp\":\"e\"}"))

abbrev pub events_of_arrow : List ThreadRow → ℕ → ℕ → Option Arrow → List ℕ
events_of_arrow threads number moment None = []
events_of_arrow threads number moment (Some arrow) = arrow_events threads number arrow moment

-- the events of the entry's arrow, which gets this number
abbrev pub entry_events : List ThreadRow → ℕ → Entry → List ℕ
entry_events threads number e = events_of_arrow threads number e.to (arrow_of e)

-- the number of the next arrow
abbrev pub number_with : ℕ → Option Arrow → ℕ
number_with number None = number
number_with number (Some arrow) = number + 1

abbrev pub arrow_number_after : ℕ → Entry → ℕ
arrow_number_after number e = number_with number (arrow_of e)

-- the events of the arrows of entries, and the number of the next one
pub record Arrows : Type 0 where
  pub text : List ℕ
  pub next : ℕ

abbrev pub arrows_with : List ThreadRow → Arrows → Entry → Arrows
arrows_with threads arrows e = record { text = arrows.text ++ entry_events threads arrows.next e; next = arrow_number_after arrows.next e }

-- arrows are numbered from 0, in the order of their entries
abbrev pub arrows_in : List ThreadRow → List Entry → Arrows
arrows_in threads h = fold (arrows_with threads) (record { text = []; next = 0 }) h

abbrev pub arrows_text : List ThreadRow → List Entry → List ℕ
arrows_text threads h = (arrows_in threads h).text
