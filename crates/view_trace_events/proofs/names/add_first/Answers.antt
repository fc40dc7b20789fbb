use lib.Chars.{codes}
use Rattle.view_texts.proofs.Pieces.{as_other, four, on_ok}
use Rattle.view_trace_events.specs.Names.{index_event}
use Rattle.view_trace_events.specs.Place.{track_text}
use Rattle.view_trace_events.specs.Track.{of_processors}
use Rattle.view_trace_events.proofs.names.add_first.Goals as goal

pub returns : goal.returns
returns c =
    on_ok c.add_index.result
    (λ last.
    four _ _ _ _ _
    (codes "{\"displayTimeUnit\":\"ns\",\"traceEvents\":[\n{\"ph\":\"M\",\"name\":\"process_name\"") (track_text of_processors)
    (codes ",\"args\":{\"name\":\"processors\"}}") (index_event (codes "process") of_processors 0)
    c.in_ok-push_str.ensures.bytes (as_other track_text _ _ _ _ c.in_ok-add_track.ensures c.of_processors.ensures) c.in_ok-push_str-2.ensures.bytes
    (as_other (λ track. index_event (codes "process") track 0) _ _ _ _ last c.of_processors-2.ensures))
    c.add_index.ensures
