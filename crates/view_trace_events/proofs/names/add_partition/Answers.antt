use lib.Chars.{codes}
use Rattle.std.proofs.Common.{ℕ, List, ◌+◌, ◌++◌}
use Rattle.view_texts.proofs.Pieces.{as_other, on_ok, three}
use Rattle.view_trace_events.specs.Names.{track_head_text, index_event}
use Rattle.view_trace_events.specs.Track.{of_partition}
use Rattle.view_trace_events.proofs.names.add_partition.Goals as goal

pub returns : goal.returns
returns c =
    let track = c.of_partition-track.ensures in
    on_ok c.add_index.result
    (λ last.
    three _ _ _ _ (track_head_text (codes "process_name") (of_partition c.args.p)) (codes "partition " ++ (c.args.name.now ++ codes "\"}}"))
    (index_event (codes "process") (of_partition c.args.p) (c.args.p + 1))
    (as_other (track_head_text (codes "process_name")) _ _ _ _ c.in_ok-add_head.ensures track)
    (as_other (λ (name : List ℕ). codes "partition " ++ (name ++ codes "\"}}")) _ _ _ _ c.in_ok-write.ensures.bytes c.text_of-name.ensures)
    (as_other (λ p. index_event (codes "process") (of_partition c.args.p) (p + 1)) _ _ _ _
    (as_other (λ track. index_event (codes "process") track (c.index.result + 1)) _ _ _ _ last track) c.index.ensures.same))
    c.add_index.ensures
