use lib.Chars.{codes}
use Rattle.std.proofs.Common.{◌++◌}
use Rattle.std.specs.Fmt.{decimal}
use Rattle.view_texts.proofs.Pieces.{as_other, on_ok, three}
use Rattle.view_trace_events.specs.Names.{track_head_text, index_event}
use Rattle.view_trace_events.specs.Track.{of_processor}
use Rattle.view_trace_events.proofs.names.add_processor.Goals as goal

pub returns : goal.returns
returns c =
    let track = c.of_processor-track.ensures in
    let number = c.index-number.ensures.same in
    on_ok c.add_index.result
    (λ last.
    three _ _ _ _ (track_head_text (codes "thread_name") (of_processor c.args.c)) (codes "cpu " ++ (decimal c.args.c ++ codes "\"}}"))
    (index_event (codes "thread") (of_processor c.args.c) c.args.c)
    (as_other (track_head_text (codes "thread_name")) _ _ _ _ c.in_ok-add_head.ensures track)
    (as_other (λ n. codes "cpu " ++ (decimal n ++ codes "\"}}")) _ _ _ _ c.in_ok-write.ensures.bytes number)
    (as_other (index_event (codes "thread") (of_processor c.args.c)) _ _ _ _
    (as_other (λ track. index_event (codes "thread") track c.index-number.result) _ _ _ _ last track) number))
    c.add_index.ensures
