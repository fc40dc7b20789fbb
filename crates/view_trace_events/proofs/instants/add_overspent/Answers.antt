use lib.Chars.{codes}
use Rattle.std.proofs.Common.{◌++◌}
use Rattle.std.specs.Fmt.{decimal}
use Rattle.view_texts.proofs.Pieces.{as_other, on_ok, three}
use Rattle.view_trace_events.specs.Place.{track_place_text}
use Rattle.view_trace_events.specs.Track.{of_partition}
use Rattle.view_trace_events.proofs.instants.add_overspent.Goals as goal

pub returns : goal.returns
returns c =
    let one = c.args.one.now in
    on_ok c.write.result
    (λ last.
    three _ _ _ _ (codes ",\n{\"ph\":\"i\",\"s\":\"p\",\"name\":\"overspent\"") (track_place_text (of_partition one.partition) one.moment)
    (codes ",\"args\":{\"ns\":" ++ (decimal one.excess ++ codes "}}")) c.in_ok-push_str.ensures.bytes
    (as_other (λ track. track_place_text track one.moment) _ _ _ _ c.in_ok-add_place.ensures c.of_partition.ensures) last)
    c.write.ensures.bytes
