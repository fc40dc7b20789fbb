use Rattle.view_texts.proofs.Pieces.{on_ok}
use Rattle.view_texts.proofs.Told.{told_all, told_both, told_put}
use Rattle.view_trace_events.proofs.writing.trace.Goals as goal

pub returns-clause-whole : goal.returns-clause-whole
returns-clause-whole g c =
    on_ok c.write_out.result
    (λ last.
    told_all _ _ _ _ _ _ c.new-out.ensures.bytes
    (told_both _ _ _ _ _ _ _ _ c.in_ok-write_events.ensures.told (told_put _ _ _ _ c.in_ok-push_str.ensures.bytes)) last)
    c.write_out.ensures.written
