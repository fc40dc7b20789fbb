use lib.Chars.{codes}
use Rattle.std.proofs.Common.{◌-◌}
use Rattle.view_texts.proofs.Pieces.{as_other, four, on_ok, on_put}
use Rattle.view_trace_events.specs.Arrows.{end_text}
use Rattle.view_trace_events.proofs.arrows.add_arrow.Goals as goal

pub returns : goal.returns
returns c =
    let end = end_text c.args.threads.now in
    let arrow = c.args.arrow.now in
    let number = c.args.number in
    let moment = c.args.moment in
    on_ok c.push_str-2.result
    (λ last.
    four _ _ _ _ _ (end (codes "s") arrow.carried number arrow.source (moment - 1)) (codes "}")
    (end (codes "f") arrow.carried number arrow.target moment) (codes ",\"bp\":\"e\"}")
    (as_other (end (codes "s") arrow.carried number arrow.source) _ _ _ _ c.in_ok-add_end.ensures c.saturating_sub.ensures)
    c.in_ok-push_str.ensures.bytes c.in_ok-add_end-2.ensures last)
    (on_put c.push_str-2.result _ _ _ c.push_str-2.ensures.bytes)
