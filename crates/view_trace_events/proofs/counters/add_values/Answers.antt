use lib.Chars.{codes}
use Rattle.std.proofs.Common.{slice_index}
use Rattle.view_texts.proofs.Pieces.{as_other, on_ok, three}
use Rattle.view_trace_events.specs.Counters.{value_event}
use Rattle.view_trace_events.proofs.counters.add_values.Goals as goal

pub returns : goal.returns
returns c =
    let sample = c.args.sample.now in
    let moment = c.args.moment in
    let p = c.args.p in
    let place = c.index-place.ensures.same in
    on_ok c.add_value-3.result
    (λ last.
    three _ _ _ _ (value_event (codes "used") moment p (slice_index sample.usage.used p))
    (value_event (codes "critical used") moment p (slice_index sample.usage.critical p))
    (value_event (codes "allowance") moment p (slice_index sample.allowance p))
    (as_other (λ i. value_event (codes "used") moment p (slice_index sample.usage.used i)) _ _ _ _ c.in_ok-add_value.ensures place)
    (as_other (λ i. value_event (codes "critical used") moment p (slice_index sample.usage.critical i)) _ _ _ _ c.in_ok-add_value-2.ensures place)
    (as_other (λ i. value_event (codes "allowance") moment p (slice_index sample.allowance i)) _ _ _ _ last place))
    c.add_value-3.ensures
