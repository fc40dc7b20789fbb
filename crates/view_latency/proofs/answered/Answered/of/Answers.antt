use Rattle.std.proofs.Common.{◌≡◌, ◌+◌, ◌∷◌, ◌++◌, [], ◌∙◌, take, ap, sym}
use Rattle.std.proofs.lemmas.List.{take_more}
use Rattle.std.proofs.lemmas.List.Sums.{fold-append}
use Rattle.view_latency.specs.declared.call.Call.{Call}
use Rattle.view_latency.specs.Answered.{answered_at, none_answered, with_call}
use Rattle.view_latency.proofs.answered.Answered.of.Goals as goal

pub loop-call-preserved : goal.loop-call-preserved
loop-call-preserved c =
    let calls = c.args.calls.now in
    let channel = c.args.channel in
    let i = c.loop-call.call-index in
    let call = c.call-item.result in
    let next : take (i + 1) calls ≡ take i calls ++ call ∷ [] =
    take_more calls i call c.loop-call-test.true ∙ ap (λ (one : Call). take i calls ++ one ∷ []) (sym c.call-item.is) in
    record {
      same = c.with-answered.ensures.same ∙ ap (λ answered. with_call channel answered call) c.loop-call.invariant.same
          ∙ sym (ap (answered_at channel) next ∙ fold-append (with_call channel) none_answered (take i calls) (call ∷ []));
      few = c.with-answered.ensures.few i c.loop-call.invariant.few;
    }
