use Rattle.std.proofs.Common.{◌+◌, ◌∙◌, ℕ, List, Vec, Global, ap, sym, subst}
use Rattle.view_latency.specs.Callers.{AreCallersBelow}
use Rattle.view_latency.proofs.Quiet.{left_out, put_in}
use Rattle.view_latency.proofs.callers.all_callers.Goals.{then-may_call+in_ok-push, else-may_call}
use Rattle.view_latency.proofs.callers.all_callers.Goals as goal

pub loop-x-preserved : goal.loop-x-preserved
loop-x-preserved c =
    let scenario = c.args.scenario.now in
    let x = c.loop-x.x in
    let callers = c.loop-x.callers.items in
    elim c.if-may_call.branch [
      | then-may_call+in_ok-push w ↦
          subst (λ (l : List ℕ). AreCallersBelow scenario (x + 1) l) (sym (ap (λ (v : Vec ℕ Global). v.items) w.callers-is ∙ w.in_ok-push.ensures.items))
          (put_in scenario x callers (sym c.may_call.ensures ∙ w.if-may_call.true) c.loop-x.invariant)
      | else-may_call w ↦
          subst (λ (l : List ℕ). AreCallersBelow scenario (x + 1) l) (sym (ap (λ (v : Vec ℕ Global). v.items) w.callers-is))
          (left_out scenario x callers (sym c.may_call.ensures ∙ w.if-may_call.false) c.loop-x.invariant)
    ]
