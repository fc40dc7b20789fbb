use Rattle.std.proofs.Common.{◌≡◌, true, false, ◌∙◌, sym, subst}
use Rattle.aps_core.specs.Touched.{IsTouched, peer_of}
use Rattle.aps_core.proofs.machine.Machine.sync_touched.Goals as goal
use Rattle.aps_core.proofs.machine.Machine.sync_touched.Goals.{then-is_any, else-is_any}

clash : true ≡ false → ⊥
clash e = cc

pub sync_some-requires-clause-tied : goal.sync_some-requires-clause-tied
sync_some-requires-clause-tied c y apart =
    let other =
    subst (λ o. IsTouched c.args.woken.now c.args.own.now o c.is_at_channel.result c.args.self.now.triples y → ⊥) c.peer_of-peer.ensures apart in
    let all = subst (λ b. IsTouched c.args.woken.now c.args.own.now (peer_of c.args.done.now) b c.args.self.now.triples y → ⊥) c.is_at_channel.ensures other in
    elim c.if-is_any.branch [
      | then-is_any w ↦ absurd (clash (sym w.if-is_any.true ∙ sym w.value-is ∙ c.if-is_exit.false))
      | else-is_any w ↦ c.requires.tied w.if-is_any.false (sym w.is_exit.ensures ∙ sym w.value-is ∙ c.if-is_exit.false) y all
    ]
