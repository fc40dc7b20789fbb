use Rattle.std.proofs.Common.{◌≡◌, ◌∙◌, ap}
use Rattle.aps_model.specs.Pick.{missing}
use Rattle.aps_ready.specs.Ready.{members}
use Rattle.aps_live.specs.LiveState.{LiveState}
use Rattle.aps_live.specs.LiveStep.{live_contenders}
use Rattle.aps_live.proofs.Rows.{members_of}
use Rattle.aps_live.proofs.machine.LiveMachine.missing.Goals as goal

pub returns : goal.returns
returns c =
    c.missing.ensures
    ∙ ap (λ r. missing c.args.parts.now (members r)) c.self.invariant.row
    ∙ ap (missing c.args.parts.now) (members_of c.self.inside.threads.items)
    ∙ ap (λ (s : LiveState). missing c.args.parts.now (live_contenders s)) c.self.view_is
