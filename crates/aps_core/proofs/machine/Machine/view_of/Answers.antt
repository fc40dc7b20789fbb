use Rattle.std.proofs.Common.{◌∙◌}
use Rattle.aps_core.proofs.Counting.{critical_are, used_are}
use Rattle.aps_core.proofs.machine.Machine.view_of.Goals as goal

pub returns : goal.returns
returns c =
    let s = c.args.self.now in
    let h = c.args.entries.now in
    λ i. record {
      used = (c.all_used.ensures.used ∙ used_are s.shape h c.args.tick c.args.window.now c.requires.counts) i;
      critical_used = (c.all_used.ensures.critical ∙ critical_are s.shape h c.args.tick c.args.window.now c.requires.counts) i;
      thread = c.thread_view.ensures i;
    }
