use Rattle.std.proofs.Common.{refl, subst, take}
use Rattle.aps_model.specs.After.{state_after}
use Rattle.aps_core.specs.Run.{Run, state_of_run}
use Rattle.view_replay.specs.Retraced.{scenario_of_run}
use Rattle.view_samples.specs.Note.{IsFreshNote}
use Rattle.view_samples.proofs.Steps.{ready_more}
use Rattle.view_samples.proofs.pass.Samples.open.Goals as goal

pub returns : goal.returns
returns c =
    let h = c.args.entries.now in
    let self = c.args.self.now in
    let there : IsFreshNote (state_after (scenario_of_run self.cursor.core) (take c.go_on-look.new.self.next h)) c.fresh-self.result =
    subst (λ (r : Run). IsFreshNote (state_of_run r) c.fresh-self.result) c.go_on-look.ensures.up.run c.fresh-self.ensures in
    record {
      ready = ready_more h self _ c.requires.ready refl c.go_on-look.ensures.setup c.go_on-look.ensures.up;
      tick = refl;
      lasts = refl;
      setup = c.go_on-look.ensures.setup;
      next = c.go_on-look.ensures.next;
      fresh = c.fresh-self.result;
      look = c.go_on-look.result;
      is_fresh = subst (λ n. IsFreshNote (state_after (scenario_of_run self.cursor.core) (take n h)) c.fresh-self.result) c.go_on-look.ensures.next there;
      is_look = c.go_on-look.ensures.look;
      is_added = c.add.ensures;
    }
