use Rattle.std.proofs.Common.{◌∙◌, refl, sym, subst, take, arith}
use Rattle.aps_core.specs.Run.{Setup}
use Rattle.view_replay.specs.Retraced.{order_of_run, scenario_of_run}
use Rattle.view_samples.specs.Look.{IsLook}
use Rattle.view_samples.specs.Pass.{entry_at}
use Rattle.view_samples.proofs.Cuts.{cut_at, is_there}
use Rattle.view_samples.proofs.Steps.{notes_more, past_more, ready_more}
use Rattle.view_samples.proofs.pass.Samples.go_through.Goals as goal

pub loop-self-preserved : goal.loop-self-preserved
loop-self-preserved c =
    let h = c.args.entries.now in
    let self = c.loop-self.self in
    let i = self.cursor.next in
    let inv = c.loop-self.invariant in
    let next = c.go_on-look.ensures.next in
    let forward = inv.forward in
    let there = is_there h i c.args.bound (sym c.is_before.ensures ∙ c.loop-self-test.true) in
    record {
      ready = ready_more h self _ inv.ready refl c.go_on-look.ensures.setup c.go_on-look.ensures.up;
      tick = inv.tick;
      lasts = inv.lasts;
      setup = c.go_on-look.ensures.setup ∙ inv.setup;
      forward = omega (arith, forward, next);
      past = λ start k less. past_more h c.args.bound i there.1 (inv.past start) k (omega (arith, less, next));
      notes = notes_more (scenario_of_run c.args.self.now.cursor.core) h c.args.self.now self _ c.go_on-look.result there.0 forward next
          (subst (λ (s : Setup). IsLook s.scenario (take i h) (entry_at h i) c.go_on-look.result) inv.setup c.go_on-look.ensures.look) c.add.ensures inv.notes;
    }

pub returns-clause-up : goal.returns-clause-up
returns-clause-up c =
    let h = c.args.entries.now in
    let self = c.loop-self.self in
    let inv = c.loop-self.invariant in
    record {
      ready = inv.ready;
      tick = inv.tick;
      lasts = inv.lasts;
      setup = inv.setup;
      forward = inv.forward;
      cut = λ past. cut_at (scenario_of_run self.cursor.core) (order_of_run self.cursor.core) h c.args.bound self.cursor.next inv.ready.valid inv.ready.legal inv.ready.up.place (sym c.is_before.ensures ∙ c.loop-self-test.false) (inv.past past);
    }
