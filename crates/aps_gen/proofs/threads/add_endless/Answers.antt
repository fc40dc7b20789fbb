use Rattle.std.proofs.Common.{◌∙◌}
use Rattle.aps_gen.proofs.Loops.{endless_more, endless_all, after_step, after_all}
use Rattle.aps_gen.proofs.threads.add_endless.Goals as goal

pub loop-j-preserved : goal.loop-j-preserved
loop-j-preserved c = record {
  added = endless_more c.args.i c.loop-j.j c.args.cpus c.loop-j.draws.state c.endless.new.draws.state c.in_ok-endless.field-0 c.loop-j.threads.items c.push.new.self.items _
      c.loop-j-test.true c.loop-j.invariant.added c.in_ok-push.ensures.items c.in_ok-endless.ensures.thread c.in_ok-endless.ensures.drawn;
  drawn = after_step c.loop-j.j c.args.cpus c.loop-j.draws.state c.endless.new.draws.state c.loop-j-test.true c.in_ok-endless.ensures.drawn ∙ c.loop-j.invariant.drawn;
}

pub returns-clause-threads : goal.returns-clause-threads
returns-clause-threads c =
    endless_all c.args.i c.loop-j.j c.args.cpus c.loop-j.draws.state c.loop-j.threads.items _ c.loop-j-test.false c.loop-j.invariant.added

pub returns-clause-drawn : goal.returns-clause-drawn
returns-clause-drawn c = after_all c.loop-j.j c.args.cpus c.loop-j.draws.state _ c.loop-j-test.false c.loop-j.invariant.drawn
