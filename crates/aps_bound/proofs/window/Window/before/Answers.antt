use Rattle.std.proofs.Common.{arith}
use Rattle.aps_bound.proofs.Sliding.{empty_usage}
use Rattle.aps_bound.proofs.window.Window.before.Goals as goal

pub returns-clause-window : goal.returns-clause-window
returns-clause-window c = record {
  forward = omega arith;
  usage = rw c.at-first.ensures.tick (empty_usage c.args.tick c.args.a c.args.entries.now);
  first = c.at-first.ensures.cursor;
  end = c.at-first.ensures.cursor;
}
