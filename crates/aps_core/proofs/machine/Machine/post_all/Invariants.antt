use Rattle.std.proofs.Common.{ℕ, ◌<◌}
use Rattle.aps_model.specs.SchedulerState.{cpu_at}
use Rattle.aps_core.specs.Posts.{IsPost, facts_now, post_at}
use Rattle.aps_core.proofs.machine.Machine.post_all.Given as goal

abbrev pub invariant-loop-d : goal.invariant-loop-d
invariant-loop-d l = (e : ℕ) → e < l.d → IsPost (facts_now l.self (cpu_at l.self e).running) (post_at l.posts e)
