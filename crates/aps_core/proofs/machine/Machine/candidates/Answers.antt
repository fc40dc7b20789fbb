use Rattle.std.proofs.Common.{arith}
use Rattle.std.proofs.lemmas.Grind.{common_steps}
use Rattle.aps_model.specs.Limits.{most_partitions}
use Rattle.aps_core.proofs.Scan.{any_ready, any_other, none_marked}
use Rattle.aps_core.proofs.machine.Machine.candidates.Goals as goal
use Rattle.aps_core.proofs.machine.Machine.candidates.Goals.{in-Some, in_default}

pub loop-x-init : goal.loop-x-init
loop-x-init c = λ p inside. none_marked most_partitions p

pub loop-x-preserved : goal.loop-x-preserved
loop-x-preserved c =
    elim c.match-contender_at.branch [
      | in-Some w ↦ λ p inside.
          let marked = w.mark.ensures p inside in
          let before = c.loop-x.invariant p inside in
          grind (arith, common_steps, marked, before, any_ready c.args.parts.now c.args.self.now p c.loop-x.x)
      | in_default w ↦ λ p inside.
          let before = c.loop-x.invariant p inside in
          grind (arith, common_steps, before, any_other c.args.parts.now c.args.self.now p c.loop-x.x)
    ]
