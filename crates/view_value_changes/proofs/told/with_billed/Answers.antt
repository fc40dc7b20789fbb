use Rattle.std.proofs.Common.{◌||◌, slice_index_or, false, arith, refl}
use Rattle.aps_model.specs.Limits.{most_partitions}
use Rattle.view_samples.specs.Picks.{bills}
use Rattle.view_samples.proofs.Fill.{filled_none}
use Rattle.view_value_changes.proofs.told.with_billed.Goals as goal

pub loop-p-init : goal.loop-p-init
loop-p-init c = filled_none (λ p. bills c.args.pick.now p || slice_index_or c.args.ready.now p false) false most_partitions _ refl

pub returns-clause-places : goal.returns-clause-places
returns-clause-places c = c.loop-p.invariant.places

pub returns-clause-each : goal.returns-clause-each
returns-clause-each c = λ p less. c.loop-p.invariant.each p (omega (arith, less))
