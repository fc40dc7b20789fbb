use Rattle.std.proofs.Common.{rules, subst₂}
use Rattle.aps_cpu.specs.Driven.{IsOnFrom}
use Rattle.aps_cpu.proofs.threads.drive_each.Goals as goal

pub returns : goal.returns
returns g c = (search rules, λ i d l. let call = (c.for_each_mut.ensures i d l).1 in subst₂ IsOnFrom call.argument_is call.left call.call)
