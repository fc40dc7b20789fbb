use Rattle.std.proofs.Common.{◌+◌, ap, sym, ◌∙◌}
use Rattle.aps_lock.specs.RunLog.{run_log}
use Rattle.aps_lock.proofs.dispatch.Dispatch.close.Goals as goal

pub end-requires-clause-all : goal.end-requires-clause-all
end-requires-clause-all c = let i = c.seat.invariant in let is = c.seat.view_is in
    (i.from ∙ ap (λ s. s.first) is ∙ c.requires.all.0, i.to ∙ ap (λ s. s.last + 1) is ∙ c.requires.all.1 ∙ ap (λ s. run_log.cpus_of s.seen) (sym is))
