-- What the last lines of a summary tell of the bounds.
use Rattle.std.specs.Prelude.{◌≤◌, ◌*◌, IfSome}
use Rattle.aps_model.specs.declared.audit.Worst.{Worst}
use Rattle.aps_model.specs.Audit.{audit_of, over_from, short_from, critical_over_from}
use Rattle.aps_model.specs.History.{History}
use Rattle.laws_bounds.specs.Loaded.{IsSettled, IsUncritical}
use Rattle.laws_bounds.specs.Worst.{IsAudited, TellsWorst}

-- each amount of the audit is the greatest of its kind over all partitions in all loaded windows, with the first window in
-- which a partition attains it, and of these partitions with the lowest
pub record TellsWorstWindows (h : History) : Type 0 where
  pub over : TellsWorst (over_from h) (IsAudited h) (audit_of h).worst_over
  pub short : TellsWorst (short_from h) (IsAudited h) (audit_of h).worst_short
  pub critical : TellsWorst (critical_over_from h) (IsAudited h) (audit_of h).critical_worst

-- where no change stands at the first unfinished tick or later, the critical excess is at most one tick of each processor,
-- and so is the excess where no loaded window has critical time
pub record HasSmallExcess (h : History) : Type 0 where
  pub critical : IsSettled h → IfSome (audit_of h).critical_worst (λ (w : Worst). w.amount ≤ h.shape.cpus * h.shape.tick)
  pub over : IsSettled h → IsUncritical h → IfSome (audit_of h).worst_over (λ (w : Worst). w.amount ≤ h.shape.cpus * h.shape.tick)
