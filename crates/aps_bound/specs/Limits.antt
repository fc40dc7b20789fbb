-- How much a partition may use in a window without the audit being any worse for it.
use Rattle.std.specs.Prelude.{◌≡◌, ◌⊎◌, ℕ, ◌-◌, ◌^◌, ◌<◌, ◌≤◌, List, length, slice_index_or, Some}
use Rattle.aps_model.specs.declared.audit.Audit.{Audit}
use Rattle.aps_model.specs.declared.audit.Worst.{Worst}
use Rattle.aps_model.specs.Audit.{allowance}
use Rattle.aps_model.specs.History.{History}
use Rattle.aps_model.specs.Partition.{row_or_none}
use Rattle.aps_bound.specs.declared.limits.Limit.{Limit}

-- the limit that nothing keeps
abbrev pub no_limit : Limit
no_limit = record { least = 0; end = 0; critical = 0 }

-- so much time, with so much critical time, keeps within the limit
pub record IsWithin (limit : Limit) (used critical : ℕ) : Type 0 where
  pub least : limit.least ≤ used
  pub end : used < limit.end
  pub critical_most : critical ≤ limit.critical
  pub fits : used < 2 ^ 64
  pub critical_fits : critical < 2 ^ 64

-- whatever keeps within the limit of partition p has no greater amounts than these
pub record HasLimit (h : History) (over short critical p : ℕ) (limit : Limit) : Type 0 where
  pub over_stays : (u c : ℕ) → IsWithin limit u c → u - allowance h.shape (row_or_none h.rows p).budget ≤ over
  pub short_stays : (u c : ℕ) → IsWithin limit u c → allowance h.shape (row_or_none h.rows p).budget - u ≤ short
  pub critical_stays : (u c : ℕ) → IsWithin limit u c → c - (row_or_none h.rows p).critical ≤ critical

-- no greater ones than the worst so far
pub record HasWorst (h : History) (audit : Audit) (p : ℕ) (limit : Limit) : Type 0 where
  pub over : Worst
  pub short : Worst
  pub critical : Worst
  pub is_over : audit.worst_over ≡ Some over
  pub is_short : audit.worst_short ≡ Some short
  pub is_critical : audit.critical_worst ≡ Some critical
  pub holds : HasLimit h over.amount short.amount critical.amount p limit

-- each partition has such a limit, or one that nothing keeps
abbrev pub AreLimits : History → Audit → List Limit → Type 0
AreLimits h audit limits = (p : ℕ) → p < length h.rows
    → (slice_index_or limits p no_limit ≡ no_limit) ⊎ HasWorst h audit p (slice_index_or limits p no_limit)
