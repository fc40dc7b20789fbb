-- What keeps within the limits leaves the audit as it is.
use Rattle.std.proofs.Common.{◌≡◌, ◌⊎◌, inl, inr, ℕ, ◌+◌, ◌<◌, List, length, get_or, set, replicate, slice_index, sym, ◌∙◌, ap, subst, arith}
use Rattle.std.proofs.lemmas.Bool.{cases_eq, cases_lt}
use Rattle.std.proofs.lemmas.List.{get_or_past, get_or-replicate, length-replicate, get_or-set_other, get_or-set_same}
use Rattle.aps_model.specs.declared.audit.Audit.{Audit}
use Rattle.aps_model.specs.declared.usage.Usage.{Usage}
use Rattle.aps_model.specs.History.{History}
use Rattle.aps_model.specs.Limits.{most_partitions}
use Rattle.aps_model.specs.Sums.{IsUsage}
use Rattle.aps_bound.specs.declared.limits.Limit.{Limit}
use Rattle.aps_bound.specs.Limits.{AreLimits, HasWorst, IsWithin, no_limit}
use Rattle.aps_bound.specs.Worst.{with_partition}
use Rattle.aps_bound.proofs.Growth.{partition_stays}

-- limits that nothing keeps are limits of any audit
pub no_limits_are : (h : History) (audit : Audit) (limits : List Limit) → limits ≡ replicate most_partitions no_limit → AreLimits h audit limits
no_limits_are h audit limits none = λ p below. inl (ap (λ (l : List Limit). get_or l p no_limit) none ∙ (elim (cases_lt p most_partitions) [
  | inl few ↦ get_or-replicate most_partitions p no_limit no_limit few
  | inr past ↦ get_or_past (replicate most_partitions no_limit) p no_limit (omega (arith, past, length-replicate most_partitions no_limit))
]))

never_within : (u c : ℕ) → IsWithin no_limit u c → ⊥
never_within u c is = omega (arith, is.end)

-- a partition that keeps within its limit
pub within_stays : (h : History) (audit : Audit) (a p : ℕ) (usage : Usage) (limits : List Limit) → p < length h.rows → p < most_partitions
    → IsUsage h.shape.tick a (a + h.shape.window) h.entries usage → AreLimits h audit limits
    → IsWithin (get_or limits p no_limit) (slice_index usage.used p) (slice_index usage.critical p) → with_partition h audit a p ≡ audit
within_stays h audit a p usage limits below few is are within = by (are p below)
  where
    by : (get_or limits p no_limit ≡ no_limit) ⊎ HasWorst h audit p (get_or limits p no_limit) → with_partition h audit a p ≡ audit
    by (inl none) =
        absurd (never_within (slice_index usage.used p) (slice_index usage.critical p)
        (subst (λ (limit : Limit). IsWithin limit (slice_index usage.used p) (slice_index usage.critical p)) none within))
    by (inr worst) =
        let used = is.used p few in
        let critical = is.critical p few in
        partition_stays h audit a p worst.over worst.short worst.critical worst.is_over worst.is_short worst.is_critical
        (omega (arith, used, worst.holds.over_stays _ _ within))
        (omega (arith, used, worst.holds.short_stays _ _ within))
        (omega (arith, critical, worst.holds.critical_stays _ _ within))

-- one partition has this limit
pub limits_set : (h : History) (audit : Audit) (limits : List Limit) (p : ℕ) (limit : Limit) → p < length limits → AreLimits h audit limits → HasWorst h audit p limit
    → AreLimits h audit (set limits p limit)
limits_set h audit limits p limit few are worst = λ k below. elim (cases_eq k p) [
  | inl here ↦
      inr (subst (λ (j : ℕ). HasWorst h audit j (get_or (set limits p limit) j no_limit)) (sym here)
      (subst (HasWorst h audit p) (sym (get_or-set_same limits p limit no_limit few)) worst))
  | inr other ↦ elim (are k below) [
    | inl none ↦ inl (get_or-set_other limits p k limit no_limit other ∙ none)
    | inr stays ↦ inr (subst (HasWorst h audit k) (sym (get_or-set_other limits p k limit no_limit other)) stays)
  ]
]
