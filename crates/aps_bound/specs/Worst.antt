-- The audit so far, as it grows by windows and by partitions.
use Rattle.std.specs.Prelude.{ℕ, ◌-◌, length, Option}
use Rattle.std.specs.List.{fold, range_with_len}
use Rattle.aps_model.specs.declared.audit.Audit.{Audit}
use Rattle.aps_model.specs.declared.audit.Worst.{Worst}
use Rattle.aps_model.specs.Audit.{critical_over_from, over_from, short_from, worse}
use Rattle.aps_model.specs.History.{History}

abbrev pub worst_with : (ℕ → ℕ → ℕ) → ℕ → Option Worst → ℕ → Option Worst
worst_with amount a found p = worse found (record { amount = amount a p; partition = p; window = a })

-- with one partition in the window from tick a on
abbrev pub with_partition : History → Audit → ℕ → ℕ → Audit
with_partition h audit a p = record audit {
  worst_over = worst_with (over_from h) a audit.worst_over p;
  worst_short = worst_with (short_from h) a audit.worst_short p;
  critical_worst = worst_with (critical_over_from h) a audit.critical_worst p;
}

-- with so many partitions in that window
abbrev pub with_partitions : History → Audit → ℕ → ℕ → Audit
with_partitions h audit a partitions = record audit {
  worst_over = fold (worst_with (over_from h) a) audit.worst_over (range_with_len 0 partitions);
  worst_short = fold (worst_with (short_from h) a) audit.worst_short (range_with_len 0 partitions);
  critical_worst = fold (worst_with (critical_over_from h) a) audit.critical_worst (range_with_len 0 partitions);
}

-- with all partitions in that window
abbrev pub with_window : History → Audit → ℕ → Audit
with_window h audit a = with_partitions h audit a (length h.rows)

-- with all windows from ticks from to end-1 on
abbrev pub with_windows : History → Audit → ℕ → ℕ → Audit
with_windows h audit from end = fold (with_window h) audit (range_with_len from (end - from))
