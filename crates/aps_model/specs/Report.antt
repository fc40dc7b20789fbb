use lib.Chars.{codes}
use Rattle.std.specs.Prelude.{ℕ, ◌+◌, ◌-◌, ◌*◌, ◌/◌, ◌++◌, List, [], ◌∷◌, length, map, if◌then◌else◌, Option, Some, None, is_none}
use Rattle.std.specs.List.{flat_map, sum_by, range_with_len, enumerate_from}
use Rattle.std.specs.Fmt.{decimal}
use Rattle.aps_model.specs.declared.entry.Entry.{Entry}
use Rattle.aps_model.specs.declared.entry.End.{End}
use Rattle.aps_model.specs.declared.entry.End.TheVariants.{Horizon, Limit, Reboot}
use Rattle.aps_model.specs.declared.shape.Shape.{Shape}
use Rattle.aps_model.specs.declared.partition.PartitionRow.{PartitionRow}
use Rattle.aps_model.specs.declared.scenario.ThreadRow.{ThreadRow}
use Rattle.aps_model.specs.declared.audit.Worst.{Worst}
use Rattle.aps_model.specs.declared.audit.Audit.{Audit}
use Rattle.aps_model.specs.Usage.{names, used}
use Rattle.aps_model.specs.History.{History}
use Rattle.aps_model.specs.Loaded.{finished_ticks}
use Rattle.aps_model.specs.Journal.{line_of}
use Rattle.aps_model.specs.Replies.{reply_line}

abbrev pub end_words : Option End → List (List ℕ)
end_words None = []
end_words (Some Horizon) = codes "horizon" ∷ []
end_words (Some Limit) = codes "limit" ∷ []
end_words (Some (Reboot p)) = codes "reboot" ∷ decimal p ∷ []

abbrev pub end_line : Option End → List ℕ
end_line end = line_of (codes "end" ∷ end_words end)

-- ---- sums over all entries

abbrev pub length_of : Entry → ℕ
length_of e = e.to - e.from

abbrev pub total_billed : List Entry → ℕ → ℕ
total_billed h p = sum_by (λ (e : Entry). if names e.billed p then length_of e else 0) h

abbrev pub total_critical : List Entry → ℕ → ℕ
total_critical h p = sum_by (λ (e : Entry). if names e.billed p then (if e.critical then length_of e else 0) else 0) h

abbrev pub total_ran : List Entry → ℕ → ℕ
total_ran h x = sum_by (λ (e : Entry). if names e.ran x then length_of e else 0) h

abbrev pub total_idle : List Entry → ℕ
total_idle h = sum_by (λ (e : Entry). if is_none e.ran then length_of e else 0) h

-- ---- the summary

abbrev pub shape_line : Shape → List ℕ
shape_line shape = line_of (
    codes "shape" ∷ codes "cpus" ∷ decimal shape.cpus ∷ codes "tick" ∷ decimal shape.tick
    ∷ codes "window" ∷ decimal shape.window ∷ codes "ticks" ∷ decimal shape.ticks ∷ [])

abbrev pub partition_line : List Entry → ℕ × PartitionRow → List ℕ
partition_line h (p, row) = line_of (
    codes "partition" ∷ decimal p ∷ row.name ∷ codes "budget" ∷ decimal row.budget
    ∷ codes "billed" ∷ decimal (total_billed h p) ∷ codes "critical" ∷ decimal (total_critical h p) ∷ [])

abbrev pub thread_line : List Entry → ℕ × ThreadRow → List ℕ
thread_line h (x, row) = line_of (codes "thread" ∷ decimal x ∷ row.name ∷ codes "ran" ∷ decimal (total_ran h x) ∷ [])

-- a number of the audit after its word
abbrev pub worst_line : List ℕ → Option Worst → List ℕ
worst_line word None = line_of (word ∷ codes "none" ∷ [])
worst_line word (Some worst) = line_of (
    word ∷ decimal worst.amount ∷ codes "partition" ∷ decimal worst.partition ∷ codes "window" ∷ decimal worst.window ∷ [])

abbrev pub audit_lines : Audit → List ℕ
audit_lines audit =
    line_of (codes "loaded" ∷ decimal audit.loaded_from ∷ [])
    ++ worst_line (codes "over") audit.worst_over
    ++ worst_line (codes "short") audit.worst_short
    ++ worst_line (codes "overcritical") audit.critical_worst

-- the summary up to its audit: how the run ended, and who used how much
abbrev pub usage_text : History → List ℕ
usage_text h =
    codes "aps summary 1\n"
    ++ end_line h.end
    ++ shape_line h.shape
    ++ line_of (codes "entries" ∷ decimal (length h.entries) ∷ [])
    ++ flat_map (partition_line h.entries) (enumerate_from 0 h.rows)
    ++ line_of (codes "idle" ∷ decimal (total_idle h.entries) ∷ [])
    ++ flat_map (thread_line h.entries) (enumerate_from 0 h.scenario.threads)

-- the summary of a history with this audit
abbrev pub summary_text : History → Audit → List ℕ
summary_text h audit = usage_text h ++ audit_lines audit ++ flat_map reply_line h.replies

-- ---- the windows

abbrev pub window_line : History → ℕ → List ℕ
window_line h a = line_of (
    codes "window" ∷ decimal a
    ∷ map (λ p. decimal (used h.shape.tick h.entries p a (a + h.shape.window))) (range_with_len 0 (length h.rows)))

-- one line for each window that is finished, from 0 on, one after the other
abbrev pub windows_text : History → List ℕ
windows_text h =
    codes "aps windows 1\n"
    ++ end_line h.end
    ++ flat_map (λ k. window_line h (k * h.shape.window)) (range_with_len 0 (finished_ticks h.shape h.entries / h.shape.window))
