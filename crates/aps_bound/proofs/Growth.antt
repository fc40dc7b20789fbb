-- The audit as it grows by windows is that over all windows.
use Rattle.std.proofs.Common.{◌≡◌, ℕ, ◌+◌, ◌-◌, ◌≤◌, List, [], ◌∷◌, length, max, refl, sym, ◌∙◌, ap, Option, Some, None, cond, false, nat_lt, arith}
use Rattle.std.specs.List.{fold, range_with_len}
use Rattle.std.proofs.lemmas.Bool.Decides.{nat_tests}
use Rattle.aps_model.specs.declared.audit.Audit.{Audit}
use Rattle.aps_model.specs.declared.audit.Worst.{Worst}
use Rattle.aps_model.specs.declared.command.Change.{Change}
use Rattle.aps_model.specs.declared.entry.Entry.{Entry}
use Rattle.aps_model.specs.declared.shape.Shape.{Shape}
use Rattle.aps_model.specs.Audit.{audit_of, critical_over_from, over_from, short_from, worse}
use Rattle.aps_model.specs.History.{History}
use Rattle.aps_model.specs.Loaded.{finished_ticks, loaded_tick, loaded_windows}
use Rattle.aps_bound.specs.Worst.{with_partition, with_partitions, with_window, with_windows, worst_with}
use Rattle.aps_model.proofs.Ranges.{fold_more}

-- one partition more
pub partitions-more : (h : History) (audit : Audit) (a n : ℕ) → with_partitions h audit a (n + 1) ≡ with_partition h (with_partitions h audit a n) a n
partitions-more h audit a n =
    let over = fold_more (worst_with (over_from h) a) audit.worst_over 0 n n (omega arith) in
    let short = fold_more (worst_with (short_from h) a) audit.worst_short 0 n n (omega arith) in
    let critical = fold_more (worst_with (critical_over_from h) a) audit.critical_worst 0 n n (omega arith) in
    ap (λ (o : Option Worst). record audit { worst_over = o; worst_short = fold (worst_with (short_from h) a) audit.worst_short (range_with_len 0 (n + 1)); critical_worst = fold (worst_with (critical_over_from h) a) audit.critical_worst (range_with_len 0 (n + 1)) }) over
    ∙ ap (λ (o : Option Worst). record audit { worst_over = worst_with (over_from h) a (fold (worst_with (over_from h) a) audit.worst_over (range_with_len 0 n)) n; worst_short = o; critical_worst = fold (worst_with (critical_over_from h) a) audit.critical_worst (range_with_len 0 (n + 1)) }) short
    ∙ ap (λ (o : Option Worst). record audit { worst_over = worst_with (over_from h) a (fold (worst_with (over_from h) a) audit.worst_over (range_with_len 0 n)) n; worst_short = worst_with (short_from h) a (fold (worst_with (short_from h) a) audit.worst_short (range_with_len 0 n)) n; critical_worst = o }) critical

-- an amount that is no greater than the worst so far leaves that
kept_worst : (found : Option Worst) (best one : Worst) → found ≡ Some best → one.amount ≤ best.amount → worse found one ≡ found
kept_worst found best one is few =
    let test : nat_lt best.amount one.amount ≡ false = grind (arith, nat_tests) in
    ap (λ o. worse o one) is ∙ ap (λ t. Some (cond t one best)) test ∙ sym is

-- a partition of which no amount is
pub partition_stays : (h : History) (audit : Audit) (a p : ℕ) (over short critical : Worst) → audit.worst_over ≡ Some over → audit.worst_short ≡ Some short → audit.critical_worst ≡ Some critical
    → over_from h a p ≤ over.amount → short_from h a p ≤ short.amount → critical_over_from h a p ≤ critical.amount → with_partition h audit a p ≡ audit
partition_stays h audit a p over short critical is_over is_short is_critical few few' few'' =
    λ i. record audit {
      worst_over = kept_worst audit.worst_over over (record { amount = over_from h a p; partition = p; window = a }) is_over few i;
      worst_short = kept_worst audit.worst_short short (record { amount = short_from h a p; partition = p; window = a }) is_short few' i;
      critical_worst = kept_worst audit.critical_worst critical (record { amount = critical_over_from h a p; partition = p; window = a }) is_critical few'' i;
    }

-- over these windows, as three separate scans
windows_apart : (h : History) (audit : Audit) (windows : List ℕ) → fold (with_window h) audit windows ≡ record audit {
  worst_over = fold (λ found a. fold (worst_with (over_from h) a) found (range_with_len 0 (length h.rows))) audit.worst_over windows;
  worst_short = fold (λ found a. fold (worst_with (short_from h) a) found (range_with_len 0 (length h.rows))) audit.worst_short windows;
  critical_worst = fold (λ found a. fold (worst_with (critical_over_from h) a) found (range_with_len 0 (length h.rows))) audit.critical_worst windows;
}
windows_apart h audit [] = refl
windows_apart h audit (a ∷ windows) = windows_apart h (with_window h audit a) windows

-- with one window more
pub windows_more : (h : History) (audit found next : Audit) (s a : ℕ) → s ≤ a → found ≡ with_windows h audit s a → next ≡ with_window h found a → next ≡ with_windows h audit s (a + 1)
windows_more h audit found next s a from so_far more =
    more ∙ ap (λ (x : Audit). with_window h x a) so_far ∙ sym (fold_more (with_window h) audit s (a - s) a (omega arith))
    ∙ ap (λ n. fold (with_window h) audit (range_with_len s n)) one_more
  where
    one_more : a - s + 1 ≡ a + 1 - s
    one_more = omega arith

-- with all windows, where the scan has reached the end
pub windows_done : (h : History) (audit found : Audit) (s end a : ℕ) → s ≤ a → end ≤ a → a ≤ max s end → found ≡ with_windows h audit s a → found ≡ with_windows h audit s end
windows_done h audit found s end a from to within so_far =
    let same : a - s ≡ end - s = omega arith in
    so_far ∙ ap (λ n. fold (with_window h) audit (range_with_len s n)) same

-- over all loaded windows
pub all_windows : (h : History) (s end : ℕ) → s ≡ loaded_tick h.shape h.entries h.changes → end ≡ finished_ticks h.shape h.entries + 1 - h.shape.window
    → with_windows h (record { loaded_from = s; worst_over = None; worst_short = None; critical_worst = None }) s end ≡ audit_of h
all_windows h s end loaded last =
    let start : ℕ → Audit = λ k. record { loaded_from = k; worst_over = None; worst_short = None; critical_worst = None } in
    let finished : ℕ = finished_ticks h.shape h.entries in
    let count : end - s ≡ finished + 1 - (s + h.shape.window) = omega arith in
    ap (λ k. fold (with_window h) (start s) (range_with_len s k)) count
    ∙ ap (λ k. fold (with_window h) (start k) (range_with_len k (finished + 1 - (k + h.shape.window)))) loaded
    ∙ windows_apart h (start (loaded_tick h.shape h.entries h.changes)) (loaded_windows h.shape h.entries h.changes)

-- over the numbers that the code finds
pub audit_is : (h : History) (shape : Shape) (entries : List Entry) (changes : List Change) (count s end : ℕ) (audit : Audit) → shape ≡ h.shape → entries ≡ h.entries → changes ≡ h.changes
    → count ≡ finished_ticks shape entries → s ≡ loaded_tick shape entries changes → end ≡ count + 1 - shape.window
    → audit ≡ with_windows h (record { loaded_from = s; worst_over = None; worst_short = None; critical_worst = None }) s end
    → audit ≡ audit_of h
audit_is h shape entries changes count s end audit e1 e2 e3 finished loaded last is =
    is ∙ all_windows h s end loaded' (omega (arith, finished', width', last))
  where
    loaded' : s ≡ loaded_tick h.shape h.entries h.changes
    loaded' = loaded ∙ ap (λ (x : Shape). loaded_tick x entries changes) e1 ∙ ap (λ (x : List Entry). loaded_tick h.shape x changes) e2 ∙ ap (loaded_tick h.shape h.entries) e3

    finished' : count ≡ finished_ticks h.shape h.entries
    finished' = finished ∙ ap (λ (x : Shape). finished_ticks x entries) e1 ∙ ap (finished_ticks h.shape) e2

    width' : shape.window ≡ h.shape.window
    width' = ap (λ (x : Shape). x.window) e1
