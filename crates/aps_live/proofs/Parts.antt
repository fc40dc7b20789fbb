-- How each partition stands by a window.
use Rattle.std.proofs.Common.{◌≡◌, ℕ, ◌+◌, ◌-◌, ◌<◌, ◌≤◌, List, length, slice_index_or, ◌∙◌, ap, sym, arith}
use Rattle.aps_model.specs.declared.entry.Entry.{Entry}
use Rattle.aps_model.specs.declared.merit.PartFacts.{PartFacts}
use Rattle.aps_model.specs.declared.partition.PartitionRow.{PartitionRow}
use Rattle.aps_model.specs.declared.shape.Shape.{Shape}
use Rattle.aps_model.specs.Budget.{part_facts}
use Rattle.aps_model.specs.Limits.{longest_window}
use Rattle.aps_model.specs.Partition.{row_or_none}
use Rattle.aps_model.specs.Usage.{window_critical, window_used}
use Rattle.aps_window.specs.Bills.{Bill, bills_critical, bills_used}
use Rattle.aps_window.specs.StandsFor.{StandsFor}
use Rattle.aps_window.specs.Window.{Window}
use Rattle.aps_live.specs.Part.{part_of}
use Rattle.aps_live.specs.Tied.{IsTied}

-- what the window answers is what the entries give
pub part_is : (shape : Shape) (rows : List PartitionRow) (window : Window) (h : List Entry) (p spent critical : ℕ) (row : PartitionRow) (part : PartFacts) → IsTied shape.tick window h → window.span ≡ shape.window → 1 ≤ shape.window → shape.window ≤ longest_window
    → ((bills : List Bill) → StandsFor window bills → spent ≡ bills_used bills p (window.tick + 1 - window.span) (window.tick + 1))
    → ((bills : List Bill) → StandsFor window bills → critical ≡ bills_critical bills p (window.tick + 1 - window.span) (window.tick + 1))
    → row ≡ row_or_none rows p → part ≡ part_of shape row spent critical
    → part ≡ part_facts shape rows h window.tick p
part_is shape rows window h p spent critical row part m span some few used_is critical_is row_is is =
    let near : window.tick < window.tick + 1 - shape.window + longest_window = omega (arith, some, few) in
    let spent_is : spent ≡ window_used shape h window.tick p =
    used_is m.bills m.stands ∙ ap (λ n. bills_used m.bills p (window.tick + 1 - n) (window.tick + 1)) span ∙ m.used p (window.tick + 1 - shape.window) (window.tick + 1) near in
    let crit_is : critical ≡ window_critical shape h window.tick p =
    critical_is m.bills m.stands ∙ ap (λ n. bills_critical m.bills p (window.tick + 1 - n) (window.tick + 1)) span ∙ m.critical p (window.tick + 1 - shape.window) (window.tick + 1) near in
    is ∙ ap (λ r. part_of shape r spent critical) row_is ∙ ap (λ n. part_of shape (row_or_none rows p) n critical) spent_is
    ∙ ap (λ n. part_of shape (row_or_none rows p) (window_used shape h window.tick p) n) crit_is
