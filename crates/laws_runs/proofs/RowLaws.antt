-- Rows and shape stay in order, and rows keep their names and parents.
use Rattle.std.proofs.lemmas.List.Elements.{All-weaker}
use Rattle.std.proofs.Common.{All, ◌≤◌, ◌⊎◌, inl, inr, arith, ◌≡◌, ℕ, List, ◌++◌, length, subst, Bool, Option, Some, None, IfSome}
use Rattle.aps_model.specs.declared.command.Change.{Change}
use Rattle.aps_model.specs.declared.command.Reply.{Reply}
use Rattle.aps_model.specs.declared.entry.Entry.{Entry}
use Rattle.aps_model.specs.declared.entry.Order.{Order}
use Rattle.aps_model.specs.declared.partition.PartitionRow.{PartitionRow}
use Rattle.aps_model.specs.declared.shape.Bankruptcy.{Bankruptcy}
use Rattle.aps_model.specs.declared.shape.Free.{Free}
use Rattle.aps_model.specs.declared.shape.Shape.{Shape}
use Rattle.aps_model.specs.Limits.{percent, thousandths}
use Rattle.laws_runs.specs.Rows.{AreInOrder, AreRowsKept, IsNamedTree}
use Rattle.laws_runs.specs.Sizes.{IsSameSizes}
use Rattle.laws_runs.proofs.Books.{KeepsBooks, OfBooks, entry_books}
use Rattle.laws_runs.proofs.Commands.{sizes_same}
use Rattle.laws_runs.proofs.Performed.{performed_by}
use Rattle.laws_runs.proofs.Prefixes.{by_entries, by_more}
use Rattle.laws_runs.proofs.RowTree.{cancelled_kept, cancelled_tree, created_kept, created_tree, kept_same, kept_trans, modified_kept, modified_place, modified_tree}
use Rattle.aps_model.specs.After.{after, state_after}
use Rattle.aps_model.specs.Command.{Performed, shape_set}
use Rattle.aps_model.specs.Legal.{IsLegal}
use Rattle.aps_model.specs.Partition.{AreRows, IsFundedRow, IsRow}
use Rattle.aps_model.specs.Scenario.{Scenario}
use Rattle.aps_model.specs.Shape.{IsShape}
use Rattle.aps_model.specs.TickWork.{view_of}
use Rattle.aps_model.specs.Tree.{create_refusal, modify_refusal}
use Rattle.aps_model.specs.Valid.{IsCommand, IsScenario, IsWindow}

-- ---- in order

record InOrder (scenario : Scenario) (rows : List PartitionRow) (shape : Shape) : Type 0 where
  tree : IsNamedTree rows × AreRows scenario.shape.parts rows
  shaped : IsShape shape
  sizes : IsSameSizes scenario.shape shape

abbrev OrderedBooks : Scenario → List PartitionRow → Shape → List Reply → List Change → Type 0
OrderedBooks scenario rows shape replies changes = InOrder scenario rows shape

-- a window in range keeps the shape in range
set_shape : (shape : Shape) (window : Option ℕ) (free : Option Free) (limit : Option Bool) (bankruptcy : Option Bankruptcy) → IfSome window IsWindow → IsShape shape → IsShape (shape_set shape window free limit bankruptcy)
set_shape shape None free limit bankruptcy fits m = record {
  parts = m.parts;
  some_cpu = m.some_cpu;
  few_cpus = m.few_cpus;
  tick_long = m.tick_long;
  tick_short = m.tick_short;
  tick_whole = m.tick_whole;
  window_long = m.window_long;
  window_short = m.window_short;
  some_tick = m.some_tick;
  few_ticks = m.few_ticks;
  some_call = m.some_call;
  short_call = m.short_call;
}
set_shape shape (Some w) free limit bankruptcy fits m = record {
  parts = m.parts;
  some_cpu = m.some_cpu;
  few_cpus = m.few_cpus;
  tick_long = m.tick_long;
  tick_short = m.tick_short;
  tick_whole = m.tick_whole;
  window_long = fits.long;
  window_short = fits.short;
  some_tick = m.some_tick;
  few_ticks = m.few_ticks;
  some_call = m.some_call;
  short_call = m.short_call;
}

keeps_order : (scenario : Scenario) → KeepsBooks (IsCommand scenario.shape.parts scenario.shape.ticks (length scenario.threads)) (OrderedBooks scenario)
keeps_order scenario = record {
  commands = λ h j t (place, row) fits m.
      performed_by scenario.shape.parts (length scenario.threads) row.call t.rows t.shape (view_of t h j row.call) (λ (done : Performed). InOrder scenario done.rows done.shape) fits.call
      (record {
        same = λ answer mark. record { tree = m.tree; shaped = m.shaped; sizes = m.sizes };
        creates = λ name parent budget critical max named none. record {
          tree = created_tree scenario.shape.parts t.rows name parent budget critical max named (subst (λ n. create_refusal n t.rows name parent budget critical max ≡ None) m.sizes.parts none) m.tree.0 m.tree.1;
          shaped = m.shaped;
          sizes = m.sizes;
        };
        modifies = λ p budget critical max none. record {
          tree = modified_tree scenario.shape.parts t.rows p budget critical max (subst (λ n. modify_refusal n t.rows p budget critical max ≡ None) m.sizes.parts none) m.tree.0 m.tree.1;
          shaped = m.shaped;
          sizes = m.sizes;
        };
        sets = λ window free limit bankruptcy range. record { tree = m.tree; shaped = set_shape t.shape window free limit bankruptcy range m.shaped; sizes = record { cpus = m.sizes.cpus; tick = m.sizes.tick; ticks = m.sizes.ticks; call_ns = m.sizes.call_ns; parts = m.sizes.parts } };
      });
  cancels = λ t j p m. record { tree = cancelled_tree scenario.shape.parts t.rows p m.tree.0 m.tree.1; shaped = m.shaped; sizes = m.sizes };
}

pub in_order : (scenario : Scenario) (order : Order) (h : List Entry) → IsScenario scenario → IsLegal scenario order h → AreInOrder scenario (state_after scenario h)
unfolding after
in_order scenario order h r legal =
    let m = by_entries scenario order (λ g. OfBooks (OrderedBooks scenario) (state_after scenario g))
    (λ g e l q. entry_books (IsCommand scenario.shape.parts scenario.shape.ticks (length scenario.threads)) (OrderedBooks scenario) (keeps_order scenario) scenario order g e r r.commands l q)
    h legal (record {
      tree = (record { some = r.tree.some; few = r.tree.few; root_name = r.tree.root.name; root_parent = r.tree.root.parent; parents = r.tree.parents; names = r.tree.names }, r.tree.funded);
      shaped = r.shape;
      sizes = sizes_same scenario.shape;
    }) in
    record { named = m.tree.0; funded = m.tree.1; shape = m.shaped; sizes = m.sizes }

-- the ranges that rows have whatever the parts
pub in_range : (scenario : Scenario) (order : Order) (h : List Entry) → IsScenario scenario → IsLegal scenario order h → All IsRow (state_after scenario h).rows
in_range scenario order h r legal =
    All-weaker (IsFundedRow scenario.shape.parts) IsRow
    (λ row m.
    let few : scenario.shape.parts ≤ thousandths = by_parts r.shape.parts in
    let max = m.max in
    let budget = m.budget in
    record { budget = omega (arith, budget, max, few); critical = m.critical; max = omega (arith, max, few) })
    (state_after scenario h).rows (in_order scenario order h r legal).funded.each
  where
    by_parts : (scenario.shape.parts ≡ percent) ⊎ (scenario.shape.parts ≡ thousandths) → scenario.shape.parts ≤ thousandths
    by_parts (inl e) = omega (arith, e)
    by_parts (inr e) = omega (arith, e)

-- ---- kept

abbrev Stays : List PartitionRow → List PartitionRow → Shape → List Reply → List Change → Type 0
Stays first rows shape replies changes = AreRowsKept first rows

keeps_rows : (parts ticks threads : ℕ) (first : List PartitionRow) → KeepsBooks (IsCommand parts ticks threads) (Stays first)
keeps_rows parts ticks threads first = record {
  commands = λ h j t (place, row) fits m.
      performed_by parts threads row.call t.rows t.shape (view_of t h j row.call) (λ (done : Performed). AreRowsKept first done.rows) fits.call
      (record {
        same = λ answer mark. m;
        creates = λ name parent budget critical max named none. kept_trans first t.rows _ m (created_kept t.rows name parent budget critical max);
        modifies = λ p budget critical max none. kept_trans first t.rows _ m (modified_kept t.rows p budget critical max (modified_place t.shape.parts t.rows p budget critical max none));
        sets = λ window free limit bankruptcy range. m;
      });
  cancels = λ t j p m. kept_trans first t.rows _ m (cancelled_kept t.rows p);
}

pub rows_stay : (scenario : Scenario) (order : Order) (h later : List Entry) → IsScenario scenario → IsLegal scenario order (h ++ later) → AreRowsKept (state_after scenario h).rows (state_after scenario (h ++ later)).rows
rows_stay scenario order h later r legal =
    let first = (state_after scenario h).rows in
    let C = IsCommand scenario.shape.parts scenario.shape.ticks (length scenario.threads) in
    by_more scenario order (λ g. AreRowsKept first (state_after scenario g).rows)
    (λ g e l m. entry_books C (Stays first) (keeps_rows scenario.shape.parts scenario.shape.ticks (length scenario.threads) first) scenario order g e r r.commands l m)
    h later legal (kept_same first)
