use Rattle.std.proofs.Common.{◌≡◌, ℕ, ◌+◌, ◌*◌, ◌^◌, ◌<◌, ◌≤◌, List, length, take, All, Some, nat_eq, if◌then◌else◌, refl, sym, ap, ◌∙◌, arith}
use Rattle.aps_model.specs.declared.entry.Entry.{Entry}
use Rattle.aps_model.specs.declared.shape.Shape.{Shape}
use Rattle.aps_model.specs.Usage.{names}
use Rattle.aps_model.specs.History.{IsEntry}
use Rattle.aps_model.specs.Limits.{longest_tick, most_partitions}
use Rattle.aps_report.specs.Windows.{cell_of, part_in_window, billed_in, is_between, HaveCellRoom, HaveParts, HaveEntry, AreUsed}
use Rattle.aps_report.proofs.Spans.{Reaches, reached}
use Rattle.aps_report.proofs.Sums.{few, part}

short : (shape : Shape) (k : ℕ) (e : Entry) → IsEntry e → part_in_window shape k e ≤ longest_tick
short shape k e is = omega (arith, is.short)

-- what the first entries use is far below the greatest number
pub used-HaveCellRoom : (shape : Shape) (h : List Entry) (i windows : ℕ) (cells : List ℕ) → All IsEntry h → length h < 2 ^ 64
    → AreUsed shape (take i h) windows cells → HaveCellRoom cells
used-HaveCellRoom shape h i windows cells entries small so_far = record {
  room = λ k p here inside.
      let known : k < windows = omega (arith, so_far.places) in
      rw (so_far.each k p known here) (few _ h i (λ e is. part (names e.billed p) _ _ (short shape k e is)) entries small);
}

-- what an entry bills, in a window
billed-is : (shape : Shape) (k q p : ℕ) (e : Entry) → e.billed ≡ Some p → billed_in shape k q e ≡ (if nat_eq p q then part_in_window shape k e else 0)
billed-is shape k q p e is = rw is refl

-- the parts in the windows that the entry reaches are all of it
pub parts-HaveEntry : (shape : Shape) (e : Entry) (p place s windows first past : ℕ) (before after : List ℕ)
    → s ≡ shape.window * shape.tick → place ≡ p → e.billed ≡ Some p → Reaches s windows first past e → length before ≡ windows * most_partitions
    → HaveParts shape e place first past before after → HaveEntry shape e before after
parts-HaveEntry shape e p place s windows first past before after is same billed reach places parts = record {
  places = parts.places;
  each = λ k q small inside.
      let known : k < windows = omega arith in
      let all = reached shape e s windows first past place k is reach known q (is_between first past k) refl in
      parts.each k q small inside ∙ ap (λ n. cell_of before k q + n) (all ∙ rw same (sym (billed-is shape k q p e billed)));
}
