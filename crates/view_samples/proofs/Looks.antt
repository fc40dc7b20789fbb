-- What is seen at a pick is what is to be told of it.
use Rattle.std.proofs.Common.{◌≡◌, ℕ, ◌*◌, List, [], ◌∷◌, ◌++◌, length, Bool, true, false, not, ◌&&◌, nat_lt, Option, Some, None, refl, ap, ◌∙◌, arith, inl, inr}
use Rattle.std.proofs.lemmas.Bool.{cases_lt}
use Rattle.std.proofs.lemmas.Bool.Decides.{nat_tests}
use Rattle.std.proofs.lemmas.List.{get_or_past}
use Rattle.std.proofs.lemmas.List.FromFn.{get_or-map-range_with_len, length-map-range_with_len}
use Rattle.aps_model.specs.declared.entry.Entry.{Entry}
use Rattle.aps_model.specs.declared.partition.PartitionRow.{PartitionRow}
use Rattle.aps_model.specs.declared.shape.Shape.{Shape}
use Rattle.aps_model.specs.declared.state.Pick.{Pick}
use Rattle.aps_model.specs.After.{state_after}
use Rattle.aps_model.specs.Budget.{all_parts, no_part, part_at, part_facts}
use Rattle.aps_model.specs.Partition.{no_row, row_or_none}
use Rattle.aps_model.specs.Shape.{whole}
use Rattle.aps_model.specs.Usage.{window_used}
use Rattle.aps_model.specs.Scenario.{Scenario}
use Rattle.aps_model.specs.SchedulerState.{cpu_at}
use Rattle.laws_runs.specs.Window.{kept_if, pair_kept}
use Rattle.laws_bounds.specs.Kinds.{is_free, kind_by}
use Rattle.view_samples.specs.declared.look.Look.{Look}
use Rattle.view_samples.specs.Look.{IsLook, IsLookAtEntry}
use Rattle.view_samples.specs.Picks.{is_unfunded}

never : (a b : ℕ) → b ≡ 0 → false ≡ nat_lt a b
never a b is = grind (arith, nat_tests)

-- a row that doesn't exist isn't in budget
funded_is : (shape : Shape) (rows : List PartitionRow) (h : List Entry) (j p : ℕ) → (part_at (all_parts shape rows h j) p).funded ≡ (part_facts shape rows h j p).funded
funded_is shape rows h j p = elim (cases_lt p (length rows)) [
  | inl inside ↦ ap (λ part. part.funded) (get_or-map-range_with_len (part_facts shape rows h j) 0 (length rows) p p no_part inside (omega arith))
  | inr past ↦
      let count = length-map-range_with_len (part_facts shape rows h j) 0 (length rows) in
      ap (λ part. part.funded) (get_or_past (all_parts shape rows h j) p no_part (omega (arith, count, past)))
      ∙ none (shape.parts * window_used shape h j p) (row_or_none rows p).budget (whole shape) (ap (λ (row : PartitionRow). row.budget) (get_or_past rows p no_row past))
]
  where
    none : (spent budget all : ℕ) → budget ≡ 0 → false ≡ nat_lt spent (budget * all)
    none spent budget all is = never spent (budget * all) (ap (λ b. b * all) is ∙ omega arith)

free_is : (shape : Shape) (rows : List PartitionRow) (h : List Entry) (j : ℕ) (picked : Option ℕ) (running : Option Pick)
    → is_unfunded (all_parts shape rows h j) picked running ≡ is_free (kind_by (λ p. (part_facts shape rows h j p).funded) (kept_if picked (pair_kept running)))
free_is shape rows h j None running = refl
free_is shape rows h j (Some x) None = refl
free_is shape rows h j (Some x) (Some pick) =
    ap (λ t. not t && not pick.critical) (funded_is shape rows h j pick.partition)
    ∙ by_tests (part_facts shape rows h j pick.partition).funded pick.critical
  where
    by_tests : (f c : Bool) → (not f && not c) ≡ is_free (kind_by (λ p. f) (Some (pick.partition, c)))
    by_tests true c = refl
    by_tests false true = refl
    by_tests false false = refl

pub seen_is : (scenario : Scenario) (h : List Entry) (e : Entry) (look : Look) → IsLookAtEntry (state_after scenario (h ++ e ∷ [])) (h ++ e ∷ []) (length (state_after scenario h).changes) e look → IsLook scenario h e look
seen_is scenario h e look seen = record {
  lacking = seen.lacking;
  out = seen.out;
  starved = seen.starved;
  changed = seen.changed;
  free = seen.free ∙ free_is (state_after scenario (h ++ e ∷ [])).shape (state_after scenario (h ++ e ∷ [])).rows (h ++ e ∷ []) _ e.picked (cpu_at (state_after scenario (h ++ e ∷ [])) e.cpu).running;
}
