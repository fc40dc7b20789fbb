use Rattle.std.proofs.Common.{◌≡◌, ◌≢◌, ℕ, ◌+◌, ◌-◌, ◌<◌, ◌++◌, [], ◌∷◌, ◌∙◌, ap, sym, subst, List, length, slice_index_or, slice_set, arith, inl, inr}
use Rattle.std.proofs.lemmas.Bool.{cases_eq}
use Rattle.std.proofs.lemmas.List.{get_or-set_other, get_or-set_same, get_or_default}
use Rattle.std.proofs.lemmas.List.FromFn.{fill_by_all}
use Rattle.aps_model.specs.declared.merit.PartFacts.{PartFacts}
use Rattle.aps_model.specs.Budget.{no_part, part_facts}
use Rattle.aps_model.specs.Partition.{no_row}
use Rattle.aps_window.specs.Bills.{bills_critical, bills_used}
use Rattle.aps_ready.specs.Small.{IsSmall}
use Rattle.aps_live.proofs.Parts.{part_is}
use Rattle.aps_live.proofs.bills.fill_parts.Goals as goal

-- what holds of the parts below p, and of the one that is set there
set_one : (P : ℕ → PartFacts → Type 0) (parts : List PartFacts) (p : ℕ) (part : PartFacts) → p < length parts → ((k : ℕ) → k < p → P k (slice_index_or parts k no_part)) → P p part
    → (k : ℕ) → k < p + 1 → P k (slice_index_or (slice_set parts p part) k no_part)
set_one P parts p part inside below here k near = elim (cases_eq k p) [
  | inl is ↦ subst (λ n. P n (slice_index_or (slice_set parts p part) n no_part)) (sym is) (subst (P p) (sym (get_or-set_same parts p part no_part inside)) here)
  | inr ne ↦ subst (P k) (sym (get_or-set_other parts p k part no_part ne)) (below k (omega (arith, near, ne)))
]

pub loop-p-preserved : goal.loop-p-preserved
loop-p-preserved c =
    let i = c.loop-p.invariant in
    let below = c.loop-p-test.true in
    let shape = c.requires.shape in
    let inside : c.loop-p.p < length c.loop-p.parts = omega (arith, below, c.loop-p.auto.parts, c.requires.one_each) in
    let row = c.index-rows-p.is ∙ get_or_default c.args.rows.now c.loop-p.p c.index-rows-p.result no_row below in
    let id = c.at-id.ensures in
    let here = part_is c.args.shape.now c.args.rows.now c.args.window.now (c.args._before.now ++ c.args._e.now ∷ []) c.loop-p.p c.used.result c.critical_used.result c.index-rows-p.result c.part_of.result
    c.requires.tied c.requires.span (omega (arith, shape.window_long)) shape.window_short
    (λ bills stands. c.used.ensures.stands bills stands ∙ ap (λ p. bills_used bills p (c.args.window.now.tick + 1 - c.args.window.now.span) (c.args.window.now.tick + 1)) id)
    (λ bills stands. c.critical_used.ensures.stands bills stands ∙ ap (λ p. bills_critical bills p (c.args.window.now.tick + 1 - c.args.window.now.span) (c.args.window.now.tick + 1)) id)
    row c.part_of.ensures.same in record {
      same = set_one (λ k part. part ≡ part_facts c.args.shape.now c.args.rows.now (c.args._before.now ++ c.args._e.now ∷ []) c.args.window.now.tick k) c.loop-p.parts c.loop-p.p c.part_of.result inside i.same here;
      small = set_one (λ k part. IsSmall part) c.loop-p.parts c.loop-p.p c.part_of.result inside i.small c.part_of.ensures.small;
    }

pub returns-clause-same : goal.returns-clause-same
returns-clause-same c = fill_by_all _ _ _ no_part (omega arith) (λ k h. c.loop-p.invariant.same k (omega arith))

pub returns-clause-small : goal.returns-clause-small
returns-clause-small c = λ k d inside. subst IsSmall (get_or_default c.loop-p.parts k no_part d inside) (let past = c.loop-p-test.false in c.loop-p.invariant.small k (omega (arith, inside, past, c.loop-p.auto.parts, c.requires.one_each)))
