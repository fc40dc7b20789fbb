use Rattle.std.proofs.Common.{◌≡◌, inl, inr, ℕ, ◌≤◌, false, List, Option, Some, sym, subst}
use Rattle.aps_model.specs.Limits.{last_thread}
use Rattle.aps_levels.specs.declared.bits.Bits64.{Bits64}
use Rattle.aps_timer.specs.Buckets.{AreNear, IsFurther, IsNear}
use Rattle.aps_timer.specs.Order.{wakes_before}
use Rattle.aps_timer.specs.Sleepers.{SleepsUntil}
use Rattle.aps_timer.proofs.Firsts.{before_neither, before_nor}
use Rattle.aps_timer.proofs.Kept.{kept_near, kept_still, placed}
use Rattle.aps_timer.proofs.buckets.Buckets.first.Goals as goal

pub first_near-begin-requires-clause-near : goal.first_near-begin-requires-clause-near
first_near-begin-requires-clause-near c =
    let before = c.args.self.now in
    subst (λ (lines : List Bits64). AreNear c.args.row.now lines before.begin) (sym c.deref.ensures.value)
    (kept_near c.args.row.now before.lines.items before.begin before.further c.requires)

pub returns-clause-kept : goal.returns-clause-kept
returns-clause-kept c =
    let row = c.args.row.now in
    let before = c.args.self.now in
    let begin = c.first_near-begin.result.0 in
    let further = c.first_further-further.result.0 in
    kept_still row before.lines.items before.begin begin before.further further c.requires
    (subst (λ (lines : List Bits64). (x until : ℕ) → x ≤ last_thread → SleepsUntil row x until → IsNear lines before.begin x until → IsNear lines begin x until)
    c.deref.ensures.value c.first_near-begin.ensures.still)
    (subst (λ (lines : List Bits64). (x until : ℕ) → x ≤ last_thread → SleepsUntil row x until → IsFurther lines before.further x until → IsFurther lines further x until)
    c.deref-2.ensures.value c.first_further-further.ensures.still)

pub returns-clause-others : goal.returns-clause-others
returns-clause-others c x until asleep came =
    let near = c.first_near-begin.result.1 in
    let late = c.first_further-further.result.1 in
    let p : Option (ℕ × ℕ) = Some (until, x) in
    let before = c.args.self.now in
    let few = c.requires.few x until asleep in
    subst (λ (o : Option (ℕ × ℕ)). wakes_before (Some (until, x)) o ≡ false) (sym c.first_of.ensures)
    (elim (placed c.args.row.now before.lines.items before.begin before.further x until c.requires asleep) [
      | inl is ↦
          before_neither p near late
          (c.first_near-begin.ensures.others x until few asleep (subst (λ (lines : List Bits64). IsNear lines before.begin x until) (sym c.deref.ensures.value) is) came)
      | inr is ↦
          before_nor p near late
          (c.first_further-further.ensures.others x until few asleep (subst (λ (lines : List Bits64). IsFurther lines before.further x until) (sym c.deref-2.ensures.value) is) came)
    ])
