use Rattle.std.proofs.Common.{◌≡◌, ◌≤◌, ◌<◌, ℕ, [], List, Option, Some, None, IfSome, sym, subst, ◌∙◌}
use Rattle.aps_timer.specs.Buckets.{AreKept}
use Rattle.aps_timer.specs.Sleepers.{IsFirstDue, SleepsUntil, all_due}
use Rattle.aps_timer.proofs.Due.{none_due}
use Rattle.aps_timer.proofs.Kept.{IsFirst, all_later, first_due}
use Rattle.aps_timer.proofs.asleep.Asleep.first_due.Goals.{then-sleeper-now, else-sleeper-now}
use Rattle.aps_timer.proofs.asleep.Asleep.first_due.Goals as goal

abbrev Row : Type 0
Row = List (Option ℕ)

pub first-requires : goal.first-requires
first-requires c =
    let before = c.self.inside.buckets in
    subst (λ (r : Row). AreKept r before.lines.items before.begin before.further) (sym c.deref.ensures.value) c.self.invariant

pub invariant_of-self : goal.invariant_of-self
invariant_of-self c =
    let after = c.first.new.self in
    subst (λ (r : Row). AreKept r after.lines.items after.begin after.further) c.deref.ensures.value c.first.ensures.kept

pub invariant_of-self-2 : goal.invariant_of-self-2
invariant_of-self-2 c =
    let after = c.first.new.self in
    subst (λ (r : Row). AreKept r after.lines.items after.begin after.further) c.deref.ensures.value c.first.ensures.kept

pub returns-in_err-sleeper-clause-none : goal.returns-in_err-sleeper-clause-none
returns-in_err-sleeper-clause-none c none =
    let row = c.self.inside.row.items in
    let now = c.args.now in
    let first : IsFirst row now None =
    subst (λ (r : Row). IsFirst r now None) c.deref.ensures.value c.in_err-sleeper.ensures.others in
    subst (λ (r : Row). all_due r now ≡ []) c.self.view_is
    (none_due row now (all_later row now None first tt))

pub returns-clause-first : goal.returns-clause-first
returns-clause-first c = elim c.if-sleeper-now.branch [
  | then-sleeper-now w ↦
      let row = c.self.inside.row.items in
      let now = c.args.now in
      let s = c.in_ok-sleeper.sleeper in
      let first : IsFirst row now (Some s) =
      subst (λ (r : Row). IsFirst r now (Some s)) c.deref.ensures.value c.in_ok-sleeper.ensures.others in
      let asleep : SleepsUntil row s.1 s.0 = subst (λ (r : Row). SleepsUntil r s.1 s.0) c.deref.ensures.value c.in_ok-sleeper.ensures.one in
      let due : s.0 ≤ now = subst (λ (s : ℕ × ℕ). s.0 ≤ now) c.sleeper.view_is w.if-sleeper-now.true in
      subst (λ (o : Option (ℕ × ℕ)). IfSome o (λ s. IsFirstDue c.args.self.now now s.1)) (sym w.result-is)
      (subst (λ (r : Row). IsFirstDue r now s.1) c.self.view_is
      (first_due row now s asleep first due))
  | else-sleeper-now w ↦ subst (λ (o : Option (ℕ × ℕ)). IfSome o (λ s. IsFirstDue c.args.self.now c.args.now s.1)) (sym w.result-is) tt
]

pub returns-clause-none : goal.returns-clause-none
returns-clause-none c none = elim c.if-sleeper-now.branch [
  | then-sleeper-now w ↦ (let never : None ≡ Some c.in_ok-sleeper.sleeper = sym none ∙ w.result-is in absurd cc)
  | else-sleeper-now w ↦
      let row = c.self.inside.row.items in
      let now = c.args.now in
      let s = c.in_ok-sleeper.sleeper in
      let first : IsFirst row now (Some s) =
      subst (λ (r : Row). IsFirst r now (Some s)) c.deref.ensures.value c.in_ok-sleeper.ensures.others in
      let later : now < s.0 = subst (λ (s : ℕ × ℕ). now < s.0) c.sleeper.view_is w.if-sleeper-now.false in
      subst (λ (r : Row). all_due r now ≡ []) c.self.view_is
      (none_due row now (all_later row now (Some s) first later))
]
