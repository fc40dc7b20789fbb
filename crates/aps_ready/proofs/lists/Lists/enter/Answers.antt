use Rattle.std.proofs.Common.{◌≢◌, ℕ, ◌<◌, ◌≤◌, ap, sym, subst, refl, set, arith, length, List}
use Rattle.aps_ready.specs.declared.entrant.Entrant.{Entrant}
use Rattle.aps_ready.specs.Entrant.{entrant_at}
use Rattle.aps_ready.specs.Lists.{head_of, link, AreLists, IsPlace}
use Rattle.aps_ready.proofs.ListLaws.{lists_entered}
use Rattle.aps_ready.proofs.lists.Lists.enter.Goals as goal
use Rattle.aps_ready.specs.Group.{group_count}

pub invariant_of-self : goal.invariant_of-self
invariant_of-self c =
    let s = c.self.inside in
    let one = c.args.one in
    let x = one.thread in
    let p = c.place_for-place.result in
    let view = c.self.view_is in
    let new : List Entrant = set s.row.items x one in
    let place : IsPlace s.row.items s.after.items (head_of one.level one.group) one.stamp p =
    subst (λ (h : ℕ). IsPlace s.row.items s.after.items h one.stamp p) c.head_of-head.ensures
    (subst (λ (after : List ℕ). IsPlace s.row.items after c.head_of-head.result one.stamp p) c.deref-2.ensures.value
    (subst (λ (row : List Entrant). IsPlace row c.deref-2.result.now c.head_of-head.result one.stamp p) c.deref.ensures.value c.place_for-place.ensures)) in
    subst (λ (after : List ℕ). AreLists new after c.link.new.before.items c.enter.new.self) (sym c.link.ensures.after)
    (subst (λ (before : List ℕ). AreLists new (set (set s.after.items p x) x (link s.after.items p)) before c.enter.new.self) (sym c.link.ensures.before)
    (lists_entered s.row.items s.after.items s.before.items s.table c.enter.new.self x p one c.self.invariant
    (omega (arith, c.requires.inside, ap length view)) c.requires.few c.requires.group c.requires.level refl
    (subst (λ (row : List Entrant). group_count ≤ (entrant_at row x).group) (sym view) c.requires.out)
    (subst (λ (row : List Entrant). (y : ℕ) → (entrant_at row y).group < group_count → (entrant_at row y).stamp ≢ one.stamp) (sym view) c.requires.stamp)
    place c.enter.ensures))
