use Rattle.std.proofs.Common.{◌≡◌, ◌<◌, ◌≤◌, List, length, length-set, slice_set, All, ap, subst, arith}
use Rattle.std.proofs.lemmas.List.Elements.{All-set}
use Rattle.aps_model.specs.declared.merit.PartFacts.{PartFacts}
use Rattle.aps_model.specs.Limits.{most_partitions}
use Rattle.aps_ready.specs.Gates.{AreGates}
use Rattle.aps_core.specs.Classes.{AreClasses}
use Rattle.aps_core.specs.Small.{IsSmall}
use Rattle.aps_core.proofs.standing.Standing.set_anew.Goals as goal

pub invariant_of-self : goal.invariant_of-self
invariant_of-self c =
    let parts = c.self.inside.parts.items in
    let p = c.args.p in
    let next = c.args.next in
    let at : p ≡ c.index.result = omega (arith, c.index.ensures.same) in
    let within : p < length parts = omega (arith, c.requires.inside, ap (λ (l : List PartFacts). length l) c.self.view_is) in
    let few : length (slice_set parts p next) ≤ most_partitions = omega (arith, length-set parts p next, c.self.invariant.few) in
    let small : All IsSmall (slice_set parts p next) = All-set IsSmall parts p next c.requires.small c.self.invariant.small in
    record {
      opened = subst (λ j. AreGates (slice_set parts j next) c.set.new.self) at (c.set.ensures.changed parts c.self.invariant.opened within);
      classed = subst (λ j. AreClasses (slice_set parts j next) c.set-2.new.self) at (c.set-2.ensures.changed parts c.self.invariant.classed within);
      small = subst (λ j. All IsSmall (slice_set parts j next)) at small;
      few = subst (λ j. length (slice_set parts j next) ≤ most_partitions) at few;
      room = c.self.invariant.room;
    }
