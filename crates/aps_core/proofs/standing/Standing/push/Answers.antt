use Rattle.std.proofs.Common.{◌≡◌, ◌≤◌, ◌++◌, [], ◌∷◌, List, length, All, ap, sym, subst, arith}
use Rattle.std.proofs.lemmas.List.{length_push}
use Rattle.std.proofs.lemmas.List.Elements.{All-push}
use Rattle.aps_model.specs.declared.merit.PartFacts.{PartFacts}
use Rattle.aps_model.specs.Limits.{most_partitions}
use Rattle.aps_ready.specs.Gates.{AreGates}
use Rattle.aps_core.specs.Classes.{AreClasses}
use Rattle.aps_core.specs.Small.{IsSmall}
use Rattle.aps_core.proofs.standing.Standing.push.Goals as goal

pub invariant_of-self : goal.invariant_of-self
invariant_of-self c =
    let parts = c.self.inside.parts.items in
    let part = c.args.part in
    let more = c.push_reserved.ensures.items in
    let end : length parts ≡ c.at-p.result = omega (arith, c.at-p.ensures, c.len.ensures, c.self.inside.parts.ok.0) in
    let both : All IsSmall (parts ++ part ∷ []) = All-push IsSmall parts part c.self.invariant.small c.requires.small in
    let few : length (parts ++ part ∷ []) ≤ most_partitions = omega (arith, length_push parts part, c.requires.room, ap (λ (l : List PartFacts). length l) c.self.view_is) in
    record {
      opened = subst (λ l. AreGates l c.set.new.self) (sym more) (c.set.ensures.added parts c.self.invariant.opened end);
      classed = subst (λ l. AreClasses l c.set-2.new.self) (sym more) (c.set-2.ensures.added parts c.self.invariant.classed end);
      small = subst (All IsSmall) (sym more) both;
      few = subst (λ (l : List PartFacts). length l ≤ most_partitions) (sym more) few;
      room = omega (arith, c.push_reserved.ensures.capacity, c.self.invariant.room);
    }
