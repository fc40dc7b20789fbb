use Rattle.std.proofs.Common.{◌≡◌, ◌<◌, List, length, length-set, slice_set, ap, sym, subst, ◌∙◌, arith}
use Rattle.std.proofs.lemmas.Grind.{common_steps}
use Rattle.std.proofs.lemmas.List.Elements.{All-set}
use Rattle.aps_model.specs.declared.merit.PartFacts.{PartFacts}
use Rattle.aps_model.specs.Budget.{part_at}
use Rattle.aps_core.specs.Small.{IsSmall}
use Rattle.aps_core.specs.Standing.{IsStanding, OpensAlike}
use Rattle.aps_core.proofs.ClassesStay.{classes_stay}
use Rattle.aps_core.proofs.GatesStay.{gates_stay}
use Rattle.aps_core.proofs.standing.Standing.set.Goals as goal

pub invariant_of-self : goal.invariant_of-self
invariant_of-self c =
    let parts = c.self.inside.parts.items in
    let p = c.args.p in
    let part = c.args.part in
    let old = c.index_mut.result.now in
    let at : p ≡ c.index-index.result = omega (arith, c.index-index.ensures.same) in
    let within : p < length parts = omega (arith, c.requires.inside, ap (λ (l : List PartFacts). length l) c.self.view_is) in
    let read : c.index.result.now ≡ part_at parts p = grind (arith, common_steps) in
    let lent : old ≡ part_at parts p = grind (arith, common_steps) in
    let alike : OpensAlike c.index.result.now part = c.opens_alike.ensures.yes c.if-opens_alike.true in
    let alike' : OpensAlike (part_at parts p) part = subst (λ (x : PartFacts). OpensAlike x part) read alike in
    let funded : old.funded ≡ part.funded = ap (λ (x : PartFacts). x.funded) lent ∙ alike'.funded in
    let standing : old.standing ≡ part.standing = ap (λ (x : PartFacts). x.standing) lent ∙ alike'.standing in
    let shut : old.shut ≡ part.shut = ap (λ (x : PartFacts). x.shut) lent ∙ alike'.shut in
    let budget : old.budget ≡ part.budget = ap (λ (x : PartFacts). x.budget) lent ∙ alike'.budget in
    let after : IsStanding (slice_set parts p part) c.self.inside.gates c.self.inside.classes c.self.inside.parts.cap =
    record {
      opened = gates_stay parts p part c.self.inside.gates within alike' c.self.invariant.opened;
      classed = classes_stay parts p part c.self.inside.classes within alike'.funded alike'.standing c.self.invariant.classed;
      small = All-set IsSmall parts p part c.requires.small c.self.invariant.small;
      few = omega (arith, length-set parts p part, c.self.invariant.few);
      room = c.self.invariant.room;
    } in
    subst (λ (x : PartFacts). IsStanding (slice_set parts c.index-index.result x) c.self.inside.gates c.self.inside.classes c.self.inside.parts.cap)
    (λ i. record { funded = sym funded i; standing = sym standing i; shut = sym shut i; used = part.used; budget = sym budget i })
    (subst (λ j. IsStanding (slice_set parts j part) c.self.inside.gates c.self.inside.classes c.self.inside.parts.cap) at after)
