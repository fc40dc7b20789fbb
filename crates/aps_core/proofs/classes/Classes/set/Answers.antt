use Rattle.std.proofs.Common.{◌+◌, [], ◌∷◌, ◌++◌, Bool, ℕ, cond, nat_eq, set, ap, ◌∙◌, arith}
use Rattle.aps_model.specs.Budget.{part_at}
use Rattle.aps_model.specs.Limits.{most_partitions}
use Rattle.aps_levels.specs.Bits.{set_has}
use Rattle.aps_ready.proofs.GateLaws.{set_in_list, added_to_list}
use Rattle.aps_core.proofs.ClassesStay.{class_set}
use Rattle.aps_core.proofs.classes.Classes.set.Goals as goal

pub returns-clause-changed : goal.returns-clause-changed
returns-clause-changed c parts are within =
    let p = c.index-place.result in
    let part = c.args.part.now in
    let old = c.args.self.now.first in
    class_set (part_at parts) (part_at (set parts c.args.p part)) p part old c.put-plain.result c.put-self.result (omega (arith, c.index-place.ensures.small))
    (λ k. c.put-plain.ensures k ∙ ap (λ (t : Bool). cond (nat_eq k p) t (set_has old k)) c.is_first.ensures)
    (λ k. c.put-self.ensures k ∙ ap (λ (t : Bool). cond (nat_eq k (p + most_partitions)) t (set_has c.put-plain.result k)) c.is_first-2.ensures)
    (λ q. ap (λ (j : ℕ). cond (nat_eq q j) part (part_at parts q)) c.index-place.ensures.same ∙ set_in_list parts c.args.p q part within)
    are

pub returns-clause-added : goal.returns-clause-added
returns-clause-added c parts are end =
    let p = c.index-place.result in
    let part = c.args.part.now in
    let old = c.args.self.now.first in
    class_set (part_at parts) (part_at (parts ++ part ∷ [])) p part old c.put-plain.result c.put-self.result (omega (arith, c.index-place.ensures.small))
    (λ k. c.put-plain.ensures k ∙ ap (λ (t : Bool). cond (nat_eq k p) t (set_has old k)) c.is_first.ensures)
    (λ k. c.put-self.ensures k ∙ ap (λ (t : Bool). cond (nat_eq k (p + most_partitions)) t (set_has c.put-plain.result k)) c.is_first-2.ensures)
    (λ q. ap (λ (j : ℕ). cond (nat_eq q j) part (part_at parts q)) c.index-place.ensures.same ∙ added_to_list parts c.args.p q part end)
    are
