use Rattle.std.proofs.Common.{◌≡◌, ◌∙◌, refl, ap, subst, sym, set, length, length-set, ℕ, List, Option, Some, None, false, not, nat_eq, arith}
use Rattle.std.specs.Option.{option_eq}
use Rattle.std.proofs.lemmas.Bool.Decides.{nat_tests}
use Rattle.aps_core.specs.Sleepers.{IsTimed, until_at}
use Rattle.aps_core.proofs.Asleep.{set_others, set_own}
use Rattle.aps_core.proofs.machine.Machine.time.Goals as goal
use Rattle.aps_core.proofs.machine.Machine.time.Goals.{After-set}

same_moments : (a b : Option ℕ) → not (option_eq nat_eq a b) ≡ false → a ≡ b
same_moments None None e = refl
same_moments None (Some y) e = absurd cc
same_moments (Some x) None e = absurd cc
same_moments (Some x) (Some y) e = let same : x ≡ y = grind (arith, nat_tests) in ap (λ z. Some z) same

place : (c : After-set) → c.set.new.self ≡ set c.args.timer.now c.args.x (until_at c.args.self.now c.args.x)
place c = c.set.ensures ∙ ap (set c.args.timer.now c.args.x) c.until_at-until.ensures

pub returns-then-ne-clause-own : goal.returns-then-ne-clause-own
returns-then-ne-clause-own c = subst (λ (row : List (Option ℕ)). IsTimed c.args.self.now row c.args.x) (sym (place c)) (set_own c.args.self.now c.args.timer.now c.args.x c.requires.count)

pub returns-then-ne-clause-others : goal.returns-then-ne-clause-others
returns-then-ne-clause-others c y right =
    subst (λ (row : List (Option ℕ)). IsTimed c.args.self.now row y) (sym (place c)) (set_others c.args.self.now c.args.timer.now c.args.x y c.requires.count right)

pub returns-then-ne-clause-count : goal.returns-then-ne-clause-count
returns-then-ne-clause-count c = ap (λ (row : List (Option ℕ)). length row) c.set.ensures ∙ length-set c.args.timer.now c.args.x c.until_at-until.result

pub returns-else-ne-clause-own : goal.returns-else-ne-clause-own
returns-else-ne-clause-own c =
    sym c.until.ensures ∙ same_moments c.until.result c.until_at-until.result (sym c.ne.ensures ∙ c.if-ne.false) ∙ c.until_at-until.ensures
