use Rattle.std.proofs.Common.{◌≡◌, ◌∙◌, ap, arith, false, length, subst, ℕ, List, None, Option, get_or, ◌++◌}
use Rattle.std.proofs.lemmas.List.{length-map}
use Rattle.aps_timer.specs.Sleepers.{all_due}
use Rattle.aps_core.specs.Sleepers.{numbers_of}
use Rattle.aps_core.specs.Touched.{woke}
use Rattle.aps_core.proofs.Asleep.{without_others}
use Rattle.aps_core.proofs.Waking.{few_due, without_count}
use Rattle.aps_core.proofs.machine.wake.Woken.take_due.Goals as goal

abbrev Row : Type 0
Row = List (Option ℕ)

pub take_due-requires : goal.take_due-requires
take_due-requires c = record {
  room = omega (arith, ap length c.clear.ensures.items, c.clear.ensures.capacity, c.self.invariant, few_due c.args.timer.now c.args.now, c.requires.few);
}

-- those whom the timer told
told : (c : goal.After-take_due) → c.take_due.new.woken.items ≡ numbers_of (all_due c.args.timer.now c.args.now)
told c = c.take_due.ensures.woken ∙ ap (λ (l : List ℕ). l ++ numbers_of (all_due c.args.timer.now c.args.now)) c.clear.ensures.items

pub returns-clause-few : goal.returns-clause-few
returns-clause-few c =
    omega (arith, ap length (told c), length-map (all_due c.args.timer.now c.args.now) (λ (s : ℕ × ℕ). s.1), few_due c.args.timer.now c.args.now, c.requires.few)

pub returns-clause-count : goal.returns-clause-count
returns-clause-count c = ap (λ (row : Row). length row) c.take_due.ensures.left ∙ without_count c.args.timer.now (all_due c.args.timer.now c.args.now)

pub returns-clause-others : goal.returns-clause-others
returns-clause-others c y absent =
    ap (λ (row : Row). get_or row y None) c.take_due.ensures.left
    ∙ without_others c.args.timer.now (all_due c.args.timer.now c.args.now) y (subst (λ (l : List ℕ). woke l y ≡ false) (told c) absent)
