use Rattle.std.proofs.Common.{ℕ, List, Option, Some, None, ap, sym, ◌∙◌, set}
use Rattle.aps_timer.specs.Sleepers.{all_due, later_due, next_due}
use Rattle.aps_timer.proofs.Due.{first_out}
use Rattle.aps_timer.proofs.asleep.Asleep.due_at.Goals as goal

pub returns-clause-next : goal.returns-clause-next
returns-clause-next c =
    ap (λ (s : ℕ × ℕ). Some s.1) c.sleeper.view_is
    ∙ sym (ap next_due (first_out c.args.self.now c.args.now c.in_ok-sleeper.sleeper.1 c.in_ok-sleeper.ensures.first))

pub returns-clause-others : goal.returns-clause-others
returns-clause-others c =
    let thread = ap (λ (s : ℕ × ℕ). s.1) c.sleeper.view_is in
    ap (λ (row : List (Option ℕ)). all_due row c.args.now) (c.wake.ensures ∙ (λ j. set (c.first_due.ensures.row j) (thread j) None))
    ∙ sym (ap later_due (first_out c.args.self.now c.args.now c.in_ok-sleeper.sleeper.1 c.in_ok-sleeper.ensures.first))
