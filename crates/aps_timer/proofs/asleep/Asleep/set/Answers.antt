use Rattle.std.proofs.Common.{◌≡◌, ℕ, List, Option, set, None, Some, ap, sym, ◌∙◌}
use Rattle.std.proofs.lemmas.List.{set-set}
use Rattle.aps_timer.proofs.asleep.Asleep.set.Goals.{in-Some, in_default}
use Rattle.aps_timer.proofs.asleep.Asleep.set.Goals as goal

awake : (c : goal.After-sleep) → set c.match-before.self c.args.x (Some c.in-Some-until.moment) ≡ set c.args.self.now c.args.x (Some c.in-Some-until.moment)
awake c = elim c.match-before.branch [
  | in-Some w ↦
      ap (λ (row : List (Option ℕ)). set row c.args.x (Some c.in-Some-until.moment)) (w.self-is ∙ w.wake.ensures)
      ∙ set-set c.args.self.now c.args.x None (Some c.in-Some-until.moment)
  | in_default w ↦ ap (λ (row : List (Option ℕ)). set row c.args.x (Some c.in-Some-until.moment)) w.self-is
]

pub returns-in-Some-until : goal.returns-in-Some-until
returns-in-Some-until c = c.sleep.ensures.row ∙ awake c ∙ ap (set c.args.self.now c.args.x) (sym c.in-Some-until.is)
