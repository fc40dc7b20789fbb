use Rattle.view_svg.proofs.step.+round_at_least.Given as goal

abbrev pub decreases-round_at_least : goal.decreases-round_at_least
decreases-round_at_least l = l.number
