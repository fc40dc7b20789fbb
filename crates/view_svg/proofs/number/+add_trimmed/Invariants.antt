use Rattle.view_svg.proofs.number.+add_trimmed.Given as goal

abbrev pub decreases-add_trimmed : goal.decreases-add_trimmed
decreases-add_trimmed l = l.places
