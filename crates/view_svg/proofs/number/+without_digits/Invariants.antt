use Rattle.view_svg.proofs.number.+without_digits.Given as goal

abbrev pub decreases-without_digits : goal.decreases-without_digits
decreases-without_digits l = l.count
