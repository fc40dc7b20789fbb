use Rattle.std.proofs.Common.{arith, rules, sym}
use Rattle.std.proofs.lemmas.List.Sums.{position_or_len_is}
use Rattle.view_pictures.specs.Scale.{is_below_top, tops}
use Rattle.view_pictures.proofs.scale.scale_of.Goals as goal

pub returns-then-from-clause-same : goal.returns-then-from-clause-same
returns-then-from-clause-same c =
    sym (position_or_len_is (is_below_top c.args.part c.args.whole) tops c.loop-i.i 1000 (omega arith) c.loop-i.invariant (λ less. search rules))

pub returns-clause-same : goal.returns-clause-same
returns-clause-same c =
    sym (position_or_len_is (is_below_top c.args.part c.args.whole) tops 10 1000 (omega arith) (λ k less. c.loop-i.invariant k (omega arith)) (λ less. absurd (omega (arith, less))))
