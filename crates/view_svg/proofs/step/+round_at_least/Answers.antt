use Rattle.std.proofs.Common.{◌+◌, ◌*◌, ◌<◌, ◌≤◌, subst, sym, arith}
use Rattle.std.proofs.lemmas.Grind.{div_ceil_times}
use Rattle.view_svg.specs.Step.{IsRound.one, IsRound.two, IsRound.five, IsRound.ten}
use Rattle.view_svg.proofs.Rounds.{near_ten, round_is_some}
use Rattle.view_svg.proofs.step.+round_at_least.Goals as goal

pub returns-in-0-clause-round : goal.returns-in-0-clause-round
returns-in-0-clause-round t c = one

pub returns-in-0-clause-least : goal.returns-in-0-clause-least
returns-in-0-clause-least t c = λ step is above. round_is_some step is

pub returns-in-2-clause-round : goal.returns-in-2-clause-round
returns-in-2-clause-round t c = two

pub returns-in-3-to-5-clause-round : goal.returns-in-3-to-5-clause-round
returns-in-3-to-5-clause-round t c = five

pub returns-in_default-clause-round : goal.returns-in_default-clause-round
returns-in_default-clause-round t c = ten c.round_at_least.result c.round_at_least.ensures.round

pub returns-in_default-clause-near : goal.returns-in_default-clause-near
returns-in_default-clause-near t c = λ some.
    let n = c.args.number in
    let m = c.div_ceil.result in
    let is_ceil = c.div_ceil.ensures in
    let long : 6 ≤ n = grind (arith, c.in_default) in
    let times : m * 10 < n + 10 = subst (λ k. k * 10 < n + 10) (sym is_ceil) (div_ceil_times n 10 (omega arith)).1 in
    near_ten n m c.round_at_least.result long times c.round_at_least.ensures.near (λ few. c.round_at_least.ensures.least 1 one few)
