use Rattle.std.proofs.Common.{◌+◌, ◌*◌, ◌<◌, subst, sym, arith}
use Rattle.std.proofs.lemmas.Grind.{div_ceil_times}
use Rattle.view_svg.proofs.Rounds.{fewer_times}
use Rattle.view_svg.proofs.step.step_of.Goals as goal

pub returns-clause-least : goal.returns-clause-least
returns-clause-least c = λ step is enough.
    let most = c.args.most in
    let parts = c.div_ceil.result in
    let near : parts * most < c.args.length + most =
    subst (λ n. n * most < c.args.length + most) (sym c.div_ceil.ensures) (div_ceil_times c.args.length most c.requires.some).1 in
    c.round_at_least.ensures.least step is (fewer_times parts step most (omega (arith, near, enough)))
