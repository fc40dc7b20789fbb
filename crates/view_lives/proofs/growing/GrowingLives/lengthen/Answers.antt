use Rattle.std.proofs.Common.{◌∙◌, List, length, ap, sym, subst, arith}
use Rattle.aps_core.specs.Run.{state_of_run}
use Rattle.view_lives.specs.declared.life.Segment.{Segment}
use Rattle.view_lives.specs.Growing.{all_told}
use Rattle.view_lives.specs.Life.{AreLonger}
use Rattle.view_lives.proofs.Asides.{all_longer, told_count}
use Rattle.view_lives.proofs.growing.GrowingLives.lengthen.Goals as goal

pub pass-requires-clause-few : goal.pass-requires-clause-few
pass-requires-clause-few c =
    let inside = c.self.inside in
    let few = c.requires in
    let count = sym (told_count inside.until inside.lives.items inside.aside.items) ∙ ap (λ (l : List (List Segment)). length l) c.self.view_is in
    omega (arith, few, count)

pub returns : goal.returns
returns c =
    let s = state_of_run c.args.core.now in
    let inside = c.self.inside in
    let later = c.pass.new.lives.items in
    let later_aside = c.pass.new.aside.items in
    subst (λ (l : List (List Segment)). AreLonger s c.args.from c.args.to l (all_told c.args.to later later_aside)) c.self.view_is
    (all_longer s inside.until c.args.from c.args.to inside.lives.items later inside.aside.items later_aside (omega arith) c.in_ok-pass.ensures.lives c.in_ok-pass.ensures.passed)
