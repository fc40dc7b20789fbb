use Rattle.std.proofs.Common.{◌∙◌}
use Rattle.view_lives.proofs.Asides.{all_closed}
use Rattle.view_lives.proofs.growing.GrowingLives.into_lives.Goals as goal

pub returns : goal.returns
returns c =
    let inside = c.self.inside in
    all_closed inside.until inside.lives.items c.close.new.lives.items inside.aside.items c.in_ok-close.ensures.count c.in_ok-close.ensures.closed ∙ c.self.view_is
