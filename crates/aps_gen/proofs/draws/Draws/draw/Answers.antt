use Rattle.std.proofs.Common.{ℕ, ◌*◌}
use Rattle.std.proofs.Math.Nat.{mod-add-mod}
use Rattle.aps_gen.proofs.draws.Draws.draw.Goals as goal

pub returns-clause-step : goal.returns-clause-step
returns-clause-step c =
    let factor : ℕ = 6364136223846793005 in
    let addend : ℕ = 1442695040888963407 in
    let whole : ℕ = 18446744073709551616 in
    mod-add-mod (c.args.self.now.state * factor) whole addend
