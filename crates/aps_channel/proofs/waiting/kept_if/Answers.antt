use Rattle.std.proofs.Common.{◌≡◌, ℕ, Bool, true, false, not, ◌&&◌, nat_eq, ap, ◌∙◌, refl, sym}
use Rattle.laws_runs.proofs.WaitFacts.{test_eq, test_ne}
use Rattle.aps_levels.specs.Levels.{has_level}
use Rattle.aps_channel.proofs.waiting.kept_if.Goals as goal

off : (had is_kept : Bool) → is_kept ≡ false → false ≡ (had && is_kept)
off true is_kept e = sym e
off false is_kept e = refl

pub returns-else-is_kept-clause-at_level : goal.returns-else-is_kept-clause-at_level
returns-else-is_kept-clause-at_level c =
    c.without.ensures c.args.level ∙ ap (λ t. not t && has_level c.args.set c.args.level) (test_eq c.args.level c.args.level refl)
    ∙ off (has_level c.args.set c.args.level) c.args.is_kept c.if-is_kept.false

pub returns-else-is_kept-clause-beside : goal.returns-else-is_kept-clause-beside
returns-else-is_kept-clause-beside c k ne =
    c.without.ensures k ∙ ap (λ t. not t && has_level c.args.set k) (test_ne k c.args.level ne)
