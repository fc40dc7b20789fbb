-- A run that goes on is below its limit.
use Rattle.std.proofs.Common.{◌≡◌, ◌≢◌, ℕ, ◌<◌, ◌≤◌, length, Option, Some, None, cond, ap, sym, ◌∙◌, arith}
use Rattle.aps_model.specs.declared.entry.End.{End}
use Rattle.aps_model.specs.declared.entry.End.TheVariants.{Limit}
use Rattle.aps_model.specs.After.{after, or_limit, over}
use Rattle.laws_runs.proofs.WaitFacts.{test_eq}
use Rattle.aps_core.specs.Run.{Run, end_of_run}

not_full : (o : Option End) (limit count : ℕ) → or_limit o limit count ≡ None → count ≢ limit
not_full (Some end) limit count goes_on same = cc
not_full None limit count goes_on same = at_limit (sym (ap (λ b. cond b (Some Limit) None) (test_eq count limit same)) ∙ goes_on)
  where
    at_limit : Some Limit ≡ None → ⊥
    at_limit f = cc

pub below_limit : (run : Run) → length run.entries ≤ run.setup.limit → end_of_run run ≡ None → length run.entries < run.setup.limit
below_limit run fits goes_on =
    let other = not_full (over (after run.setup.scenario run.entries) run.entries) run.setup.limit (length run.entries) goes_on in
    omega (arith, fits, other)
