use Rattle.std.specs.Prelude.{◌≤◌, IfSome, ⊤}
use Rattle.aps_model.specs.declared.command.Call.{Call}
use Rattle.aps_model.specs.declared.command.Call.TheVariants.{Create, Modify}
use Rattle.aps_model.specs.Limits.{percent}

-- the budgets and the maxima of a call are at most 100
abbrev pub IsInHundredths : Call → Type 0
IsInHundredths (Create name parent budget critical max) = (budget ≤ percent) × (max ≤ percent)
IsInHundredths (Modify partition budget critical max) = IfSome budget (λ n. n ≤ percent) × IfSome max (λ n. n ≤ percent)
IsInHundredths call = ⊤
