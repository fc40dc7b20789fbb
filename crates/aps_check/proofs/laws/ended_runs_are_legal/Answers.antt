use Rattle.std.proofs.Common.{Some}
use Rattle.aps_check.specs.declared.verdict.Verdict.TheVariants.{Legal}
use Rattle.aps_check.proofs.Verdicts.{verdict_is_one}
use Rattle.aps_check.proofs.laws.ended_runs_are_legal.Goals as goal

pub returns-clause-verdict : goal.returns-clause-verdict
returns-clause-verdict c = λ setup h end legal no_sooner ended. record { sound = record { legal = legal; no_sooner = no_sooner }; ended = ended }

pub returns-clause-only : goal.returns-clause-only
returns-clause-only c = λ setup h end v legal no_sooner ended is.
    verdict_is_one setup h v (Legal (Some end)) is (record { sound = record { legal = legal; no_sooner = no_sooner }; ended = ended })
