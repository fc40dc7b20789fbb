use Rattle.laws_load.proofs.Leaps.{leap_none_alone, leap_none_early, leap_small}
use Rattle.laws_load.proofs.moment.leap_is_small.Goals as goal

pub returns-clause-quarter : goal.returns-clause-quarter
returns-clause-quarter c = leap_small

pub returns-clause-at_boundary : goal.returns-clause-at_boundary
returns-clause-at_boundary c = leap_none_early

pub returns-clause-alone : goal.returns-clause-alone
returns-clause-alone c = leap_none_alone
