use Rattle.aps_text.proofs.Wholes.{one_place, first_bad_is, none_bad_is}
use Rattle.aps_text.proofs.laws.bad_places_compute.Goals as goal

pub returns-clause-one : goal.returns-clause-one
returns-clause-one c = one_place

pub returns-clause-place : goal.returns-clause-place
returns-clause-place c = first_bad_is

pub returns-clause-none : goal.returns-clause-none
returns-clause-none c = none_bad_is
