use Rattle.std.proofs.Common.{◌≡◌, ℕ, true, false, ap, arith}
use Rattle.aps_timer.proofs.Kept.{not_earlier}
use Rattle.aps_timer.proofs.buckets.first_further.Goals as goal
use Rattle.aps_timer.specs.Buckets.{further_line}

pub returns-in-Some-clause-still : goal.returns-in-Some-clause-still
returns-in-Some-clause-still c x until few asleep late =
    let moment = ap (λ (s : ℕ × ℕ). s.0) c.first.view_is in
    record {
      from = omega (arith, moment, not_earlier x until c.in-Some.first (c.in-Some.ensures.others x until few (late.stands further_line) asleep late.from));
      stands = late.stands;
    }

pub returns-in-Some-clause-others : goal.returns-in-Some-clause-others
returns-in-Some-clause-others c x until few asleep late came = c.in-Some.ensures.others x until few (late.stands further_line) asleep late.from

pub returns-in-None-clause-still : goal.returns-in-None-clause-still
returns-in-None-clause-still c x until few asleep late =
    let never : true ≡ false = c.in-None.ensures.others x until few (late.stands further_line) asleep late.from in
    absurd cc

pub returns-in-None-clause-others : goal.returns-in-None-clause-others
returns-in-None-clause-others c x until few asleep late came = c.in-None.ensures.others x until few (late.stands further_line) asleep late.from
