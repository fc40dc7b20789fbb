use Rattle.std.proofs.Common.{inl}
use Rattle.aps_calls.proofs.Said.{says_failure_as}
use Rattle.aps_calls.proofs.failure.Failure.say.Goals as goal

pub returns-in-WordsRefused : goal.returns-in-WordsRefused
returns-in-WordsRefused g c = says_failure_as _ _ _ _ c.in-WordsRefused.is (inl c.print.ensures.prints)

pub returns-in-ReadFault : goal.returns-in-ReadFault
returns-in-ReadFault g c = says_failure_as _ _ _ _ c.in-ReadFault.is (inl c.print-in-ReadFault.ensures.prints)

pub returns-in-TooLong : goal.returns-in-TooLong
returns-in-TooLong g c = says_failure_as _ _ _ _ c.in-TooLong.is (inl c.print-in-TooLong.ensures.prints)

pub returns-in-InputRefused : goal.returns-in-InputRefused
returns-in-InputRefused g c = says_failure_as _ _ _ _ c.in-InputRefused.is c.print_refusal.ensures
