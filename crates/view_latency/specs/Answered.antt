-- The answered calls to one channel.
use Rattle.std.specs.Prelude.{ℕ, ◌+◌, ◌-◌, ◌*◌, ◌≤◌, ◌^◌, List, nat_eq, nat_lt, if◌then◌else◌}
use Rattle.std.specs.List.{fold}
use Rattle.view_lives.specs.declared.tally.Tally.{Tally}
use Rattle.view_lives.specs.Few as tally
use Rattle.view_lives.specs.Tally.{no_tally, tallied}
use Rattle.view_latency.specs.declared.answered.Answered.{Answered}
use Rattle.view_latency.specs.declared.call.Call.{Call}

abbrev pub none_answered : Answered
none_answered = record { call = no_tally; queue = no_tally; served = 0 }

-- a message that was taken at once didn't wait
abbrev pub with_queue : Tally → Call → Tally
with_queue queue call = if nat_lt 0 call.asked.queued then tallied queue call.asked.begin call.asked.queued else queue

-- one call more: it took from the end of its send to its answer
abbrev pub with_own_call : Answered → Call → Answered
with_own_call answered call = record {
  call = tallied answered.call call.asked.begin (call.end - call.asked.begin);
  queue = with_queue answered.queue call;
  served = answered.served + call.asked.served;
}

abbrev pub with_call : ℕ → Answered → Call → Answered
with_call c answered call = if nat_eq call.asked.channel c then with_own_call answered call else answered

-- those of the calls that went to channel c
abbrev pub answered_at : ℕ → List Call → Answered
answered_at c calls = fold (with_call c) none_answered calls

-- ---- the numbers are far below the greatest

-- of at most so many calls
pub record AreFewAnswers (n : ℕ) (answered : Answered) : Type 0 where
  pub call : tally.AreFew n answered.call
  pub queue : tally.AreFew n answered.queue
  pub served : answered.served ≤ n * 18446744073709551616

abbrev pub HasRoomForAnswer : Answered → Type 0
HasRoomForAnswer answered = AreFewAnswers (2 ^ 64 - 2) answered
