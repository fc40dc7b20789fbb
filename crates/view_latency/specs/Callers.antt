-- The threads that may call: those whose programs have a send.
use Rattle.std.specs.Prelude.{◌≡◌, ℕ, ◌<◌, List, length, slice_index_or, Bool, true, false}
use Rattle.std.specs.List.{list_any}
use Rattle.aps_model.specs.declared.program.Op.{Op}
use Rattle.aps_model.specs.declared.program.Op.TheVariants.{Send}
use Rattle.aps_model.specs.Scenario.{Scenario, thread_row}

abbrev pub is_send_op : Op → Bool
is_send_op (Send c) = true
is_send_op op = false

abbrev pub has_send : List Op → Bool
has_send ops = list_any is_send_op ops

-- the program of thread x has a send
abbrev pub may_call : Scenario → ℕ → Bool
may_call scenario x = has_send (thread_row scenario x).program

-- the number at this place
abbrev pub caller_at : List ℕ → ℕ → ℕ
caller_at callers k = slice_index_or callers k 0

-- these are the numbers of all threads below n that may call, in order
pub record AreCallersBelow (scenario : Scenario) (n : ℕ) (callers : List ℕ) : Type 0 where
  pub below : (k : ℕ) → k < length callers → caller_at callers k < n
  pub may : (k : ℕ) → k < length callers → may_call scenario (caller_at callers k) ≡ true
  pub rising : (j k : ℕ) → j < k → k < length callers → caller_at callers j < caller_at callers k
  pub all : (x : ℕ) → x < n → may_call scenario x ≡ true → (k : ℕ) × (k < length callers) × (caller_at callers k ≡ x)

-- these are the numbers of all threads that may call
abbrev pub AreCallers : Scenario → List ℕ → Type 0
AreCallers scenario callers = AreCallersBelow scenario (length scenario.threads) callers
