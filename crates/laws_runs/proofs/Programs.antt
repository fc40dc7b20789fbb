-- The operations of a scenario's programs: each has its range, a program ends with its last operation and goes on
-- after any other, and an operation takes some time, but not too long.
use Rattle.std.proofs.Common.{◌≡◌, ◌≢◌, ℕ, ◌+◌, ◌<◌, ◌≤◌, zero, suc, List, [], ◌∷◌, length, refl, sym, ◌∙◌, ap, subst, Bool, true, false, cond, Option, Some, None, slice_index_or, arith, inl, inr}
use Rattle.std.proofs.lemmas.Bool.{cases_lt}
use Rattle.std.proofs.lemmas.List.{get_or_past}
use Rattle.std.proofs.lemmas.List.Elements.{All-get_or}
use Rattle.aps_model.specs.declared.program.Op.{Op}
use Rattle.aps_model.specs.declared.program.Op.TheVariants.{Run, Forever, Sleep, Yield, Send, Receive, Reply, Join, Priority, CriticalOn, CriticalOff, Repeat, Exit}
use Rattle.aps_model.specs.declared.scenario.ThreadRow.{ThreadRow}
use Rattle.aps_model.specs.declared.shape.Shape.{Shape}
use Rattle.aps_model.specs.declared.state.State.{State}
use Rattle.aps_model.specs.declared.state.State.TheVariants.{Ready, Running, Sleeping, Sending, Receiving, Replying, Gone}
use Rattle.aps_model.specs.declared.state.ThreadNow.{ThreadNow}
use Rattle.aps_model.specs.Limits.{last_moment, longest_call}
use Rattle.laws_runs.specs.Stamps.{IsActive}
use Rattle.laws_runs.specs.ThreadFits.{IsAwake, IsThreadFit, StandsAt}
use Rattle.laws_runs.proofs.EachThread.{awake_in, sleep_or_awake}
use Rattle.aps_model.specs.Operation.{duration, place_after, state_in}
use Rattle.aps_model.specs.Program.{IsOp, IsPriority, ends_well, is_last_op}
use Rattle.aps_model.specs.Scenario.{Scenario, no_thread_row, op_at, thread_row}
use Rattle.aps_model.specs.Valid.{IsScenario, IsThreadRow, joinable}

pub row_fits : (scenario : Scenario) → IsScenario scenario → (x : ℕ) → x < length scenario.threads → IsThreadRow (length scenario.partitions) (length scenario.channels) (joinable scenario) (thread_row scenario x)
row_fits scenario r x below = All-get_or (IsThreadRow (length scenario.partitions) (length scenario.channels) (joinable scenario)) scenario.threads x no_thread_row below r.threads

-- each operation that is read has its range
pub op_fits : (scenario : Scenario) → IsScenario scenario → (x place : ℕ) → IsOp (length scenario.channels) (joinable scenario) (op_at scenario x place)
op_fits scenario r x place = elim (cases_lt x (length scenario.threads)) [
  | inr past ↦ subst (λ (row : ThreadRow). IsOp (length scenario.channels) (joinable scenario) (slice_index_or row.program place Exit)) (sym (get_or_past scenario.threads x no_thread_row past)) tt
  | inl below ↦ elim (cases_lt place (length (thread_row scenario x).program)) [
    | inr past ↦ subst (IsOp (length scenario.channels) (joinable scenario)) (sym (get_or_past (thread_row scenario x).program place Exit past)) tt
    | inl inside ↦ All-get_or (IsOp (length scenario.channels) (joinable scenario)) (thread_row scenario x).program place Exit inside (row_fits scenario r x below).program.each
  ]
]

-- ---- the place after

goes_on : (ops : List Op) (place : ℕ) → ends_well ops ≡ true → place < length ops → is_last_op (slice_index_or ops place Exit) ≡ false → place + 1 < length ops
goes_on [] place e l f = absurd (omega arith)
goes_on (op ∷ []) zero e l f = absurd (clash (sym e ∙ f))
  where
    clash : ◌≡◌ {A = Bool} true false → ⊥
    clash k = cc
goes_on (op ∷ []) (suc p) e l f = absurd (omega arith)
goes_on (op ∷ next ∷ ops) zero e l f = omega arith
goes_on (op ∷ next ∷ ops) (suc p) e l f = let more = goes_on (next ∷ ops) p (rest (is_last_op op) e) (omega arith) f in omega arith
  where
    rest : (t : Bool) → cond t false (ends_well (next ∷ ops)) ≡ true → ends_well (next ∷ ops) ≡ true
    rest true k = absurd cc
    rest false k = k

first_stands : (ops : List Op) → ends_well ops ≡ true → 0 < length ops
first_stands [] e = absurd cc
first_stands (op ∷ ops) e = omega arith

pub first_fits : (scenario : Scenario) → IsScenario scenario → (x : ℕ) → x < length scenario.threads → 0 < length (thread_row scenario x).program
first_fits scenario r x below = first_stands (thread_row scenario x).program (row_fits scenario r x below).program.ends

-- a place in a program belongs to one of the threads
known : (scenario : Scenario) (x place : ℕ) → place < length (thread_row scenario x).program → x < length scenario.threads
known scenario x place inside = elim (cases_lt x (length scenario.threads)) [
  | inl below ↦ below
  | inr past ↦
      let none : length (thread_row scenario x).program ≡ 0 = ap (λ (row : ThreadRow). length row.program) (get_or_past scenario.threads x no_thread_row past) in
      absurd (omega (arith, none, inside))
]

pub next_fits : (scenario : Scenario) → IsScenario scenario → (x place : ℕ) → place < length (thread_row scenario x).program → is_last_op (op_at scenario x place) ≡ false → place + 1 < length (thread_row scenario x).program
next_fits scenario r x place inside more = goes_on (thread_row scenario x).program place (row_fits scenario r x (known scenario x place inside)).program.ends inside more

-- after an operation that ends, the next place is one of the program
pub after_fits : (scenario : Scenario) → IsScenario scenario → (x place : ℕ) (op : Op) → place < length (thread_row scenario x).program → op_at scenario x place ≡ op → op ≢ Exit → op ≢ Forever
    → place_after op place < length (thread_row scenario x).program
after_fits scenario r x place Exit inside is no_exit no_end = absurd (no_exit refl)
after_fits scenario r x place Forever inside is no_exit no_end = absurd (no_end refl)
after_fits scenario r x place Repeat inside is no_exit no_end = omega arith
after_fits scenario r x place (Run ns) inside is no_exit no_end = next_fits scenario r x place inside (ap is_last_op is)
after_fits scenario r x place (Sleep ns) inside is no_exit no_end = next_fits scenario r x place inside (ap is_last_op is)
after_fits scenario r x place Yield inside is no_exit no_end = next_fits scenario r x place inside (ap is_last_op is)
after_fits scenario r x place (Send d) inside is no_exit no_end = next_fits scenario r x place inside (ap is_last_op is)
after_fits scenario r x place (Receive d) inside is no_exit no_end = next_fits scenario r x place inside (ap is_last_op is)
after_fits scenario r x place Reply inside is no_exit no_end = next_fits scenario r x place inside (ap is_last_op is)
after_fits scenario r x place (Join name) inside is no_exit no_end = next_fits scenario r x place inside (ap is_last_op is)
after_fits scenario r x place (Priority n) inside is no_exit no_end = next_fits scenario r x place inside (ap is_last_op is)
after_fits scenario r x place CriticalOn inside is no_exit no_end = next_fits scenario r x place inside (ap is_last_op is)
after_fits scenario r x place CriticalOff inside is no_exit no_end = next_fits scenario r x place inside (ap is_last_op is)

-- ---- how long it takes

-- the time of a system call
pub record IsCallTime (shape : Shape) : Type 0 where
  pub some : 1 ≤ shape.call_ns
  pub short : shape.call_ns ≤ longest_call

-- what an operation takes: nothing exactly where it has no end, and else not too long
record IsTaken (op : Op) (o : Option ℕ) : Type 0 where
  endless : o ≡ None → op ≡ Forever
  forever : op ≡ Forever → o ≡ None
  small : (n : ℕ) → o ≡ Some n → n ≤ last_moment
  some : IsAwake op → o ≢ Some 0

taken_call : (shape : Shape) (op : Op) → IsCallTime shape → op ≢ Forever → IsTaken op (Some shape.call_ns)
taken_call shape op c ne = record {
  endless = λ e. absurd cc;
  forever = λ e. absurd (ne e);
  small = λ n e. let same = some_same shape.call_ns n e in omega (arith, same, c.short);
  some = λ a e. let same = some_same shape.call_ns 0 e in omega (arith, same, c.some);
}
  where
    some_same : (a b : ℕ) → Some a ≡ Some b → a ≡ b
    some_same a b e = cc

taken : (shape : Shape) (channels : ℕ) (names : List (List ℕ)) (op : Op) → IsCallTime shape → IsOp channels names op → IsTaken op (duration shape op)
taken shape channels names (Run ns) c fits = record {
  endless = λ e. absurd cc;
  forever = λ e. absurd cc;
  small = λ n e. let same = some_same ns n e in omega (arith, same, fits.short);
  some = λ a e. let same = some_same ns 0 e in omega (arith, same, fits.some);
}
  where
    some_same : (a b : ℕ) → Some a ≡ Some b → a ≡ b
    some_same a b e = cc
taken shape channels names Forever c fits = record { endless = λ e. refl; forever = λ e. refl; small = λ n e. absurd cc; some = λ a e. cc }
taken shape channels names (Sleep ns) c fits = record { endless = λ e. absurd cc; forever = λ e. absurd cc; small = λ n e. let same = some_same 0 n e in omega (arith, same); some = λ a e. a }
  where
    some_same : (a b : ℕ) → Some a ≡ Some b → a ≡ b
    some_same a b e = cc
taken shape channels names Yield c fits = taken_call shape Yield c (λ e. cc)
taken shape channels names (Send d) c fits = taken_call shape (Send d) c (λ e. cc)
taken shape channels names (Receive d) c fits = taken_call shape (Receive d) c (λ e. cc)
taken shape channels names Reply c fits = taken_call shape Reply c (λ e. cc)
taken shape channels names (Join name) c fits = taken_call shape (Join name) c (λ e. cc)
taken shape channels names (Priority n) c fits = taken_call shape (Priority n) c (λ e. cc)
taken shape channels names CriticalOn c fits = taken_call shape CriticalOn c (λ e. cc)
taken shape channels names CriticalOff c fits = taken_call shape CriticalOff c (λ e. cc)
taken shape channels names Repeat c fits = taken_call shape Repeat c (λ e. cc)
taken shape channels names Exit c fits = taken_call shape Exit c (λ e. cc)

-- some time is left at the begin of an operation that is no sleep
pub some_left : (scenario : Scenario) → IsScenario scenario → (shape : Shape) → IsCallTime shape → (x place : ℕ) → IsAwake (op_at scenario x place) → duration shape (op_at scenario x place) ≢ Some 0
some_left scenario r shape c x place = (taken shape (length scenario.channels) (joinable scenario) (op_at scenario x place) c (op_fits scenario r x place)).some

-- ---- a thread that enters an operation

active_stands : (st : State) (op : Op) → IsActive st → IsAwake op → StandsAt st op
active_stands Ready op a w = w
active_stands (Running c) op a w = w
active_stands (Sleeping until) op a w = absurd a
active_stands (Sending d) op a w = absurd a
active_stands (Receiving d) op a w = absurd a
active_stands (Replying y) op a w = absurd a
active_stands Gone op a w = absurd a

stands_in : (op : Op) (now : ℕ) (st : State) → IsActive st → StandsAt (state_in op now st) op
stands_in op now st a = elim (sleep_or_awake op) [
  | inl s ↦ subst (λ o. StandsAt (state_in o now st) o) (sym s.1) (s.0, refl)
  | inr w ↦ subst (λ z. StandsAt z op) (sym (awake_in op now st w)) (active_stands st op a w)
]

awake_now : (st : State) (u : ℕ) → IsActive st → st ≡ Sleeping u → ⊥
awake_now st u a e = subst IsActive e a

-- a sleep that begins now is over before twice the longest time
wakes_in : (channels : ℕ) (names : List (List ℕ)) (op : Op) (now : ℕ) (st : State) (u : ℕ) → IsOp channels names op → now ≤ last_moment → IsActive st → state_in op now st ≡ Sleeping u → u ≤ 20000000000000
wakes_in channels names op now st u fits small a e = elim (sleep_or_awake op) [
  | inl s ↦ by_sleep s.0 (subst (IsOp channels names) s.1 fits) (sym (ap (λ o. state_in o now st) s.1) ∙ e)
  | inr w ↦ absurd (awake_now st u a (sym (awake_in op now st w) ∙ e))
]
  where
    moment_same : (a b : ℕ) → Sleeping a ≡ Sleeping b → a ≡ b
    moment_same a b k = cc

    by_sleep : (ns : ℕ) → IsOp channels names (Sleep ns) → Sleeping (now + ns) ≡ Sleeping u → u ≤ 20000000000000
    by_sleep ns f k = let same = moment_same (now + ns) u k in omega (arith, same, f.short, small)

-- a thread at the begin of an operation fits
pub fit_of : (scenario : Scenario) → IsScenario scenario → (shape : Shape) → IsCallTime shape → (rows x now : ℕ) (st : State) (t : ThreadNow) → IsActive st → now ≤ last_moment
    → t.place < length (thread_row scenario x).program → t.left ≡ duration shape (op_at scenario x t.place) → t.state ≡ state_in (op_at scenario x t.place) now st
    → IsPriority t.own.priority → t.own.partition < rows → IsThreadFit scenario rows x t
fit_of scenario r shape c rows x now st t active small place left state priority partition =
    let op = op_at scenario x t.place in
    let range = op_fits scenario r x t.place in
    let time = taken shape (length scenario.channels) (joinable scenario) op c range in
    record {
      place = place;
      stands = subst (λ z. StandsAt z op) (sym state) (stands_in op now st active);
      endless = λ e. time.endless (sym left ∙ e);
      forever = λ e. left ∙ time.forever e;
      left_small = λ n e. time.small n (sym left ∙ e);
      wakes_soon = λ u e. wakes_in (length scenario.channels) (joinable scenario) op now st u range small active (sym state ∙ e);
      priority = priority;
      partition = partition;
    }
