-- The text of what threads wait for. All times are ns.
use lib.Chars.{codes}
use Rattle.std.specs.Prelude.{◌≡◌, ℕ, ◌-◌, ◌<◌, ◌++◌, List, [], length, nat_eq, slice_index_or, if◌then◌else◌, Option, Some, None}
use Rattle.std.specs.List.{flat_map, enumerate_from, range_with_len}
use Rattle.std.specs.Fmt.{decimal}
use Rattle.aps_model.specs.Limits.{most_partitions}
use Rattle.aps_model.specs.declared.entry.Entry.{Entry}
use Rattle.aps_model.specs.declared.scenario.ThreadRow.{ThreadRow}
use Rattle.aps_model.specs.declared.usage.Usage.{Usage}
use Rattle.aps_model.specs.Scenario.{Scenario}
use Rattle.laws_runs.specs.Moments.{moment}
use Rattle.view_lives.specs.declared.cycle.Begun.{Begun}
use Rattle.view_lives.specs.declared.doing.Doing.{Doing}
use Rattle.view_lives.specs.declared.doing.Doing.TheVariants.{Ready}
use Rattle.view_lives.specs.declared.life.Segment.{Segment}
use Rattle.view_lives.specs.declared.tally.Longest.{Longest}
use Rattle.view_lives.specs.declared.tally.Tally.{Tally}
use Rattle.view_lives.specs.declared.waits.Waits.{Waits}
use Rattle.view_lives.specs.Cycle.{cycles_in}
use Rattle.view_lives.specs.Life.{AreLives, life_of}
use Rattle.view_lives.specs.Waits.{cycle_tally, waits_in}
use Rattle.view_latency.specs.declared.answered.Answered.{Answered}
use Rattle.view_latency.specs.declared.call.Asked.{Asked}
use Rattle.view_latency.specs.Answered.{answered_at}
use Rattle.view_latency.specs.Bills.{AreBills, bill_at, billed_time}
use Rattle.view_latency.specs.Calls.{AreCalls, Calls, calls_of, no_calls}

-- ---- a tally

-- the longest, and when it began
abbrev pub longest_text : Option Longest → List ℕ
longest_text None = codes " worst 0 at -\n"
longest_text (Some longest) = codes " worst " ++ (decimal longest.ns ++ (codes " at " ++ (decimal longest.begin ++ codes "\n")))

-- how many, how long together, and the longest
abbrev pub tally_text : Tally → List ℕ
tally_text tally = (decimal tally.count ++ (codes " total " ++ decimal tally.total)) ++ longest_text tally.longest

-- ---- what the thread ran

-- so much on the bill of partition p; no line where that is nothing
abbrev pub bill_line : ℕ → ℕ → List ℕ
bill_line p ns = if nat_eq ns 0 then [] else codes "billed " ++ (decimal p ++ (codes " " ++ (decimal ns ++ codes "\n")))

unfoldable pub bill_lines : (ℕ → ℕ) → List ℕ
bill_lines billed = flat_map (λ p. bill_line p (billed p)) (range_with_len 0 most_partitions)

-- ---- waits and cycles

abbrev pub tally_lines : Waits → Tally → List ℕ
tally_lines waits cycles =
    codes "wake " ++ (tally_text waits.wake
    ++ (codes "preempted " ++ (tally_text waits.preempted ++ (codes "cycle " ++ tally_text cycles))))

abbrev pub open_ready : Segment → List ℕ
open_ready segment = codes "open ready " ++ (decimal (segment.to - segment.from) ++ (codes " at " ++ (decimal segment.from ++ codes "\n")))

abbrev pub ready_in : Segment → Doing → List ℕ
ready_in segment Ready = open_ready segment
ready_in segment doing = []

-- the thread is ready at the end
abbrev pub ready_line : Option Segment → List ℕ
ready_line None = []
ready_line (Some segment) = ready_in segment segment.doing

-- a cycle goes on at the end
abbrev pub open_cycle_line : ℕ → Option Begun → List ℕ
open_cycle_line end None = []
open_cycle_line end (Some begun) =
    codes "open cycle " ++ (decimal (end - begun.begin) ++ (codes " at " ++ (decimal begun.begin ++ codes "\n")))

abbrev pub wait_lines : ℕ → List Segment → List ℕ
wait_lines end life =
    let waits = waits_in life in
    let cycles = cycles_in life in
    tally_lines waits (cycle_tally cycles.ended) ++ (ready_line waits.last ++ open_cycle_line end cycles.current)

-- ---- calls

abbrev pub answered_line : ℕ → List ℕ → Tally → List ℕ
answered_line c name calls = (codes "call " ++ (decimal c ++ (codes " " ++ (name ++ codes " ")))) ++ tally_text calls

abbrev pub queue_line : ℕ → Tally → List ℕ
queue_line c queue = (codes "queue " ++ (decimal c ++ codes " ")) ++ tally_text queue

abbrev pub served_line : ℕ → ℕ → List ℕ
served_line c ns = codes "served " ++ (decimal c ++ (codes " " ++ (decimal ns ++ codes "\n")))

-- the calls to channel c that were answered; no lines where none was
abbrev pub answered_lines : ℕ → List ℕ → Answered → List ℕ
answered_lines c name answered =
    if nat_eq answered.call.count 0 then []
    else answered_line c name answered.call ++ (queue_line c answered.queue ++ served_line c answered.served)

-- a call that goes on at the end, where it goes to channel c
abbrev pub open_call : ℕ → ℕ → List ℕ → Asked → List ℕ
open_call end c name asked =
    if nat_eq asked.channel c
    then codes "open call "
    ++ (decimal c ++ (codes " "
    ++ (name ++ (codes " " ++ (decimal (end - asked.begin) ++ (codes " at " ++ (decimal asked.begin ++ codes "\n")))))))
    else []

abbrev pub current_line : ℕ → ℕ → List ℕ → Option Asked → List ℕ
current_line end c name None = []
current_line end c name (Some asked) = open_call end c name asked

abbrev pub call_lines : ℕ → Calls → ℕ → List ℕ → List ℕ
call_lines end calls c name = answered_lines c name (answered_at c calls.ended) ++ current_line end c name calls.current

abbrev pub channel_lines : ℕ → Calls → ℕ × List ℕ → List ℕ
channel_lines end calls (c, name) = call_lines end calls c name

-- ---- a thread, and all threads

abbrev pub thread_number_line : ℕ → List ℕ → List ℕ
thread_number_line x name = codes "thread " ++ (decimal x ++ (codes " " ++ (name ++ codes "\n")))

-- a thread with these bills, this life and these calls, where the history ends at this moment
abbrev pub thread_lines : ℕ → List (List ℕ) → ℕ → List ℕ → (ℕ → ℕ) → List Segment → Calls → List ℕ
thread_lines end channels x name billed life calls =
    thread_number_line x name ++ (bill_lines billed ++ (wait_lines end life
    ++ flat_map (channel_lines end calls) (enumerate_from 0 channels)))

-- where a history ends, and what is known of each thread
pub record Known : Type 0 where
  pub end : ℕ
  pub bills : List Usage
  pub lives : List (List Segment)
  pub calls : List Calls

-- a thread by that
abbrev pub thread_by : List (List ℕ) → Known → ℕ → List ℕ → List ℕ
thread_by channels known x name =
    thread_lines known.end channels x name (bill_at known.bills x) (slice_index_or known.lives x []) (slice_index_or known.calls x no_calls)

abbrev pub thread_by_known : List (List ℕ) → Known → ℕ × ThreadRow → List ℕ
thread_by_known channels known (x, row) = thread_by channels known x row.name

-- a thread by its history
abbrev pub thread_latency_text : Scenario → List Entry → ℕ × ThreadRow → List ℕ
thread_latency_text scenario h (x, row) =
    thread_lines (moment h) scenario.channels x row.name (billed_time h x) (life_of scenario h x) (calls_of scenario h x)

-- what the threads of a history wait for
abbrev pub latency_text : Scenario → List Entry → List ℕ
latency_text scenario h = codes "aps latency 1\n" ++ flat_map (thread_latency_text scenario h) (enumerate_from 0 scenario.threads)

-- ---- what is known is the history's

pub record IsKnown (scenario : Scenario) (h : List Entry) (known : Known) : Type 0 where
  pub end : known.end ≡ moment h
  pub bills : AreBills h known.bills
  pub lives : AreLives scenario h known.lives
  pub calls : AreCalls scenario h known.calls

-- thread x is known
pub record IsKnownThread (x : ℕ) (known : Known) : Type 0 where
  pub bills : x < length known.bills
  pub lives : x < length known.lives
  pub calls : x < length known.calls

-- and so are this many threads
abbrev pub HasPlaces : ℕ → Known → Type 0
HasPlaces count known = (x : ℕ) → x < count → IsKnownThread x known
