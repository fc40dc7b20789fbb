-- The text of an explanation: words with spaces between them, some lines for each thread.
use lib.Chars.{codes}
use Rattle.std.specs.Prelude.{ℕ, ◌++◌, List, [], ◌∷◌, Bool, nat_le, nat_lt, ◌&&◌, slice_index_or, if◌then◌else◌, Option, Some, None}
use Rattle.std.specs.List.{flat_map, join_with_byte, range_with_len}
use Rattle.std.specs.Fmt.{decimal}
use Rattle.aps_model.specs.declared.entry.Entry.{Entry}
use Rattle.aps_model.specs.declared.merit.Merit.{Merit}
use Rattle.aps_model.specs.declared.state.Facts.{Facts}
use Rattle.aps_model.specs.declared.state.Pick.{Pick}
use Rattle.aps_model.specs.declared.state.State.{State}
use Rattle.aps_model.specs.declared.state.State.TheVariants as state
use Rattle.aps_model.specs.Audit.{allowance}
use Rattle.aps_model.specs.Due.{due}
use Rattle.aps_model.specs.Inherit.{facts_of}
use Rattle.aps_model.specs.Journal.{line_of, option_text}
use Rattle.aps_model.specs.Replies.{state_text}
use Rattle.aps_model.specs.Scenario.{Scenario, thread_row}
use Rattle.aps_model.specs.SchedulerState.{cpu_at, row_at, thread_at}
use Rattle.aps_model.specs.Usage.{window_critical, window_used}
use Rattle.view_lives.specs.declared.life.Segment.{Segment}
use Rattle.laws_runs.specs.Moments.{moment}
use Rattle.view_lives.specs.Doing.{doing_by}
use Rattle.view_lives.specs.Life.{goes_on, last_of, life_of}
use Rattle.view_explain.specs.declared.above.Above.{Above}
use Rattle.view_explain.specs.declared.because.Because.{Because}
use Rattle.view_explain.specs.declared.because.Because.TheVariants.{Running, Shut, NotYet, Outranked, Sleeping, WaitsForReply, WaitsForReceiver, WaitsForMessage, Gone}
use Rattle.view_explain.specs.declared.deciding.Test.{Test}
use Rattle.view_explain.specs.declared.deciding.Test.TheVariants.{Class, Priority, Fraction, Stamp}
use Rattle.view_explain.specs.Again.{again}
use Rattle.view_explain.specs.Because.{above, ahead_on, because}
use Rattle.view_explain.specs.Chain.{threads_explained}
use Rattle.view_explain.specs.Past.{Past, merit_in, part_of_past, past_at, state_of_past, tick_in}

-- ---- words

abbrev pub yes_or_no : Bool → List ℕ
yes_or_no b = if b then codes "yes" else codes "no"

abbrev pub test_word : Test → List ℕ
test_word Class = codes "class"
test_word Priority = codes "priority"
test_word Fraction = codes "fraction"
test_word Stamp = codes "stamp"

-- words with a space behind each
abbrev pub words_of : List (List ℕ) → List ℕ
words_of words = join_with_byte 32 words ++ 32 ∷ []

-- names
abbrev pub name_of_thread : Past → ℕ → List ℕ
name_of_thread past x = (thread_row past.scenario x).name

abbrev pub name_of_partition : Past → ℕ → List ℕ
name_of_partition past p = (row_at (state_of_past past) p).name

abbrev pub channel_name_in : Past → ℕ → List ℕ
channel_name_in past c = slice_index_or past.scenario.channels c []

-- ---- what each thread has

-- since when a thread with this life is in this state after the last entry: since the last segment begins where that is of the
-- same, else since that entry's end
abbrev pub since_last : Past → List Segment → State → ℕ
since_last past life st =
    if goes_on life (doing_by (state_of_past past) st) then (last_of life).from else moment past.entries

-- since when a thread with this life does what it does at a moment; where the life ends before, since the last of these moments
abbrev pub since : List Segment → ℕ → ℕ → ℕ
since [] last at = last
since (segment ∷ life) last at = if nat_le segment.from at && nat_lt at segment.to then segment.from else since life last at

-- a thread in this state since this moment
abbrev pub head_by : Past → State → ℕ → ℕ → List ℕ
head_by past st moment x = line_of (
    codes "thread" ∷ decimal x ∷ name_of_thread past x ∷ codes "state" ∷ state_text st ∷ codes "since" ∷ decimal moment ∷ [])

abbrev pub thread_head_line : Past → List Segment → ℕ → ℕ → List ℕ
thread_head_line past life at x =
    let st = (thread_at (state_of_past past) x).state in
    head_by past st (since life (since_last past life st) at) x

-- these values, behind a word
abbrev pub facts_line : Past → List ℕ → Facts → List ℕ
facts_line past word facts = line_of (
    word ∷ codes "partition" ∷ decimal facts.partition ∷ name_of_partition past facts.partition
    ∷ codes "priority" ∷ decimal facts.priority ∷ codes "critical" ∷ yes_or_no facts.critical ∷ [])

abbrev pub used_words : Past → ℕ → List ℕ
used_words past p = words_of (
    codes "partition" ∷ decimal p ∷ name_of_partition past p
    ∷ codes "used" ∷ decimal (window_used (state_of_past past).shape past.entries (tick_in past) p) ∷ [])

abbrev pub allowed_words : ℕ → Bool → List ℕ
allowed_words allowance in_budget =
    words_of (codes "allowance" ∷ decimal allowance ∷ codes "in_budget" ∷ yes_or_no in_budget ∷ [])

abbrev pub critical_words : ℕ → ℕ → List ℕ
critical_words used budget =
    words_of (codes "critical_used" ∷ decimal used ∷ codes "critical_budget" ∷ decimal budget ∷ [])

abbrev pub limits_line : Bool → Bool → List ℕ
limits_line standing shut = line_of (codes "standing" ∷ yes_or_no standing ∷ codes "shut" ∷ yes_or_no shut ∷ [])

abbrev pub part_line : Past → ℕ → List ℕ
part_line past p =
    let s = state_of_past past in
    used_words past p
    ++ allowed_words (allowance s.shape (row_at s p).budget) (part_of_past past p).funded
    ++ critical_words (window_critical s.shape past.entries (tick_in past) p) (row_at s p).critical
    ++ limits_line (part_of_past past p).standing (part_of_past past p).shut

abbrev pub boundary_line : Option ℕ → List ℕ
boundary_line boundary = line_of (codes "again" ∷ option_text boundary ∷ [])

-- where the partition is out of budget, the boundary at which it is in budget again if nothing more is billed
abbrev pub again_line : Past → ℕ → List ℕ
again_line past p = if (part_of_past past p).funded then [] else boundary_line (again past p)

abbrev pub class_line : ℕ → List ℕ
class_line class = line_of (codes "class" ∷ decimal class ∷ [])

-- ---- what a ready thread waits for

abbrev pub running_words : Past → ℕ → Pick → List ℕ
running_words past c pick = words_of (
    codes "cpu" ∷ decimal c ∷ codes "runs" ∷ decimal pick.thread ∷ name_of_thread past pick.thread
    ∷ codes "billed" ∷ decimal pick.partition ∷ name_of_partition past pick.partition ∷ [])

abbrev pub merit_words : Merit → ℕ → List ℕ
merit_words merit next = words_of (
    codes "class" ∷ decimal merit.class ∷ codes "priority" ∷ decimal merit.priority ∷ codes "next" ∷ decimal next ∷ [])

abbrev pub standing_words : Option Test → List ℕ
standing_words None = line_of (codes "behind" ∷ [])
standing_words (Some test) = line_of (codes "ahead" ∷ test_word test ∷ [])

abbrev pub idle_line : ℕ → ℕ → List ℕ
idle_line c next = line_of (codes "cpu" ∷ decimal c ∷ codes "idle" ∷ codes "next" ∷ decimal next ∷ [])

-- what a processor does that keeps this pick and steps next at this moment, and by which test that stands ahead
abbrev pub cpu_line_by : Past → ℕ → ℕ → Option Test → Option Pick → List ℕ
cpu_line_by past c next standing None = idle_line c next
cpu_line_by past c next standing (Some pick) =
    running_words past c pick ++ merit_words (merit_in past pick.thread) next ++ standing_words standing

-- what processor c does, beside the ready thread x
abbrev pub cpu_line : Past → ℕ → ℕ → List ℕ
cpu_line past x c =
    cpu_line_by past c (due (state_of_past past) past.entries c) (ahead_on past x c) (cpu_at (state_of_past past) c).running

abbrev pub above_line : Past → Above → List ℕ
above_line past above = line_of (
    codes "ready" ∷ decimal above.thread ∷ name_of_thread past above.thread ∷ codes "ahead" ∷ test_word above.test ∷ [])

abbrev pub rivals_text : Past → ℕ → List ℕ
rivals_text past x =
    flat_map (cpu_line past x) (range_with_len 0 past.scenario.shape.cpus) ++ flat_map (above_line past) (above past x)

-- the class of a thread that is ready or runs, and what else is ready or runs
abbrev pub class_and_rivals : Past → ℕ → State → List ℕ
class_and_rivals past x state.Ready = class_line (merit_in past x).class ++ rivals_text past x
class_and_rivals past x (state.Running c) = class_line (merit_in past x).class
class_and_rivals past x st = []

-- ---- the cause

-- what a thread waits for at channel c, by this word
abbrev pub channel_line : Past → List ℕ → ℕ → List ℕ
channel_line past word c = line_of (codes "because" ∷ word ∷ codes "at" ∷ decimal c ∷ channel_name_in past c ∷ [])

abbrev pub because_line : Past → Because → List ℕ
because_line past (Running c p critical) = line_of (
    codes "because" ∷ codes "running" ∷ codes "cpu" ∷ decimal c ∷ codes "billed" ∷ decimal p ∷ name_of_partition past p
    ∷ codes "critical" ∷ yes_or_no critical ∷ [])
because_line past Shut = line_of (codes "because" ∷ codes "shut" ∷ [])
because_line past (NotYet moment) = line_of (codes "because" ∷ codes "not_yet" ∷ codes "next" ∷ decimal moment ∷ [])
because_line past (Outranked running ready) = line_of (
    codes "because" ∷ codes "outranked" ∷ codes "by" ∷ decimal running ∷ codes "running" ∷ codes "and" ∷ decimal ready ∷ codes "ready" ∷ [])
because_line past (Sleeping moment) = line_of (codes "because" ∷ codes "sleeping" ∷ codes "until" ∷ decimal moment ∷ [])
because_line past (WaitsForReply y) = line_of (
    codes "because" ∷ codes "waits_for_reply" ∷ codes "of" ∷ decimal y ∷ name_of_thread past y ∷ [])
because_line past (WaitsForReceiver c) = channel_line past (codes "waits_for_receiver") c
because_line past (WaitsForMessage c) = channel_line past (codes "waits_for_message") c
because_line past Gone = line_of (codes "because" ∷ codes "gone" ∷ [])

-- ---- the whole

-- thread x, whose life is this
abbrev pub explained_thread : Past → ℕ → List Segment → ℕ → List ℕ
explained_thread past at life x =
    let s = state_of_past past in
    let p = (facts_of s x).partition in
    thread_head_line past life at x
    ++ facts_line past (codes "own") (thread_at s x).own
    ++ facts_line past (codes "counts_as") (facts_of s x)
    ++ part_line past p
    ++ again_line past p
    ++ class_and_rivals past x (thread_at s x).state
    ++ because_line past (because past x)

-- the same, by the lives of all
abbrev pub thread_by_lives : Past → ℕ → List (List Segment) → ℕ → List ℕ
thread_by_lives past at lives x = explained_thread past at (slice_index_or lives x []) x

-- the same with its life in a history
abbrev pub told_thread : Scenario → List Entry → ℕ → ℕ → List ℕ
told_thread scenario h at x = explained_thread (past_at scenario h at) at (life_of scenario h x) x

abbrev pub moment_line : ℕ → List ℕ
moment_line at = line_of (codes "at" ∷ decimal at ∷ [])

abbrev pub at_and_end_line : ℕ → ℕ → List ℕ
at_and_end_line at end = line_of (codes "at" ∷ decimal at ∷ codes "end" ∷ decimal end ∷ [])

-- the moment that was asked for, and the end of the history where the moment isn't before it
abbrev pub at_line : ℕ → ℕ → List ℕ
at_line at end = if nat_lt at end then moment_line at else at_and_end_line at end

abbrev pub title_text : ℕ → ℕ → List ℕ
title_text at end = codes "aps explain 1\n" ++ at_line at end

-- why thread x of a history runs at a moment, or doesn't
abbrev pub explain_text : Scenario → List Entry → ℕ → ℕ → List ℕ
explain_text scenario h x at =
    title_text at (moment h)
    ++ flat_map (told_thread scenario h at) (threads_explained (past_at scenario h at) x)
