-- The reports of a history.
use Rattle.std.specs.Prelude.{◌≡◌, ℕ, ◌*◌, ◌&&◌, List, Bool, true, false, nat_le, nat_lt, Option, Some, None, IsSome, option_map}
use Rattle.aps_model.specs.declared.entry.Entry.{Entry}
use Rattle.aps_model.specs.Scenario.{Scenario}
use Rattle.laws_runs.specs.Moments.{moment}
use Rattle.view_explain.specs.Text.{explain_text}
use Rattle.view_latency.specs.Text.{latency_text}
use Rattle.view_lives.specs.Text.{cycles_text}
use Rattle.view_samples.specs.Csv.{csv_text}
use Rattle.view_samples.specs.declared.table.Ticks.{Ticks as TicksTold}
use Rattle.view_shares.specs.Text.{shares_text}
use Rattle.view_words.specs.declared.asked.Report.{Report}
use Rattle.view_words.specs.declared.asked.Report.TheVariants.{Cycles, Csv, Shares, Latency, Explain, Picture, Trace}
use Rattle.view_words.specs.declared.asked.Ticks.{Ticks}
use Rattle.view_words.specs.declared.asked.Trace.{Trace as TraceAsked}
use Rattle.view_top.specs.Naming.{thread_named}

-- these ticks, for the table of samples
abbrev pub told : Ticks → TicksTold
told ticks = record { from = ticks.from; to = ticks.to }

-- why the thread of this name runs at a moment, or doesn't; nothing where the scenario has no thread of that name
abbrev pub explained : Scenario → List Entry → Option (List ℕ) → ℕ → Option (List ℕ)
explained scenario h thread at = option_map (λ x. explain_text scenario h x at) (thread_named scenario.threads thread)

-- the trace that a report is, if it is one
abbrev pub trace_of : Report → Option TraceAsked
trace_of (Trace trace) = Some trace
trace_of report = None

-- a picture of these ticks would begin behind the end of a history, or at it; one that begins with tick 0 never does
abbrev pub is_behind : Scenario → List Entry → Ticks → Bool
is_behind scenario h ticks = nat_lt 0 ticks.from && nat_le (moment h) (ticks.from * scenario.shape.tick)

-- there is a picture but where it would begin behind the end; it isn't said how it is drawn
abbrev pub IsDrawn : Bool → Option (List ℕ) → Type 0
IsDrawn true text = text ≡ None
IsDrawn false text = IsSome text

-- the text is this report of a history, or nothing where the scenario has no thread of the name that it is asked about, or where a
-- picture would begin behind the end
abbrev pub IsReport : Report → Scenario → List Entry → Option (List ℕ) → Type 0
IsReport Cycles scenario h text = text ≡ Some (cycles_text scenario h)
IsReport (Csv ticks) scenario h text = text ≡ Some (csv_text scenario h (told ticks))
IsReport Shares scenario h text = text ≡ Some (shares_text scenario h)
IsReport Latency scenario h text = text ≡ Some (latency_text scenario h)
IsReport (Explain thread at) scenario h text = text ≡ explained scenario h thread at
IsReport (Picture picture ticks) scenario h text = IsDrawn (is_behind scenario h ticks) text
IsReport (Trace trace) scenario h text = text ≡ None
