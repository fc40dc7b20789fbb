-- The report that a list of words asks for.
use Rattle.std.specs.Prelude.{◌≤◌, List, [], ◌∷◌, codes, Option, Some, None, if◌then◌else◌, ⊤}
use Rattle.std.specs.Str.{bytes_eq}
use Rattle.aps_words.specs.Command.{◌>>=◌}
use Rattle.aps_words.specs.Options.{Text}
use Rattle.aps_words.specs.Unhyphened.{with_unhyphened}
use Rattle.aps_words.specs.Values.{limit_of, required_in}
use Rattle.view_words.specs.declared.asked.Asked.{Asked}
use Rattle.view_words.specs.declared.asked.Picture.{Picture as PictureAsked}
use Rattle.view_words.specs.declared.asked.Picture.TheVariants.{Timeline, Threads, Usage}
use Rattle.view_words.specs.declared.asked.Report.{Report}
use Rattle.view_words.specs.declared.asked.Report.TheVariants.{Cycles, Csv, Shares, Latency, Explain, Picture, Trace}
use Rattle.view_words.specs.declared.asked.Ticks.{Ticks}
use Rattle.view_words.specs.declared.asked.Trace.{Trace as TraceAsked}
use Rattle.view_words.specs.declared.asked.Trace.TheVariants.{Vcd, Gtkw, Events}
use Rattle.view_words.specs.Values.{AreTicks, thread_asked, ticks_of}
use Rattle.aps_model.specs.Limits.{last_moment, most_entries}

-- a report with its limit, by the values of its options
abbrev pub limited : Report → (Text → Option Text) → Option Asked
limited report value = do
  limit ← limit_of (value (codes "limit"))
  Some (record { report = report; limit = limit })

-- the ticks that the options name
abbrev pub ticks_by : (Text → Option Text) → Option Ticks
ticks_by value = ticks_of (value (codes "from")) (value (codes "to"))

-- `csv`, by the values of its options
abbrev pub csv : (Text → Option Text) → Option Asked
csv value = do
  ticks ← ticks_by value
  limited (Csv ticks) value

-- a picture, by the values of its options
abbrev pub picture : PictureAsked → (Text → Option Text) → Option Asked
picture which value = do
  ticks ← ticks_by value
  limited (Picture which ticks) value

-- the report that is this trace
abbrev pub traced : TraceAsked → Report
traced which = Trace which

-- `explain`, by the values of its options
abbrev pub explain : (Text → Option Text) → Option Asked
explain value = do
  thread ← thread_asked (value (codes "thread"))
  moment ← required_in 0 last_moment (value (codes "at"))
  limited (Explain thread moment) value

abbrev pub limit_options : List Text
limit_options = codes "limit" ∷ []

abbrev pub ticks_options : List Text
ticks_options = codes "from" ∷ codes "to" ∷ codes "limit" ∷ []

abbrev pub thread_options : List Text
thread_options = codes "thread" ∷ codes "at" ∷ codes "limit" ∷ []

-- what these words ask for, if they ask for a report
abbrev pub asked : List Text → Option Asked
asked [] = None
asked (word ∷ words) =
    if bytes_eq word (codes "cycles") then with_unhyphened limit_options (limited Cycles) words
    else (if bytes_eq word (codes "csv") then with_unhyphened ticks_options csv words
    else (if bytes_eq word (codes "timeline") then with_unhyphened ticks_options (picture Timeline) words
    else (if bytes_eq word (codes "threads") then with_unhyphened ticks_options (picture Threads) words
    else (if bytes_eq word (codes "usage") then with_unhyphened ticks_options (picture Usage) words
    else (if bytes_eq word (codes "vcd") then with_unhyphened limit_options (limited (traced Vcd)) words
    else (if bytes_eq word (codes "gtkw") then with_unhyphened limit_options (limited (traced Gtkw)) words
    else (if bytes_eq word (codes "trace") then with_unhyphened limit_options (limited (traced Events)) words
    else (if bytes_eq word (codes "shares") then with_unhyphened limit_options (limited Shares) words
    else (if bytes_eq word (codes "latency") then with_unhyphened limit_options (limited Latency) words
    else (if bytes_eq word (codes "explain") then with_unhyphened thread_options explain words else None))))))))))

-- the numbers of a report have their ranges
abbrev pub ReportHasRanges : Report → Type 0
ReportHasRanges Cycles = ⊤
ReportHasRanges (Csv ticks) = AreTicks ticks
ReportHasRanges Shares = ⊤
ReportHasRanges Latency = ⊤
ReportHasRanges (Explain thread moment) = moment ≤ last_moment
ReportHasRanges (Picture picture ticks) = AreTicks ticks
ReportHasRanges (Trace trace) = ⊤

-- and so have those of what is asked for
pub record AskedHasRanges (asked : Asked) : Type 0 where
  pub some : 1 ≤ asked.limit
  pub few : asked.limit ≤ most_entries
  pub report : ReportHasRanges asked.report
