-- The usage of a report that words ask for.
use Rattle.std.specs.Prelude.{◌≡◌, ℕ, List, [], ◌∷◌, ◌++◌, codes, true, if◌then◌else◌, nat_eq}
use Rattle.std.specs.List.{starts_with}
use Rattle.std.specs.Str.{bytes_eq}
use Rattle.aps_hints.specs.declared.view_usage.ViewUsage.{ViewUsage}
use Rattle.aps_hints.specs.declared.view_usage.ViewUsage.TheVariants.{All, Shares, Latency, Explain, Csv, Cycles, Timeline, Threads, Usage, Vcd, Gtkw, Trace}

-- the usage of the report that has this word, else that of all reports
abbrev pub trace_meant : List ℕ → ViewUsage
trace_meant word =
    if bytes_eq word (codes "vcd") then Vcd
    else (if bytes_eq word (codes "gtkw") then Gtkw else (if bytes_eq word (codes "trace") then Trace else All))

abbrev pub picture_meant : List ℕ → ViewUsage
picture_meant word =
    if bytes_eq word (codes "timeline") then Timeline
    else (if bytes_eq word (codes "threads") then Threads else (if bytes_eq word (codes "usage") then Usage else trace_meant word))

abbrev pub view_text_meant : List ℕ → ViewUsage
view_text_meant word =
    if bytes_eq word (codes "shares") then Shares
    else (if bytes_eq word (codes "latency") then Latency
    else (if bytes_eq word (codes "explain") then Explain
    else (if bytes_eq word (codes "csv") then Csv else (if bytes_eq word (codes "cycles") then Cycles else picture_meant word))))

-- the usage of the report that the first word names, else that of all reports
abbrev pub view_usage_meant : List (List ℕ) → ViewUsage
view_usage_meant [] = All
view_usage_meant (word ∷ words) = view_text_meant word

-- the word of the report
abbrev pub report_word : ViewUsage → List ℕ
report_word All = codes "REPORT"
report_word Shares = codes "shares"
report_word Latency = codes "latency"
report_word Explain = codes "explain"
report_word Csv = codes "csv"
report_word Cycles = codes "cycles"
report_word Timeline = codes "timeline"
report_word Threads = codes "threads"
report_word Usage = codes "usage"
report_word Vcd = codes "vcd"
report_word Gtkw = codes "gtkw"
report_word Trace = codes "trace"

-- a text that tells the usage of this report begins so
abbrev pub TellsViewUsage : ViewUsage → List ℕ → Type 0
TellsViewUsage usage text = starts_with nat_eq text (codes "usage: apsview " ++ report_word usage ++ codes " ") ≡ true
