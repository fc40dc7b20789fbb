-- What the values of the options say.
use Rattle.std.specs.Prelude.{ℕ, List, codes, Option, Some, None, if◌then◌else◌}
use Rattle.std.specs.Str.{bytes_eq}
use Rattle.aps_model.specs.declared.entry.Order.{Order}
use Rattle.aps_model.specs.declared.entry.Order.TheVariants.{Free, Fixed}
use Rattle.aps_words.specs.declared.command.Report.{Report}
use Rattle.aps_words.specs.declared.command.Report.TheVariants.{Summary, Windows, Journal}
use Rattle.aps_words.specs.Number.{number_in}
use Rattle.aps_model.specs.Limits.{most_entries}

-- the report of this name
abbrev pub report_named : List ℕ → Option Report
report_named word =
    if bytes_eq word (codes "summary") then Some Summary
    else (if bytes_eq word (codes "windows") then Some Windows
    else (if bytes_eq word (codes "journal") then Some Journal else None))

-- the order of this name
abbrev pub order_named : List ℕ → Option Order
order_named word =
    if bytes_eq word (codes "free") then Some Free
    else (if bytes_eq word (codes "fixed") then Some Fixed else None)

-- the report: the one that the value names, or the summary
abbrev pub report_of : Option (List ℕ) → Option Report
report_of None = Some Summary
report_of (Some value) = report_named value

-- the order: the one that the value names, or the free one
abbrev pub order_of : Option (List ℕ) → Option Order
order_of None = Some Free
order_of (Some value) = order_named value

-- the limit of entries: the value, 1 to 4,000,000, or 1,000,000
abbrev pub limit_of : Option (List ℕ) → Option ℕ
limit_of None = Some 1000000
limit_of (Some value) = number_in 1 most_entries value

-- a number in this range, whose option has to be there
abbrev pub required_in : ℕ → ℕ → Option (List ℕ) → Option ℕ
required_in low high None = None
required_in low high (Some value) = number_in low high value
