-- Why there is no text of a report.
use Rattle.aps_calls.specs.declared.refusal.InputRefusal.{InputRefusal}
use Rattle.aps_calls.specs.declared.refusal.InputRefusal.TheVariants.{UnknownThread, BehindEnd}
use Rattle.view_words.specs.declared.asked.Report.{Report}
use Rattle.view_words.specs.declared.asked.Report.TheVariants.{Picture}

-- a picture begins behind the end, and any other report is asked about a thread that isn't there
abbrev pub report_refusal : Report → InputRefusal
report_refusal (Picture picture ticks) = BehindEnd
report_refusal report = UnknownThread
