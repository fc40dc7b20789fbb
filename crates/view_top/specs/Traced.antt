-- A history that is told as a trace.
use Rattle.std.specs.Prelude.{List}
use Rattle.aps_model.specs.declared.entry.Entry.{Entry}
use Rattle.aps_model.specs.Scenario.{Scenario}
use Rattle.aps_core.specs.Run.{Run}
use Rattle.view_shares.specs.Spent.{overspent_of}
use Rattle.view_trace_events.specs.Trace.{trace_text}
use Rattle.view_words.specs.declared.asked.Trace.{Trace}
use Rattle.view_value_changes.specs.Dump.{dump_text}
use Rattle.view_value_changes.specs.Save.{save_text}
use Rattle.view_words.specs.declared.asked.Trace.TheVariants.{Vcd, Gtkw, Events}
use Rattle.aps_calls.specs.declared.status.Status.{Status}
use Rattle.view_top.specs.Printing.{Told, Told.in_pieces}

-- which trace, of which history, under which status
pub record Traced : Type 0 where
  pub status : Status
  pub trace : Trace
  pub run : Run

-- what is written
abbrev pub trace_told : Trace → Scenario → List Entry → Told
trace_told Vcd scenario h = in_pieces (dump_text scenario h (overspent_of scenario h))
trace_told Gtkw scenario h = in_pieces (save_text scenario h)
trace_told Events scenario h = in_pieces (trace_text scenario h (overspent_of scenario h))
