-- The sizes and the policies of the top table.
use Rattle.std.specs.Prelude.{ℕ, false, Bool, nat_eq, if◌then◌else◌, Some, None, Result, Ok}
use Rattle.aps_model.specs.Limits.{longest_call, longest_tick, longest_window, microsecond, most_cpus, most_ticks, percent, shortest_tick, shortest_window, thousandths}
use Rattle.toml.specs.Data.{Members}
use Rattle.aps_model.specs.declared.shape.Shape.{Shape}
use Rattle.aps_model.specs.declared.shape.Free.{Free}
use Rattle.aps_model.specs.declared.shape.Free.TheVariants as free
use Rattle.aps_model.specs.declared.shape.Bankruptcy.{Bankruptcy}
use Rattle.aps_model.specs.declared.shape.Bankruptcy.TheVariants.{Basic}
use Rattle.aps_scenario.specs.declared.key.Key.TheVariants as key
use Rattle.aps_scenario.specs.declared.refusal.Finding.{Finding}
use Rattle.aps_scenario.specs.declared.refusal.Place.TheVariants.{Top}
use Rattle.aps_scenario.specs.Row.{◌>>=◌, Row, row_integer, row_truth, row_word, value_of}
use Rattle.aps_scenario.specs.Words.{free_words, bankruptcy_words}

abbrev pub row_version : Row ℕ
row_version = row_integer key.Version 1 2 1 None

abbrev pub row_cpus : Row ℕ
row_cpus = row_integer key.Cpus 1 most_cpus 1 None

abbrev pub row_tick : Row ℕ
row_tick = row_integer key.Tick shortest_tick longest_tick microsecond (Some 1000000)

abbrev pub row_window : Row ℕ
row_window = row_integer key.Window shortest_window longest_window 1 (Some 100)

abbrev pub row_ticks : Row ℕ
row_ticks = row_integer key.Ticks 1 most_ticks 1 None

abbrev pub row_call_ns : Row ℕ
row_call_ns = row_integer key.CallNs 1 longest_call 1 (Some 1000)

abbrev pub row_free : Row Free
row_free = row_word key.Free free_words (Some free.Priority)

abbrev pub row_limit : Row Bool
row_limit = row_truth key.Limit (Some false)

abbrev pub row_bankruptcy : Row Bankruptcy
row_bankruptcy = row_word key.Bankruptcy bankruptcy_words (Some Basic)

-- the parts in which a version counts budgets
abbrev pub parts_of : ℕ → ℕ
parts_of version = if nat_eq version 1 then percent else thousandths

unfoldable pub shape_at : Members → Result Shape Finding
shape_at t = do
  version ← value_of row_version Top t
  cpus ← value_of row_cpus Top t
  tick ← value_of row_tick Top t
  window ← value_of row_window Top t
  ticks ← value_of row_ticks Top t
  call_ns ← value_of row_call_ns Top t
  free ← value_of row_free Top t
  limit ← value_of row_limit Top t
  bankruptcy ← value_of row_bankruptcy Top t
  Ok (record {
    parts = parts_of version;
    cpus = cpus;
    tick = tick;
    window = window;
    ticks = ticks;
    call_ns = call_ns;
    free = free;
    limit = limit;
    bankruptcy = bankruptcy;
  })
