-- The timed commands as an array of tables.
use Rattle.std.specs.Prelude.{ℕ, List, slice_index_or}
use Rattle.toml.specs.Data.{Data, string, boolean, table, Members, no_members}
use Rattle.aps_model.specs.declared.command.Call.{Call}
use Rattle.aps_model.specs.declared.command.Call.TheVariants as call
use Rattle.aps_model.specs.declared.command.CommandRow.{CommandRow}
use Rattle.aps_model.specs.declared.scenario.ThreadRow.{ThreadRow}
use Rattle.aps_model.specs.declared.shape.Free.{Free as FreeType}
use Rattle.aps_model.specs.declared.shape.Bankruptcy.{Bankruptcy as BankruptcyType}
use Rattle.aps_model.specs.Scenario.{no_thread_row}
use Rattle.aps_scenario.specs.declared.key.Key.TheVariants.{Name, Parent, Partition, Budget, Critical, Max, Thread, Window, Free, Limit, Bankruptcy, Tick, Do}
use Rattle.aps_scenario.specs.PrintedTable.{put, put_some, number_data}
use Rattle.aps_scenario.specs.PrintedWords.{call_word, free_word, bankruptcy_word}

-- the name of a thread by its number
abbrev pub thread_name : List ThreadRow → ℕ → List ℕ
thread_name threads x = (slice_index_or threads x no_thread_row).name

-- a table with the keys that a command has beside those of all, where these are the threads
abbrev pub call_members : List ThreadRow → Call → Members → Members
call_members threads (call.Create name parent budget critical max) t =
    put Max (number_data max) (put Critical (number_data critical)
    (put Budget (number_data budget) (put Parent (string parent) (put Name (string name) t))))
call_members threads (call.Modify partition budget critical max) t =
    put_some Max number_data max (put_some Critical number_data critical
    (put_some Budget number_data budget (put Partition (string partition) t)))
call_members threads (call.Lookup partition) t = put Partition (string partition) t
call_members threads (call.QueryPartition partition) t = put Partition (string partition) t
call_members threads (call.QueryThread thread) t = put Thread (string (thread_name threads thread)) t
call_members threads call.QueryParameters t = t
call_members threads (call.SetParameters window free limit bankruptcy) t =
    put_some Bankruptcy (λ (word : BankruptcyType). string (bankruptcy_word word)) bankruptcy
    (put_some Limit boolean limit
    (put_some Free (λ (word : FreeType). string (free_word word)) free
    (put_some Window number_data window t)))
call_members threads (call.Statistics partition) t = put Partition (string partition) t
call_members threads (call.MarkCritical thread) t = put Thread (string (thread_name threads thread)) t
call_members threads (call.ClearCritical thread) t = put Thread (string (thread_name threads thread)) t

-- a command as a table, where these are the threads
abbrev pub command_table : List ThreadRow → CommandRow → Data
command_table threads row =
    table (call_members threads row.call (put Do (string (call_word row.call)) (put Tick (number_data row.tick) no_members)))
