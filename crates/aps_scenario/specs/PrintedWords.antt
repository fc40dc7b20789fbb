-- The words that stand for policies and for kinds of commands.
use Rattle.std.specs.Prelude.{ℕ, List, codes}
use Rattle.aps_model.specs.declared.shape.Free.{Free}
use Rattle.aps_model.specs.declared.shape.Free.TheVariants as free
use Rattle.aps_model.specs.declared.shape.Bankruptcy.{Bankruptcy}
use Rattle.aps_model.specs.declared.shape.Bankruptcy.TheVariants.{Basic, Cancel, Reboot}
use Rattle.aps_model.specs.declared.scenario.Policy.{Policy}
use Rattle.aps_model.specs.declared.scenario.Policy.TheVariants.{Fifo, Rr}
use Rattle.aps_model.specs.declared.command.Call.{Call}
use Rattle.aps_model.specs.declared.command.Call.TheVariants.{Create, Modify, Lookup, QueryPartition, QueryThread, QueryParameters, SetParameters, Statistics, MarkCritical, ClearCritical}

abbrev pub free_word : Free → List ℕ
free_word free.Priority = codes "priority"
free_word free.Ratio = codes "ratio"

abbrev pub bankruptcy_word : Bankruptcy → List ℕ
bankruptcy_word Basic = codes "basic"
bankruptcy_word Cancel = codes "cancel"
bankruptcy_word Reboot = codes "reboot"

abbrev pub policy_word : Policy → List ℕ
policy_word Fifo = codes "fifo"
policy_word Rr = codes "rr"

-- what a command's `do` says
abbrev pub call_word : Call → List ℕ
call_word (Create name parent budget critical max) = codes "create"
call_word (Modify partition budget critical max) = codes "modify"
call_word (Lookup partition) = codes "lookup"
call_word (QueryPartition partition) = codes "query_partition"
call_word (QueryThread thread) = codes "query_thread"
call_word QueryParameters = codes "query_parameters"
call_word (SetParameters window free limit bankruptcy) = codes "set_parameters"
call_word (Statistics partition) = codes "statistics"
call_word (MarkCritical thread) = codes "mark_critical"
call_word (ClearCritical thread) = codes "clear_critical"
