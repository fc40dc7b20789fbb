-- The fixed lists of words.
use Rattle.std.specs.Prelude.{ℕ, List, [], ◌∷◌, codes}
use Rattle.aps_model.specs.declared.shape.Free.{Free}
use Rattle.aps_model.specs.declared.shape.Free.TheVariants as free
use Rattle.aps_model.specs.declared.shape.Bankruptcy.{Bankruptcy}
use Rattle.aps_model.specs.declared.shape.Bankruptcy.TheVariants.{Basic, Cancel, Reboot}
use Rattle.aps_model.specs.declared.scenario.Policy.{Policy}
use Rattle.aps_model.specs.declared.scenario.Policy.TheVariants.{Fifo, Rr}
use Rattle.aps_scenario.specs.declared.words.CommandKind.{CommandKind}
use Rattle.aps_scenario.specs.declared.words.CommandKind.TheVariants.{Create, Modify, Lookup, QueryPartition, QueryThread, QueryParameters, SetParameters, Statistics, MarkCritical, ClearCritical}

abbrev pub free_words : List (List ℕ × Free)
free_words = (codes "priority", free.Priority) ∷ (codes "ratio", free.Ratio) ∷ []

abbrev pub bankruptcy_words : List (List ℕ × Bankruptcy)
bankruptcy_words = (codes "basic", Basic) ∷ (codes "cancel", Cancel) ∷ (codes "reboot", Reboot) ∷ []

abbrev pub policy_words : List (List ℕ × Policy)
policy_words = (codes "fifo", Fifo) ∷ (codes "rr", Rr) ∷ []

abbrev pub command_words : List (List ℕ × CommandKind)
command_words =
    (codes "create", Create)
    ∷ (codes "modify", Modify)
    ∷ (codes "lookup", Lookup)
    ∷ (codes "query_partition", QueryPartition)
    ∷ (codes "query_thread", QueryThread)
    ∷ (codes "query_parameters", QueryParameters)
    ∷ (codes "set_parameters", SetParameters)
    ∷ (codes "statistics", Statistics)
    ∷ (codes "mark_critical", MarkCritical)
    ∷ (codes "clear_critical", ClearCritical)
    ∷ []
