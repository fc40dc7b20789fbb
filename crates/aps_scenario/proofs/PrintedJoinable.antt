-- The names that the printed commands give to new partitions.
use Rattle.std.proofs.Common.{◌≡◌, ℕ, suc, List, [], ◌∷◌, ◌++◌, length, map, Option, Some, None, refl, ap, arith}
use Rattle.std.proofs.lemmas.List.Elements.{All-map, All-append, All-nil, All-get_or, All-from_recursion}
use Rattle.std.specs.Prelude.{All, IfSome}
use Rattle.std.specs.List.{filter_map, cons_option}
use Rattle.toml.specs.View.{items_of}
use Rattle.aps_model.specs.declared.command.Call.{Call}
use Rattle.aps_model.specs.declared.command.Call.TheVariants as call
use Rattle.aps_model.specs.declared.command.CommandRow.{CommandRow}
use Rattle.aps_model.specs.declared.partition.PartitionRow.{PartitionRow}
use Rattle.aps_model.specs.declared.scenario.ThreadRow.{ThreadRow}
use Rattle.aps_model.specs.Name.{IsName}
use Rattle.aps_model.specs.Scenario.{Scenario}
use Rattle.aps_model.specs.Valid.{IsScenario, IsCommand, IsCall, created_name, joinable}
use Rattle.aps_scenario.specs.Joinable.{created_names, joinable_at, name_listed, name_to_create as created_in}
use Rattle.aps_scenario.specs.PrintedCommands.{command_table}
use Rattle.aps_scenario.specs.PrintedScenario.{scenario_members}
use Rattle.aps_scenario.proofs.PrintedValues.{is_name-true}

module _ (parts threads : ℕ) (rows : List ThreadRow) where
  -- the name that a printed command would give
  created-reads : (asked : Call) (tick : ℕ) → IsCall parts threads asked → created_in (command_table rows (record { tick = tick; call = asked })) ≡ created_name asked
  created-reads (call.Create name parent budget critical max) tick is = rw (is_name-true name is.named) refl
  created-reads (call.Modify partition None None None) tick is = refl
  created-reads (call.Modify partition None None (Some max)) tick is = refl
  created-reads (call.Modify partition None (Some critical) None) tick is = refl
  created-reads (call.Modify partition None (Some critical) (Some max)) tick is = refl
  created-reads (call.Modify partition (Some budget) None None) tick is = refl
  created-reads (call.Modify partition (Some budget) None (Some max)) tick is = refl
  created-reads (call.Modify partition (Some budget) (Some critical) None) tick is = refl
  created-reads (call.Modify partition (Some budget) (Some critical) (Some max)) tick is = refl
  created-reads (call.Lookup partition) tick is = refl
  created-reads (call.QueryPartition partition) tick is = refl
  created-reads (call.QueryThread thread) tick is = refl
  created-reads call.QueryParameters tick is = refl
  created-reads (call.SetParameters None None None None) tick is = refl
  created-reads (call.SetParameters None None None (Some bankruptcy)) tick is = refl
  created-reads (call.SetParameters None None (Some limit) None) tick is = refl
  created-reads (call.SetParameters None None (Some limit) (Some bankruptcy)) tick is = refl
  created-reads (call.SetParameters None (Some free) None None) tick is = refl
  created-reads (call.SetParameters None (Some free) None (Some bankruptcy)) tick is = refl
  created-reads (call.SetParameters None (Some free) (Some limit) None) tick is = refl
  created-reads (call.SetParameters None (Some free) (Some limit) (Some bankruptcy)) tick is = refl
  created-reads (call.SetParameters (Some window) None None None) tick is = refl
  created-reads (call.SetParameters (Some window) None None (Some bankruptcy)) tick is = refl
  created-reads (call.SetParameters (Some window) None (Some limit) None) tick is = refl
  created-reads (call.SetParameters (Some window) None (Some limit) (Some bankruptcy)) tick is = refl
  created-reads (call.SetParameters (Some window) (Some free) None None) tick is = refl
  created-reads (call.SetParameters (Some window) (Some free) None (Some bankruptcy)) tick is = refl
  created-reads (call.SetParameters (Some window) (Some free) (Some limit) None) tick is = refl
  created-reads (call.SetParameters (Some window) (Some free) (Some limit) (Some bankruptcy)) tick is = refl
  created-reads (call.Statistics partition) tick is = refl
  created-reads (call.MarkCritical thread) tick is = refl
  created-reads (call.ClearCritical thread) tick is = refl

  created-IsName : (asked : Call) → IsCall parts threads asked → IfSome (created_name asked) IsName
  created-IsName (call.Create name parent budget critical max) is = is.named
  created-IsName (call.Modify partition budget critical max) is = tt
  created-IsName (call.Lookup partition) is = tt
  created-IsName (call.QueryPartition partition) is = tt
  created-IsName (call.QueryThread thread) is = tt
  created-IsName call.QueryParameters is = tt
  created-IsName (call.SetParameters window free limit bankruptcy) is = tt
  created-IsName (call.Statistics partition) is = tt
  created-IsName (call.MarkCritical thread) is = tt
  created-IsName (call.ClearCritical thread) is = tt

  same_list : (name : Option (List ℕ)) (names : List (List ℕ)) → name_listed name ++ names ≡ cons_option name names
  same_list None names = refl
  same_list (Some name) names = refl

  names-cons : (name : Option (List ℕ)) (names : List (List ℕ)) → IfSome name IsName → All IsName names → All IsName (cons_option name names)
  names-cons None names is each = each
  names-cons (Some name) names is each = All-append IsName (name ∷ []) names (All-from_recursion IsName (name ∷ []) (is, tt)) each

  module _ (ticks : ℕ) where
    tail : (row : CommandRow) (commands : List CommandRow) → All (IsCommand parts ticks threads) (row ∷ commands) → All (IsCommand parts ticks threads) commands
    tail row commands each k d within = each (suc k) d (omega arith)

    head : (row : CommandRow) (commands : List CommandRow) → All (IsCommand parts ticks threads) (row ∷ commands) → IsCommand parts ticks threads row
    head row commands each = All-get_or (IsCommand parts ticks threads) (row ∷ commands) 0 row (omega arith) each

    pub all_created-read : (commands : List CommandRow) → All (IsCommand parts ticks threads) commands
        → created_names (items_of (map (command_table rows) commands)) ≡ filter_map (λ (row : CommandRow). created_name row.call) commands
    all_created-read [] each = refl
    all_created-read (row ∷ commands) each =
        let is = head row commands each in
        rw (created-reads row.call row.tick is.call, all_created-read commands (tail row commands each))
        (same_list (created_name row.call) (filter_map (λ (row : CommandRow). created_name row.call) commands))

    pub all_created-IsName : (commands : List CommandRow) → All (IsCommand parts ticks threads) commands
        → All IsName (filter_map (λ (row : CommandRow). created_name row.call) commands)
    all_created-IsName [] each = All-nil IsName
    all_created-IsName (row ∷ commands) each =
        let is = head row commands each in
        names-cons (created_name row.call) (filter_map (λ (row : CommandRow). created_name row.call) commands)
        (created-IsName row.call is.call) (all_created-IsName commands (tail row commands each))

pub joinable-reads : (s : Scenario) → IsScenario s → joinable_at s.partitions (scenario_members s) ≡ joinable s
joinable-reads s is =
    ap (λ (names : List (List ℕ)). map (λ (row : PartitionRow). row.name) s.partitions ++ names)
    (all_created-read s.shape.parts (length s.threads) s.threads s.shape.ticks s.commands is.commands)

pub joinable-IsName : (s : Scenario) → IsScenario s → All IsName (joinable s)
joinable-IsName s is =
    All-append IsName (map (λ (row : PartitionRow). row.name) s.partitions) (filter_map (λ (row : CommandRow). created_name row.call) s.commands)
    (All-map IsName (λ (row : PartitionRow). row.name) s.partitions (λ k d within. (is.tree.funded.each k d within).name))
    (all_created-IsName s.shape.parts (length s.threads) s.threads s.shape.ticks s.commands is.commands)
