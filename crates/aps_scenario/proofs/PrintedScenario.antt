-- A scenario that is printed reads as the same scenario.
use Rattle.std.proofs.Common.{◌≡◌, ℕ, ◌-◌, ◌≤◌, ◌⊎◌, inl, inr, List, [], ◌∷◌, length, map, drop, Option, Some, None, Ok, refl, ◌∙◌, arith, le-leb, max, length-drop, Ordering, Less, Equal, Greater}
use Rattle.std.specs.Str.{IsUtf8}
use Rattle.std.proofs.lemmas.Str.{is_utf8-from_IsUtf8}
use Rattle.std.specs.Ordering.{nat_cmp, match_ordering}
use Rattle.std.specs.Cmp.Lexicographic.{slice_cmp}
use Rattle.toml.specs.Data.{Data, string, boolean, Members, no_members, member, depth, items_depth, members_depth}
use Rattle.toml.specs.Parse.{parse_document}
use Rattle.toml.specs.View.{items_of}
use Rattle.aps_model.specs.declared.command.Call.{Call}
use Rattle.aps_model.specs.declared.command.Call.TheVariants as call
use Rattle.aps_model.specs.declared.command.CommandRow.{CommandRow}
use Rattle.aps_model.specs.declared.scenario.ThreadRow.{ThreadRow}
use Rattle.aps_model.specs.declared.shape.Free.{Free as FreeType}
use Rattle.aps_model.specs.declared.shape.Bankruptcy.{Bankruptcy as BankruptcyType}
use Rattle.aps_model.specs.Limits.{last_partition, longest_call, longest_tick, longest_window, most_channels, most_commands, most_cpus, most_threads, most_ticks, percent, shortest_tick, shortest_window, thousandths}
use Rattle.aps_model.specs.Scenario.{Scenario}
use Rattle.aps_model.specs.Shape.{IsShape}
use Rattle.aps_model.specs.Valid.{IsScenario, joinable}
use Rattle.aps_scenario.specs.declared.key.Key.{Key}
use Rattle.aps_scenario.specs.declared.key.Key.TheVariants.{Name, Parent, Partition, Budget, Critical, Max, Thread, Window, Free, Limit, Bankruptcy, Tick, Do}
use Rattle.aps_scenario.specs.Channels.{channels_at}
use Rattle.aps_scenario.specs.Commands.{commands_at}
use Rattle.aps_scenario.specs.Elements.{items_len}
use Rattle.aps_scenario.specs.Joinable.{joinable_at}
use Rattle.aps_scenario.specs.Partitions.{partitions_at}
use Rattle.aps_scenario.specs.Reading.{scenario_at, reads}
use Rattle.aps_scenario.specs.Row.{in_range}
use Rattle.aps_scenario.specs.Sizes.{shape_at, parts_of}
use Rattle.aps_scenario.specs.Threads.{threads_at}
use Rattle.aps_scenario.specs.PrintedCommands.{command_table, call_members, thread_name}
use Rattle.aps_scenario.specs.PrintedOperation.{operation_text}
use Rattle.aps_scenario.specs.PrintedTable.{insert_member, put, put_some, number_data}
use Rattle.aps_scenario.specs.PrintedWords.{call_word, free_word, bankruptcy_word}
use Rattle.aps_scenario.specs.Key.{key_text}
use Rattle.aps_scenario.specs.PrintedPartitions.{partition_table}
use Rattle.aps_scenario.specs.PrintedScenario.{version_of, scenario_members}
use Rattle.aps_scenario.specs.PrintedThreads.{channel_table, thread_table}
use Rattle.aps_scenario.specs.PrintedTree.{listed_rows}
use Rattle.aps_scenario.proofs.PrintedCommands.{free-reads, bankruptcy-reads, commands-read}
use Rattle.aps_scenario.proofs.PrintedElements.{items_len-map}
use Rattle.aps_scenario.proofs.PrintedJoinable.{joinable-reads, joinable-IsName}
use Rattle.aps_scenario.proofs.PrintedPartitions.{partition_array-reads, length-listed}
use Rattle.aps_scenario.proofs.PrintedThreads.{channels-read, threads-read}
use Rattle.aps_scenario.proofs.PrintedValues.{in_range-Ok}

-- ---- sizes

version-reads : (parts : ℕ) → (parts ≡ percent) ⊎ (parts ≡ thousandths) → in_range 1 2 1 (version_of parts) ≡ Ok (version_of parts)
version-reads parts (inl hundred) = rw hundred refl
version-reads parts (inr thousand) = rw thousand refl

version-parts : (parts : ℕ) → (parts ≡ percent) ⊎ (parts ≡ thousandths) → parts_of (version_of parts) ≡ parts
version-parts parts (inl hundred) = rw hundred refl
version-parts parts (inr thousand) = rw thousand refl

shape-reads : (s : Scenario) → IsShape s.shape → shape_at (scenario_members s) ≡ Ok s.shape
unfolding shape_at
shape-reads s is =
    rw (
      version-reads s.shape.parts is.parts,
      version-parts s.shape.parts is.parts,
      in_range-Ok 1 most_cpus s.shape.cpus is.some_cpu is.few_cpus,
      le-leb shortest_tick s.shape.tick is.tick_long,
      le-leb s.shape.tick longest_tick is.tick_short,
      is.tick_whole,
      in_range-Ok shortest_window longest_window s.shape.window is.window_long is.window_short,
      in_range-Ok 1 most_ticks s.shape.ticks is.some_tick is.few_ticks,
      in_range-Ok 1 longest_call s.shape.call_ns is.some_call is.short_call,
      free-reads s.shape.free,
      bankruptcy-reads s.shape.bankruptcy,
    ) refl

-- ---- partitions and channels

partitions-read : (s : Scenario) → IsScenario s → partitions_at s.shape.parts (scenario_members s) ≡ Ok s.partitions
unfolding partitions_at
partitions-read s is =
    let some = is.tree.some in
    let few = is.tree.few in
    let listed_size = length-listed (length s.partitions - 1) s.partitions (omega arith) in
    let rest = length-drop 1 (listed_rows s.partitions) in
    let size : items_len (items_of (map (partition_table s.partitions) (drop 1 (listed_rows s.partitions)))) ≡ length s.partitions - 1 =
    items_len-map (partition_table s.partitions) (drop 1 (listed_rows s.partitions)) ∙ omega arith in
    rw (size, le-leb 0 (length s.partitions - 1) (omega arith), le-leb (length s.partitions - 1) last_partition (omega arith)) (partition_array-reads s.shape.parts s.partitions is.tree)

channels_at-reads : (s : Scenario) → IsScenario s → channels_at (scenario_members s) ≡ Ok s.channels
unfolding channels_at
channels_at-reads s is =
    rw (items_len-map channel_table s.channels, le-leb 0 (length s.channels) (omega arith), le-leb (length s.channels) most_channels is.few_channels)
    (channels-read s.channels is.channels is.channel_names)

-- ---- threads and commands

threads_at-reads : (s : Scenario) → IsScenario s → threads_at s.partitions s.channels (joinable_at s.partitions (scenario_members s)) (scenario_members s) ≡ Ok s.threads
unfolding threads_at
threads_at-reads s is =
    rw (
      joinable-reads s is,
      items_len-map (thread_table s.partitions s.channels) s.threads,
      le-leb 0 (length s.threads) (omega arith),
      le-leb (length s.threads) most_threads is.few_threads,
    ) (threads-read s.channels (joinable s) is.channels is.channel_names (joinable-IsName s is) s.shape.parts s.partitions is.tree s.threads is.threads is.thread_names)

commands_at-reads : (s : Scenario) → IsScenario s → commands_at s.shape s.threads (scenario_members s) ≡ Ok s.commands
unfolding commands_at
commands_at-reads s is =
    rw (items_len-map (command_table s.threads) s.commands, le-leb 0 (length s.commands) (omega arith), le-leb (length s.commands) most_commands is.few_commands)
    (commands-read s.shape s.threads (λ k d within. (is.threads k d within).name) is.thread_names s.commands is.commands)

-- ---- how deep arrays and tables nest

match-depth : (o : Ordering) (a b c : Members) (n : ℕ) → members_depth a ≤ n → members_depth b ≤ n → members_depth c ≤ n → members_depth (match_ordering o a b c) ≤ n
match-depth Less a b c n x y z = x
match-depth Equal a b c n x y z = y
match-depth Greater a b c n x y z = z

depth-insert : (k : List ℕ) (d : Data) (t : Members) (n : ℕ) → depth d ≤ n → members_depth t ≤ n → members_depth (insert_member k d t) ≤ n
depth-insert k d no_members n here below = omega arith
depth-insert k d (member l e ms) n here below =
    let rest = depth-insert k d ms n here (omega arith) in
    match-depth (slice_cmp nat_cmp k l) (member k d (member l e ms)) (member l d ms) (member l e (insert_member k d ms)) n (omega arith) (omega arith) (omega arith)

depth-put_some : {X : Type 0} (key : Key) (shown : X → Data) (o : Option X) (t : Members) (n : ℕ) → ((x : X) → depth (shown x) ≤ n) → members_depth t ≤ n → members_depth (put_some key shown o t) ≤ n
depth-put_some key shown None t n each below = below
depth-put_some key shown (Some x) t n each below = depth-insert (key_text key) (shown x) t n (each x) below

items-depth : {X : Type 0} (shown : X → Data) (xs : List X) (n : ℕ) → ((x : X) → depth (shown x) ≤ n) → items_depth (items_of (map shown xs)) ≤ n
items-depth shown [] n each = omega arith
items-depth shown (x ∷ xs) n each =
    let here = each x in
    let rest = items-depth shown xs n each in
    omega arith

thread-depth : (s : Scenario) (row : ThreadRow) → depth (thread_table s.partitions s.channels row) ≤ 2
thread-depth s row =
    let texts = items-depth (λ op. string (operation_text s.channels op)) row.program 0 (λ op. omega arith) in
    omega arith

depth-put : (key : Key) (d : Data) (t : Members) → depth d ≤ 0 → members_depth t ≤ 0 → members_depth (put key d t) ≤ 0
depth-put key d t here below = depth-insert (key_text key) d t 0 here below

call-depth : (threads : List ThreadRow) (asked : Call) (t : Members) → members_depth t ≤ 0 → members_depth (call_members threads asked t) ≤ 0
call-depth threads (call.Create name parent budget critical max) t below =
    depth-put Max (number_data max) _ (omega arith)
    (depth-put Critical (number_data critical) _ (omega arith)
    (depth-put Budget (number_data budget) _ (omega arith)
    (depth-put Parent (string parent) _ (omega arith)
    (depth-put Name (string name) t (omega arith) below))))
call-depth threads (call.Modify partition budget critical max) t below =
    depth-put_some Max number_data max _ 0 (λ n. omega arith)
    (depth-put_some Critical number_data critical _ 0 (λ n. omega arith)
    (depth-put_some Budget number_data budget _ 0 (λ n. omega arith)
    (depth-put Partition (string partition) t (omega arith) below)))
call-depth threads (call.Lookup partition) t below = depth-put Partition (string partition) t (omega arith) below
call-depth threads (call.QueryPartition partition) t below = depth-put Partition (string partition) t (omega arith) below
call-depth threads (call.QueryThread x) t below = depth-put Thread (string (thread_name threads x)) t (omega arith) below
call-depth threads call.QueryParameters t below = below
call-depth threads (call.SetParameters window free limit bankruptcy) t below =
    depth-put_some Bankruptcy (λ (word : BankruptcyType). string (bankruptcy_word word)) bankruptcy _ 0 (λ word. omega arith)
    (depth-put_some Limit boolean limit _ 0 (λ b. omega arith)
    (depth-put_some Free (λ (word : FreeType). string (free_word word)) free _ 0 (λ word. omega arith)
    (depth-put_some Window number_data window t 0 (λ n. omega arith) below)))
call-depth threads (call.Statistics partition) t below = depth-put Partition (string partition) t (omega arith) below
call-depth threads (call.MarkCritical x) t below = depth-put Thread (string (thread_name threads x)) t (omega arith) below
call-depth threads (call.ClearCritical x) t below = depth-put Thread (string (thread_name threads x)) t (omega arith) below

command-depth : (threads : List ThreadRow) (row : CommandRow) → depth (command_table threads row) ≤ 1
command-depth threads row =
    let members = call-depth threads row.call (put Do (string (call_word row.call)) (put Tick (number_data row.tick) no_members)) (omega arith) in
    omega arith

pub scenario-depth : (s : Scenario) → members_depth (scenario_members s) ≤ 80
scenario-depth s =
    let partitions = items-depth (partition_table s.partitions) (drop 1 (listed_rows s.partitions)) 1 (λ row. omega arith) in
    let channels = items-depth channel_table s.channels 1 (λ name. omega arith) in
    let threads = items-depth (thread_table s.partitions s.channels) s.threads 2 (thread-depth s) in
    let commands = items-depth (command_table s.threads) s.commands 1 (command-depth s.threads) in
    omega arith

-- ---- the whole

pub scenario-reads : (s : Scenario) → IsScenario s → scenario_at (scenario_members s) ≡ Ok s
unfolding scenario_at
scenario-reads s is =
    rw (shape-reads s is.shape, partitions-read s is, channels_at-reads s is, threads_at-reads s is, commands_at-reads s is) refl

-- a text whose document is the printed table
pub reads-printed : (s : Scenario) (text : List ℕ) → IsScenario s → IsUtf8 text → parse_document text ≡ Some (scenario_members s) → reads text ≡ Ok s
reads-printed s text is utf8 parsed = rw (is_utf8-from_IsUtf8 text utf8, parsed, scenario-reads s is) refl
