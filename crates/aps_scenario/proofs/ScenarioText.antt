-- The top table of a scenario is plain data, so that the scenario has its text and no other.
use Rattle.std.proofs.Common.{◌≡◌, ℕ, zero, suc, ◌-◌, ◌<◌, ◌≤◌, Bool, true, false, if◌then◌else◌, List, [], ◌∷◌, codes, length, drop, Option, Some, None, Result, Ok, refl, ap, ◌∙◌, inl, inr, arith, nat_eq, IfSome, All, Ordering, Less, Equal, Greater, ◌⊎◌}
use Rattle.std.proofs.lemmas.Bool.{and_parts}
use Rattle.std.proofs.lemmas.Bool.Decides.{nat_tests}
use Rattle.std.proofs.lemmas.Cmp.{nat_list_cmp_total}
use Rattle.std.proofs.lemmas.List.Elements.{All-get_or, All-append, All-drop, All-from_recursion}
use Rattle.std.proofs.lemmas.Str.{IsUtf8-from_ascii}
use Rattle.std.specs.Cmp.Lexicographic.{slice_cmp}
use Rattle.std.specs.List.{list_all}
use Rattle.std.specs.Ordering.{nat_cmp, match_ordering, ordering_reverse, is_lt}
use Rattle.toml_writer.specs.Text as writer
use Rattle.toml.specs.Data.{Data, string, boolean, Members, no_members, member, is_before}
use Rattle.toml.specs.Text.{IsDocumentText}
use Rattle.toml.proofs.ReadBack.{parse_document-printed}
use Rattle.aps_model.specs.declared.command.Call.{Call}
use Rattle.aps_model.specs.declared.command.Call.TheVariants as call
use Rattle.aps_model.specs.declared.command.CommandRow.{CommandRow}
use Rattle.aps_model.specs.declared.partition.PartitionRow.{PartitionRow}
use Rattle.aps_model.specs.declared.program.Op.{Op}
use Rattle.aps_model.specs.declared.program.Op.TheVariants as op
use Rattle.aps_model.specs.declared.scenario.Policy.{Policy as PolicyType}
use Rattle.aps_model.specs.declared.scenario.Policy.TheVariants.{Fifo, Rr}
use Rattle.aps_model.specs.declared.scenario.ThreadRow.{ThreadRow}
use Rattle.aps_model.specs.declared.shape.Free.{Free as FreeType}
use Rattle.aps_model.specs.declared.shape.Free.TheVariants as free
use Rattle.aps_model.specs.declared.shape.Bankruptcy.{Bankruptcy as BankruptcyType}
use Rattle.aps_model.specs.declared.shape.Bankruptcy.TheVariants.{Basic, Cancel, Reboot}
use Rattle.aps_model.specs.declared.shape.Shape.{Shape}
use Rattle.aps_model.specs.Limits.{most_critical, most_ticks, percent, thousandths}
use Rattle.aps_model.specs.Name.{IsName, is_name_byte}
use Rattle.aps_model.specs.Partition.{row_or_none, no_row, IsFundedRow}
use Rattle.aps_model.specs.Program.{IsOp}
use Rattle.aps_model.specs.Scenario.{Scenario, no_thread_row}
use Rattle.aps_model.specs.Shape.{IsShape}
use Rattle.aps_model.specs.Valid.{IsScenario, IsTree, IsThreadRow, IsCommand, IsCall, IsWindow, joinable}
use Rattle.aps_scenario.specs.declared.key.Key.{Key}
use Rattle.aps_scenario.specs.declared.key.Key.TheVariants.{Version, Cpus, Tick, Window, Ticks, CallNs, Free, Limit, Bankruptcy, Partition, Channel, Thread, Command, Demand, Name, Parent, Budget, Critical, Max, Priority, Policy, Program, Do, Need}
use Rattle.aps_scenario.specs.Key.{key_text}
use Rattle.aps_scenario.specs.PrintedCommands.{command_table, call_members, thread_name}
use Rattle.aps_scenario.specs.PrintedOperation.{operation_text}
use Rattle.aps_scenario.specs.PrintedPartitions.{partition_table, partition_array}
use Rattle.aps_scenario.specs.PrintedScenario.{version_of, shape_members, scenario_members}
use Rattle.aps_scenario.specs.PrintedTable.{insert_member, put, put_some, number_data, array_of_each}
use Rattle.aps_scenario.specs.PrintedThreads.{channel_table, program_array, thread_table}
use Rattle.aps_scenario.specs.PrintedTree.{rows_before, rows_listed, listed_rows}
use Rattle.aps_scenario.specs.PrintedWords.{call_word, free_word, bankruptcy_word, policy_word}
use Rattle.aps_scenario.specs.Reading.{reads}
use Rattle.aps_scenario.specs.ScenarioText.{scenario_text}
use Rattle.aps_scenario.proofs.AsciiText.{is_ascii, tested, joined, led, decimal-ascii, document-ascii}
use Rattle.aps_scenario.proofs.DocumentText.{document-text, document-written}
use Rattle.aps_scenario.proofs.PlainData.{IsAsciiText, IsPlain, AreMembersPlain, members-dates, members-sorted}
use Rattle.aps_scenario.proofs.PrintedJoinable.{joinable-IsName}
use Rattle.aps_scenario.proofs.PrintedListing.{HasParent, listed-parents}
use Rattle.aps_scenario.proofs.PrintedOperations.{among-IsName}
use Rattle.aps_scenario.proofs.PrintedScenario.{scenario-depth, reads-printed}
use Rattle.aps_scenario.proofs.PrintedTree.{before-tree, length-before}

-- ---- tables that are put together

cases_ordering : (o : Ordering) → (o ≡ Less) ⊎ ((o ≡ Equal) ⊎ (o ≡ Greater))
cases_ordering Less = inl refl
cases_ordering Equal = inr (inl refl)
cases_ordering Greater = inr (inr refl)

before-either : (l : List ℕ) (o : Ordering) (a b c : Members) → is_before l a ≡ true → is_before l b ≡ true → is_before l c ≡ true → is_before l (match_ordering o a b c) ≡ true
before-either l Less a b c x y z = x
before-either l Equal a b c x y z = y
before-either l Greater a b c x y z = z

before-insert : (l k : List ℕ) (d : Data) (t : Members) → is_lt (slice_cmp nat_cmp l k) ≡ true → is_before l t ≡ true → is_before l (insert_member k d t) ≡ true
before-insert l k d no_members order first = order
before-insert l k d (member m e ms) order first = before-either l (slice_cmp nat_cmp k m) _ _ _ order first first

inserted : (k : List ℕ) (d : Data) (t : Members) → IsAsciiText (writer.key_text k) → IsPlain d → AreMembersPlain t → AreMembersPlain (insert_member k d t)
inserted k d no_members ascii here plain = (ascii, here, refl, tt)
inserted k d (member l e ms) ascii here plain =
    elim (cases_ordering (slice_cmp nat_cmp k l)) [
      | inl less ↦ rw less (ascii, here, ap is_lt less, plain)
      | inr other ↦ elim other [
        | inl tie ↦ rw tie (plain.0, here, plain.2, plain.3)
        | inr more ↦
            let order : is_lt (slice_cmp nat_cmp l k) ≡ true = ap is_lt (nat_list_cmp_total.antisymm l k ∙ ap ordering_reverse more) in
            rw more (plain.0, plain.1, before-insert l k d ms order plain.2, inserted k d ms ascii here plain.3)
      ]
    ]

written_key : (key : Key) → is_ascii (writer.key_text (key_text key)) ≡ true
unfolding writer.key_text
written_key Version = refl
written_key Cpus = refl
written_key Tick = refl
written_key Window = refl
written_key Ticks = refl
written_key CallNs = refl
written_key Free = refl
written_key Limit = refl
written_key Bankruptcy = refl
written_key Partition = refl
written_key Channel = refl
written_key Thread = refl
written_key Command = refl
written_key Demand = refl
written_key Name = refl
written_key Parent = refl
written_key Budget = refl
written_key Critical = refl
written_key Max = refl
written_key Priority = refl
written_key Policy = refl
written_key Program = refl
written_key Do = refl
written_key Need = refl

record IsTable (t : Members) : Type 0 where
  members : AreMembersPlain t

no_keys : IsTable no_members
no_keys = record { members = tt }

with_value : {t : Members} (key : Key) (d : Data) → IsPlain d → IsTable t → IsTable (put key d t)
with_value {t = t} key d here table = record {
  members = inserted (key_text key) d t (tested (writer.key_text (key_text key)) (written_key key)) here table.members;
}

with_some : {t : Members} {X : Type 0} (key : Key) (shown : X → Data) (o : Option X) → IfSome o (λ x. IsPlain (shown x)) → IsTable t → IsTable (put_some key shown o t)
with_some key shown None here table = table
with_some key shown (Some x) here table = with_value key (shown x) here table

in_each : {X : Type 0} (P : X → Type 0) (shown : X → Data) (xs : List X) → All P xs → ((x : X) → P x → IsPlain (shown x)) → IsPlain (array_of_each shown xs)
in_each P shown [] all each = tt
in_each P shown (x ∷ xs) all each =
    (each x (All-get_or P (x ∷ xs) 0 x (omega arith) all), in_each P shown xs (λ k d within. all (suc k) d (omega arith)) each)

-- ---- numbers and words

fits : (n : ℕ) → n ≤ most_critical → IsPlain (number_data n)
fits n small = omega arith

fits_some : (o : Option ℕ) (most : ℕ) → most ≤ most_critical → IfSome o (λ n. n ≤ most) → IfSome o (λ n. IsPlain (number_data n))
fits_some None most bound small = tt
fits_some (Some n) most bound small = fits n (omega (arith, small))

window_fits : (o : Option ℕ) → IfSome o IsWindow → IfSome o (λ n. IsPlain (number_data n))
window_fits None is = tt
window_fits (Some n) is = fits n (omega (arith, is.short))

of_any : {X : Type 0} (P : X → Type 0) (o : Option X) → ((x : X) → P x) → IfSome o P
of_any P None each = tt
of_any P (Some x) each = each x

free-ascii : (word : FreeType) → IsAsciiText (free_word word)
free-ascii free.Priority = tested (free_word free.Priority) refl
free-ascii free.Ratio = tested (free_word free.Ratio) refl

bankruptcy-ascii : (word : BankruptcyType) → IsAsciiText (bankruptcy_word word)
bankruptcy-ascii Basic = tested (bankruptcy_word Basic) refl
bankruptcy-ascii Cancel = tested (bankruptcy_word Cancel) refl
bankruptcy-ascii Reboot = tested (bankruptcy_word Reboot) refl

policy-ascii : (word : PolicyType) → IsAsciiText (policy_word word)
policy-ascii Fifo = tested (policy_word Fifo) refl
policy-ascii Rr = tested (policy_word Rr) refl

call-ascii : (asked : Call) → IsAsciiText (call_word asked)
call-ascii (call.Create name parent budget critical max) = tested (call_word (call.Create name parent budget critical max)) refl
call-ascii (call.Modify partition budget critical max) = tested (call_word (call.Modify partition budget critical max)) refl
call-ascii (call.Lookup partition) = tested (call_word (call.Lookup partition)) refl
call-ascii (call.QueryPartition partition) = tested (call_word (call.QueryPartition partition)) refl
call-ascii (call.QueryThread thread) = tested (call_word (call.QueryThread thread)) refl
call-ascii call.QueryParameters = tested (call_word call.QueryParameters) refl
call-ascii (call.SetParameters window free limit bankruptcy) = tested (call_word (call.SetParameters window free limit bankruptcy)) refl
call-ascii (call.Statistics partition) = tested (call_word (call.Statistics partition)) refl
call-ascii (call.MarkCritical thread) = tested (call_word (call.MarkCritical thread)) refl
call-ascii (call.ClearCritical thread) = tested (call_word (call.ClearCritical thread)) refl

bytes-ascii : (text : List ℕ) → list_all is_name_byte text ≡ true → IsAsciiText text
bytes-ascii [] test = tested [] refl
bytes-ascii (b ∷ bs) test =
    let (here, more) = and_parts (is_name_byte b) (list_all is_name_byte bs) test in
    let small : b < 128 = grind (arith, nat_tests) in
    led b small (bytes-ascii bs more)

name-ascii : (text : List ℕ) → IsName text → IsAsciiText text
name-ascii text name = bytes-ascii text name.bytes

operation-ascii : (channels names : List (List ℕ)) (o : Op) → All IsName channels → All IsName names → IsOp (length channels) names o → IsAsciiText (operation_text channels o)
operation-ascii channels names (op.Run ns) named known is = joined (tested (codes "run ") refl) (decimal-ascii ns (omega (arith, is.short)))
operation-ascii channels names op.Forever named known is = tested (operation_text channels op.Forever) refl
operation-ascii channels names (op.Sleep ns) named known is = joined (tested (codes "sleep ") refl) (decimal-ascii ns (omega (arith, is.short)))
operation-ascii channels names op.Yield named known is = tested (operation_text channels op.Yield) refl
operation-ascii channels names (op.Send c) named known is = joined (tested (codes "send ") refl) (name-ascii _ (All-get_or IsName channels c [] is named))
operation-ascii channels names (op.Receive c) named known is = joined (tested (codes "receive ") refl) (name-ascii _ (All-get_or IsName channels c [] is named))
operation-ascii channels names op.Reply named known is = tested (operation_text channels op.Reply) refl
operation-ascii channels names (op.Join name) named known is = joined (tested (codes "join ") refl) (name-ascii name (among-IsName name names known is))
operation-ascii channels names (op.Priority n) named known is = joined (tested (codes "priority ") refl) (decimal-ascii n (omega (arith, is.few)))
operation-ascii channels names op.CriticalOn named known is = tested (operation_text channels op.CriticalOn) refl
operation-ascii channels names op.CriticalOff named known is = tested (operation_text channels op.CriticalOff) refl
operation-ascii channels names op.Repeat named known is = tested (operation_text channels op.Repeat) refl
operation-ascii channels names op.Exit named known is = tested (operation_text channels op.Exit) refl

-- ---- commands

module _ (threads : List ThreadRow) (named : All (λ (row : ThreadRow). IsName row.name) threads) (parts : ℕ) (few : parts ≤ thousandths) where
  thread-ascii : (x : ℕ) → x < length threads → IsAsciiText (thread_name threads x)
  thread-ascii x within = name-ascii _ (All-get_or (λ (row : ThreadRow). IsName row.name) threads x no_thread_row within named)

  in_call : {t : Members} (asked : Call) → IsCall parts (length threads) asked → IsTable t → IsTable (call_members threads asked t)
  in_call (call.Create name parent budget critical max) is table =
      with_value Max (number_data max) (fits max (omega (arith, is.max_parts)))
      (with_value Critical (number_data critical) (fits critical is.short_critical)
      (with_value Budget (number_data budget) (fits budget (omega (arith, is.few_parts)))
      (with_value Parent (string parent) (name-ascii parent is.under)
      (with_value Name (string name) (name-ascii name is.named) table))))
  in_call (call.Modify partition budget critical max) is table =
      with_some Max number_data max (fits_some max parts (omega arith) is.max_parts)
      (with_some Critical number_data critical (fits_some critical most_critical (omega arith) is.short_critical)
      (with_some Budget number_data budget (fits_some budget parts (omega arith) is.few_parts)
      (with_value Partition (string partition) (name-ascii partition is.named) table)))
  in_call (call.Lookup partition) is table = with_value Partition (string partition) (name-ascii partition is) table
  in_call (call.QueryPartition partition) is table = with_value Partition (string partition) (name-ascii partition is) table
  in_call (call.QueryThread x) is table = with_value Thread (string (thread_name threads x)) (thread-ascii x is) table
  in_call call.QueryParameters is table = table
  in_call (call.SetParameters window free limit bankruptcy) is table =
      with_some Bankruptcy (λ (word : BankruptcyType). string (bankruptcy_word word)) bankruptcy (of_any (λ (word : BankruptcyType). IsAsciiText (bankruptcy_word word)) bankruptcy bankruptcy-ascii)
      (with_some Limit boolean limit (of_any (λ (b : Bool). Unit {0}) limit (λ b. tt))
      (with_some Free (λ (word : FreeType). string (free_word word)) free (of_any (λ (word : FreeType). IsAsciiText (free_word word)) free free-ascii)
      (with_some Window number_data window (window_fits window is.1) table)))
  in_call (call.Statistics partition) is table = with_value Partition (string partition) (name-ascii partition is) table
  in_call (call.MarkCritical x) is table = with_value Thread (string (thread_name threads x)) (thread-ascii x is) table
  in_call (call.ClearCritical x) is table = with_value Thread (string (thread_name threads x)) (thread-ascii x is) table

  in_command : (ticks : ℕ) (row : CommandRow) → ticks ≤ most_ticks → IsCommand parts ticks (length threads) row → IsPlain (command_table threads row)
  in_command ticks row short is =
      let first = with_value Tick (number_data row.tick) (fits row.tick (omega (arith, is.tick))) no_keys in
      (in_call row.call is.call (with_value Do (string (call_word row.call)) (call-ascii row.call) first)).members

-- ---- partitions

listed-funded : (parts n : ℕ) (rows : List PartitionRow) → length rows ≡ suc n → IsTree parts rows → All (IsFundedRow parts) (rows_listed n rows)
listed-funded parts zero rows count tree = tree.funded.each
listed-funded parts (suc n) rows count tree =
    let last : IsFundedRow parts (row_or_none rows (suc n)) = All-get_or (IsFundedRow parts) rows (suc n) no_row (omega arith) tree.funded.each in
    let size = length-before parts rows tree n count in
    All-append (IsFundedRow parts) (rows_listed n (rows_before rows (suc n))) (row_or_none rows (suc n) ∷ [])
    (listed-funded parts n (rows_before rows (suc n)) size (before-tree parts rows tree n count))
    (All-from_recursion (IsFundedRow parts) (row_or_none rows (suc n) ∷ []) (last, tt))

in_partition : (parts : ℕ) (rows : List PartitionRow) (row : PartitionRow) → parts ≤ thousandths → IsTree parts rows → IsFundedRow parts row → row.parent < length rows
    → IsPlain (partition_table rows row)
in_partition parts rows row few tree is under =
    let above : IsFundedRow parts (row_or_none rows row.parent) = All-get_or (IsFundedRow parts) rows row.parent no_row under tree.funded.each in
    (with_value Max (number_data row.max) (fits row.max (omega (arith, is.max)))
    (with_value Critical (number_data row.critical) (fits row.critical is.critical)
    (with_value Budget (number_data row.budget) (fits row.budget (omega (arith, is.budget, is.max)))
    (with_value Parent (string (row_or_none rows row.parent).name) (name-ascii _ above.name)
    (with_value Name (string row.name) (name-ascii row.name is.name) no_keys))))).members

in_partitions : (parts : ℕ) (rows : List PartitionRow) → parts ≤ thousandths → IsTree parts rows → IsPlain (partition_array rows)
in_partitions parts rows few tree =
    let some = tree.some in
    let funded = listed-funded parts (length rows - 1) rows (omega arith) tree in
    let parents = listed-parents parts (length rows) (length rows - 1) rows (omega arith) (omega arith) tree in
    let both : All (λ (row : PartitionRow). IsFundedRow parts row × HasParent (length rows) row) (listed_rows rows) = λ k d within. (funded k d within, parents k d within) in
    in_each (λ (row : PartitionRow). IsFundedRow parts row × HasParent (length rows) row) (partition_table rows) (drop 1 (listed_rows rows))
    (All-drop (λ (row : PartitionRow). IsFundedRow parts row × HasParent (length rows) row) 1 (listed_rows rows) both)
    (λ row is. in_partition parts rows row few tree is.0 is.1)

-- ---- the other parts

in_channel : (name : List ℕ) → IsName name → IsPlain (channel_table name)
in_channel name is = (with_value Name (string name) (name-ascii name is) no_keys).members

in_thread : (s : Scenario) (row : ThreadRow) → IsScenario s → IsThreadRow (length s.partitions) (length s.channels) (joinable s) row → IsPlain (thread_table s.partitions s.channels row)
in_thread s row valid is =
    let own : IsFundedRow s.shape.parts (row_or_none s.partitions row.partition) = All-get_or (IsFundedRow s.shape.parts) s.partitions row.partition no_row is.partition valid.tree.funded.each in
    let program : IsPlain (program_array s.channels row.program) =
    in_each (IsOp (length s.channels) (joinable s)) (λ (o : Op). string (operation_text s.channels o)) row.program is.program.each
    (λ o known. operation-ascii s.channels (joinable s) o valid.channels (joinable-IsName s valid) known) in
    (with_value Program (program_array s.channels row.program) program
    (with_value Critical (boolean row.critical) tt
    (with_value Policy (string (policy_word row.policy)) (policy-ascii row.policy)
    (with_value Priority (number_data row.priority) (fits row.priority (omega (arith, is.priority.few)))
    (with_value Partition (string (row_or_none s.partitions row.partition).name) (name-ascii _ own.name)
    (with_value Name (string row.name) (name-ascii row.name is.name) no_keys)))))).members

in_shape : (shape : Shape) → IsShape shape → IsTable (shape_members shape)
in_shape shape is =
    with_value Bankruptcy (string (bankruptcy_word shape.bankruptcy)) (bankruptcy-ascii shape.bankruptcy)
    (with_value Limit (boolean shape.limit) tt
    (with_value Free (string (free_word shape.free)) (free-ascii shape.free)
    (with_value CallNs (number_data shape.call_ns) (fits shape.call_ns (omega (arith, is.short_call)))
    (with_value Ticks (number_data shape.ticks) (fits shape.ticks (omega (arith, is.few_ticks)))
    (with_value Window (number_data shape.window) (fits shape.window (omega (arith, is.window_short)))
    (with_value Tick (number_data shape.tick) (fits shape.tick (omega (arith, is.tick_short)))
    (with_value Cpus (number_data shape.cpus) (fits shape.cpus (omega (arith, is.few_cpus)))
    (with_value Version (number_data (version_of shape.parts)) (version_fits (nat_eq shape.parts percent)) no_keys))))))))
  where
    version_fits : (hundred : Bool) → IsPlain (number_data (if hundred then 1 else 2))
    version_fits true = omega arith
    version_fits false = omega arith

few_parts : (parts : ℕ) → (parts ≡ percent) ⊎ (parts ≡ thousandths) → parts ≤ thousandths
few_parts parts (inl hundred) = omega arith
few_parts parts (inr thousand) = omega arith

in_scenario : (s : Scenario) → IsScenario s → AreMembersPlain (scenario_members s)
in_scenario s is =
    let few : s.shape.parts ≤ thousandths = few_parts s.shape.parts is.shape.parts in
    let commands = in_each (IsCommand s.shape.parts s.shape.ticks (length s.threads)) (command_table s.threads) s.commands is.commands
    (λ row known. in_command s.threads (λ k d within. (is.threads k d within).name) s.shape.parts few s.shape.ticks row is.shape.few_ticks known) in
    let threads = in_each (IsThreadRow (length s.partitions) (length s.channels) (joinable s)) (thread_table s.partitions s.channels) s.threads is.threads (λ row known. in_thread s row is known) in
    (with_value Command (array_of_each (command_table s.threads) s.commands) commands
    (with_value Thread (array_of_each (thread_table s.partitions s.channels) s.threads) threads
    (with_value Channel (array_of_each channel_table s.channels) (in_each IsName channel_table s.channels is.channels in_channel)
    (with_value Partition (partition_array s.partitions) (in_partitions s.shape.parts s.partitions few is.tree) (in_shape s.shape is.shape))))).members

-- ---- the text

pub scenario-text : (s : Scenario) (text : List ℕ) → IsScenario s → IsDocumentText true (scenario_members s) text → text ≡ scenario_text s
scenario-text s text is written = document-text (scenario_members s) text (in_scenario s is) written

pub scenario_text-reads : (s : Scenario) → IsScenario s → reads (scenario_text s) ≡ Ok s
scenario_text-reads s is =
    let plain = in_scenario s is in
    let parsed = parse_document-printed true (scenario_members s) (scenario_text s) (document-written (scenario_members s) plain) (scenario-depth s) (members-dates (scenario_members s) plain) (members-sorted (scenario_members s) plain) in
    reads-printed s (scenario_text s) is (IsUtf8-from_ascii (scenario_text s) (document-ascii (scenario_members s) plain).bytes) parsed

same_read : {A E : Type 0} (x y : A) (r : Result A E) → r ≡ Ok x → r ≡ Ok y → x ≡ y
same_read x y r e f = cc

pub scenario_text-apart : (s other : Scenario) → IsScenario s → IsScenario other → scenario_text s ≡ scenario_text other → s ≡ other
scenario_text-apart s other is others same = same_read s other (reads (scenario_text s)) (scenario_text-reads s is) (ap reads same ∙ scenario_text-reads other others)
