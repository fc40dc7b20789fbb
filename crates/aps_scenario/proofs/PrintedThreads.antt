-- Channels and threads that are printed read as they are.
use Rattle.std.proofs.Common.{◌≡◌, ℕ, ◌+◌, ◌<◌, ◌≤◌, Bool, true, false, cond, List, [], ◌∷◌, ◌++◌, length, map, Some, Ok, refl, ap, sym, subst, ◌∙◌, arith, le-leb, nat_eq, length-append}
use Rattle.std.proofs.lemmas.Bool.Decides.{nat_tests}
use Rattle.std.proofs.lemmas.List.Elements.{All-get_or}
use Rattle.std.specs.Prelude.{All}
use Rattle.std.specs.List.{IsDistinct}
use Rattle.std.specs.Str.{bytes_eq}
use Rattle.toml.specs.Data.{Members, get_member, string}
use Rattle.toml.specs.View.{items_of}
use Rattle.aps_model.specs.declared.partition.PartitionRow.{PartitionRow}
use Rattle.aps_model.specs.declared.program.Op.{Op}
use Rattle.aps_model.specs.declared.scenario.Policy.{Policy as PolicyType}
use Rattle.aps_model.specs.declared.scenario.Policy.TheVariants.{Fifo, Rr}
use Rattle.aps_model.specs.declared.scenario.ThreadRow.{ThreadRow}
use Rattle.aps_model.specs.Limits.{greatest_priority, most_operations}
use Rattle.aps_model.specs.Name.{IsName}
use Rattle.aps_model.specs.Partition.{row_or_none, no_row, partition_named, IsFundedRow}
use Rattle.aps_model.specs.Program.{IsProgram, IsOp, is_last_op, ends_well}
use Rattle.aps_model.specs.Valid.{IsTree, IsThreadRow}
use Rattle.aps_scenario.specs.declared.key.Key.TheVariants.{Program}
use Rattle.aps_scenario.specs.declared.refusal.Place.{Place}
use Rattle.aps_scenario.specs.declared.refusal.Place.TheVariants as place
use Rattle.aps_scenario.specs.Channels.{channel_read_at, channels_from, next_channel, is_name_among}
use Rattle.aps_scenario.specs.Elements.{items_len}
use Rattle.aps_scenario.specs.Key.{key_text}
use Rattle.aps_scenario.specs.Program.{program_at, next_operation, operations_from, same_truth}
use Rattle.aps_scenario.specs.Row.{word_in}
use Rattle.aps_scenario.specs.Threads.{thread_read_at, thread_values, threads_from, next_thread, is_thread}
use Rattle.aps_scenario.specs.Words.{policy_words}
use Rattle.aps_scenario.specs.PrintedOperation.{operation_text}
use Rattle.aps_scenario.specs.PrintedThreads.{channel_table, thread_table, program_array}
use Rattle.aps_scenario.specs.PrintedWords.{policy_word}
use Rattle.aps_scenario.proofs.PrintedElements.{read_each-all, items_len-map, All-split}
use Rattle.aps_scenario.proofs.PrintedNames.{new-in-split, position-named, map-same}
use Rattle.aps_scenario.proofs.PrintedOperations.{operation-reads}
use Rattle.aps_scenario.proofs.PrintedValues.{no_rest, is_name-true}

-- ---- channels

channel-reads : (before : List (List ℕ)) (place : Place) (name : List ℕ) → IsName name → is_name_among before name ≡ false → channel_read_at before place (channel_table name) ≡ Ok name
unfolding channel_read_at
channel-reads before place name is new = rw (is_name-true name is, new) refl

pub channels-read : (channels : List (List ℕ)) → All IsName channels → IsDistinct bytes_eq channels → channels_from [] (items_of (map channel_table channels)) ≡ Ok channels
channels-read channels named distinct =
    read_each-all next_channel channel_table [] channels (λ front name back split.
    channel-reads front (place.Channel (length front)) name (All-split IsName channels front name back split named)
    (new-in-split (λ name. name) front name back (subst (λ (names : List (List ℕ)). IsDistinct bytes_eq names) (split ∙ sym (map-same _)) distinct)))

-- ---- programs

not_last : (last rest : Bool) → cond last false rest ≡ true → last ≡ false
not_last true rest ends = absurd (cc)
not_last false rest ends = refl

ends-after : (op next : Op) (back : List Op) → ends_well (op ∷ next ∷ back) ≡ true → ends_well (next ∷ back) ≡ true
ends-after op next back ends = rest (is_last_op op) ends
  where
    rest : (last : Bool) → cond last false (ends_well (next ∷ back)) ≡ true → ends_well (next ∷ back) ≡ true
    rest true ends = absurd (cc)
    rest false ends = ends

-- a last operation stands at the end, and no other one does
ends-last : (front : List Op) (op : Op) → ends_well (front ++ op ∷ []) ≡ true → is_last_op op ≡ true
ends-last [] op ends = ends
ends-last (first ∷ []) op ends = ends-last [] op (ends-after first op [] ends)
ends-last (first ∷ next ∷ front) op ends = ends-last (next ∷ front) op (ends-after first next (front ++ op ∷ []) ends)

ends-earlier : (front : List Op) (op next : Op) (back : List Op) → ends_well (front ++ op ∷ next ∷ back) ≡ true → is_last_op op ≡ false
ends-earlier [] op next back ends = not_last (is_last_op op) (ends_well (next ∷ back)) ends
ends-earlier (first ∷ []) op next back ends = ends-earlier [] op next back (ends-after first op (next ∷ back) ends)
ends-earlier (first ∷ second ∷ front) op next back ends = ends-earlier (second ∷ front) op next back (ends-after first second (front ++ op ∷ next ∷ back) ends)

-- the test of an operation's place passes
place-passes : (count : ℕ) (front : List Op) (op : Op) (back : List Op) → count ≡ length (front ++ op ∷ back) → ends_well (front ++ op ∷ back) ≡ true
    → same_truth (is_last_op op) (nat_eq (length front + 1) count) ≡ true
place-passes count front op [] size ends =
    let whole = length-append front (op ∷ []) in
    let there : nat_eq (length front + 1) count ≡ true = grind (arith, nat_tests, size, whole) in
    rw (ends-last front op ends, there) refl
place-passes count front op (next ∷ back) size ends =
    let whole = length-append front (op ∷ next ∷ back) in
    let other : length front + 1 < count = omega arith in
    let elsewhere : nat_eq (length front + 1) count ≡ false = grind (arith, nat_tests, other) in
    rw (ends-earlier front op next back ends, elsewhere) refl

module _ (channels joinable : List (List ℕ)) (named : All IsName channels) (distinct : IsDistinct bytes_eq channels) (joined : All IsName joinable) where
  operation-passes : (count thread : ℕ) (front : List Op) (op : Op) (back : List Op) → count ≡ length (front ++ op ∷ back) → ends_well (front ++ op ∷ back) ≡ true
      → IsOp (length channels) joinable op → next_operation count channels joinable thread front (string (operation_text channels op)) ≡ Ok op
  operation-passes count thread front op back size ends is =
      rw (operation-reads channels joinable op named distinct joined is, place-passes count front op back size ends) refl

  operations-read : (thread : ℕ) (ops : List Op) → IsProgram (length channels) joinable ops
      → operations_from (length ops) channels joinable thread [] (items_of (map (λ op. string (operation_text channels op)) ops)) ≡ Ok ops
  operations-read thread ops is =
      read_each-all (next_operation (length ops) channels joinable thread) (λ op. string (operation_text channels op)) [] ops (λ front op back split.
      operation-passes (length ops) thread front op back (ap length split) (subst (λ (os : List Op). ends_well os ≡ true) split is.ends)
      (All-split (IsOp (length channels) joinable) ops front op back split is.each))

  some-operation : (ops : List Op) → ends_well ops ≡ true → 1 ≤ length ops
  some-operation [] ends = absurd (cc)
  some-operation (op ∷ ops) ends = omega arith

  program-reads : (thread : ℕ) (t : Members) (ops : List Op) → get_member (key_text Program) t ≡ Some (program_array channels ops) → IsProgram (length channels) joinable ops
      → program_at channels joinable thread t ≡ Ok ops
  unfolding program_at
  program-reads thread t ops there is =
      let size : items_len (items_of (map (λ op. string (operation_text channels op)) ops)) ≡ length ops = items_len-map (λ op. string (operation_text channels op)) ops in
      rw (there, size, le-leb 1 (length ops) (some-operation ops is.ends), le-leb (length ops) most_operations is.few, size) (operations-read thread ops is)

  -- ---- threads

  policy-reads : (policy : PolicyType) → word_in policy_words (policy_word policy) ≡ Ok policy
  policy-reads Fifo = refl
  policy-reads Rr = refl

  module _ (parts : ℕ) (partitions : List PartitionRow) (tree : IsTree parts partitions) where
    thread-reads : (before : List ThreadRow) (i : ℕ) (row : ThreadRow) → IsThreadRow (length partitions) (length channels) joinable row → is_thread before row.name ≡ false
        → thread_read_at partitions channels joinable before i (thread_table partitions channels row) ≡ Ok row
    unfolding thread_read_at thread_values
    thread-reads before i row is new =
        let own : IsFundedRow parts (row_or_none partitions row.partition) = All-get_or (IsFundedRow parts) partitions row.partition no_row is.partition tree.funded.each in
        let found : partition_named partitions (row_or_none partitions row.partition).name ≡ Some row.partition =
        position-named (λ (row : PartitionRow). row.name) partitions row.partition no_row is.partition tree.names in
        rw (
          is_name-true row.name is.name,
          new,
          is_name-true (row_or_none partitions row.partition).name own.name,
          found,
          le-leb 1 row.priority is.priority.some,
          le-leb row.priority greatest_priority is.priority.few,
          no_rest row.priority,
          policy-reads row.policy,
          program-reads i _ row.program refl is.program,
        ) refl

    pub threads-read : (threads : List ThreadRow) → All (IsThreadRow (length partitions) (length channels) joinable) threads
        → IsDistinct bytes_eq (map (λ (row : ThreadRow). row.name) threads)
        → threads_from partitions channels joinable [] (items_of (map (thread_table partitions channels) threads)) ≡ Ok threads
    threads-read threads each names =
        read_each-all (next_thread partitions channels joinable) (thread_table partitions channels) [] threads (λ front row back split.
        thread-reads front (length front) row (All-split (IsThreadRow (length partitions) (length channels) joinable) threads front row back split each)
        (new-in-split (λ (row : ThreadRow). row.name) front row back (subst (λ (rows : List ThreadRow). IsDistinct bytes_eq (map (λ (row : ThreadRow). row.name) rows)) split names)))
