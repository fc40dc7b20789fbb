-- The threads that are read are threads of a scenario.
use Rattle.std.proofs.Common.{◌≡◌, ℕ, suc, ◌+◌, ◌<◌, ◌≤◌, false, List, [], ◌∷◌, length, map, None, Ok, refl, ap, subst, ◌∙◌, arith, add-one, length-append, All}
use Rattle.std.proofs.lemmas.List.{map-append}
use Rattle.std.proofs.lemmas.List.Elements.{All-append, All-nil, All-from_recursion}
use Rattle.std.proofs.lemmas.Map.Keys.{IsDistinct-push}
use Rattle.std.proofs.lemmas.Cmp.{nat_list_eq_equiv}
use Rattle.std.specs.List.{IsDistinct}
use Rattle.std.specs.Str.{bytes_eq}
use Rattle.toml.specs.Data.{Data, Members}
use Rattle.aps_model.specs.declared.partition.PartitionRow.{PartitionRow}
use Rattle.aps_model.specs.declared.scenario.ThreadRow.{ThreadRow}
use Rattle.aps_model.specs.Limits.{greatest_priority, most_threads}
use Rattle.aps_model.specs.Valid.{IsThreadRow}
use Rattle.aps_scenario.specs.declared.key.Key.TheVariants.{Thread, Name, Partition, Priority}
use Rattle.aps_scenario.specs.declared.kind.Kind.TheVariants.{Duplicate}
use Rattle.aps_scenario.specs.declared.refusal.Place.{Place}
use Rattle.aps_scenario.specs.declared.refusal.Place.TheVariants as place
use Rattle.aps_scenario.specs.Row.{table_of, only, value_of, row_name, refuse_if}
use Rattle.aps_scenario.specs.Elements.{items_len, row_tables}
use Rattle.aps_scenario.specs.Partitions.{row_partition}
use Rattle.aps_scenario.specs.Program.{program_at}
use Rattle.aps_scenario.specs.Threads.{thread_read_at, thread_values, next_thread, threads_at, threads_with_new, thread_keys, row_priority, row_policy, row_critical_mark, is_thread}
use Rattle.aps_scenario.proofs.Lists.{list_any-map}
use Rattle.aps_scenario.proofs.Values.{bind-ok, ok-same, refuse_if-ok, named-ok, defaulted-ok}
use Rattle.aps_scenario.proofs.Elements.{read_each-keeps, tables-ok}
use Rattle.aps_scenario.proofs.Programs.{program_at-ok}
use Rattle.aps_scenario.proofs.Trees.{partition-ok}

abbrev name_of : ThreadRow → List ℕ
name_of row = row.name

module _ (partitions : List PartitionRow) (some_partition : 0 < length partitions) (channels joinable : List (List ℕ)) where
  abbrev IsOne : ThreadRow → Type 0
  IsOne = IsThreadRow (length partitions) (length channels) joinable

  -- what is known of a thread that was read, over these threads
  record IsNew (threads : List ThreadRow) (row : ThreadRow) : Type 0 where
    pub valid : IsOne row
    pub other : is_thread threads row.name ≡ false

  next_thread-ok : (threads : List ThreadRow) (d : Data) (row : ThreadRow) → next_thread partitions channels joinable threads d ≡ Ok row → IsNew threads row
  unfolding thread_read_at thread_values
  next_thread-ok threads d row e =
      let here : Place = place.Thread (length threads) in
      let p = bind-ok (table_of here d) _ row e in
      let q = bind-ok (only thread_keys here p.0) _ row p.2 in
      let name = bind-ok (value_of (row_name Name None) here p.0) _ row q.2 in
      let other = bind-ok (refuse_if (is_thread threads name.0) Duplicate here Name) _ row name.2 in
      let partition = bind-ok (value_of (row_partition Partition partitions) here p.0) _ row other.2 in
      let priority = bind-ok (value_of row_priority here p.0) _ row partition.2 in
      let policy = bind-ok (value_of row_policy here p.0) _ row priority.2 in
      let critical = bind-ok (value_of row_critical_mark here p.0) _ row policy.2 in
      let program = bind-ok (program_at channels joinable (length threads) p.0) _ row critical.2 in
      let found : ThreadRow = record { name = name.0; partition = partition.0; priority = priority.0; policy = policy.0; critical = critical.0; program = program.0 } in
      let same : found ≡ row = ok-same found row _ refl program.2 in
      let default : ℕ = 10 in
      let range = defaulted-ok Priority 1 greatest_priority 1 default _ p.0 priority.0 (record { above = omega arith; below = omega arith; whole = refl }) priority.1 in
      subst (IsNew threads) same (record {
        valid = record {
          name = named-ok Name _ p.0 name.0 name.1;
          partition = partition-ok Partition partitions _ p.0 partition.0 some_partition partition.1;
          priority = record { some = range.above; few = range.below };
          program = program_at-ok channels joinable (length threads) p.0 program.0 program.1;
        };
        other = refuse_if-ok _ _ _ _ other.0 other.1;
      })

  -- the threads so far, of which there are n
  record AreRead (n : ℕ) (threads : List ThreadRow) : Type 0 where
    pub count : length threads ≡ n
    pub each : All IsOne threads
    pub distinct : IsDistinct bytes_eq (map name_of threads)

  more : (n : ℕ) (threads : List ThreadRow) (row : ThreadRow) → AreRead n threads → IsNew threads row → AreRead (suc n) (threads_with_new threads row)
  more n threads row read is_new = record {
    count = length-append threads (row ∷ []) ∙ add-one (length threads) ∙ ap (λ m. suc m) read.count;
    each = All-append IsOne threads (row ∷ []) read.each (All-from_recursion IsOne (row ∷ []) (is_new.valid, tt));
    distinct = rw (map-append name_of threads (row ∷ []))
        (IsDistinct-push nat_list_eq_equiv (map name_of threads) row.name read.distinct (list_any-map (bytes_eq row.name) name_of threads ∙ is_new.other));
  }

  pub record AreThreads (threads : List ThreadRow) : Type 0 where
    pub few : length threads ≤ most_threads
    pub each : All IsOne threads
    pub distinct : IsDistinct bytes_eq (map name_of threads)

  pub threads_at-ok : (t : Members) (threads : List ThreadRow) → threads_at partitions channels joinable t ≡ Ok threads → AreThreads threads
  unfolding IsDistinct threads_at
  threads_at-ok t threads e =
      let elements = bind-ok (value_of (row_tables Thread most_threads) place.Top t) _ threads e in
      let few : items_len elements.0 ≤ most_threads = tables-ok Thread most_threads place.Top t elements.0 elements.1 in
      let none : AreRead 0 [] = record { count = refl; each = All-nil IsOne; distinct = tt } in
      let read : AreRead (0 + items_len elements.0) threads =
      read_each-keeps (next_thread partitions channels joinable) threads_with_new AreRead
      (λ n so_far d new before step. more n so_far new before (next_thread-ok so_far d new step)) elements.0 0 [] threads none elements.2 in
      let count : length threads ≡ 0 + items_len elements.0 = read.count in
      record { few = omega arith; each = read.each; distinct = read.distinct }
