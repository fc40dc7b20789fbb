-- The generated threads are threads of a scenario.
use Rattle.std.proofs.Common.{◌≡◌, ℕ, zero, suc, ◌+◌, ◌*◌, ◌<◌, ◌≤◌, List, [], ◌∷◌, ◌++◌, length, map, refl, arith, length-append, All}
use Rattle.std.proofs.lemmas.List.{map-append}
use Rattle.std.proofs.lemmas.List.Elements.{All-append, All-nil, All-from_recursion}
use Rattle.std.specs.List.{IsDistinct}
use Rattle.std.specs.Str.{bytes_eq}
use Rattle.aps_model.specs.Name.{IsName}
use Rattle.aps_model.specs.declared.scenario.ThreadRow.{ThreadRow}
use Rattle.aps_model.specs.declared.program.Op.TheVariants.{Forever}
use Rattle.aps_model.specs.Limits.{last_cpu, most_cpus, most_partitions, most_threads}
use Rattle.aps_model.specs.Program.{IsOp}
use Rattle.aps_model.specs.Valid.{IsThreadRow}
use Rattle.aps_gen.specs.Draws.{next, drawn}
use Rattle.aps_gen.specs.Generated.{server, endless, endless_from, after_endless, worker, client, clients, after_worker, after_partition, partition_threads, generated_threads}
use Rattle.aps_gen.proofs.NameFacts.{thread_place, is_worker_name, is_client_name, is_endless_name, worker_place, client_place, endless_place}
use Rattle.aps_gen.proofs.Rising.{Rising, Rising-append, Rising-lower, IsDistinct-from_Rising}

abbrev name_of : ThreadRow → List ℕ
name_of row = row.name

-- a draw is below its bound
drawn-below : (n state : ℕ) → 0 < n → drawn n state < n
drawn-below n state some = omega arith

module _ (k : ℕ) (few : k ≤ most_partitions) (names : List (List ℕ)) where
  -- threads of the first k partitions, whose places rise from low to high, at most so many
  record AreGood (low high most : ℕ) (rows : List ThreadRow) : Type 0 where
    pub each : All (IsThreadRow k 1 names) rows
    pub rising : Rising thread_place low high (map name_of rows)
    pub count : length rows ≤ most

  good-none : (low high : ℕ) → low ≤ high → AreGood low high 0 []
  good-none low high fits = record { each = All-nil (IsThreadRow k 1 names); rising = fits; count = omega arith }

  good-one : (low high : ℕ) (row : ThreadRow) → IsThreadRow k 1 names row → low ≤ thread_place row.name → thread_place row.name < high → AreGood low high 1 (row ∷ [])
  good-one low high row valid from to = record {
    each = All-from_recursion (IsThreadRow k 1 names) (row ∷ []) (valid, tt);
    rising = (from, to);
    count = omega arith;
  }

  good-append : (low middle high m n : ℕ) (xs ys : List ThreadRow) → AreGood low middle m xs → AreGood middle high n ys → AreGood low high (m + n) (xs ++ ys)
  good-append low middle high m n xs ys first second =
      let count_first = first.count in
      let count_second = second.count in
      record {
        each = All-append (IsThreadRow k 1 names) xs ys first.each second.each;
        rising = rw (map-append name_of xs ys) (Rising-append thread_place low middle high (map name_of xs) (map name_of ys) first.rising second.rising);
        count = simp length-append (omega arith);
      }

  -- ---- one thread

  endless-valid : (i j state : ℕ) → i < k → j ≤ last_cpu → IsThreadRow k 1 names (endless i j state)
  endless-valid i j state within few_j =
      let below = drawn-below 8 (next state) (omega arith) in
      record {
        name = is_endless_name i j (omega arith) few_j;
        partition = within;
        priority = record { some = omega arith; few = omega arith };
        program = record { each = All-from_recursion (IsOp 1 names) (Forever ∷ []) (tt, tt); few = omega arith; ends = refl };
      }

  worker-valid : (i state : ℕ) → i < k → IsThreadRow k 1 names (worker i state)
  worker-valid i state within =
      let run = drawn-below 900000 (next state) (omega arith) in
      let sleep = drawn-below 5000000 (next (next state)) (omega arith) in
      record {
        name = is_worker_name i (omega arith);
        partition = within;
        priority = record { some = omega arith; few = omega arith };
        program = record {
          each = All-from_recursion (IsOp 1 names) (worker i state).program (record { some = omega arith; short = omega arith }, (record { some = omega arith; short = omega arith }, (tt, tt)));
          few = omega arith;
          ends = refl;
        };
      }

  client-valid : (i state : ℕ) → i < k → IsThreadRow k 1 names (client i state)
  client-valid i state within =
      let sleep = drawn-below 9000000 (next state) (omega arith) in
      record {
        name = is_client_name i (omega arith);
        partition = within;
        priority = record { some = omega arith; few = omega arith };
        program = record {
          each = All-from_recursion (IsOp 1 names) (client i state).program (omega arith, (record { some = omega arith; short = omega arith }, (tt, tt)));
          few = omega arith;
          ends = refl;
        };
      }

  -- ---- many

  endless-good : (i left j state : ℕ) → i < k → j + left ≤ most_cpus → AreGood (1 + 100 * i + j) (51 + 100 * i) left (endless_from i j left state)
  unfolding endless_from
  endless-good i zero j state within fits = good-none (1 + 100 * i + j) (51 + 100 * i) (omega arith)
  endless-good i (suc left) j state within fits =
      let place : thread_place (endless i j state).name ≡ 1 + 100 * i + j = endless_place i j (omega arith) (omega arith) in
      let first : AreGood (1 + 100 * i + j) (1 + 100 * i + (j + 1)) 1 (endless i j state ∷ []) =
      good-one _ _ (endless i j state) (endless-valid i j state within (omega arith)) (omega arith) (omega arith) in
      let rest : AreGood (1 + 100 * i + (j + 1)) (51 + 100 * i) left (endless_from i (j + 1) left (next (next state))) =
      endless-good i left (j + 1) (next (next state)) within (omega arith) in
      let all = good-append _ _ _ 1 left (endless i j state ∷ []) _ first rest in
      let count = all.count in
      record { each = all.each; rising = all.rising; count = omega arith }

  clients-good : (i state : ℕ) → i < k → AreGood (52 + 100 * i) (1 + 100 * (i + 1)) 1 (clients i state)
  clients-good zero state within = record { each = All-nil (IsThreadRow k 1 names); rising = omega arith; count = omega arith }
  clients-good (suc i) state within =
      let place : thread_place (client (suc i) state).name ≡ 52 + 100 * suc i = client_place (suc i) (omega arith) in
      good-one _ _ (client (suc i) state) (client-valid (suc i) state within) (omega arith) (omega arith)

  partition-good : (m i state : ℕ) → i < k → m ≤ most_cpus → AreGood (1 + 100 * i) (1 + 100 * (i + 1)) 18 (partition_threads m i state)
  partition-good m i state within few_m =
      let first : AreGood (1 + 100 * i + 0) (51 + 100 * i) m (endless_from i 0 m state) = endless-good i m 0 state within (omega arith) in
      let place : thread_place (worker i (after_endless m state)).name ≡ 51 + 100 * i = worker_place i (omega arith) in
      let second : AreGood (51 + 100 * i) (52 + 100 * i) 1 (worker i (after_endless m state) ∷ []) =
      good-one _ _ (worker i (after_endless m state)) (worker-valid i (after_endless m state) within) (omega arith) (omega arith) in
      let third = clients-good i (after_worker (after_endless m state)) within in
      let all = good-append _ _ _ m (1 + 1) (endless_from i 0 m state) _ first (good-append _ _ _ 1 1 (worker i (after_endless m state) ∷ []) _ second third) in
      let count = all.count in
      record { each = all.each; rising = Rising-lower thread_place (1 + 100 * i) (1 + 100 * i + 0) _ _ (omega arith) all.rising; count = omega arith }

  threads-good : (m left i state : ℕ) → m ≤ most_cpus → i + left ≤ k → AreGood (1 + 100 * i) (1 + 100 * (i + left)) (18 * left) (generated_threads m i left state)
  unfolding generated_threads
  threads-good m zero i state few_m within = record { each = All-nil (IsThreadRow k 1 names); rising = omega arith; count = omega arith }
  threads-good m (suc left) i state few_m within =
      let first = partition-good m i state (omega arith) few_m in
      let rest : AreGood (1 + 100 * (i + 1)) (1 + 100 * (i + 1 + left)) (18 * left) (generated_threads m (i + 1) left (after_partition m i state)) =
      threads-good m left (i + 1) (after_partition m i state) few_m (omega arith) in
      let all = good-append _ _ _ 18 (18 * left) (partition_threads m i state) _ first rest in
      let count = all.count in
      let high : 1 + 100 * (i + 1 + left) ≡ 1 + 100 * (i + suc left) = omega arith in
      record { each = all.each; rising = rw (← high) all.rising; count = omega arith }

  pub record AreThreads (rows : List ThreadRow) : Type 0 where
    pub each : All (IsThreadRow k 1 names) rows
    pub distinct : IsDistinct bytes_eq (map name_of rows)
    pub count : length rows ≤ most_threads

  pub threads-valid : (m state : ℕ) → m ≤ most_cpus → 1 ≤ k → AreThreads (server ∷ generated_threads m 0 k state)
  threads-valid m state few_m some =
      let named : IsName server.name = record { some = omega arith; few = omega arith; bytes = refl } in
      let valid : IsThreadRow k 1 names server = record {
        name = named;
        partition = some;
        priority = record { some = omega arith; few = omega arith };
        program = record {
          each = All-from_recursion (IsOp 1 names) server.program (omega arith, (record { some = omega arith; short = omega arith }, (tt, (tt, tt))));
          few = omega arith;
          ends = refl;
        };
      } in
      let first : AreGood 0 (1 + 100 * 0) 1 (server ∷ []) = good-one _ _ server valid (omega arith) (omega arith) in
      let all = good-append _ _ _ 1 (18 * k) (server ∷ []) _ first (threads-good m k 0 state few_m (omega arith)) in
      let count = all.count in
      record { each = all.each; distinct = IsDistinct-from_Rising thread_place _ _ _ all.rising; count = omega arith }
