-- The generated names are names, and each has a place of its own.
use Rattle.std.proofs.Common.{◌≡◌, ℕ, ◌+◌, ◌-◌, ◌*◌, ◌≤◌, ◌&&◌, Bool, true, cond, List, [], ◌∷◌, length, drop, refl, arith, nat_eq, nat_le}
use Rattle.std.proofs.lemmas.Bool.Decides.{nat_tests}
use Rattle.std.specs.Fmt.{digits}
use Rattle.std.specs.List.{list_all, range_with_len}
use Rattle.aps_model.specs.Limits.{last_cpu, last_partition, longest_name, most_cpus, most_partitions}
use Rattle.aps_model.specs.Name.{IsName, is_name_byte}
use Rattle.aps_gen.specs.Names.{partition_name, endless_name, worker_name, client_name}
use Rattle.aps_gen.proofs.Lists.{below}

-- ---- names

abbrev is_name : List ℕ → Bool
is_name text = (nat_le 1 (length text) && nat_le (length text) longest_name) && list_all is_name_byte text

IsName-from_is_name : (text : List ℕ) → is_name text ≡ true → IsName text
IsName-from_is_name text e =
    record { some = grind (arith, nat_tests, e); few = grind (arith, nat_tests, e); bytes = grind (arith, nat_tests, e) }

pub is_partition_name : (i : ℕ) → i ≤ last_partition → IsName (partition_name i)
unfolding digits
is_partition_name i few = IsName-from_is_name _ (below (λ i. is_name (partition_name i)) most_partitions i refl (omega arith))

pub is_worker_name : (i : ℕ) → i ≤ last_partition → IsName (worker_name i)
unfolding digits
is_worker_name i few = IsName-from_is_name _ (below (λ i. is_name (worker_name i)) most_partitions i refl (omega arith))

pub is_client_name : (i : ℕ) → i ≤ last_partition → IsName (client_name i)
unfolding digits
is_client_name i few = IsName-from_is_name _ (below (λ i. is_name (client_name i)) most_partitions i refl (omega arith))

pub is_endless_name : (i j : ℕ) → i ≤ last_partition → j ≤ last_cpu → IsName (endless_name i j)
unfolding digits
is_endless_name i j few_i few_j =
    IsName-from_is_name _
    (below (λ j. is_name (endless_name i j)) most_cpus j (below (λ i. list_all (λ j. is_name (endless_name i j)) (range_with_len 0 most_cpus)) most_partitions i refl (omega arith)) (omega arith))

-- ---- places

-- a number, or two with a line between them as digits to the base 100
abbrev number_in : ℕ → List ℕ → ℕ
number_in n [] = n
number_in n (b ∷ bs) = cond (nat_eq b 95) (100 * n + number_in 0 bs) (number_in (10 * n + (b - 48)) bs)

-- the server first; then by partition the endless threads, the worker and the client
abbrev pub thread_place : List ℕ → ℕ
thread_place [] = 0
thread_place (b ∷ bs) =
    cond (nat_eq b 116) (1 + number_in 0 bs)
    (cond (nat_eq b 119) (51 + 100 * number_in 0 bs) (cond (nat_eq b 99) (52 + 100 * number_in 0 (drop 1 bs)) 0))

-- the root first
abbrev pub row_place : List ℕ → ℕ
row_place [] = 0
row_place (b ∷ bs) = cond (nat_eq b 80) (number_in 0 bs) 0

same : (m n : ℕ) → nat_eq m n ≡ true → m ≡ n
same m n e = grind (arith, nat_tests, e)

pub partition_place : (i : ℕ) → i ≤ last_partition → row_place (partition_name i) ≡ i
unfolding digits
partition_place i few = same _ _ (below (λ i. nat_eq (row_place (partition_name i)) i) most_partitions i refl (omega arith))

pub worker_place : (i : ℕ) → i ≤ last_partition → thread_place (worker_name i) ≡ 51 + 100 * i
unfolding digits
worker_place i few = same _ _ (below (λ i. nat_eq (thread_place (worker_name i)) (51 + 100 * i)) most_partitions i refl (omega arith))

pub client_place : (i : ℕ) → i ≤ last_partition → thread_place (client_name i) ≡ 52 + 100 * i
unfolding digits
client_place i few = same _ _ (below (λ i. nat_eq (thread_place (client_name i)) (52 + 100 * i)) most_partitions i refl (omega arith))

pub endless_place : (i j : ℕ) → i ≤ last_partition → j ≤ last_cpu → thread_place (endless_name i j) ≡ 1 + 100 * i + j
unfolding digits
endless_place i j few_i few_j =
    same _ _ (below (λ j. nat_eq (thread_place (endless_name i j)) (1 + 100 * i + j)) most_cpus j
    (below (λ i. list_all (λ j. nat_eq (thread_place (endless_name i j)) (1 + 100 * i + j)) (range_with_len 0 most_cpus)) most_partitions i refl (omega arith)) (omega arith))
