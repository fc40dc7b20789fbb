-- One more thread or row in a loop.
use Rattle.std.proofs.Common.{◌≡◌, ℕ, suc, ◌+◌, ◌-◌, ◌<◌, ◌≤◌, List, [], ◌∷◌, ◌++◌, map, refl, ap, sym, ◌∙◌, arith, append_assoc}
use Rattle.std.specs.List.{range_with_len}
use Rattle.std.proofs.lemmas.List.{append-nil}
use Rattle.std.proofs.lemmas.List.FromFn.{map-range_with_len_more}
use Rattle.aps_model.specs.declared.partition.PartitionRow.{PartitionRow}
use Rattle.aps_model.specs.declared.scenario.ThreadRow.{ThreadRow}
use Rattle.aps_gen.specs.Draws.{next}
use Rattle.aps_gen.specs.Generated.{endless, endless_from, after_endless, partition_threads, after_partition, generated_threads}

-- ---- rows

pub row_more : (f : ℕ → PartitionRow) (first last : PartitionRow) (before after : List PartitionRow) (i : ℕ) → 1 ≤ i
    → before ≡ first ∷ map f (range_with_len 1 (i - 1)) → after ≡ before ++ last ∷ [] → last ≡ f i → after ≡ first ∷ map f (range_with_len 1 (i + 1 - 1))
row_more f first last before after i from here added same =
    let count : i + 1 - 1 ≡ (i - 1) + 1 = omega arith in
    let more : map f (range_with_len 1 (i + 1 - 1)) ≡ map f (range_with_len 1 (i - 1)) ++ f i ∷ [] = rw count (map-range_with_len_more f 1 (i - 1) i (omega arith)) in
    added ∙ rw (here, same) (sym (ap (λ (rows : List PartitionRow). first ∷ rows) more))

-- ---- endless threads

endless_step : (i j m state : ℕ) → j < m → endless_from i j (m - j) state ≡ endless i j state ∷ endless_from i (j + 1) (m - (j + 1)) (next (next state))
unfolding endless_from
endless_step i j m state within = let count : m - j ≡ suc (m - (j + 1)) = omega arith in rw count refl

pub after_step : (j m state after : ℕ) → j < m → after ≡ next (next state) → after_endless (m - (j + 1)) after ≡ after_endless (m - j) state
unfolding after_endless
after_step j m state after within drawn = let count : m - j ≡ suc (m - (j + 1)) = omega arith in rw (count, drawn) refl

pub endless_more : (i j m state after : ℕ) (row : ThreadRow) (before threads whole : List ThreadRow) → j < m
    → before ++ endless_from i j (m - j) state ≡ whole → threads ≡ before ++ row ∷ [] → row ≡ endless i j state → after ≡ next (next state)
    → threads ++ endless_from i (j + 1) (m - (j + 1)) after ≡ whole
endless_more i j m state after row before threads whole within so_far added same drawn =
    let step = endless_step i j m state within in
    let all : before ++ (endless i j state ∷ endless_from i (j + 1) (m - (j + 1)) (next (next state))) ≡ whole = rw step at so_far in
    rw (added, same, drawn, append_assoc) all

pub endless_all : (i j m state : ℕ) (threads whole : List ThreadRow) → m ≤ j → threads ++ endless_from i j (m - j) state ≡ whole → threads ≡ whole
unfolding endless_from
endless_all i j m state threads whole past so_far =
    let none : m - j ≡ 0 = omega arith in
    sym (append-nil threads) ∙ (rw none at so_far)

pub after_all : (j m state whole : ℕ) → m ≤ j → after_endless (m - j) state ≡ whole → state ≡ whole
unfolding after_endless
after_all j m state whole past so_far = let none : m - j ≡ 0 = omega arith in rw none at so_far

-- ---- partitions

partition_step : (m i k state : ℕ) → i < k → generated_threads m i (k - i) state ≡ partition_threads m i state ++ generated_threads m (i + 1) (k - (i + 1)) (after_partition m i state)
unfolding generated_threads
partition_step m i k state within = let count : k - i ≡ suc (k - (i + 1)) = omega arith in rw count refl

pub partition_more : (m i k state after : ℕ) (before threads whole : List ThreadRow) → i < k
    → before ++ generated_threads m i (k - i) state ≡ whole → threads ≡ before ++ partition_threads m i state → after ≡ after_partition m i state
    → threads ++ generated_threads m (i + 1) (k - (i + 1)) after ≡ whole
partition_more m i k state after before threads whole within so_far added drawn =
    let step = partition_step m i k state within in
    let rest : List ThreadRow = generated_threads m (i + 1) (k - (i + 1)) (after_partition m i state) in
    let all : before ++ (partition_threads m i state ++ rest) ≡ whole = rw step at so_far in
    let one : (before ++ partition_threads m i state) ++ rest ≡ before ++ (partition_threads m i state ++ rest) = append_assoc before (partition_threads m i state) rest in
    rw (added, drawn) (one ∙ all)

pub partition_all : (m i k state : ℕ) (threads whole : List ThreadRow) → k ≤ i → threads ++ generated_threads m i (k - i) state ≡ whole → threads ≡ whole
unfolding generated_threads
partition_all m i k state threads whole past so_far =
    let none : k - i ≡ 0 = omega arith in
    sym (append-nil threads) ∙ (rw none at so_far)
