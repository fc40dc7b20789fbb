-- A scenario with each budget and maximum times ten is a scenario.
use Rattle.std.proofs.Common.{◌≡◌, ◌≢◌, ℕ, zero, suc, ◌+◌, ◌*◌, ◌<◌, ◌≤◌, ◌++◌, ◌||◌, Bool, true, false, cond, List, [], ◌∷◌, length, get_or, take, drop, map, slice_set, Option, Some, None, inl, inr, refl, ap, sym, subst, ◌∙◌, arith, add-one, nat_eq, append_assoc, drop-cons, IfSome, All}
use Rattle.std.proofs.lemmas.List.{map-append, take_more, length-take-le, length-map}
use Rattle.std.proofs.lemmas.List.Elements.{All-map}
use Rattle.std.proofs.lemmas.List.Sums.{sum-map, sum_by-cons}
use Rattle.std.proofs.Math.ListN.{get_or-map}
use Rattle.std.proofs.Math.Seq.{get_or-append_seam, set-append_seam}
use Rattle.std.specs.List.{sum_by, range_with_len, filter_map}
use Rattle.std.specs.Option.{option_map}
use Rattle.std.specs.Prelude.{IsSome}
use Rattle.aps_model.specs.declared.shape.Shape.{Shape}
use Rattle.aps_model.specs.declared.partition.PartitionRow.{PartitionRow}
use Rattle.aps_model.specs.declared.command.CommandRow.{CommandRow}
use Rattle.aps_model.specs.declared.command.Call.{Call}
use Rattle.aps_model.specs.declared.command.Call.TheVariants.{Create, Modify, Lookup, QueryPartition, QueryThread, QueryParameters, SetParameters, Statistics, MarkCritical, ClearCritical}
use Rattle.aps_model.specs.Limits.{percent, thousandths}
use Rattle.aps_model.specs.Partition.{row_or_none, no_row, IsFundedRow}
use Rattle.aps_model.specs.Scenario.{Scenario}
use Rattle.aps_model.specs.Shape.{IsShape}
use Rattle.aps_model.specs.Upgrade.{times_ten, row_times_ten, call_times_ten}
use Rattle.aps_model.specs.Valid.{is_within, subtree_budget, IsTree, IsThreadRow, IsCall, IsCommand, IsScenario, created_name, joinable}
use Rattle.aps_scenario.specs.Upgrading.{IsInHundredths}
use Rattle.aps_scenario.proofs.Lists.{places_more}

-- ---- a list that is changed element by element

module _ {X : Type 0} (f : X → X) (d : X) (xs ys : List X) (i : ℕ) (so_far : ys ≡ map f (take i xs) ++ drop i xs) (within : i < length xs) where
  abbrev front : List X
  front = map f (take i xs)

  long : length front ≡ i
  long = length-map (take i xs) f ∙ length-take-le i xs (omega arith)

  laid : ys ≡ front ++ get_or xs i d ∷ drop (i + 1) xs
  laid = so_far ∙ ap (λ rest. front ++ rest) (drop-cons xs i d within) ∙ ap (λ n. front ++ get_or xs i d ∷ drop n xs) (sym (add-one i))

  pub changed-here : get_or ys i d ≡ get_or xs i d
  changed-here = ap (λ (l : List X). get_or l i d) laid ∙ ap (λ n. get_or (front ++ get_or xs i d ∷ drop (i + 1) xs) n d) (sym long)
      ∙ get_or-append_seam front (get_or xs i d) (drop (i + 1) xs) d

  pub changed-next : slice_set ys i (f (get_or xs i d)) ≡ map f (take (i + 1) xs) ++ drop (i + 1) xs
  changed-next =
      let x : X = get_or xs i d in
      let more : map f (take (i + 1) xs) ≡ front ++ f x ∷ [] = ap (λ l. map f l) (take_more xs i d within) ∙ map-append f (take i xs) (x ∷ []) in
      ap (λ (l : List X). slice_set l i (f x)) laid ∙ ap (λ n. slice_set (front ++ x ∷ drop (i + 1) xs) n (f x)) (sym long)
      ∙ set-append_seam front x (drop (i + 1) xs) (f x) ∙ sym (append_assoc front (f x ∷ []) (drop (i + 1) xs)) ∙ ap (λ l. l ++ drop (i + 1) xs) (sym more)

-- ---- the tree

abbrev name_of : PartitionRow → List ℕ
name_of row = row.name

abbrev budget_of : PartitionRow → ℕ
budget_of row = row.budget

module _ (rows : List PartitionRow) where
  abbrev scaled : List PartitionRow
  scaled = map row_times_ten rows

  row_scaled : (p : ℕ) → row_or_none scaled p ≡ row_times_ten (row_or_none rows p)
  row_scaled p = get_or-map row_times_ten rows p no_row

  within_same : (k i p : ℕ) → is_within scaled k i p ≡ is_within rows k i p
  within_same zero i p = refl
  within_same (suc k) i p =
      ap (λ (row : PartitionRow). nat_eq p i || is_within scaled k i row.parent) (row_scaled p) ∙ ap (λ b. nat_eq p i || b) (within_same k i (row_or_none rows p).parent)

  names_same : (xs : List PartitionRow) → map name_of (map row_times_ten xs) ≡ map name_of xs
  names_same [] = refl
  names_same (x ∷ xs) = ap (λ names. x.name ∷ names) (names_same xs)

  budgets_scaled : (xs : List PartitionRow) → sum_by budget_of (map row_times_ten xs) ≡ sum_by budget_of xs * 10
  budgets_scaled [] = refl
  budgets_scaled (x ∷ xs) =
      let rest : sum_by budget_of (map row_times_ten xs) ≡ sum_by budget_of xs * 10 = budgets_scaled xs in
      let after : sum_by budget_of (map row_times_ten (x ∷ xs)) ≡ x.budget * 10 + sum_by budget_of (map row_times_ten xs) = sum_by-cons budget_of (row_times_ten x) (map row_times_ten xs) in
      let before : sum_by budget_of (x ∷ xs) ≡ x.budget + sum_by budget_of xs = sum_by-cons budget_of x xs in
      omega arith

places_scaled : (h g : ℕ → ℕ) (n : ℕ) → ((p : ℕ) → h p ≡ g p * 10) → sum_by h (range_with_len 0 n) ≡ sum_by g (range_with_len 0 n) * 10
places_scaled h g zero each = refl
places_scaled h g (suc n) each =
    let before : sum_by h (range_with_len 0 n) ≡ sum_by g (range_with_len 0 n) * 10 = places_scaled h g n each in
    let here : h n ≡ g n * 10 = each n in
    let more : sum_by h (range_with_len 0 (n + 1)) ≡ sum_by h (range_with_len 0 n) + h n = places_more h n in
    let more_too : sum_by g (range_with_len 0 (n + 1)) ≡ sum_by g (range_with_len 0 n) + g n = places_more g n in
    let next : sum_by h (range_with_len 0 (n + 1)) ≡ sum_by g (range_with_len 0 (n + 1)) * 10 = omega arith in
    subst (λ m. sum_by h (range_with_len 0 m) ≡ sum_by g (range_with_len 0 m) * 10) (add-one n) next

cond_scaled : (b : Bool) (n : ℕ) → cond b (n * 10) 0 ≡ cond b n 0 * 10
cond_scaled true n = refl
cond_scaled false n = refl

module _ (rows : List PartitionRow) where
  share_scaled : (i p : ℕ) → cond (is_within (scaled rows) (length rows) i p) (row_or_none (scaled rows) p).budget 0
      ≡ cond (is_within rows (length rows) i p) (row_or_none rows p).budget 0 * 10
  share_scaled i p =
      ap (λ b. cond b (row_or_none (scaled rows) p).budget 0) (within_same rows (length rows) i p)
      ∙ ap (λ (row : PartitionRow). cond (is_within rows (length rows) i p) row.budget 0) (row_scaled rows p)
      ∙ cond_scaled (is_within rows (length rows) i p) (row_or_none rows p).budget

  subtree_scaled : (i : ℕ) → subtree_budget (scaled rows) i ≡ subtree_budget rows i * 10
  subtree_scaled i =
      ap (λ n. sum_by (λ p. cond (is_within (scaled rows) n i p) (row_or_none (scaled rows) p).budget 0) (range_with_len 0 n)) (length-map rows row_times_ten)
      ∙ places_scaled (λ p. cond (is_within (scaled rows) (length rows) i p) (row_or_none (scaled rows) p).budget 0)
      (λ p. cond (is_within rows (length rows) i p) (row_or_none rows p).budget 0) (length rows) (share_scaled i)

  pub tree_scaled : IsTree percent rows → IsTree thousandths (scaled rows)
  tree_scaled tree =
      let long : length (scaled rows) ≡ length rows = length-map rows row_times_ten in
      let top : row_or_none (scaled rows) 0 ≡ row_times_ten (row_or_none rows 0) = row_scaled rows 0 in
      let whole : (row_or_none rows 0).max ≡ percent = tree.root.max in
      record {
        some = omega (arith, tree.some);
        few = omega (arith, tree.few);
        root = rw top (record { name = tree.root.name; parent = tree.root.parent; critical = tree.root.critical; max = omega arith });
        parents = λ i over within. rw (row_scaled rows i) (tree.parents i over (omega arith));
        names = rw (names_same rows rows) tree.names;
        funded = record {
          each = All-map (IsFundedRow thousandths) row_times_ten rows (λ k d within.
              let one = tree.funded.each k d within in
              record { name = one.name; budget = omega (arith, one.budget); max = omega (arith, one.max); critical = one.critical });
          budgets = let before : sum_by budget_of rows ≡ percent = sym (sum-map budget_of rows) ∙ tree.funded.budgets in
              let after : sum_by budget_of (scaled rows) ≡ sum_by budget_of rows * 10 = budgets_scaled rows rows in
              sum-map budget_of (scaled rows) ∙ omega arith;
        };
        subtrees = λ i within.
            let before : subtree_budget rows i ≤ (row_or_none rows i).max = tree.subtrees i (omega arith) in
            let after : subtree_budget (scaled rows) i ≡ subtree_budget rows i * 10 = subtree_scaled i in
            let max : (row_or_none (scaled rows) i).max ≡ (row_or_none rows i).max * 10 = ap (λ (row : PartitionRow). row.max) (row_scaled rows i) in
            omega arith;
      }

-- ---- commands

at_most_scaled : (x : Option ℕ) → IfSome x (λ n. n ≤ percent) → IfSome (option_map times_ten x) (λ n. n ≤ thousandths)
at_most_scaled None within = tt
at_most_scaled (Some n) within = omega arith

some_scaled : (x : Option ℕ) → IsSome x → IsSome (option_map times_ten x)
some_scaled None some = absurd (cc)
some_scaled (Some n) some = refl

call_scaled : (threads : ℕ) (call : Call) → IsCall percent threads call → IsCall thousandths threads (call_times_ten call)
call_scaled threads (Create name parent budget critical max) valid = record {
  named = valid.named;
  under = valid.under;
  few_parts = omega (arith, valid.few_parts);
  short_critical = valid.short_critical;
  max_parts = omega (arith, valid.max_parts);
}
call_scaled threads (Modify partition budget critical max) valid = record {
  named = valid.named;
  some = elim valid.some [
    | inl b ↦ inl (some_scaled budget b)
    | inr (inl c) ↦ inr (inl c)
    | inr (inr m) ↦ inr (inr (some_scaled max m))
  ];
  few_parts = at_most_scaled budget valid.few_parts;
  short_critical = valid.short_critical;
  max_parts = at_most_scaled max valid.max_parts;
}
call_scaled threads (Lookup partition) valid = valid
call_scaled threads (QueryPartition partition) valid = valid
call_scaled threads (QueryThread thread) valid = valid
call_scaled threads QueryParameters valid = valid
call_scaled threads (SetParameters window free limit bankruptcy) valid = valid
call_scaled threads (Statistics partition) valid = valid
call_scaled threads (MarkCritical thread) valid = valid
call_scaled threads (ClearCritical thread) valid = valid

pub in_hundredths : (threads : ℕ) (call : Call) → IsCall percent threads call → IsInHundredths call
in_hundredths threads (Create name parent budget critical max) valid = (valid.few_parts, valid.max_parts)
in_hundredths threads (Modify partition budget critical max) valid = (valid.few_parts, valid.max_parts)
in_hundredths threads (Lookup partition) valid = tt
in_hundredths threads (QueryPartition partition) valid = tt
in_hundredths threads (QueryThread thread) valid = tt
in_hundredths threads QueryParameters valid = tt
in_hundredths threads (SetParameters window free limit bankruptcy) valid = tt
in_hundredths threads (Statistics partition) valid = tt
in_hundredths threads (MarkCritical thread) valid = tt
in_hundredths threads (ClearCritical thread) valid = tt

name_scaled : (call : Call) → created_name (call_times_ten call) ≡ created_name call
name_scaled (Create name parent budget critical max) = refl
name_scaled (Modify partition budget critical max) = refl
name_scaled (Lookup partition) = refl
name_scaled (QueryPartition partition) = refl
name_scaled (QueryThread thread) = refl
name_scaled QueryParameters = refl
name_scaled (SetParameters window free limit bankruptcy) = refl
name_scaled (Statistics partition) = refl
name_scaled (MarkCritical thread) = refl
name_scaled (ClearCritical thread) = refl

abbrev pub command_scaled : CommandRow → CommandRow
command_scaled row = record row { call = call_times_ten row.call }

abbrev name_by : CommandRow → Option (List ℕ)
name_by row = created_name row.call

created_first : (row : CommandRow) (rest : List CommandRow) (o : Option (List ℕ)) → name_by row ≡ o
    → filter_map name_by (map command_scaled rest) ≡ filter_map name_by rest
    → filter_map name_by (map command_scaled (row ∷ rest)) ≡ filter_map name_by (row ∷ rest)
created_first row rest None e same =
    let scaled_none : name_by (command_scaled row) ≡ None = name_scaled row.call ∙ e in
    rw (scaled_none, e) same
created_first row rest (Some name) e same =
    let scaled_some : name_by (command_scaled row) ≡ Some name = name_scaled row.call ∙ e in
    rw (scaled_some, e) (ap (λ names. name ∷ names) same)

created_scaled : (commands : List CommandRow) → filter_map name_by (map command_scaled commands) ≡ filter_map name_by commands
created_scaled [] = refl
created_scaled (row ∷ rest) = created_first row rest (name_by row) refl (created_scaled rest)

-- ---- the whole

-- parts that aren't 1,000 are 100
pub parts_small : (shape : Shape) → IsShape shape → shape.parts ≢ thousandths → shape.parts ≡ percent
parts_small shape sizes other = elim sizes.parts [ inl small ↦ small | inr large ↦ absurd (other large) ]

pub IsScenario-scaled : (s : Scenario) → IsScenario s → s.shape.parts ≡ percent
    → IsScenario (record {
      shape = record s.shape { parts = thousandths };
      partitions = map row_times_ten s.partitions;
      channels = s.channels;
      threads = s.threads;
      commands = map command_scaled s.commands;
    })
IsScenario-scaled s valid small =
    let after : Scenario =
    record { shape = record s.shape { parts = thousandths }; partitions = map row_times_ten s.partitions; channels = s.channels; threads = s.threads; commands = map command_scaled s.commands } in
    let known : joinable s ≡ joinable after = sym (ap (λ names. names ++ filter_map name_by (map command_scaled s.commands)) (names_same s.partitions s.partitions)
    ∙ ap (λ names. map name_of s.partitions ++ names) (created_scaled s.commands)) in
    let many : length s.partitions ≡ length after.partitions = sym (length-map s.partitions row_times_ten) in
    record {
      shape = record {
        parts = inr refl;
        some_cpu = valid.shape.some_cpu;
        few_cpus = valid.shape.few_cpus;
        tick_long = valid.shape.tick_long;
        tick_short = valid.shape.tick_short;
        tick_whole = valid.shape.tick_whole;
        window_long = valid.shape.window_long;
        window_short = valid.shape.window_short;
        some_tick = valid.shape.some_tick;
        few_ticks = valid.shape.few_ticks;
        some_call = valid.shape.some_call;
        short_call = valid.shape.short_call;
      };
      tree = tree_scaled s.partitions (subst (λ parts. IsTree parts s.partitions) small valid.tree);
      few_channels = valid.few_channels;
      channels = valid.channels;
      channel_names = valid.channel_names;
      few_threads = valid.few_threads;
      threads = subst (λ n. All (IsThreadRow n (length s.channels) (joinable after)) s.threads) many
          (subst (λ names. All (IsThreadRow (length s.partitions) (length s.channels) names) s.threads) known valid.threads);
      thread_names = valid.thread_names;
      few_commands = omega (arith, length-map s.commands command_scaled, valid.few_commands);
      commands = All-map (IsCommand thousandths s.shape.ticks (length s.threads)) command_scaled s.commands (λ k d within.
          let one = valid.commands k d within in
          record { tick = one.tick; call = call_scaled (length s.threads) (get_or s.commands k d).call (subst (λ parts. IsCall parts (length s.threads) (get_or s.commands k d).call) small one.call) });
    }
