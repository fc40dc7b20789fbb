-- The calls that are read have their ranges.
use Rattle.std.proofs.Common.{◌≡◌, ℕ, ◌<◌, ◌≤◌, ◌⊎◌, Bool, true, false, not, ◌||◌, List, [], ◌∷◌, length, Option, Some, None, Result, Ok, Err, inl, inr, refl, subst, arith, IfSome}
use Rattle.std.proofs.lemmas.List.Quantifiers.{position-Some}
use Rattle.std.specs.Prelude.{IsSome, is_some}
use Rattle.toml.specs.Data.{Data, Members, get_member}
use Rattle.aps_model.specs.declared.command.Call.{Call}
use Rattle.aps_model.specs.declared.command.Call.TheVariants as call
use Rattle.aps_model.specs.declared.scenario.ThreadRow.{ThreadRow}
use Rattle.aps_model.specs.Limits.{longest_window, most_critical, shortest_window}
use Rattle.aps_model.specs.Name.{IsName}
use Rattle.aps_model.specs.Scenario.{no_thread_row}
use Rattle.aps_model.specs.Valid.{IsCall, IsWindow, created_name}
use Rattle.aps_scenario.specs.declared.key.Key.{Key}
use Rattle.aps_scenario.specs.declared.key.Key.TheVariants.{Name, Parent, Partition, Budget, Critical, Max, Window, Free, Limit, Bankruptcy}
use Rattle.aps_scenario.specs.declared.kind.Kind.TheVariants.{Missing}
use Rattle.aps_scenario.specs.declared.refusal.Place.{Place}
use Rattle.aps_scenario.specs.declared.words.CommandKind.{CommandKind}
use Rattle.aps_scenario.specs.declared.words.CommandKind.TheVariants.{Create, Modify, Lookup, QueryPartition, QueryThread, QueryParameters, SetParameters, Statistics, MarkCritical, ClearCritical}
use Rattle.aps_scenario.specs.Key.{key_text}
use Rattle.aps_scenario.specs.Partitions.{row_budget, row_critical, row_max, system_name}
use Rattle.aps_scenario.specs.Row.{Row, row_integer, row_name, name, value_of, at_key, given_or_default, optional, some_of}
use Rattle.aps_scenario.specs.Sizes.{row_window, row_free, row_limit, row_bankruptcy}
use Rattle.aps_scenario.specs.Calls.{has_key, some_key, row_partition_name, thread_by_name, row_thread, create_at, modify_at, set_parameters_at, on_partition_at, on_thread_at, call_at}
use Rattle.aps_scenario.proofs.Trees.{or_unknown-ok, system_named}
use Rattle.aps_scenario.proofs.Values.{bind-ok, ok-same, refuse_if-ok, value_of-ok, named-ok, named_or-ok, required-ok, defaulted-ok, optional-ok, integer-ok, InRange}

-- ---- keys of which one has to be there

-- a value that may be absent is there where its key is
there : {A : Type 0} (row : Row A) (place : Place) (t : Members) (x : Option A) → has_key t row.key ≡ true → value_of (optional row) place t ≡ Ok x → IsSome x
there {A = A} row place t x has e = by_member (get_member (key_text row.key) t) has e
  where
    read : (d : Data) (r : Result A _) → at_key place row.key (some_of r) ≡ Ok x → IsSome x
    read d (Ok y) e = let same : Some y ≡ x = cc in subst IsSome same refl
    read d (Err kind) e = absurd (cc)

    by_member : (o : Option Data) → is_some o ≡ true → at_key place row.key (given_or_default (optional row) o) ≡ Ok x → IsSome x
    by_member None has e = absurd (cc)
    by_member (Some d) has e = read d (row.reads d) e

either_true : (a b : Bool) → (a || b) ≡ true → (a ≡ true) ⊎ (b ≡ true)
either_true true b e = inl refl
either_true false b e = inr e

not_false : (b : Bool) → not b ≡ false → b ≡ true
not_false true e = refl
not_false false e = absurd (cc)

-- a number that may be absent is in its range
ranged : (key : Key) (low high : ℕ) (default : Option ℕ) (place : Place) (t : Members) (x : Option ℕ)
    → value_of (optional (row_integer key low high 1 default)) place t ≡ Ok x → IfSome x (InRange low high 1)
ranged key low high default place t None e = tt
ranged key low high default place t (Some n) e =
    let p = optional-ok (row_integer key low high 1 default) place t n e in
    integer-ok low high 1 p.0 n p.1

module _ (parts : ℕ) (place : Place) (t : Members) (asked : Call) where
  -- what is known of the call of a command that creates a partition
  pub record IsCreated (threads : ℕ) : Type 0 where
    pub valid : IsCall parts threads asked
    pub named : (name : List ℕ) × (value_of (row_name Name None) place t ≡ Ok name) × (created_name asked ≡ Some name)

  pub create_at-ok : (threads : ℕ) → create_at parts place t ≡ Ok asked → IsCreated threads
  unfolding create_at
  create_at-ok threads e =
      let name = bind-ok (value_of (row_name Name None) place t) _ asked e in
      let parent = bind-ok (value_of (row_name Parent (Some system_name)) place t) _ asked name.2 in
      let budget = bind-ok (value_of (row_budget parts) place t) _ asked parent.2 in
      let critical = bind-ok (value_of row_critical place t) _ asked budget.2 in
      let max = bind-ok (value_of (row_max 0 parts) place t) _ asked critical.2 in
      let none : ℕ = 0 in
      let budget_range = required-ok Budget 0 parts 1 place t budget.0 budget.1 in
      let critical_range = defaulted-ok Critical 0 most_critical 1 none place t critical.0 (record { above = omega arith; below = omega arith; whole = refl }) critical.1 in
      let max_range = defaulted-ok Max 0 parts 1 parts place t max.0 (record { above = omega arith; below = omega arith; whole = omega arith }) max.1 in
      let found : Call = call.Create name.0 parent.0 budget.0 critical.0 max.0 in
      let same : found ≡ asked = ok-same found asked _ refl max.2 in
      record {
        valid = subst (IsCall parts threads) same (record {
          named = named-ok Name place t name.0 name.1;
          under = named_or-ok Parent system_name place t parent.0 system_named parent.1;
          few_parts = budget_range.below;
          short_critical = critical_range.below;
          max_parts = max_range.below;
        });
        named = (name.0, name.1, subst (λ (c : Call). created_name c ≡ Some name.0) same refl);
      }

  -- what is known of the call of any other command
  pub record IsOther (threads : ℕ) : Type 0 where
    pub valid : IsCall parts threads asked
    pub nameless : created_name asked ≡ None

  others : (threads : ℕ) (found : Call) → found ≡ asked → IsCall parts threads found → created_name found ≡ None → IsOther threads
  others threads found same valid nameless = record {
    valid = subst (IsCall parts threads) same valid;
    nameless = subst (λ (c : Call). created_name c ≡ None) same nameless;
  }

  modify_at-ok : (threads : ℕ) → modify_at parts place t ≡ Ok asked → IsOther threads
  unfolding modify_at
  modify_at-ok threads e =
      let partition = bind-ok (value_of row_partition_name place t) _ asked e in
      let some = bind-ok (some_key Budget (Critical ∷ Max ∷ []) place t) _ asked partition.2 in
      let budget = bind-ok (value_of (optional (row_budget parts)) place t) _ asked some.2 in
      let critical = bind-ok (value_of (optional row_critical) place t) _ asked budget.2 in
      let max = bind-ok (value_of (optional (row_max 0 parts)) place t) _ asked critical.2 in
      let found : Call = call.Modify partition.0 budget.0 critical.0 max.0 in
      let same : found ≡ asked = ok-same found asked _ refl max.2 in
      let any : (has_key t Budget || (has_key t Critical || (has_key t Max || false))) ≡ true =
      not_false _ (refuse_if-ok (not (has_key t Budget || (has_key t Critical || (has_key t Max || false)))) Missing place Budget some.0 some.1) in
      let one : IsSome budget.0 ⊎ IsSome critical.0 ⊎ IsSome max.0 =
      elim (either_true (has_key t Budget) _ any) [
        | inl first ↦ inl (there (row_budget parts) place t budget.0 first budget.1)
        | inr rest ↦ elim (either_true (has_key t Critical) _ rest) [
          | inl second ↦ inr (inl (there row_critical place t critical.0 second critical.1))
          | inr more ↦ elim (either_true (has_key t Max) _ more) [
            | inl third ↦ inr (inr (there (row_max 0 parts) place t max.0 third max.1))
            | inr none ↦ absurd (cc)
          ]
        ]
      ] in
      others threads found same (record {
        named = named-ok Partition place t partition.0 partition.1;
        some = one;
        few_parts = below budget.0 parts (ranged Budget 0 parts None place t budget.0 budget.1);
        short_critical = below critical.0 most_critical (ranged Critical 0 most_critical (Some 0) place t critical.0 critical.1);
        max_parts = below max.0 parts (ranged Max 0 parts (Some parts) place t max.0 max.1);
      }) refl
    where
      below : (x : Option ℕ) (high : ℕ) → IfSome x (InRange 0 high 1) → IfSome x (λ n. n ≤ high)
      below None high range = tt
      below (Some n) high range = range.below

  set_parameters_at-ok : (threads : ℕ) → set_parameters_at place t ≡ Ok asked → IsOther threads
  unfolding set_parameters_at
  set_parameters_at-ok threads e =
      let some = bind-ok (some_key Window (Free ∷ Limit ∷ Bankruptcy ∷ []) place t) _ asked e in
      let window = bind-ok (value_of (optional row_window) place t) _ asked some.2 in
      let free = bind-ok (value_of (optional row_free) place t) _ asked window.2 in
      let limit = bind-ok (value_of (optional row_limit) place t) _ asked free.2 in
      let bankruptcy = bind-ok (value_of (optional row_bankruptcy) place t) _ asked limit.2 in
      let found : Call = call.SetParameters window.0 free.0 limit.0 bankruptcy.0 in
      let same : found ≡ asked = ok-same found asked _ refl bankruptcy.2 in
      let any : (has_key t Window || (has_key t Free || (has_key t Limit || (has_key t Bankruptcy || false)))) ≡ true =
      not_false _ (refuse_if-ok (not (has_key t Window || (has_key t Free || (has_key t Limit || (has_key t Bankruptcy || false))))) Missing place Window some.0 some.1) in
      let one : IsSome window.0 ⊎ IsSome free.0 ⊎ IsSome limit.0 ⊎ IsSome bankruptcy.0 =
      elim (either_true (has_key t Window) _ any) [
        | inl first ↦ inl (there row_window place t window.0 first window.1)
        | inr rest ↦ elim (either_true (has_key t Free) _ rest) [
          | inl second ↦ inr (inl (there row_free place t free.0 second free.1))
          | inr more ↦ elim (either_true (has_key t Limit) _ more) [
            | inl third ↦ inr (inr (inl (there row_limit place t limit.0 third limit.1)))
            | inr last ↦ elim (either_true (has_key t Bankruptcy) _ last) [
              | inl fourth ↦ inr (inr (inr (there row_bankruptcy place t bankruptcy.0 fourth bankruptcy.1)))
              | inr none ↦ absurd (cc)
            ]
          ]
        ]
      ] in
      others threads found same (one, windowed window.0 (ranged Window shortest_window longest_window (Some 100) place t window.0 window.1)) refl
    where
      windowed : (x : Option ℕ) → IfSome x (InRange shortest_window longest_window 1) → IfSome x IsWindow
      windowed None range = tt
      windowed (Some n) range = record { long = range.above; short = range.below }

  on_partition_at-ok : (threads : ℕ) (make : List ℕ → Call) → ((partition : List ℕ) → IsName partition → IsCall parts threads (make partition))
      → ((partition : List ℕ) → created_name (make partition) ≡ None) → on_partition_at make place t ≡ Ok asked → IsOther threads
  on_partition_at-ok threads make valid nameless e =
      let partition = bind-ok (value_of row_partition_name place t) _ asked e in
      let same : make partition.0 ≡ asked = ok-same (make partition.0) asked _ refl partition.2 in
      others threads (make partition.0) same (valid partition.0 (named-ok Partition place t partition.0 partition.1)) (nameless partition.0)

  thread-ok : (threads : List ThreadRow) (x : ℕ) → value_of (row_thread threads) place t ≡ Ok x → x < length threads
  thread-ok threads x e =
      elim (value_of-ok (row_thread threads) place t x e) [
        | inl none ↦ absurd (cc)
        | inr p ↦
            let q = bind-ok (name p.0) _ x p.1 in
            let found = position-Some _ threads x no_thread_row (or_unknown-ok (thread_by_name threads q.0) x q.2) in
            found.0
      ]

  on_thread_at-ok : (threads : List ThreadRow) (make : ℕ → Call) → ((x : ℕ) → x < length threads → IsCall parts (length threads) (make x))
      → ((x : ℕ) → created_name (make x) ≡ None) → on_thread_at make threads place t ≡ Ok asked → IsOther (length threads)
  on_thread_at-ok threads make valid nameless e =
      let x = bind-ok (value_of (row_thread threads) place t) _ asked e in
      let same : make x.0 ≡ asked = ok-same (make x.0) asked _ refl x.2 in
      others (length threads) (make x.0) same (valid x.0 (thread-ok threads x.0 x.1)) (nameless x.0)

  -- a call of one kind or another
  abbrev pub IsReadCall : ℕ → CommandKind → Type 0
  IsReadCall threads Create = IsCreated threads
  IsReadCall threads kind = IsOther threads

  pub call_at-ok : (threads : List ThreadRow) (kind : CommandKind) → call_at parts threads kind place t ≡ Ok asked → IsReadCall (length threads) kind
  call_at-ok threads Create e = create_at-ok (length threads) e
  call_at-ok threads Modify e = modify_at-ok (length threads) e
  call_at-ok threads Lookup e = on_partition_at-ok (length threads) call.Lookup (λ partition named. named) (λ partition. refl) e
  call_at-ok threads QueryPartition e = on_partition_at-ok (length threads) call.QueryPartition (λ partition named. named) (λ partition. refl) e
  call_at-ok threads QueryThread e = on_thread_at-ok threads call.QueryThread (λ x within. within) (λ x. refl) e
  call_at-ok threads QueryParameters e = others (length threads) call.QueryParameters (ok-same call.QueryParameters asked _ refl e) tt refl
  call_at-ok threads SetParameters e = set_parameters_at-ok (length threads) e
  call_at-ok threads Statistics e = on_partition_at-ok (length threads) call.Statistics (λ partition named. named) (λ partition. refl) e
  call_at-ok threads MarkCritical e = on_thread_at-ok threads call.MarkCritical (λ x within. within) (λ x. refl) e
  call_at-ok threads ClearCritical e = on_thread_at-ok threads call.ClearCritical (λ x within. within) (λ x. refl) e
