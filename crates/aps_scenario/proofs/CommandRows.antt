-- The commands that are read are commands of a scenario, and give the names that a program may join.
use Rattle.std.proofs.Common.{◌≡◌, ℕ, suc, ◌+◌, ◌-◌, ◌<◌, ◌≤◌, ◌++◌, ◌&&◌, nat_le, List, [], ◌∷◌, length, Option, Some, None, Result, Ok, Err, refl, ap, sym, subst, ◌∙◌, arith, add-one, length-append, append_assoc, All}
use Rattle.std.proofs.lemmas.List.{append-nil}
use Rattle.std.proofs.lemmas.List.Elements.{All-append, All-nil, All-from_recursion, filter_map-append}
use Rattle.std.specs.List.{filter_map}
use Rattle.toml.specs.Data.{Data, Items, no_items, item, Members, get_member, as_array, as_table}
use Rattle.aps_model.specs.declared.command.CommandRow.{CommandRow}
use Rattle.aps_model.specs.declared.scenario.ThreadRow.{ThreadRow}
use Rattle.aps_model.specs.declared.shape.Shape.{Shape}
use Rattle.aps_model.specs.Limits.{most_commands}
use Rattle.aps_model.specs.Valid.{IsCommand, created_name as created_by}
use Rattle.aps_scenario.specs.declared.key.Key.TheVariants.{Command, Name, Tick}
use Rattle.aps_scenario.specs.declared.kind.Kind.{Kind}
use Rattle.aps_scenario.specs.declared.kind.Kind.TheVariants.{OutOfRange}
use Rattle.aps_scenario.specs.declared.refusal.Place.{Place}
use Rattle.aps_scenario.specs.declared.refusal.Place.TheVariants as place
use Rattle.aps_scenario.specs.declared.words.CommandKind.{CommandKind}
use Rattle.aps_scenario.specs.declared.words.CommandKind.TheVariants.{Create, Modify, Lookup, QueryPartition, QueryThread, QueryParameters, SetParameters, Statistics, MarkCritical, ClearCritical}
use Rattle.aps_scenario.specs.Calls.{command_keys, call_at}
use Rattle.aps_scenario.specs.Commands.{command_read_at, next_command, commands_with_new, commands_at, row_command_tick, row_kind}
use Rattle.aps_scenario.specs.Elements.{read_each, items_len, items_or_none, array_of, row_tables}
use Rattle.aps_scenario.specs.Joinable.{ok_of, then_of, command_kind, own_name, where_create, name_to_create, created_names, commands_in, created_at, name_listed}
use Rattle.aps_scenario.specs.Key.{key_text}
use Rattle.aps_scenario.specs.Row.{Row, table_of, table_or_wrong_kind, only, value_of, at_key, given_or_default, row_name, or_wrong_kind}
use Rattle.aps_scenario.proofs.CallRanges.{IsOther, IsReadCall, call_at-ok}
use Rattle.aps_scenario.proofs.Elements.{read_each-keeps, tables-ok}
use Rattle.aps_scenario.proofs.Values.{bind-ok, ok-same, cond-ok, required-ok}

-- a value that has to be there is what the look-up finds
required : {A : Type 0} (row : Row A) (place : Place) (t : Members) (x : A) → row.default ≡ None → value_of row place t ≡ Ok x
    → then_of (get_member (key_text row.key) t) (λ d. ok_of (row.reads d)) ≡ Some x
required {A = A} row place t x none e = by_member (get_member (key_text row.key) t) e
  where
    read : (r : Result A Kind) → at_key place row.key r ≡ Ok x → ok_of r ≡ Some x
    read (Ok y) e = let same : y ≡ x = cc in ap (λ z. Some z) same
    read (Err kind) e = absurd (cc)

    by_member : (o : Option Data) → at_key place row.key (given_or_default row o) ≡ Ok x → then_of o (λ d. ok_of (row.reads d)) ≡ Some x
    by_member None e = absurd (let missing = rw none at e in cc)
    by_member (Some d) e = read (row.reads d) e

table_of-ok : (place : Place) (d : Data) (t : Members) → table_of place d ≡ Ok t → as_table d ≡ Some t
table_of-ok place d t e = by_table (as_table d) e
  where
    by_table : (o : Option Members) → table_or_wrong_kind place o ≡ Ok t → o ≡ Some t
    by_table None e = absurd (cc)
    by_table (Some u) e = let same : u ≡ t = cc in ap (λ v. Some v) same

module _ (shape : Shape) (threads : List ThreadRow) (some_tick : 1 ≤ shape.ticks) where
  abbrev IsOne : CommandRow → Type 0
  IsOne = IsCommand shape.parts shape.ticks (length threads)

  -- what is known of a command that was read from an element
  record IsNew (d : Data) (row : CommandRow) : Type 0 where
    pub valid : IsOne row
    pub named : name_to_create d ≡ created_by row.call

  other : (place : Place) (t : Members) (d : Data) (kind : CommandKind) (row : CommandRow) → as_table d ≡ Some t → row.tick < shape.ticks
      → command_kind t ≡ Some kind → where_create (Some kind) (own_name t) ≡ None → IsOther shape.parts place t row.call (length threads) → IsNew d row
  other place t d kind row table within named nameless read = record {
    valid = record { tick = within; call = read.valid };
    named = ap (λ o. then_of o (λ u. where_create (command_kind u) (own_name u))) table ∙ ap (λ k. where_create k (own_name t)) named ∙ nameless ∙ sym read.nameless;
  }

  -- by the kind of the command, from its table
  by_kind : (place : Place) (t : Members) (d : Data) (kind : CommandKind) (row : CommandRow) → as_table d ≡ Some t → row.tick < shape.ticks
      → command_kind t ≡ Some kind → IsReadCall shape.parts place t row.call (length threads) kind → IsNew d row
  by_kind place t d Create row table within kind read =
      let named = read.named in
      let own : own_name t ≡ Some named.0 = required (row_name Name None) place t named.0 refl named.1 in
      record {
        valid = record { tick = within; call = read.valid };
        named = ap (λ o. then_of o (λ u. where_create (command_kind u) (own_name u))) table ∙ ap (λ k. where_create k (own_name t)) kind ∙ own ∙ sym named.2;
      }
  by_kind place t d Modify row table within kind read = other place t d Modify row table within kind refl read
  by_kind place t d Lookup row table within kind read = other place t d Lookup row table within kind refl read
  by_kind place t d QueryPartition row table within kind read = other place t d QueryPartition row table within kind refl read
  by_kind place t d QueryThread row table within kind read = other place t d QueryThread row table within kind refl read
  by_kind place t d QueryParameters row table within kind read = other place t d QueryParameters row table within kind refl read
  by_kind place t d SetParameters row table within kind read = other place t d SetParameters row table within kind refl read
  by_kind place t d Statistics row table within kind read = other place t d Statistics row table within kind refl read
  by_kind place t d MarkCritical row table within kind read = other place t d MarkCritical row table within kind refl read
  by_kind place t d ClearCritical row table within kind read = other place t d ClearCritical row table within kind refl read

  next_command-ok : (commands : List CommandRow) (d : Data) (row : CommandRow) → next_command shape threads commands d ≡ Ok row → IsNew d row
  unfolding command_read_at
  next_command-ok commands d row e =
      let here : Place = place.Command (length commands) in
      let t = bind-ok (table_of here d) _ row e in
      let known = bind-ok (only (command_keys (command_kind t.0)) here t.0) _ row t.2 in
      let tick = bind-ok (value_of (row_command_tick shape.ticks) here t.0) _ row known.2 in
      let kind = bind-ok (value_of row_kind here t.0) _ row tick.2 in
      let asked = bind-ok (call_at shape.parts threads kind.0 here t.0) _ row kind.2 in
      let found : CommandRow = record { tick = tick.0; call = asked.0 } in
      let same : found ≡ row = ok-same found row _ refl asked.2 in
      let range = required-ok Tick 0 (shape.ticks - 1) 1 here t.0 tick.0 tick.1 in
      let within : tick.0 < shape.ticks = omega (arith, range.below, some_tick) in
      subst (IsNew d) same (by_kind here t.0 d kind.0 found (table_of-ok here d t.0 t.1) within (required row_kind here t.0 kind.0 refl kind.1)
      (call_at-ok shape.parts here t.0 asked.0 threads kind.0 asked.1))

  -- the commands so far, of which there are n
  record AreRead (n : ℕ) (commands : List CommandRow) : Type 0 where
    pub count : length commands ≡ n
    pub each : All IsOne commands

  more : (n : ℕ) (commands : List CommandRow) (d : Data) (row : CommandRow) → AreRead n commands → IsNew d row → AreRead (suc n) (commands_with_new commands row)
  more n commands d row read is_new = record {
    count = length-append commands (row ∷ []) ∙ add-one (length commands) ∙ ap (λ m. suc m) read.count;
    each = All-append IsOne commands (row ∷ []) read.each (All-from_recursion IsOne (row ∷ []) (is_new.valid, tt));
  }

  abbrev names_of : List CommandRow → List (List ℕ)
  names_of = filter_map (λ (row : CommandRow). created_by row.call)

  one_name : (row : CommandRow) → names_of (row ∷ []) ≡ name_listed (created_by row.call)
  one_name row = by_option (created_by row.call) refl
    where
      by_option : (o : Option (List ℕ)) → created_by row.call ≡ o → names_of (row ∷ []) ≡ name_listed (created_by row.call)
      by_option None e = rw e refl
      by_option (Some name) e = rw e refl

  -- the commands that are read give the names that their elements would give
  names_read : (items : Items) (so_far commands : List CommandRow) → read_each (next_command shape threads) commands_with_new so_far items ≡ Ok commands
      → names_of commands ≡ names_of so_far ++ created_names items
  unfolding read_each
  names_read no_items so_far commands e = let same : so_far ≡ commands = cc in ap names_of (sym same) ∙ sym (append-nil (names_of so_far))
  names_read (item d rest) so_far commands e =
      let new = bind-ok (next_command shape threads so_far d) _ commands e in
      let is_new : IsNew d new.0 = next_command-ok so_far d new.0 new.1 in
      let added : names_of (so_far ++ new.0 ∷ []) ≡ names_of so_far ++ name_listed (name_to_create d) =
      filter_map-append (λ (row : CommandRow). created_by row.call) so_far (new.0 ∷ []) ∙ ap (λ names. names_of so_far ++ names) (one_name new.0 ∙ ap name_listed (sym is_new.named)) in
      names_read rest (so_far ++ new.0 ∷ []) commands new.2 ∙ ap (λ names. names ++ created_names rest) added
      ∙ append_assoc (names_of so_far) (name_listed (name_to_create d)) (created_names rest)

  pub record AreCommands (t : Members) (commands : List CommandRow) : Type 0 where
    pub few : length commands ≤ most_commands
    pub each : All IsOne commands
    pub names : created_at t ≡ names_of commands

  -- the array of commands, as it is looked at for names
  array_in : (t : Members) (items : Items) → value_of (row_tables Command most_commands) place.Top t ≡ Ok items → items_or_none (commands_in t) ≡ items
  array_in t items e = by_member (get_member (key_text Command) t) e
    where
      or_wrong : (o : Option Items) (x : Items) → or_wrong_kind o ≡ Ok x → o ≡ Some x
      or_wrong None x e = absurd (cc)
      or_wrong (Some y) x e = cc

      ok_at : (r : Result Items Kind) → at_key place.Top Command r ≡ Ok items → r ≡ Ok items
      ok_at (Ok x) e = cc
      ok_at (Err kind) e = absurd (cc)

      by_array : (d : Data) → array_of 0 most_commands d ≡ Ok items → items_or_none (as_array d) ≡ items
      by_array d e =
          let p = bind-ok (or_wrong_kind (as_array d)) _ items e in
          let q = cond-ok (nat_le 0 (items_len p.0) && nat_le (items_len p.0) most_commands) p.0 items OutOfRange p.2 in
          ap items_or_none (or_wrong (as_array d) p.0 p.1) ∙ q.1

      by_member : (o : Option Data) → at_key place.Top Command (given_or_default (row_tables Command most_commands) o) ≡ Ok items → items_or_none (then_of o as_array) ≡ items
      by_member None e = cc
      by_member (Some d) e = by_array d (ok_at (array_of 0 most_commands d) e)

  pub commands_at-ok : (t : Members) (commands : List CommandRow) → commands_at shape threads t ≡ Ok commands → AreCommands t commands
  unfolding commands_at
  commands_at-ok t commands e =
      let elements = bind-ok (value_of (row_tables Command most_commands) place.Top t) _ commands e in
      let few : items_len elements.0 ≤ most_commands = tables-ok Command most_commands place.Top t elements.0 elements.1 in
      let none : AreRead 0 [] = record { count = refl; each = All-nil IsOne } in
      let read : AreRead (0 + items_len elements.0) commands =
      read_each-keeps (next_command shape threads) commands_with_new AreRead
      (λ n so_far d new before step. more n so_far d new before (next_command-ok so_far d new step)) elements.0 0 [] commands none elements.2 in
      let count : length commands ≡ 0 + items_len elements.0 = read.count in
      record {
        few = omega arith;
        each = read.each;
        names = ap created_names (array_in t elements.0 elements.1) ∙ sym (names_read elements.0 [] commands elements.2);
      }
