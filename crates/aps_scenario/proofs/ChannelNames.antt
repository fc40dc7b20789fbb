-- The channels that are read are names, each of its own.
use Rattle.std.proofs.Common.{◌≡◌, ℕ, suc, ◌+◌, ◌≤◌, false, List, [], ◌∷◌, length, None, Ok, refl, subst, ◌∙◌, arith, add-one, ap, length-append, All}
use Rattle.std.proofs.lemmas.List.Elements.{All-append, All-nil, All-from_recursion}
use Rattle.std.proofs.lemmas.Map.Keys.{IsDistinct-push}
use Rattle.std.proofs.lemmas.Cmp.{nat_list_eq_equiv}
use Rattle.std.specs.List.{IsDistinct}
use Rattle.std.specs.Str.{bytes_eq}
use Rattle.aps_model.specs.Limits.{most_channels}
use Rattle.toml.specs.Data.{Data, Members}
use Rattle.aps_model.specs.Name.{IsName}
use Rattle.aps_scenario.specs.declared.key.Key.TheVariants.{Channel, Name}
use Rattle.aps_scenario.specs.declared.kind.Kind.TheVariants.{Duplicate}
use Rattle.aps_scenario.specs.declared.refusal.Place.{Place}
use Rattle.aps_scenario.specs.declared.refusal.Place.TheVariants as place
use Rattle.aps_scenario.specs.Row.{table_of, only, value_of, row_name, refuse_if}
use Rattle.aps_scenario.specs.Elements.{items_len, row_tables}
use Rattle.aps_scenario.specs.Channels.{channel_read_at, channels_at, next_channel, channels_with_new, channel_keys, is_name_among}
use Rattle.aps_scenario.proofs.Values.{bind-ok, ok-same, refuse_if-ok, named-ok}
use Rattle.aps_scenario.proofs.Elements.{read_each-keeps, tables-ok}

-- what is known of a channel that was read, over these channels
record IsNew (channels : List (List ℕ)) (new : List ℕ) : Type 0 where
  pub name : IsName new
  pub other : is_name_among channels new ≡ false

next_channel-ok : (channels : List (List ℕ)) (d : Data) (new : List ℕ) → next_channel channels d ≡ Ok new → IsNew channels new
unfolding channel_read_at
next_channel-ok channels d new e =
    let here : Place = place.Channel (length channels) in
    let p = bind-ok (table_of here d) _ new e in
    let q = bind-ok (only channel_keys here p.0) _ new p.2 in
    let name = bind-ok (value_of (row_name Name None) here p.0) _ new q.2 in
    let other = bind-ok (refuse_if (is_name_among channels name.0) Duplicate here Name) _ new name.2 in
    let same : name.0 ≡ new = ok-same name.0 new _ refl other.2 in
    subst (IsNew channels) same (record { name = named-ok Name _ p.0 name.0 name.1; other = refuse_if-ok _ _ _ _ other.0 other.1 })

-- the channels so far, of which there are n
record AreRead (n : ℕ) (channels : List (List ℕ)) : Type 0 where
  pub count : length channels ≡ n
  pub each : All IsName channels
  pub distinct : IsDistinct bytes_eq channels

more : (n : ℕ) (channels : List (List ℕ)) (new : List ℕ) → AreRead n channels → IsNew channels new → AreRead (suc n) (channels_with_new channels new)
more n channels new read is_new = record {
  count = length-append channels (new ∷ []) ∙ add-one (length channels) ∙ ap (λ m. suc m) read.count;
  each = All-append IsName channels (new ∷ []) read.each (All-from_recursion IsName (new ∷ []) (is_new.name, tt));
  distinct = IsDistinct-push nat_list_eq_equiv channels new read.distinct is_new.other;
}

pub record AreChannels (channels : List (List ℕ)) : Type 0 where
  pub few : length channels ≤ most_channels
  pub each : All IsName channels
  pub distinct : IsDistinct bytes_eq channels

pub channels_at-ok : (t : Members) (channels : List (List ℕ)) → channels_at t ≡ Ok channels → AreChannels channels
unfolding IsDistinct channels_at
channels_at-ok t channels e =
    let elements = bind-ok (value_of (row_tables Channel most_channels) place.Top t) _ channels e in
    let few : items_len elements.0 ≤ most_channels = tables-ok Channel most_channels place.Top t elements.0 elements.1 in
    let none : AreRead 0 [] = record { count = refl; each = All-nil IsName; distinct = tt } in
    let read : AreRead (0 + items_len elements.0) channels =
    read_each-keeps next_channel channels_with_new AreRead (λ n so_far d new before read. more n so_far new before (next_channel-ok so_far d new read)) elements.0 0 [] channels none elements.2 in
    let count : length channels ≡ 0 + items_len elements.0 = read.count in
    record { few = omega arith; each = read.each; distinct = read.distinct }
