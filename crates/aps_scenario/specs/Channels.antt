-- The channels of the top table.
use Rattle.std.specs.Prelude.{ℕ, Bool, List, [], ◌∷◌, ◌++◌, length, None, Result, Ok}
use Rattle.std.specs.List.{list_any}
use Rattle.std.specs.Str.{bytes_eq}
use Rattle.aps_model.specs.Limits.{most_channels}
use Rattle.toml.specs.Data.{Data, Items, Members}
use Rattle.aps_scenario.specs.declared.key.Key.{Key}
use Rattle.aps_scenario.specs.declared.key.Key.TheVariants.{Channel, Name}
use Rattle.aps_scenario.specs.declared.kind.Kind.TheVariants.{Duplicate}
use Rattle.aps_scenario.specs.declared.refusal.Finding.{Finding}
use Rattle.aps_scenario.specs.declared.refusal.Place.{Place}
use Rattle.aps_scenario.specs.declared.refusal.Place.TheVariants as place
use Rattle.aps_scenario.specs.Elements.{row_tables, read_each}
use Rattle.aps_scenario.specs.Row.{◌>>=◌, row_name, value_of, only, table_of, refuse_if}

abbrev pub channel_keys : List Key
channel_keys = Name ∷ []

-- the name is one of these
abbrev pub is_name_among : List (List ℕ) → List ℕ → Bool
is_name_among names name = list_any (λ (other : List ℕ). bytes_eq name other) names

-- a channel at this place, after these ones
unfoldable pub channel_read_at : List (List ℕ) → Place → Data → Result (List ℕ) Finding
channel_read_at channels place d = do
  t ← table_of place d
  known ← only channel_keys place t
  name ← value_of (row_name Name None) place t
  new ← refuse_if (is_name_among channels name) Duplicate place Name
  Ok name

abbrev pub next_channel : List (List ℕ) → Data → Result (List ℕ) Finding
next_channel channels d = channel_read_at channels (place.Channel (length channels)) d

abbrev pub channels_with_new : List (List ℕ) → List ℕ → List (List ℕ)
channels_with_new channels new = channels ++ new ∷ []

-- the channels after these elements
abbrev pub channels_from : List (List ℕ) → Items → Result (List (List ℕ)) Finding
channels_from = read_each next_channel channels_with_new

unfoldable pub channels_at : Members → Result (List (List ℕ)) Finding
channels_at t = do
  elements ← value_of (row_tables Channel most_channels) place.Top t
  channels_from [] elements
