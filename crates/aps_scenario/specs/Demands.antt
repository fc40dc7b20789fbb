-- Demands of processor time, and the text that states them.
use Rattle.std.specs.Prelude.{ℕ, ◌≤◌, ◌≢◌, false, Bool, ◌||◌, List, [], ◌∷◌, ◌++◌, length, map, All, None, Result, Ok}
use Rattle.std.specs.List.{list_any, IsDistinct}
use Rattle.std.specs.Str.{bytes_eq}
use Rattle.toml.specs.Data.{Data, Items, Members}
use Rattle.aps_model.specs.declared.demand.Demand.{Demand}
use Rattle.aps_model.specs.declared.shape.Shape.{Shape}
use Rattle.aps_model.specs.declared.shape.Free.TheVariants.{Priority}
use Rattle.aps_model.specs.declared.shape.Bankruptcy.TheVariants.{Basic}
use Rattle.aps_model.specs.Shape.{IsShape}
use Rattle.aps_scenario.specs.declared.key.Key.{Key}
use Rattle.aps_scenario.specs.declared.key.Key.TheVariants as key
use Rattle.aps_scenario.specs.declared.kind.Kind.TheVariants.{Duplicate}
use Rattle.aps_scenario.specs.declared.refusal.Finding.{Finding}
use Rattle.aps_scenario.specs.declared.refusal.Place.{Place}
use Rattle.aps_scenario.specs.declared.refusal.Place.TheVariants as place
use Rattle.aps_scenario.specs.Document.{document_reads}
use Rattle.aps_scenario.specs.Elements.{row_tables, read_each}
use Rattle.aps_scenario.specs.Partitions.{system_name}
use Rattle.aps_scenario.specs.Refusal.{Refusal}
use Rattle.aps_scenario.specs.Row.{◌>>=◌, Row, row_integer, row_name, value_of, only, table_of, refuse_if}
use Rattle.aps_scenario.specs.Sizes.{parts_of, row_version, row_cpus, row_tick, row_window}
use Rattle.aps_model.specs.Limits.{most_critical, most_demands}

-- demands, and the shape of a scenario that is to meet them
pub record Demands : Type 0 where
  pub shape : Shape
  pub demands : List Demand

-- the most that can be asked is all time of the longest window on all processors
abbrev pub IsNeed : Demand → Type 0
IsNeed demand = demand.need ≤ most_critical

-- every number and list has its range, and each name is one of its own
pub record AreDemands (d : Demands) : Type 0 where
  pub shape : IsShape d.shape
  pub few : length d.demands ≤ most_demands
  pub needs : All IsNeed d.demands
  pub names : IsDistinct bytes_eq (map (λ (demand : Demand). demand.name) d.demands)
  pub others : All (λ (demand : Demand). demand.name ≢ system_name) d.demands

-- ---- what the top table of a document states

abbrev pub demand_top_keys : List Key
demand_top_keys = key.Version ∷ key.Cpus ∷ key.Tick ∷ key.Window ∷ key.Demand ∷ []

-- the sizes that are given; the others are those of the shortest scenario, and policies are the default ones
unfoldable pub sizes_at : Members → Result Shape Finding
sizes_at t = do
  version ← value_of row_version place.Top t
  cpus ← value_of row_cpus place.Top t
  tick ← value_of row_tick place.Top t
  window ← value_of row_window place.Top t
  Ok (record {
    parts = parts_of version;
    cpus = cpus;
    tick = tick;
    window = window;
    ticks = 1;
    call_ns = 1000;
    free = Priority;
    limit = false;
    bankruptcy = Basic;
  })

abbrev pub demand_keys : List Key
demand_keys = key.Name ∷ key.Need ∷ []

abbrev pub row_need : Row ℕ
row_need = row_integer key.Need 0 most_critical 1 None

-- the name is that of one of these
abbrev pub has_demand_named : List Demand → List ℕ → Bool
has_demand_named demands name = list_any (λ (demand : Demand). bytes_eq name demand.name) demands

-- the name is that of the root, or of one of these
abbrev pub is_taken : List Demand → List ℕ → Bool
is_taken demands name = bytes_eq name system_name || has_demand_named demands name

-- a demand at this place, after these ones
unfoldable pub demand_at : List Demand → Place → Data → Result Demand Finding
demand_at demands place d = do
  t ← table_of place d
  known ← only demand_keys place t
  name ← value_of (row_name key.Name None) place t
  new ← refuse_if (is_taken demands name) Duplicate place key.Name
  need ← value_of row_need place t
  Ok (record { name = name; need = need })

abbrev pub next_demand : List Demand → Data → Result Demand Finding
next_demand demands d = demand_at demands (place.Demand (length demands)) d

abbrev pub demands_with_new : List Demand → Demand → List Demand
demands_with_new demands new = demands ++ new ∷ []

-- the demands after these elements
abbrev pub demands_from : List Demand → Items → Result (List Demand) Finding
demands_from = read_each next_demand demands_with_new

unfoldable pub demands_read : Members → Result (List Demand) Finding
demands_read t = do
  elements ← value_of (row_tables key.Demand most_demands) place.Top t
  demands_from [] elements

-- what a document's top table asks, or the first part that breaks a rule
unfoldable pub demands_at : Members → Result Demands Finding
demands_at t = do
  known ← only demand_top_keys place.Top t
  shape ← sizes_at t
  demands ← demands_read t
  Ok (record { shape = shape; demands = demands })

-- what these bytes ask, or why they ask nothing
abbrev pub reads_demands : List ℕ → Result Demands Refusal
reads_demands bytes = document_reads demands_at bytes
