-- The demands that are read have their ranges, and each its own name.
use Rattle.std.proofs.Common.{◌≡◌, ◌≢◌, ℕ, suc, ◌+◌, ◌≤◌, Bool, true, false, ◌||◌, List, [], ◌∷◌, length, map, None, Ok, refl, subst, ◌∙◌, arith, add-one, ap, length-append, All}
use Rattle.std.proofs.lemmas.List.{map-append}
use Rattle.std.proofs.lemmas.List.Elements.{All-append, All-nil, All-from_recursion}
use Rattle.std.proofs.lemmas.Map.Keys.{IsDistinct-push}
use Rattle.std.proofs.lemmas.Cmp.{nat_list_eq_equiv}
use Rattle.std.specs.List.{IsDistinct}
use Rattle.std.specs.Str.{bytes_eq}
use Rattle.toml.specs.Data.{Data, Members}
use Rattle.aps_model.specs.declared.demand.Demand.{Demand}
use Rattle.aps_model.specs.declared.shape.Shape.{Shape}
use Rattle.aps_model.specs.declared.shape.Free.TheVariants.{Priority}
use Rattle.aps_model.specs.declared.shape.Bankruptcy.TheVariants.{Basic}
use Rattle.aps_model.specs.Limits.{longest_tick, longest_window, microsecond, most_cpus, most_critical, most_demands, shortest_tick, shortest_window}
use Rattle.aps_model.specs.Shape.{IsShape}
use Rattle.aps_scenario.specs.declared.key.Key.TheVariants as key
use Rattle.aps_scenario.specs.declared.kind.Kind.TheVariants.{Duplicate}
use Rattle.aps_scenario.specs.declared.refusal.Place.{Place}
use Rattle.aps_scenario.specs.declared.refusal.Place.TheVariants as place
use Rattle.aps_scenario.specs.Demands.{AreDemands, IsNeed, sizes_at, demand_at, demands_read, next_demand, demands_with_new, demand_keys, row_need, is_taken, has_demand_named}
use Rattle.aps_scenario.specs.Elements.{items_len, row_tables}
use Rattle.aps_scenario.specs.Partitions.{system_name}
use Rattle.aps_scenario.specs.Row.{table_of, only, value_of, row_name, refuse_if}
use Rattle.aps_scenario.specs.Sizes.{parts_of, row_version, row_cpus, row_tick, row_window}
use Rattle.aps_scenario.proofs.Elements.{read_each-keeps, tables-ok}
use Rattle.aps_scenario.proofs.Lists.{list_any-map}
use Rattle.aps_scenario.proofs.Shapes.{parts_of-either}
use Rattle.aps_scenario.proofs.Values.{bind-ok, ok-same, required-ok, defaulted-ok, refuse_if-ok}

pub sizes_at-ok : (t : Members) (shape : Shape) → sizes_at t ≡ Ok shape → IsShape shape
unfolding sizes_at
sizes_at-ok t shape e =
    let version = bind-ok (value_of row_version place.Top t) _ shape e in
    let cpus = bind-ok (value_of row_cpus place.Top t) _ shape version.2 in
    let tick = bind-ok (value_of row_tick place.Top t) _ shape cpus.2 in
    let window = bind-ok (value_of row_window place.Top t) _ shape tick.2 in
    let found : Shape = record {
      parts = parts_of version.0;
      cpus = cpus.0;
      tick = tick.0;
      window = window.0;
      ticks = 1;
      call_ns = 1000;
      free = Priority;
      limit = false;
      bankruptcy = Basic;
    } in
    let same : found ≡ shape = ok-same found shape _ refl window.2 in
    let million : ℕ = 1000000 in
    let hundred : ℕ = 100 in
    let cpus_range = required-ok key.Cpus 1 most_cpus 1 place.Top t cpus.0 cpus.1 in
    let tick_range = defaulted-ok key.Tick shortest_tick longest_tick microsecond million place.Top t tick.0 (record { above = omega arith; below = omega arith; whole = refl }) tick.1 in
    let window_range = defaulted-ok key.Window shortest_window longest_window 1 hundred place.Top t window.0 (record { above = omega arith; below = omega arith; whole = refl }) window.1 in
    subst IsShape same (record {
      parts = parts_of-either version.0;
      some_cpu = cpus_range.above;
      few_cpus = cpus_range.below;
      tick_long = tick_range.above;
      tick_short = tick_range.below;
      tick_whole = tick_range.whole;
      window_long = window_range.above;
      window_short = window_range.below;
      some_tick = omega arith;
      few_ticks = omega arith;
      some_call = omega arith;
      short_call = omega arith;
    })

neither : (a b : Bool) → (a || b) ≡ false → (a ≡ false) × (b ≡ false)
neither true b h = absurd (cc)
neither false b h = (refl, h)

-- what is known of a demand that was read, over these demands
record IsNew (demands : List Demand) (new : Demand) : Type 0 where
  pub need : IsNeed new
  pub system : new.name ≢ system_name
  pub other : has_demand_named demands new.name ≡ false

next_demand-ok : (demands : List Demand) (d : Data) (new : Demand) → next_demand demands d ≡ Ok new → IsNew demands new
unfolding demand_at
next_demand-ok demands d new e =
    let here : Place = place.Demand (length demands) in
    let p = bind-ok (table_of here d) _ new e in
    let q = bind-ok (only demand_keys here p.0) _ new p.2 in
    let name = bind-ok (value_of (row_name key.Name None) here p.0) _ new q.2 in
    let other = bind-ok (refuse_if (is_taken demands name.0) Duplicate here key.Name) _ new name.2 in
    let need = bind-ok (value_of row_need here p.0) _ new other.2 in
    let found : Demand = record { name = name.0; need = need.0 } in
    let same : found ≡ new = ok-same found new _ refl need.2 in
    let range = required-ok key.Need 0 most_critical 1 here p.0 need.0 need.1 in
    let apart = neither (bytes_eq name.0 system_name) (has_demand_named demands name.0) (refuse_if-ok _ _ _ _ other.0 other.1) in
    let is_new : IsNew demands found = record { need = range.below; system = differs name.0 apart.0; other = apart.1 } in
    subst (IsNew demands) same is_new
  where
    differs : (name : List ℕ) → bytes_eq name system_name ≡ false → name ≢ system_name
    differs name apart same = let alike : bytes_eq name system_name ≡ true = rw same refl in absurd (cc)

-- the demands so far, of which there are n
record AreRead (n : ℕ) (demands : List Demand) : Type 0 where
  pub count : length demands ≡ n
  pub needs : All IsNeed demands
  pub distinct : IsDistinct bytes_eq (map (λ (demand : Demand). demand.name) demands)
  pub others : All (λ (demand : Demand). demand.name ≢ system_name) demands

more : (n : ℕ) (demands : List Demand) (new : Demand) → AreRead n demands → IsNew demands new → AreRead (suc n) (demands_with_new demands new)
more n demands new read is_new = record {
  count = length-append demands (new ∷ []) ∙ add-one (length demands) ∙ ap (λ m. suc m) read.count;
  needs = All-append IsNeed demands (new ∷ []) read.needs (All-from_recursion IsNeed (new ∷ []) (is_new.need, tt));
  distinct = rw (map-append (λ (demand : Demand). demand.name) demands (new ∷ []))
      (IsDistinct-push nat_list_eq_equiv (map (λ (demand : Demand). demand.name) demands) new.name read.distinct
      (list_any-map (bytes_eq new.name) (λ (demand : Demand). demand.name) demands ∙ is_new.other));
  others = All-append (λ (demand : Demand). demand.name ≢ system_name) demands (new ∷ []) read.others
      (All-from_recursion (λ (demand : Demand). demand.name ≢ system_name) (new ∷ []) (is_new.system, tt));
}

-- what is read is valid
pub AreDemands-from_parts : (t : Members) (shape : Shape) (demands : List Demand) → sizes_at t ≡ Ok shape → demands_read t ≡ Ok demands
    → AreDemands (record { shape = shape; demands = demands })
unfolding IsDistinct demands_read
AreDemands-from_parts t shape demands sizes e =
    let elements = bind-ok (value_of (row_tables key.Demand most_demands) place.Top t) _ demands e in
    let few : items_len elements.0 ≤ most_demands = tables-ok key.Demand most_demands place.Top t elements.0 elements.1 in
    let none : AreRead 0 [] = record { count = refl; needs = All-nil IsNeed; distinct = tt; others = All-nil (λ (demand : Demand). demand.name ≢ system_name) } in
    let read : AreRead (0 + items_len elements.0) demands =
    read_each-keeps next_demand demands_with_new AreRead (λ n so_far d new before step. more n so_far new before (next_demand-ok so_far d new step)) elements.0 0 [] demands none elements.2 in
    let count : length demands ≡ 0 + items_len elements.0 = read.count in
    record { shape = sizes_at-ok t shape sizes; few = omega arith; needs = read.needs; names = read.distinct; others = read.others }
