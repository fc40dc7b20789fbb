use Rattle.std.proofs.Common.{ℕ, ◌+◌, ◌*◌, List, Bool, true, false, Option, Some, None, length, take, slice_index_or}
use Rattle.std.specs.Prelude.{◌&&◌, ◌||◌, not, nat_eq, nat_le}
use Rattle.std.specs.List.{list_all, range_with_len}
use Rattle.std.specs.Option.{option_map}
use Rattle.aps_model.specs.declared.entry.Entry.{Entry}
use Rattle.aps_model.specs.declared.entry.Done.TheVariants.{Nothing}
use Rattle.aps_model.specs.Shape.{whole}
use Rattle.aps_model.specs.Partition.{row_or_none}
use Rattle.aps_model.specs.Scenario.{Scenario}
use Rattle.aps_model.specs.SchedulerState.{SchedulerState}
use Rattle.aps_model.specs.Usage.{used}
use Rattle.aps_model.specs.Due.{last_end, next_boundary}
use Rattle.aps_model.specs.After.{state_after}
use Rattle.aps_model.specs.Tiled.{last_pick, inherited_last}
use Rattle.aps_model.specs.Loaded.{finished_ticks, is_steady, state_of_tick}
use Rattle.aps_model.specs.Bound.{slack, others_slack}
use Rattle.worked_proofs.proofs.Line.{line}

-- the facts of Tiled and of the window bound, as tests, so that a history can be tried by computing

abbrev same_option : Option ℕ → Option ℕ → Bool
same_option None None = true
same_option (Some a) (Some b) = nat_eq a b
same_option a b = false

abbrev entry_at : List Entry → ℕ → Entry
entry_at h k = slice_index_or h k (line 0 0 0 None None false Nothing None None None)

abbrev follows_on : ℕ → List Entry → Entry → Bool
follows_on tick before e =
    nat_eq e.from (last_end before e.cpu) && nat_le e.from e.to && nat_le e.to (next_boundary tick e.from)

abbrev bills_as_inherited : Scenario → List Entry → Entry → Bool
bills_as_inherited scenario before e =
    same_option e.ran (last_pick before e.cpu)
    && same_option e.billed (option_map (inherited_last scenario before e.cpu) e.ran)

abbrev pub is_tiled : Scenario → List Entry → Bool
is_tiled scenario h =
    list_all (λ k. follows_on scenario.shape.tick (take k h) (entry_at h k)) (range_with_len 0 (length h))

abbrev pub is_billed_as_inherited : Scenario → List Entry → Bool
is_billed_as_inherited scenario h =
    list_all (λ k. bills_as_inherited scenario (take k h) (entry_at h k)) (range_with_len 0 (length h))

abbrev is_within_budget : SchedulerState → List Entry → ℕ → ℕ → Bool
is_within_budget s h a p =
    nat_le (s.shape.parts * used s.shape.tick h p a (a + s.shape.window))
    ((row_or_none s.rows p).budget * whole s.shape + s.shape.parts * slack s.shape s.rows h a p)
    && nat_le ((row_or_none s.rows p).budget * whole s.shape)
    (s.shape.parts * used s.shape.tick h p a (a + s.shape.window) + s.shape.parts * others_slack s.shape s.rows h a p)

abbrev keeps_from : Scenario → List Entry → ℕ → SchedulerState → Bool
keeps_from scenario h a s =
    not (nat_le (a + s.shape.window) (finished_ticks scenario.shape h))
    || not (is_steady scenario.shape.tick h (state_after scenario h).changes a (a + s.shape.window))
    || list_all (is_within_budget s h a) (range_with_len 0 (length s.rows))

abbrev pub keeps_window_bound : Scenario → List Entry → Bool
keeps_window_bound scenario h =
    list_all (λ a. keeps_from scenario h a (state_of_tick scenario h a)) (range_with_len 0 (finished_ticks scenario.shape h))
