-- Lives that grow: what each thread has been doing of late stands aside, until the thread does something else.
use Rattle.std.specs.Prelude.{◌≡◌, ℕ, ◌<◌, List, [], length, map, slice_index_or, Bool, nat_eq, nat_le, ◌&&◌}
use Rattle.std.specs.List.{range_with_len}
use Rattle.view_lives.specs.declared.doing.Doing.{Doing}
use Rattle.view_lives.specs.declared.doing.Doing.TheVariants.{Gone}
use Rattle.view_lives.specs.declared.growing.Aside.{Aside}
use Rattle.view_lives.specs.declared.life.Segment.{Segment}
use Rattle.view_lives.specs.Doing.{is_same_doing}
use Rattle.view_lives.specs.Life.{with_piece}

-- what is read where nothing stands aside
abbrev pub nothing_aside : Aside
nothing_aside = record { from = 0; doing = Gone }

-- a life up to this moment, with what stands aside
abbrev pub told_life : ℕ → List Segment → Aside → List Segment
told_life until life aside = with_piece life (record { from = aside.from; to = until; doing = aside.doing })

-- that of thread x
abbrev pub told_of : ℕ → List (List Segment) → List Aside → ℕ → List Segment
told_of until lives aside x = told_life until (slice_index_or lives x []) (slice_index_or aside x nothing_aside)

-- those of all
abbrev pub all_told : ℕ → List (List Segment) → List Aside → List (List Segment)
all_told until lives aside = map (told_of until lives aside) (range_with_len 0 (length lives))

-- what stands aside up to a moment goes on from another with the same
abbrev pub keeps_on : ℕ → ℕ → Aside → Doing → Bool
keeps_on until from aside doing = nat_eq until from && nat_le aside.from from && is_same_doing aside.doing doing

-- a life that is told up to one moment goes on from another with this, until whatever moment
abbrev pub LifeGoesOnWith : ℕ → ℕ → Doing → List Segment → Aside → List Segment → Aside → Type 0
LifeGoesOnWith until from doing life aside later later_aside =
    (to : ℕ) → from < to
    → told_life to later later_aside ≡ with_piece (told_life until life aside) (record { from = from; to = to; doing = doing })
