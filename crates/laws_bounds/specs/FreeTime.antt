-- What free picks run, and how long processors stand idle.
use Rattle.std.specs.Prelude.{ℕ, ◌+◌, ◌++◌, ◌&&◌, if◌then◌else◌, List, [], ◌∷◌, is_some}
use Rattle.std.specs.List.{sum_by}
use Rattle.aps_model.specs.declared.entry.Entry.{Entry}
use Rattle.aps_model.specs.Scenario.{Scenario}
use Rattle.aps_model.specs.Usage.{names, overlap}
use Rattle.laws_bounds.specs.Kinds.{is_free, last_kind}

-- the sum over some entries, each with all entries before it
abbrev pub sum_along : (List Entry → Entry → ℕ) → List Entry → List Entry → ℕ
sum_along f before [] = 0
sum_along f before (e ∷ es) = f before e + sum_along f (before ++ e ∷ []) es

-- what the entry bills to the partition in ticks a to b-1, where its processor's last pick was a free one
abbrev pub free_by : Scenario → ℕ → ℕ → ℕ → ℕ → List Entry → Entry → ℕ
free_by scenario tick p a b before e =
    if names e.billed p && is_free (last_kind scenario before e.cpu) then overlap tick a b e.from e.to else 0

-- the partition's free time in ticks a to b-1
abbrev pub free_used : Scenario → ℕ → List Entry → ℕ → ℕ → ℕ → ℕ
free_used scenario tick h p a b = sum_along (free_by scenario tick p a b) [] h

-- what the entry bills to nobody in ticks a to b-1
abbrev pub idle_by : ℕ → ℕ → ℕ → Entry → ℕ
idle_by tick a b e = if is_some e.billed then 0 else overlap tick a b e.from e.to

-- for how long processors stood idle in ticks a to b-1
abbrev pub idle_time : ℕ → List Entry → ℕ → ℕ → ℕ
idle_time tick h a b = sum_by (idle_by tick a b) h
