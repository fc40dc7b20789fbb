-- The ends that are kept beside the entries.
use Rattle.std.specs.Prelude.{◌≡◌, ℕ, ◌<◌, ◌++◌, List, [], ◌∷◌, slice_index_or, Option, None}
use Rattle.aps_model.specs.declared.entry.Entry.{Entry}
use Rattle.aps_model.specs.Due.{last_to}
use Rattle.aps_model.specs.Limits.{most_cpus}

-- for each of 16 processors where its last entry ended, if it has one
abbrev pub AreEnds : List Entry → List (Option ℕ) → Type 0
AreEnds h ends = (c : ℕ) → c < most_cpus → slice_index_or ends c None ≡ last_to h c

-- this one is the last
abbrev pub IsLast : List Entry → Entry → Type 0
IsLast h e = (before : List Entry) × (h ≡ before ++ e ∷ [])
