use Rattle.std.specs.Prelude.{◌≡◌, ◌≤◌, ◌++◌, List, ◌∷◌, All}
use Rattle.aps_model.specs.declared.entry.Entry.{Entry}

-- no entry ends before an earlier one
abbrev pub IsRising : List Entry → Type 0
IsRising h = (before later : List Entry) (e : Entry) → h ≡ before ++ e ∷ later → All (λ (d : Entry). d.to ≤ e.to) before
