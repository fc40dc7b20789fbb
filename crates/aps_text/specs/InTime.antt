use Rattle.std.specs.Prelude.{◌≤◌}
use Rattle.aps_model.specs.declared.entry.Entry.{Entry}
use Rattle.aps_model.specs.Limits.{last_moment}

-- the moments of an entry are within those of a line; its other numbers are by their types
pub record IsInTime (e : Entry) : Type 0 where
  pub from : e.from ≤ last_moment
  pub to : e.to ≤ last_moment
