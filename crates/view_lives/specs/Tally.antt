-- Tallies of waits.
use Rattle.std.specs.Prelude.{ℕ, ◌+◌, nat_le, if◌then◌else◌, Option, Some, None}
use Rattle.view_lives.specs.declared.tally.Longest.{Longest}
use Rattle.view_lives.specs.declared.tally.Tally.{Tally}

abbrev pub no_tally : Tally
no_tally = record { count = 0; total = 0; longest = None }

-- the longer of the longest so far and one wait more, and of equal ones the first
abbrev pub longer_wait : Option Longest → ℕ → ℕ → Longest
longer_wait None begin ns = record { ns = ns; begin = begin }
longer_wait (Some first) begin ns = if nat_le ns first.ns then first else record { ns = ns; begin = begin }

-- one wait more, which began at this moment and was so long
abbrev pub tallied : Tally → ℕ → ℕ → Tally
tallied tally begin ns =
    record { count = tally.count + 1; total = tally.total + ns; longest = Some (longer_wait tally.longest begin ns) }
