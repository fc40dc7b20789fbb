-- The entries of a seat's own processors.
use Rattle.std.specs.Prelude.{ℕ, ◌&&◌, nat_le, List}
use Rattle.std.specs.List.{filter}
use Rattle.aps_seats.specs.Log.{Log}

-- of the entries those of the processors from the first to the last
abbrev pub own_in_log : {Run : Type 0} (log : Log Run) → ℕ → ℕ → List log.Entry → List log.Entry
own_in_log log first last es = filter (λ (e : log.Entry). nat_le first (log.cpu_of e) && nat_le (log.cpu_of e) last) es
