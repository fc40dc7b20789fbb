-- What a seat has seen of the one run, and what has come since.
use Rattle.std.specs.Prelude.{◌≡◌, ℕ, ◌<◌, ◌≤◌, ◌⊎◌, nat_le, if◌then◌else◌, List, [], ◌∷◌, ◌++◌, length, ⊤}
use Rattle.aps_seats.specs.Log.{Log}

-- the processor is none of those from first on and before after
abbrev pub IsOutside : ℕ → ℕ → ℕ → Type 0
IsOutside first after cpu = (cpu < first) ⊎ (after ≤ cpu)

module _ {Run : Type 0} (log : Log Run) where
  -- each of these entries is of a processor that there is, and of none from first on and before after
  abbrev pub AreOfOthers : ℕ → ℕ → ℕ → List log.Entry → Type 0
  AreOfOthers first after cpus [] = ⊤
  AreOfOthers first after cpus (e ∷ es) = IsOutside first after (log.cpu_of e) × (log.cpu_of e < cpus) × AreOfOthers first after cpus es

  -- The run seen is the beginning of this one, with one setup. What came since is of processors other than those from
  -- first on and before after
  abbrev pub IsSeenIn : ℕ → ℕ → Run → Run → Type 0
  IsSeenIn first after seen run =
      (later : List log.Entry)
      × (run ≡ log.with_entries seen (log.entries_of seen ++ later))
      × AreOfOthers first after (log.cpus_of seen) later

  -- of two runs the one with more entries
  abbrev pub longer : Run → Run → Run
  longer one other = if nat_le (length (log.entries_of other)) (length (log.entries_of one)) then one else other

  -- the run with one entry more
  abbrev pub with_one : Run → log.Entry → Run
  with_one run e = log.with_entries run (log.entries_of run ++ e ∷ [])
