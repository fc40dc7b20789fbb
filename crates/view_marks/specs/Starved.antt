-- For how long partitions with a budget were without work. Moments are ns.
use Rattle.std.specs.Prelude.{ℕ, ◌-◌, ◌++◌, List, [], ◌∷◌, length, slice_index_or, slice_set, Bool, nat_eq, nat_lt, ◌&&◌, if◌then◌else◌, Option, Some, None}
use Rattle.std.specs.List.{fold}
use Rattle.aps_model.specs.declared.entry.Entry.{Entry}
use Rattle.view_marks.specs.declared.starved.Starved.{Starved}

-- ---- the bars with one more

-- what is read where there is no bar
abbrev pub no_starved : Starved
no_starved = record { from = 0; to = 0; partition = 0 }

abbrev pub last_starved_bar : List Starved → Starved
last_starved_bar bars = slice_index_or bars (length bars - 1) no_starved

-- the last bar ends where this begins, and is of the same partition
abbrev pub starved_goes_on : List Starved → Starved → Bool
starved_goes_on bars bar =
    nat_lt 0 (length bars) && (nat_eq (last_starved_bar bars).to bar.from && nat_eq (last_starved_bar bars).partition bar.partition)

-- the bars with the last one up to this moment
abbrev pub lengthened_starved : List Starved → ℕ → List Starved
lengthened_starved bars moment = slice_set bars (length bars - 1) (record (last_starved_bar bars) { to = moment })

abbrev pub joined_starved : List Starved → Starved → List Starved
joined_starved bars bar = if starved_goes_on bars bar then lengthened_starved bars bar.to else bars ++ bar ∷ []

-- a bar that lasts no time is left out
abbrev pub with_starved : List Starved → Starved → List Starved
with_starved bars bar = if nat_lt bar.from bar.to then joined_starved bars bar else bars

-- ---- the bars by the entries

-- the bars, where the last entry ended, and the partition that it named
pub record Without : Type 0 where
  pub bars : List Starved
  pub moment : ℕ
  pub named : Option ℕ

abbrev pub without_at_start : Without
without_at_start = record { bars = []; moment = 0; named = None }

-- from this moment to where the next entry ends
abbrev pub with_span : List Starved → ℕ → ℕ → Option ℕ → List Starved
with_span bars from to None = bars
with_span bars from to (Some p) = with_starved bars (record { from = from; to = to; partition = p })

abbrev pub starved_with_entry : Without → Entry → Without
starved_with_entry without e = record {
  bars = with_span without.bars without.moment e.to without.named;
  moment = e.to;
  named = e.starved;
}

-- from where each entry ends to where the next one does, the partition that it names was without work
abbrev pub starved_of : List Entry → List Starved
starved_of h = (fold starved_with_entry without_at_start h).bars
