-- The documented limits, each with its name: what a scenario, a run and a command may have at most or at least.
-- docs/FORMATS.md says which refusal each has; `src/limits.rt` has those that code uses.
use Rattle.std.specs.Prelude.{ℕ, ◌≤◌}

-- a number lies in a range, both ends included
abbrev pub IsIn : ℕ → ℕ → ℕ → Type 0
IsIn low high n = (low ≤ n) × (n ≤ high)

-- ---- how many of each

abbrev pub most_cpus : ℕ
most_cpus = 16

abbrev pub most_partitions : ℕ
most_partitions = 32

-- the partitions besides `System`, and so the demands for which budgets are found
abbrev pub most_demands : ℕ
most_demands = 31

abbrev pub most_channels : ℕ
most_channels = 256

abbrev pub most_threads : ℕ
most_threads = 1024

abbrev pub most_operations : ℕ
most_operations = 256

abbrev pub most_commands : ℕ
most_commands = 1024

abbrev pub greatest_priority : ℕ
greatest_priority = 255

abbrev pub longest_name : ℕ
longest_name = 15

-- ---- the greatest number of each, which are counted from 0

abbrev pub last_cpu : ℕ
last_cpu = 15

abbrev pub last_partition : ℕ
last_partition = 31

abbrev pub last_channel : ℕ
last_channel = 255

abbrev pub last_thread : ℕ
last_thread = 1023

-- ---- times, in ns but for the window and the ticks of a run, which count ticks

abbrev pub shortest_tick : ℕ
shortest_tick = 100000

abbrev pub longest_tick : ℕ
longest_tick = 10000000

abbrev pub microsecond : ℕ
microsecond = 1000

abbrev pub shortest_window : ℕ
shortest_window = 8

abbrev pub longest_window : ℕ
longest_window = 400

abbrev pub most_ticks : ℕ
most_ticks = 1000000

abbrev pub longest_call : ℕ
longest_call = 100000

-- the last moment of the longest run
abbrev pub last_moment : ℕ
last_moment = 10000000000000

-- the tick in which the last moment lies where ticks are shortest, so that no tick of a run comes after it
abbrev pub last_tick : ℕ
last_tick = 100000000

-- all processor time of the longest tick
abbrev pub most_time_of_tick : ℕ
most_time_of_tick = 160000000

-- all processor time of the longest run
abbrev pub most_time_of_run : ℕ
most_time_of_run = 160000000000000

-- all processor time of the greatest window
abbrev pub most_critical : ℕ
most_critical = 64000000000

-- ---- budgets count in hundredths, or in thousandths

abbrev pub percent : ℕ
percent = 100

abbrev pub thousandths : ℕ
thousandths = 1000

-- ---- what the calls take

-- the greatest number of entries that a run may be asked for
abbrev pub most_entries : ℕ
most_entries = 4000000

-- bytes of a scenario, or of demands
abbrev pub most_scenario_bytes : ℕ
most_scenario_bytes = 1048576

-- bytes of a scenario with a journal
abbrev pub most_journal_bytes : ℕ
most_journal_bytes = 310000000

-- more than a partition uses in any window: a used time up to this is multiplied by a budget within 64 bits
abbrev pub most_used : ℕ
most_used = 100000000000000

-- ---- what the words of the code hold

abbrev pub greatest_u32 : ℕ
greatest_u32 = 4294967295

abbrev pub greatest_u64 : ℕ
greatest_u64 = 18446744073709551615
