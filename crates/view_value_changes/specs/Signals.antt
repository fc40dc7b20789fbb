-- The head of a dump: its signals by scopes, each with its code. They are numbered from 0: those of processors, of partitions, of threads.
use lib.Chars.{codes}
use Rattle.std.specs.Prelude.{ℕ, ◌+◌, ◌*◌, ◌++◌, List, [], ◌∷◌, length}
use Rattle.std.specs.List.{flat_map, enumerate_from, range_with_len}
use Rattle.std.specs.Fmt.{decimal}
use Rattle.aps_model.specs.declared.partition.PartitionRow.{PartitionRow}
use Rattle.aps_model.specs.declared.scenario.ThreadRow.{ThreadRow}
use Rattle.aps_model.specs.Limits.{most_cpus, most_partitions, most_threads}
use Rattle.view_value_changes.specs.Code.{signal_code}

-- how many signals a processor has, and a partition
abbrev pub signals_of_cpu : ℕ
signals_of_cpu = 3

abbrev pub signals_of_partition : ℕ
signals_of_partition = 7

-- no dump has more signals
abbrev pub most_signals : ℕ
most_signals = signals_of_cpu * most_cpus + (signals_of_partition * most_partitions + most_threads)

-- the signal of this number, by its kind and width
abbrev pub signal_line : ℕ → List ℕ → List ℕ → List ℕ
signal_line signal kind name = (codes "$var " ++ (kind ++ codes " ")) ++ (signal_code signal ++ (codes " " ++ (name ++ codes " $end\n")))

abbrev pub module_line : List ℕ → List ℕ
module_line name = codes "$scope module " ++ (name ++ codes " $end\n")

abbrev pub scope_end_line : List ℕ
scope_end_line = codes "$upscope $end\n"

abbrev pub amount_line : ℕ → List ℕ → List ℕ
amount_line signal name = signal_line signal (codes "wire 40") name

abbrev pub bit_signal : ℕ → List ℕ → List ℕ
bit_signal signal name = signal_line signal (codes "wire 1") name

abbrev pub word_signal : ℕ → List ℕ → List ℕ
word_signal signal name = signal_line signal (codes "string 1") name

-- ---- processors

abbrev pub cpu_signals : ℕ → List ℕ
cpu_signals first =
    word_signal first (codes "thread") ++ (word_signal (first + 1) (codes "billed") ++ bit_signal (first + 2) (codes "critical"))

abbrev pub cpu_scope : ℕ → List ℕ
cpu_scope c = (codes "$scope module cpu" ++ (decimal c ++ codes " $end\n")) ++ (cpu_signals (signals_of_cpu * c) ++ scope_end_line)

abbrev pub cpus_text : ℕ → List ℕ
cpus_text cpus = module_line (codes "cpus") ++ (flat_map cpu_scope (range_with_len 0 cpus) ++ scope_end_line)

-- ---- partitions, from this number on

abbrev pub amount_signals : ℕ → List ℕ
amount_signals first =
    amount_line first (codes "used") ++ (amount_line (first + 1) (codes "allowance") ++ amount_line (first + 2) (codes "critical_used"))

abbrev pub bit_signals : ℕ → List ℕ
bit_signals first =
    bit_signal first (codes "in_budget")
    ++ (bit_signal (first + 1) (codes "standing")
    ++ (bit_signal (first + 2) (codes "demand") ++ bit_signal (first + 3) (codes "overspent")))

abbrev pub partition_scope : ℕ → List ℕ → List ℕ
partition_scope first name = module_line name ++ (amount_signals first ++ (bit_signals (first + 3) ++ scope_end_line))

abbrev pub row_scope : ℕ → ℕ × PartitionRow → List ℕ
row_scope first (p, row) = partition_scope (first + signals_of_partition * p) row.name

abbrev pub partitions_text : ℕ → List PartitionRow → List ℕ
partitions_text first rows = module_line (codes "partitions") ++ (flat_map (row_scope first) (enumerate_from 0 rows) ++ scope_end_line)

-- ---- threads, from this number on

abbrev pub thread_signal : ℕ → ℕ × ThreadRow → List ℕ
thread_signal first (x, row) = word_signal (first + x) row.name

-- without a thread there is no scope of threads
abbrev pub threads_text : ℕ → List ThreadRow → List ℕ
threads_text first [] = []
threads_text first (row ∷ rows) =
    module_line (codes "threads") ++ (flat_map (thread_signal first) (enumerate_from 0 (row ∷ rows)) ++ scope_end_line)

-- ---- all of them

abbrev pub head_start : List ℕ
head_start = codes "$version apsim $end\n$timescale 1 ns $end\n$scope module apsim $end\n"

abbrev pub head_end : List ℕ
head_end = codes "$upscope $end\n$enddefinitions $end\n"

abbrev pub head_text : ℕ → List PartitionRow → List ThreadRow → List ℕ
head_text cpus rows threads =
    let first = signals_of_cpu * cpus in
    head_start
    ++ (cpus_text cpus ++ (partitions_text first rows ++ (threads_text (first + signals_of_partition * length rows) threads ++ head_end)))
