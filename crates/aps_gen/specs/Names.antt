-- The names of partitions and threads.
use Rattle.std.specs.Prelude.{ℕ, List, ◌++◌, codes}
use Rattle.std.specs.Fmt.{decimal}

-- a word and a number
abbrev pub numbered : List ℕ → ℕ → List ℕ
numbered word i = word ++ decimal i

abbrev pub partition_name : ℕ → List ℕ
partition_name i = numbered (codes "P") i

-- endless thread j of partition i
abbrev pub endless_name : ℕ → ℕ → List ℕ
endless_name i j = numbered (codes "t") i ++ numbered (codes "_") j

abbrev pub worker_name : ℕ → List ℕ
worker_name i = numbered (codes "w") i

abbrev pub client_name : ℕ → List ℕ
client_name i = numbered (codes "cl") i
