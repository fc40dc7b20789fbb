-- The `do` of a command that has a key too many, since its `do` names no command.
use Rattle.std.specs.Prelude.{◌≡◌, ℕ, List, ◌++◌, codes, take, Option, Some, Err}
use Rattle.toml.specs.Data.{Data, Members, at, get, get_member}
use Rattle.aps_scenario.specs.declared.kind.Kind.{Kind}
use Rattle.aps_scenario.specs.Joinable.{then_of}
use Rattle.aps_scenario.specs.Row.{word}
use Rattle.aps_scenario.specs.Words.{command_words}

-- the path of `do` in the table of this path
abbrev pub IsDoPath : (path told : List ℕ) → Type 0
IsDoPath path told = (n : ℕ) × (told ≡ take n path ++ codes ".do")

-- the value at `do` in element n of an array of the document
abbrev pub do_in : Members → (array : List ℕ) → ℕ → Option Data
do_in top array n = then_of (then_of (get_member array top) (at n)) (get (codes "do"))

-- the document has this value at a `do`
abbrev pub IsDo : Members → Data → Type 0
IsDo top does = (array : List ℕ) × (n : ℕ) × (do_in top array n ≡ Some does)

-- it names no command, and this is what is wrong with it
abbrev pub IsDoFault : Members → Kind → Type 0
IsDoFault top fault = (does : Data) × IsDo top does × (word command_words does ≡ Err fault)
