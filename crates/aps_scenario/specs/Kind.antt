use Rattle.std.specs.Prelude.{ℕ, List, codes}
use Rattle.aps_scenario.specs.declared.kind.Kind.{Kind}
use Rattle.aps_scenario.specs.declared.kind.Kind.TheVariants.{NotToml, Missing, UnknownKey, WrongKind, OutOfRange, BadName, UnknownName, Duplicate, BadOperation, BudgetOver}

-- the word by which a kind is printed
abbrev pub kind_word : Kind → List ℕ
kind_word NotToml = codes "not-toml"
kind_word Missing = codes "missing"
kind_word UnknownKey = codes "unknown-key"
kind_word WrongKind = codes "wrong-kind"
kind_word OutOfRange = codes "out-of-range"
kind_word BadName = codes "bad-name"
kind_word UnknownName = codes "unknown-name"
kind_word Duplicate = codes "duplicate"
kind_word (BadOperation at) = codes "bad-operation"
kind_word BudgetOver = codes "budget-over"
