-- The line that tells of a refused text.
use Rattle.std.specs.Prelude.{◌≡◌, ℕ, ◌⊎◌, List, ◌++◌, codes, Some}
use Rattle.toml.specs.Data.{Members}
use Rattle.toml.specs.Parse.{parse_document}
use Rattle.aps_scenario.specs.declared.kind.Kind.{Kind}
use Rattle.aps_scenario.specs.declared.kind.Kind.TheVariants.{NotToml, Missing, UnknownKey, WrongKind, OutOfRange, BadName, UnknownName, Duplicate, BadOperation, BudgetOver}
use Rattle.aps_hints.specs.Blame.{IsDoFault, IsDoPath}
use Rattle.aps_hints.specs.Line.{shown_text, cut}

-- what is wrong, behind the value
abbrev pub reason_text : Kind → List ℕ
reason_text NotToml = codes "this is no TOML document; "
reason_text Missing = codes "this key is missing; it takes "
reason_text UnknownKey = codes "this key doesn't belong here; the keys are "
reason_text WrongKind = codes " is of another kind; wanted is "
reason_text OutOfRange = codes " is out of range; wanted is "
reason_text BadName = codes " is no name; wanted is "
reason_text UnknownName = codes " names nothing; "
reason_text Duplicate = codes " is taken; "
reason_text (BadOperation at) = codes " can't stand here; "
reason_text BudgetOver = codes " is more than the parent has left; "

-- the path, the value that stands there, what is wrong with it, and what is wanted: as it is shown, and as much as a
-- line has room for
abbrev pub hint_text : (path value : List ℕ) → Kind → (wanted : List ℕ) → List ℕ
hint_text path value kind wanted = cut (shown_text (path ++ codes ": " ++ value ++ reason_text kind ++ wanted))

-- the same with a place behind the path, in brackets
abbrev pub placed_text : (path place value : List ℕ) → Kind → (wanted : List ℕ) → List ℕ
placed_text path place value kind wanted =
    cut (shown_text (path ++ codes " (" ++ place ++ codes "): " ++ value ++ reason_text kind ++ wanted))

-- such a line of this path and this kind
abbrev pub IsHintOf : (path : List ℕ) → Kind → (line : List ℕ) → Type 0
IsHintOf path kind line = (value : List ℕ) × (wanted : List ℕ)
    × ((line ≡ hint_text path value kind wanted) ⊎ ((place : List ℕ) × (line ≡ placed_text path place value kind wanted)))

-- a line of this path and this kind; where a key is unknown in a command whose `do` names no command, it may be one of that
-- `do`, which decides what keys the command has
abbrev pub IsTableHint : Members → (path : List ℕ) → Kind → (line : List ℕ) → Type 0
IsTableHint top path kind line = IsHintOf path kind line
    ⊎ ((kind ≡ UnknownKey) × (told : List ℕ) × (fault : Kind) × IsDoPath path told × IsDoFault top fault × IsHintOf told fault line)

-- the same of the document that these bytes are, if they are one
abbrev pub IsHint : (bytes path : List ℕ) → Kind → (line : List ℕ) → Type 0
IsHint bytes path kind line = IsHintOf path kind line
    ⊎ ((top : Members) × (parse_document bytes ≡ Some top) × IsTableHint top path kind line)
