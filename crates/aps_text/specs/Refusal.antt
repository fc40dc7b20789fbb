-- Why bytes are no journal, in the words of the grammar alone.
use Rattle.std.specs.Prelude.{◌≡◌, List, [], ◌∷◌, ◌++◌, ℕ}
use Rattle.aps_model.specs.declared.entry.Entry.{Entry}
use Rattle.aps_model.specs.Journal.{IsJournal}
use Rattle.aps_text.specs.declared.refusal.JournalRefusal.{JournalRefusal}
use Rattle.aps_text.specs.declared.refusal.JournalRefusal.TheVariants.{BadLine, NoMemory}
use Rattle.aps_text.specs.Place.{Place, place_after_bytes}

-- some journal begins with these bytes
abbrev pub BeginsJournal : List ℕ → Type 0
BeginsJournal bytes = (entries : List Entry) × (more : List ℕ) × IsJournal entries (bytes ++ more)

-- what follows these bytes is wrong: no journal goes on with the next byte, or the text stops inside a line
abbrev pub IsBadNext : List ℕ → List ℕ → Type 0
IsBadNext bytes [] = (entries : List Entry) → ¬ IsJournal entries bytes
IsBadNext bytes (next ∷ rest) = ¬ BeginsJournal (bytes ++ next ∷ [])

-- the place of the first byte such that no journal begins with the bytes up to it and including it,
-- or one past the end
pub record IsFirstBad (bytes : List ℕ) (place : Place) : Type 0 where
  pub front : List ℕ
  pub rest : List ℕ
  pub parts : bytes ≡ front ++ rest
  pub begun : BeginsJournal front
  pub bad : IsBadNext front rest
  pub here : place ≡ place_after_bytes front

-- the refusal names that place
abbrev pub Refuses : List ℕ → JournalRefusal → Type 0
Refuses bytes (BadLine line column) = IsFirstBad bytes (record { line = line; column = column })
Refuses bytes NoMemory = Unit {0}
