-- Where an entry differs from the step of its processor first.
use Rattle.std.specs.Prelude.{◌≡◌, ℕ, List, [], ◌∷◌, All, take, ⊤}
use Rattle.aps_model.specs.declared.entry.Entry.{Entry}
use Rattle.aps_check.specs.declared.verdict.Rule.{Rule}
use Rattle.aps_check.specs.declared.verdict.Rule.TheVariants.{Turn, From, To, Ran, Billed, Critical, Done, Picked, Starved, Flagged, After}

-- the fields of a journal's line behind the processor, in their order
abbrev pub fields : List Rule
fields = From ∷ To ∷ Ran ∷ Billed ∷ Critical ∷ Done ∷ Picked ∷ Starved ∷ Flagged ∷ []

-- the place of a field among them; turn and end are no fields
abbrev pub place_of_field : Rule → ℕ
place_of_field From = 0
place_of_field To = 1
place_of_field Ran = 2
place_of_field Billed = 3
place_of_field Critical = 4
place_of_field Done = 5
place_of_field Picked = 6
place_of_field Starved = 7
place_of_field Flagged = 8
place_of_field Turn = 9
place_of_field After = 10

-- the entries agree in this field
abbrev pub Agrees : Entry → Entry → Rule → Type 0
Agrees e x From = e.from ≡ x.from
Agrees e x To = e.to ≡ x.to
Agrees e x Ran = e.ran ≡ x.ran
Agrees e x Billed = e.billed ≡ x.billed
Agrees e x Critical = e.critical ≡ x.critical
Agrees e x Done = e.done ≡ x.done
Agrees e x Picked = e.picked ≡ x.picked
Agrees e x Starved = e.starved ≡ x.starved
Agrees e x Flagged = e.flagged ≡ x.flagged
Agrees e x Turn = ⊤
Agrees e x After = ⊤

-- this is the first field in which they differ
pub record IsFirstDifference (e x : Entry) (field : Rule) : Type 0 where
  pub before : All (Agrees e x) (take (place_of_field field) fields)
  pub here : ¬ Agrees e x field
