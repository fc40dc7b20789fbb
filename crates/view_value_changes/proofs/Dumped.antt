-- A dump, with one entry more.
use Rattle.std.proofs.Common.{◌≡◌, ℕ, ◌+◌, ◌<◌, List, [], ◌∷◌, ◌++◌, length, take, get_or, refl, ap, ◌∙◌}
use Rattle.std.proofs.lemmas.List.{take_more}
use Rattle.std.proofs.lemmas.List.Sums.{fold-append}
use Rattle.aps_model.specs.declared.entry.Entry.{Entry}
use Rattle.aps_model.specs.declared.partition.PartitionRow.{PartitionRow}
use Rattle.aps_model.specs.declared.scenario.ThreadRow.{ThreadRow}
use Rattle.aps_core.specs.Run.{Setup}
use Rattle.view_samples.specs.declared.overspent.Overspent.{Overspent}
use Rattle.view_value_changes.specs.declared.told.Told.{Told}
use Rattle.view_value_changes.specs.declared.value.Value.{Value}
use Rattle.view_value_changes.specs.Dump.{Telling, dumped, dumped_with}

abbrev telling_from : List Entry → Told → List Value → List Overspent → Telling
telling_from h told before left = record { entries = h; told = told; before = before; left = left }

-- equal parts
pub same_telling : (h h' : List Entry) (told told' : Told) (before before' : List Value) (left left' : List Overspent) → h ≡ h' → told ≡ told' → before ≡ before' → left ≡ left'
    → telling_from h told before left ≡ telling_from h' told' before' left'
same_telling h h' told told' before before' left left' a b c d = rw (a, b, c, d) refl

pub dumped_more : (setup : Setup) (threads : List ThreadRow) (rows : List PartitionRow) (start : Telling) (h : List Entry) (i : ℕ) (e : Entry) → i < length h → get_or h i e ≡ e
    → dumped setup threads rows start (take (i + 1) h) ≡ dumped_with setup threads rows (dumped setup threads rows start (take i h)) e
dumped_more setup threads rows start h i e less is =
    ap (dumped setup threads rows start) (take_more h i e less ∙ ap (λ (d : Entry). take i h ++ d ∷ []) is)
    ∙ fold-append (dumped_with setup threads rows) (record { telling = start; text = [] }) (take i h) (e ∷ [])
