-- A dump: its head, and what it tells of each moment at which entries end.
use Rattle.std.specs.Prelude.{ℕ, ◌++◌, List, [], ◌∷◌, length, drop, max, Bool, true, false, ◌&&◌, nat_eq, nat_lt, Option, Some, None, if◌then◌else◌}
use Rattle.std.specs.List.{fold}
use Rattle.aps_model.specs.declared.entry.Entry.{Entry}
use Rattle.aps_model.specs.declared.entry.Order.TheVariants.{Fixed}
use Rattle.aps_model.specs.declared.partition.PartitionRow.{PartitionRow}
use Rattle.aps_model.specs.declared.scenario.ThreadRow.{ThreadRow}
use Rattle.aps_model.specs.After.{state_after}
use Rattle.aps_model.specs.Scenario.{Scenario}
use Rattle.laws_runs.specs.Moments.{moment}
use Rattle.view_samples.specs.declared.overspent.Overspent.{Overspent}
use Rattle.aps_core.specs.Run.{Run, Setup}
use Rattle.view_value_changes.specs.declared.dump.Dump.{Dump}
use Rattle.view_value_changes.specs.declared.told.Told.{Told}
use Rattle.view_value_changes.specs.declared.value.Value.{Value}
use Rattle.view_value_changes.specs.Changes.{text_at}
use Rattle.view_value_changes.specs.Moment.{moment_values}
use Rattle.view_value_changes.specs.Signals.{head_text}
use Rattle.view_value_changes.specs.Told.{moment_begun, nothing_told, overspent_noted, pick_noted}

-- How far a dump is: the entries whose steps were made, what the last of them tell, the values that were told last, and which entries
-- that made their partition bankrupt are still to come.
pub record Telling : Type 0 where
  pub entries : List Entry
  pub told : Told
  pub before : List Value
  pub left : List Overspent

abbrev pub telling_of : List Overspent → Dump → Telling
telling_of overspent dump = record {
  entries = dump.at.core.entries;
  told = dump.told;
  before = dump.before.items;
  left = drop dump.passed overspent;
}

-- nothing was told
abbrev pub start_telling : List Overspent → Telling
start_telling overspent = record { entries = []; told = nothing_told; before = []; left = overspent }

-- ---- an entry

abbrev pub is_billed_to : Option ℕ → ℕ → Bool
is_billed_to None p = false
is_billed_to (Some q) p = nat_eq q p

-- this entry made its partition bankrupt
abbrev pub made_bankrupt : Entry → Overspent → Bool
made_bankrupt e overspent = nat_eq overspent.moment e.to && is_billed_to e.billed overspent.partition

abbrev pub told_with : Entry → List Overspent → Told → Told
told_with e [] told = told
told_with e (next ∷ later) told = if made_bankrupt e next then overspent_noted next.partition told else told

abbrev pub left_with : Entry → List Overspent → List Overspent
left_with e [] = []
left_with e (next ∷ later) = if made_bankrupt e next then later else next ∷ later

abbrev pub run_of_entries : Setup → List Entry → Run
run_of_entries setup h = record { setup = setup; entries = h }

-- its step was made, and what it tells is noted
abbrev pub noted : Setup → Telling → Entry → Telling
noted setup t e = record {
  entries = t.entries ++ e ∷ [];
  told = told_with e t.left (pick_noted (run_of_entries setup (t.entries ++ e ∷ [])) e t.told);
  before = t.before;
  left = left_with e t.left;
}

-- ---- a moment, with so many partitions

abbrev pub values_of : Setup → ℕ → Telling → List Value
values_of setup count t = moment_values (run_of_entries setup t.entries) t.told count

-- its values were told, and another moment begins
abbrev pub moment_told : Setup → ℕ → Telling → Telling
moment_told setup count t = record { entries = t.entries; told = moment_begun t.told; before = values_of setup count t; left = t.left }

abbrev pub moment_text : Setup → List ThreadRow → List PartitionRow → Bool → Telling → List ℕ
moment_text setup threads rows is_last t = text_at threads rows (moment t.entries) is_last t.before (values_of setup (length rows) t)

-- before an entry that ends at a later moment, the values that stand are told
abbrev pub telling_before : Setup → ℕ → ℕ → Telling → Telling
telling_before setup count to t = if nat_lt (moment t.entries) to then moment_told setup count t else t

abbrev pub text_before : Setup → List ThreadRow → List PartitionRow → ℕ → Telling → List ℕ
text_before setup threads rows to t = if nat_lt (moment t.entries) to then moment_text setup threads rows false t else []

-- ---- all entries

pub record Dumped : Type 0 where
  pub telling : Telling
  pub text : List ℕ

abbrev pub dumped_with : Setup → List ThreadRow → List PartitionRow → Dumped → Entry → Dumped
dumped_with setup threads rows d e = record {
  telling = noted setup (telling_before setup (length rows) e.to d.telling) e;
  text = d.text ++ text_before setup threads rows e.to d.telling;
}

abbrev pub dumped : Setup → List ThreadRow → List PartitionRow → Telling → List Entry → Dumped
dumped setup threads rows start h = fold (dumped_with setup threads rows) (record { telling = start; text = [] }) h

-- with the last moment
abbrev pub body_text : Setup → List ThreadRow → List PartitionRow → List Overspent → List Entry → List ℕ
body_text setup threads rows overspent h =
    let d = dumped setup threads rows (start_telling overspent) h in
    d.text ++ moment_text setup threads rows true d.telling

-- with room for all entries; no text depends on the order of turns
abbrev pub setup_of : Scenario → List Entry → Setup
setup_of scenario h = record { scenario = scenario; order = Fixed; limit = max (length h) 1 }

-- the dump of a history, of which these entries made their partition bankrupt
abbrev pub dump_text : Scenario → List Entry → List Overspent → List ℕ
dump_text scenario h overspent =
    let rows = (state_after scenario h).rows in
    head_text scenario.shape.cpus rows scenario.threads ++ body_text (setup_of scenario h) scenario.threads rows overspent h
