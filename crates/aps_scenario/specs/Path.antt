-- Where in a text something is wrong, as it is told.
use Rattle.std.specs.Prelude.{ℕ, nat_le, ◌&&◌, Bool, List, [], ◌++◌, length, ◌-◌, take, replicate, codes, if◌then◌else◌}
use Rattle.std.specs.List.{list_all}
use Rattle.std.specs.Fmt.{decimal}
use Rattle.aps_model.specs.Name.{is_name_byte}
use Rattle.aps_scenario.specs.declared.key.Key.{Key}
use Rattle.aps_scenario.specs.declared.key.Key.TheVariants as key
use Rattle.aps_scenario.specs.declared.path.KeyText.{KeyText}
use Rattle.aps_scenario.specs.declared.refusal.Place.{Place}
use Rattle.aps_scenario.specs.declared.refusal.Place.TheVariants.{Top, Partition, Channel, Thread, Command, Demand}
use Rattle.aps_scenario.specs.declared.refusal.Part.{Part}
use Rattle.aps_scenario.specs.declared.refusal.Part.TheVariants.{Table, At, OtherKey, Operation}
use Rattle.aps_scenario.specs.Key.{key_text}

-- the path of the text as a whole
abbrev pub whole_text : List ℕ
whole_text = codes "-"

-- an element of an array, as `thread[3]`
abbrev pub element_text : Key → ℕ → List ℕ
element_text key i = key_text key ++ codes "[" ++ decimal i ++ codes "]"

abbrev pub place_text : Place → List ℕ
place_text Top = whole_text
place_text (Partition i) = element_text key.Partition i
place_text (Channel i) = element_text key.Channel i
place_text (Thread i) = element_text key.Thread i
place_text (Command i) = element_text key.Command i
place_text (Demand i) = element_text key.Demand i

-- what stands before a key of the table
abbrev pub prefix_text : Place → List ℕ
prefix_text Top = []
prefix_text place = place_text place ++ codes "."

-- the most bytes of a key that is told
abbrev pub longest_key : ℕ
longest_key = 32

-- 1 to 32 letters, digits, '_' and '-'
abbrev pub is_printable : List ℕ → Bool
is_printable key = (nat_le 1 (length key) && nat_le (length key) longest_key) && list_all is_name_byte key

-- an unknown key as it is told
abbrev pub printed_key : List ℕ → List ℕ
printed_key key = if is_printable key then key else codes "?"

-- a key of at most 32 bytes, as it is held
abbrev pub held : List ℕ → KeyText
held key = record { bytes = key ++ replicate (longest_key - length key) 0; len = length key }

abbrev pub path_text : Part → List ℕ
path_text (Table place) = place_text place
path_text (At place key) = prefix_text place ++ key_text key
path_text (OtherKey place key) = prefix_text place ++ take key.len key.bytes
path_text (Operation thread i) = prefix_text (Thread thread) ++ element_text key.Program i
