-- The command that a list of words is.
use Rattle.std.specs.Prelude.{◌≡◌, ◌≤◌, List, [], ◌∷◌, codes, Option, Some, None, Result, Ok, Err, if◌then◌else◌, ⊤}
use Rattle.std.specs.Str.{bytes_eq}
use Rattle.aps_words.specs.declared.command.Command.{Command}
use Rattle.aps_words.specs.declared.command.Command.TheVariants.{Solo, Run, Gen, Upgrade, Check, Admit}
use Rattle.aps_words.specs.declared.command.WordsRefusal.{WordsRefusal}
use Rattle.aps_words.specs.declared.command.WordsRefusal.TheVariants as refusal
use Rattle.aps_words.specs.Options.{Text, option_value, options}
use Rattle.aps_words.specs.Values.{report_of, order_of, limit_of, required_in}
use Rattle.aps_model.specs.Limits.{IsIn, greatest_u64, most_cpus, most_entries, most_partitions, most_ticks}

infixl 10 ◌>>=◌
abbrev pub ◌>>=◌ : {A B : Type 0} → Option A → (A → Option B) → Option B
(Some x) >>= f = f x
None >>= f = None

-- `solo`, by the values of its options
abbrev pub solo : (Text → Option Text) → Option Command
solo value = do
  report ← report_of (value (codes "report"))
  limit ← limit_of (value (codes "limit"))
  Some (Solo report limit)

-- `run`, by the values of its options
abbrev pub run : (Text → Option Text) → Option Command
run value = do
  order ← order_of (value (codes "order"))
  report ← report_of (value (codes "report"))
  limit ← limit_of (value (codes "limit"))
  Some (Run order report limit)

-- `gen`, by the values of its options
abbrev pub gen : (Text → Option Text) → Option Command
gen value = do
  seed ← required_in 0 greatest_u64 (value (codes "seed"))
  cpus ← required_in 1 most_cpus (value (codes "cpus"))
  partitions ← required_in 1 most_partitions (value (codes "partitions"))
  ticks ← required_in 1 most_ticks (value (codes "ticks"))
  Some (Gen seed cpus partitions ticks)

-- `check`, by the values of its options
abbrev pub check : (Text → Option Text) → Option Command
check value = do
  order ← order_of (value (codes "order"))
  limit ← limit_of (value (codes "limit"))
  Some (Check order limit)

abbrev pub solo_options : List Text
solo_options = codes "report" ∷ codes "limit" ∷ []

abbrev pub run_options : List Text
run_options = codes "order" ∷ codes "report" ∷ codes "limit" ∷ []

abbrev pub gen_options : List Text
gen_options = codes "seed" ∷ codes "cpus" ∷ codes "partitions" ∷ codes "ticks" ∷ []

abbrev pub check_options : List Text
check_options = codes "order" ∷ codes "limit" ∷ []

-- what options of these names say, by the words behind the command's own
abbrev pub with_options : {A : Type 0} → List Text → ((Text → Option Text) → Option A) → List Text → Option A
with_options names by words = options names words >>= λ given. by (option_value given)

-- a command that has no options, by the words behind its own
abbrev pub alone : Command → List Text → Option Command
alone command [] = Some command
alone command (word ∷ words) = None

-- the command that these words are, or nothing
abbrev pub command : List Text → Option Command
command [] = None
command (word ∷ words) =
    if bytes_eq word (codes "solo") then with_options solo_options solo words
    else (if bytes_eq word (codes "run") then with_options run_options run words
    else (if bytes_eq word (codes "gen") then with_options gen_options gen words
    else (if bytes_eq word (codes "upgrade") then alone Upgrade words
    else (if bytes_eq word (codes "check") then with_options check_options check words
    else (if bytes_eq word (codes "admit") then alone Admit words else None)))))

-- the answer is this, or a refusal of the words where there is none; want of memory tells nothing
abbrev pub WordsMean : {A : Type 0} → Result A WordsRefusal → Option A → Type 0
WordsMean (Ok said) meant = meant ≡ Some said
WordsMean (Err refusal.Words) meant = meant ≡ None
WordsMean (Err refusal.NoMemory) meant = ⊤

-- the numbers of a command have their ranges
abbrev pub HasRanges : Command → Type 0
HasRanges (Solo report limit) = IsIn 1 most_entries limit
HasRanges (Run order report limit) = IsIn 1 most_entries limit
HasRanges (Gen seed cpus partitions ticks) =
    (1 ≤ cpus) × (cpus ≤ most_cpus) × (1 ≤ partitions) × (partitions ≤ most_partitions) × (1 ≤ ticks) × (ticks ≤ most_ticks)
HasRanges (Check order limit) = IsIn 1 most_entries limit
HasRanges Upgrade = ⊤
HasRanges Admit = ⊤
