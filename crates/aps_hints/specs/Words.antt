-- The usage that words ask for.
use Rattle.std.specs.Prelude.{◌≡◌, ℕ, List, [], ◌∷◌, ◌++◌, codes, true, if◌then◌else◌, nat_eq}
use Rattle.std.specs.List.{starts_with}
use Rattle.std.specs.Str.{bytes_eq}
use Rattle.aps_hints.specs.declared.words.Usage.{Usage}
use Rattle.aps_hints.specs.declared.words.Usage.TheVariants.{All, Solo, Run, Check, Admit, Upgrade, Gen}

-- the usage of the command that has this word, else that of all commands
abbrev pub text_meant : List ℕ → Usage
text_meant word =
    if bytes_eq word (codes "admit") then Admit
    else (if bytes_eq word (codes "upgrade") then Upgrade else (if bytes_eq word (codes "gen") then Gen else All))

abbrev pub run_meant : List ℕ → Usage
run_meant word =
    if bytes_eq word (codes "solo") then Solo
    else (if bytes_eq word (codes "run") then Run else (if bytes_eq word (codes "check") then Check else text_meant word))

-- the usage of the command that the first word names, else that of all commands
abbrev pub usage_meant : List (List ℕ) → Usage
usage_meant [] = All
usage_meant (word ∷ words) = run_meant word

-- the first word of the command
abbrev pub command_word : Usage → List ℕ
command_word All = codes "COMMAND"
command_word Solo = codes "solo"
command_word Run = codes "run"
command_word Check = codes "check"
command_word Admit = codes "admit"
command_word Upgrade = codes "upgrade"
command_word Gen = codes "gen"

-- a text that tells the usage of this command begins so
abbrev pub TellsUsage : Usage → List ℕ → Type 0
TellsUsage usage text = starts_with nat_eq text (codes "usage: apsim " ++ command_word usage ++ codes " ") ≡ true
