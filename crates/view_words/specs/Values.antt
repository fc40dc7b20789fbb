-- What the values of the options say.
use Rattle.std.specs.Prelude.{ℕ, ◌≤◌, ◌<◌, ◌&&◌, length, nat_le, nat_lt, Bool, Option, Some, None, IfSome, if◌then◌else◌, option_map}
use Rattle.std.specs.List.{list_all}
use Rattle.aps_model.specs.Limits.{longest_name, most_ticks}
use Rattle.aps_model.specs.Name.{is_name_byte}
use Rattle.aps_words.specs.Command.{◌>>=◌}
use Rattle.aps_words.specs.Number.{number_in}
use Rattle.aps_words.specs.Options.{Text}
use Rattle.view_words.specs.declared.asked.Ticks.{Ticks}

-- the first tick: the value, or 0
abbrev pub from_of : Option Text → Option ℕ
from_of None = Some 0
from_of (Some value) = number_in 0 most_ticks value

-- the tick before which they end: the value, or none
abbrev pub to_of : Option Text → Option (Option ℕ)
to_of None = Some None
to_of (Some value) = option_map (λ to. Some to) (number_in 0 most_ticks value)

-- the ticks from one to another, which is later
abbrev pub between : ℕ → Option ℕ → Option Ticks
between from None = Some (record { from = from; to = None })
between from (Some to) = if nat_lt from to then Some (record { from = from; to = Some to }) else None

abbrev pub ticks_of : Option Text → Option Text → Option Ticks
ticks_of first last = do
  from ← from_of first
  to ← to_of last
  between from to

-- the ranges of ticks
pub record AreTicks (ticks : Ticks) : Type 0 where
  pub from : ticks.from ≤ most_ticks
  pub to : IfSome ticks.to (λ to. (ticks.from < to) × (to ≤ most_ticks))

-- the text is 1 to 15 letters, digits, '_' and '-'
abbrev pub is_name : Text → Bool
is_name text = (nat_le 1 (length text) && nat_le (length text) longest_name) && list_all is_name_byte text

-- the name that the text is, if it is one
abbrev pub name_in : Text → Option Text
name_in text = if is_name text then Some text else None

-- the name of a thread, whose option has to be there; a text that is no name is that of no thread
abbrev pub thread_asked : Option Text → Option (Option Text)
thread_asked None = None
thread_asked (Some value) = Some (name_in value)
