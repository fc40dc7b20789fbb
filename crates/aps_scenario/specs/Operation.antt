-- One operation of a program.
use Rattle.std.specs.Prelude.{ℕ, ◌+◌, ◌-◌, ◌*◌, ◌==◌, nat_le, ◌&&◌, not, List, [], ◌∷◌, codes, Option, Some, None, Result, Ok, Err, if◌then◌else◌}
use Rattle.std.specs.Char.{is_ascii_digit}
use Rattle.std.specs.List.{position}
use Rattle.std.specs.Str.{bytes_eq}
use Rattle.aps_model.specs.declared.program.Op.{Op}
use Rattle.aps_model.specs.declared.program.Op.TheVariants.{Run, Forever, Sleep, Yield, Send, Receive, Reply, Join, Priority, CriticalOn, CriticalOff, Repeat, Exit}
use Rattle.aps_scenario.specs.declared.operation.OperationFault.{OperationFault}
use Rattle.aps_scenario.specs.declared.operation.OperationFault.TheVariants.{Unknown, Bad}
use Rattle.aps_scenario.specs.Row.{is_name}
use Rattle.aps_scenario.specs.Channels.{is_name_among}
use Rattle.aps_model.specs.Limits.{greatest_priority, last_moment}

-- ---- numbers

-- the digits that go on a number, which is at most `most`
abbrev pub number_after : ℕ → ℕ → List ℕ → Option ℕ
number_after most value [] = Some value
number_after most value (c ∷ cs) =
    if is_ascii_digit c && nat_le (value * 10 + (c - 48)) most then number_after most (value * 10 + (c - 48)) cs else None

-- a number from 1 to `most` in decimal, with no sign and no leading zero
abbrev pub number : ℕ → List ℕ → Option ℕ
number most [] = None
number most (c ∷ cs) =
    if (is_ascii_digit c && not (c == 48)) && nat_le (c - 48) most then number_after most (c - 48) cs else None

-- ---- operations by their words

abbrev pub or_bad : {A : Type 0} → (A → Op) → Option A → Result Op OperationFault
or_bad op None = Err Bad
or_bad op (Some x) = Ok (op x)

abbrev pub run_or_forever : Option ℕ → List ℕ → Result Op OperationFault
run_or_forever (Some ns) text = Ok (Run ns)
run_or_forever None text = if bytes_eq text (codes "forever") then Ok Forever else Err Bad

abbrev pub run_of_text : List ℕ → Result Op OperationFault
run_of_text text = run_or_forever (number last_moment text) text

abbrev pub sleep : List ℕ → Result Op OperationFault
sleep text = or_bad Sleep (number last_moment text)

abbrev pub priority : List ℕ → Result Op OperationFault
priority text = or_bad Priority (number greatest_priority text)

-- the place of a channel by its name
abbrev pub channel_named : List (List ℕ) → List ℕ → Option ℕ
channel_named channels name = position (λ (other : List ℕ). bytes_eq other name) channels

abbrev pub channel_or_unknown : Option ℕ → Result ℕ OperationFault
channel_or_unknown None = Err Unknown
channel_or_unknown (Some channel) = Ok channel

-- the channel of this name
abbrev pub channel : List (List ℕ) → List ℕ → Result ℕ OperationFault
channel channels name = if is_name name then channel_or_unknown (channel_named channels name) else Err Bad

abbrev pub op_on_channel : (ℕ → Op) → Result ℕ OperationFault → Result Op OperationFault
op_on_channel op (Ok channel) = Ok (op channel)
op_on_channel op (Err fault) = Err fault

abbrev pub send : List (List ℕ) → List ℕ → Result Op OperationFault
send channels name = op_on_channel Send (channel channels name)

abbrev pub receive : List (List ℕ) → List ℕ → Result Op OperationFault
receive channels name = op_on_channel Receive (channel channels name)

abbrev pub join : List (List ℕ) → List ℕ → Result Op OperationFault
join joinable name =
    if is_name name then (if is_name_among joinable name then Ok (Join name) else Err Unknown) else Err Bad

-- an operation that is always the same text
abbrev pub constant : List ℕ → Result Op OperationFault
constant text =
    if bytes_eq text (codes "yield") then Ok Yield
    else if bytes_eq text (codes "reply") then Ok Reply
    else if bytes_eq text (codes "critical on") then Ok CriticalOn
    else if bytes_eq text (codes "critical off") then Ok CriticalOff
    else if bytes_eq text (codes "repeat") then Ok Repeat
    else if bytes_eq text (codes "exit") then Ok Exit
    else Err Bad

-- ---- texts

-- the text behind these bytes
abbrev pub after_word : List ℕ → List ℕ → Option (List ℕ)
after_word [] text = Some text
after_word (w ∷ word) [] = None
after_word (w ∷ word) (c ∷ cs) = if c == w then after_word word cs else None

abbrev pub either_way : Option (List ℕ) → (List ℕ → Result Op OperationFault) → (List ℕ → Result Op OperationFault)
    → List ℕ → Result Op OperationFault
either_way (Some rest) reads other text = reads rest
either_way None reads other text = other text

-- behind the word the operation is read from the rest; a text without it is read otherwise
abbrev pub behind : List ℕ → (List ℕ → Result Op OperationFault) → (List ℕ → Result Op OperationFault) → List ℕ → Result Op OperationFault
behind word reads other text = either_way (after_word word text) reads other text

-- an operation that names a channel or a partition, or is always the same text
abbrev pub named_or_constant : List (List ℕ) → List (List ℕ) → List ℕ → Result Op OperationFault
named_or_constant channels joinable =
    behind (codes "send ") (send channels)
    (behind (codes "receive ") (receive channels)
    (behind (codes "join ") (join joinable) constant))

-- the operation that a text is, where these are the channels and the names that may be joined
abbrev pub operation_of : List (List ℕ) → List (List ℕ) → List ℕ → Result Op OperationFault
operation_of channels joinable =
    behind (codes "run ") run_of_text
    (behind (codes "sleep ") sleep
    (behind (codes "priority ") priority
    (named_or_constant channels joinable)))
