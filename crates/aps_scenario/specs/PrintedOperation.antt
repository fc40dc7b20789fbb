-- An operation of a program as text.
use Rattle.std.specs.Prelude.{ℕ, List, [], ◌++◌, codes, decimal, slice_index_or}
use Rattle.aps_model.specs.declared.program.Op.{Op}
use Rattle.aps_model.specs.declared.program.Op.TheVariants.{Run, Forever, Sleep, Yield, Send, Receive, Reply, Join, Priority, CriticalOn, CriticalOff, Repeat, Exit}

abbrev pub channel_name : List (List ℕ) → ℕ → List ℕ
channel_name channels c = slice_index_or channels c []

-- the operation, where these are the names of the channels
abbrev pub operation_text : List (List ℕ) → Op → List ℕ
operation_text channels (Run ns) = codes "run " ++ decimal ns
operation_text channels Forever = codes "run forever"
operation_text channels (Sleep ns) = codes "sleep " ++ decimal ns
operation_text channels Yield = codes "yield"
operation_text channels (Send c) = codes "send " ++ channel_name channels c
operation_text channels (Receive c) = codes "receive " ++ channel_name channels c
operation_text channels Reply = codes "reply"
operation_text channels (Join name) = codes "join " ++ name
operation_text channels (Priority n) = codes "priority " ++ decimal n
operation_text channels CriticalOn = codes "critical on"
operation_text channels CriticalOff = codes "critical off"
operation_text channels Repeat = codes "repeat"
operation_text channels Exit = codes "exit"
