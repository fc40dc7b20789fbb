-- What an operation did, with the space behind it: byte after byte, as far as the words are alike.
use lib.Chars.{codes}
use Rattle.std.specs.Prelude.{ℕ, List, Ok}
use Rattle.aps_model.specs.declared.entry.Done.{Done}
use Rattle.aps_model.specs.declared.entry.Done.TheVariants.{Nothing, Run, Yield, SendBlocked, SendTo, ReceiveBlocked, ReceiveGot, ReceiveHolding, ReplyFreed, ReplyNoClient, Join, JoinNone, Priority, CriticalOn, CriticalOff, Repeat, Exit}
use Rattle.aps_model.specs.Limits.{last_thread}
use Rattle.aps_text.specs.Reader.{◌>>=◌, ReadResult, word_at, whole_word, after_byte, nothing_at, number_at}

-- the number of the thread that the operation names
abbrev pub named_at : (ℕ → Done) → List ℕ → ReadResult Done
named_at make bytes = number_at last_thread 32 bytes >>= λ n. Ok (make n.0, n.1)

-- behind 'c': on or off
unfoldable pub critical_at : List ℕ → ReadResult Done
critical_at bytes =
    word_at (codes "ritical:o") bytes >>= after_byte 110 (whole_word (codes " ") CriticalOn) (whole_word (codes "ff ") CriticalOff)

-- behind 'j'
unfoldable pub join_at : List ℕ → ReadResult Done
join_at bytes = word_at (codes "oin") bytes >>= after_byte 58 (whole_word (codes "none ") JoinNone) (whole_word (codes " ") Join)

-- behind 's': 'b' begins `blocked`
unfoldable pub send_at : List ℕ → ReadResult Done
send_at bytes = word_at (codes "end:") bytes >>= after_byte 98 (whole_word (codes "locked ") SendBlocked) (named_at SendTo)

-- behind 'receive:h'
unfoldable pub holding_at : List ℕ → ReadResult Done
holding_at bytes = word_at (codes "olding:") bytes >>= named_at ReceiveHolding

-- behind 'rec': 'b' begins `blocked`, 'h' `holding`
unfoldable pub receive_at : List ℕ → ReadResult Done
receive_at bytes = word_at (codes "eive:") bytes >>= after_byte 98 (whole_word (codes "locked ") ReceiveBlocked)
    (after_byte 104 holding_at (named_at ReceiveGot))

-- behind 'rep': 'l' goes on to `reply`, where 'n' begins `none`
unfoldable pub repeat_at : List ℕ → ReadResult Done
repeat_at =
    after_byte 108 (λ rest. word_at (codes "y:") rest >>= after_byte 110 (whole_word (codes "one ") ReplyNoClient) (named_at ReplyFreed))
    (whole_word (codes "eat ") Repeat)

-- behind 'r': 'u' goes on to `run`; behind 'e' stand 'c' of `receive`, and 'p'
unfoldable pub run_at : List ℕ → ReadResult Done
run_at = after_byte 117 (whole_word (codes "n ") Run)
    (λ bytes. word_at (codes "e") bytes >>= after_byte 99 receive_at (λ rest. word_at (codes "p") rest >>= repeat_at))

-- by a first byte from 'p' on: 'p', 'r', 's' or 'y'
unfoldable pub later_at : List ℕ → ReadResult Done
later_at =
    after_byte 112 (whole_word (codes "riority ") Priority)
    (after_byte 114 run_at (after_byte 115 send_at (after_byte 121 (whole_word (codes "ield ") Yield) nothing_at)))

-- by the first byte: '-', 'c', 'e', 'j', 'p', 'r', 's' or 'y'
unfoldable pub done_at : List ℕ → ReadResult Done
done_at = after_byte 45 (whole_word (codes " ") Nothing) (after_byte 99 critical_at (after_byte 101 (whole_word (codes "xit ") Exit)
    (after_byte 106 join_at later_at)))
