-- Sources and sinks in memory whose failing calls are given beforehand.
use Rattle.std.specs.Prelude.{ℕ, Bool, true, false, if◌then◌else◌, ◌≡◌, List, ◌++◌, length, drop, min, nat_eq, ⊤}
use Rattle.std.specs.List.{list_any}
use Rattle.aps_io.specs.Causes.{counted}
use Rattle.aps_io.specs.declared.source.ReadAnswer.{ReadAnswer}
use Rattle.aps_io.specs.declared.source.ReadAnswer.TheVariants.{Got, End, Failed}
use Rattle.aps_io.specs.declared.sink.WriteAnswer.{WriteAnswer}
use Rattle.aps_io.specs.declared.sink.WriteAnswer.TheVariants as write

-- the bytes still to come, the numbers of the calls that fail, and the calls and faults so far
pub record ScriptedSource : Type 0 where
  pub left : List ℕ
  pub fails : List ℕ
  pub calls : ℕ
  pub faults : ℕ

-- the bytes written so far, the numbers of the calls that fail, and the calls, faults and wants of memory so far
pub record ScriptedSink : Type 0 where
  pub written : List ℕ
  pub fails : List ℕ
  pub calls : ℕ
  pub faults : ℕ
  pub shortages : ℕ

-- the bytes written so far, and the wants of memory so far
pub record GrowingSink : Type 0 where
  pub written : List ℕ
  pub shortages : ℕ

-- whether the call of this number is one of those that fail
abbrev pub is_failing : List ℕ → ℕ → Bool
is_failing fails call = list_any (nat_eq call) fails

-- what a read into this much room says, and what it puts at the front of the buffer
abbrev pub answer_to_read : List ℕ → ℕ → ReadAnswer
answer_to_read left room = if nat_eq (min room (length left)) 0 then End else Got (min room (length left))

abbrev pub read_answer : ScriptedSource → ℕ → ReadAnswer
read_answer s room = if is_failing s.fails s.calls then Failed else answer_to_read s.left room

-- the source after a read into this much room
abbrev pub after_read : ScriptedSource → ℕ → ScriptedSource
after_read s room = if is_failing s.fails s.calls
    then record s { calls = counted s.calls; faults = counted s.faults }
    else record s { calls = counted s.calls; left = drop room s.left }

-- the sink after a write of a piece, by its answer
abbrev pub after_write : ScriptedSink → List ℕ → WriteAnswer → ScriptedSink
after_write s piece (write.Wrote n) = record s { calls = counted s.calls; written = s.written ++ piece }
after_write s piece write.Failed = record s { calls = counted s.calls; faults = counted s.faults }
after_write s piece write.NoMemory = record s { calls = counted s.calls; shortages = counted s.shortages }

-- a write fails exactly where its call is one of those that fail, and else takes the whole piece or finds no memory
abbrev pub WriteAnswers : ScriptedSink → List ℕ → WriteAnswer → Type 0
WriteAnswers s piece (write.Wrote n) = (is_failing s.fails s.calls ≡ false) × (n ≡ length piece)
WriteAnswers s piece write.Failed = is_failing s.fails s.calls ≡ true
WriteAnswers s piece write.NoMemory = is_failing s.fails s.calls ≡ false

-- the same of a sink that never fails
abbrev pub grown : GrowingSink → List ℕ → WriteAnswer → GrowingSink
grown s piece (write.Wrote n) = record s { written = s.written ++ piece }
grown s piece write.Failed = s
grown s piece write.NoMemory = record s { shortages = counted s.shortages }

abbrev pub GrowsOrLacks : List ℕ → WriteAnswer → Type 0
GrowsOrLacks piece (write.Wrote n) = n ≡ length piece
GrowsOrLacks piece write.Failed = ⊥
GrowsOrLacks piece write.NoMemory = ⊤

-- the count of faults of a source or a sink over std's reader or writer, by the answer
abbrev pub faults_after_read : ℕ → ReadAnswer → ℕ
faults_after_read faults (Got n) = faults
faults_after_read faults End = faults
faults_after_read faults Failed = counted faults

abbrev pub faults_after_write : ℕ → WriteAnswer → ℕ
faults_after_write faults (write.Wrote n) = faults
faults_after_write faults write.Failed = counted faults
faults_after_write faults write.NoMemory = faults
