-- What the calls of a source or a sink do to the bytes, where those are known, and to their counts.
use Rattle.std.specs.Prelude.{ℕ, ◌≡◌, ◌<◌, ◌≤◌, ◌+◌, List, length, take, Option, Result, Ok, Err, Vec}
use Rattle.std.specs.Io.KnownBytes.{Consumes, Appends, Keeps, IsAtEnd}
use Rattle.std.specs.declared.alloc.Global.{Global}
use Rattle.aps_io.specs.Causes.{Rose}
use Rattle.aps_io.specs.declared.source.ReadAnswer.{ReadAnswer}
use Rattle.aps_io.specs.declared.source.ReadAnswer.TheVariants.{Got, End, Failed}
use Rattle.aps_io.specs.declared.sink.WriteAnswer.{WriteAnswer}
use Rattle.aps_io.specs.declared.sink.WriteAnswer.TheVariants as write
use Rattle.aps_io.specs.declared.all.ReadRefusal.{ReadRefusal}
use Rattle.aps_io.specs.declared.all.ReadRefusal.TheVariants as refusal

-- a read's answer, by the bytes left before and after it and what the buffer then holds
abbrev pub Reads : Option (List ℕ) → Option (List ℕ) → ReadAnswer → List ℕ → Type 0
Reads old new (Got n) into = (0 < n) × (n ≤ length into) × Consumes old new (take n into)
Reads old new End into = Keeps old new × IsAtEnd new
Reads old new Failed into = Keeps old new

-- the count of faults never falls, and `Failed` comes only where it rose
pub record ReadCause (before now : ℕ) (answer : ReadAnswer) : Type 0 where
  pub later : before ≤ now
  pub failed : answer ≡ Failed → Rose before now

-- a write's answer, by the bytes written before and after it
abbrev pub Writes : Option (List ℕ) → Option (List ℕ) → WriteAnswer → List ℕ → Type 0
Writes old new (write.Wrote n) piece = (0 < n) × (n ≤ length piece) × Appends old new (take n piece)
Writes old new write.Failed piece = Keeps old new
Writes old new write.NoMemory piece = Keeps old new

-- a count of one kind of answer never falls, and that answer comes only where it rose
pub record WriteCause (before now : ℕ) (answer kind : WriteAnswer) : Type 0 where
  pub later : before ≤ now
  pub told : answer ≡ kind → Rose before now

-- the bytes that a reading of all took, by its answer
abbrev pub Delivered : List ℕ → ℕ → Result (Vec ℕ Global) ReadRefusal → Type 0
Delivered bytes most (Ok v) = (bytes ≡ v.items) × (length bytes ≤ most)
Delivered bytes most (Err refusal.TooLong) = length bytes ≡ most + 1
Delivered bytes most (Err refusal.ReadFault) = length bytes ≤ most
Delivered bytes most (Err refusal.NoMemory) = length bytes ≤ most + 1
