-- What the answer of a call tells.
use Rattle.std.specs.Prelude.{◌≡◌, ℕ, List, Option}
use Rattle.std.specs.Io.KnownBytes.{Consumes}
use Rattle.aps_calls.specs.Intake.{Intake}
use Rattle.aps_calls.specs.Printing.{Output}
use Rattle.aps_calls.specs.Status.{code}
use Rattle.view_words.specs.declared.asked.Asked.{Asked}
use Rattle.view_top.specs.declared.outcome.Outcome.{Outcome}
use Rattle.aps_calls.specs.declared.status.Status.{Status}
use Rattle.view_top.specs.Cause.{HasViewCause}
use Rattle.view_top.specs.Outcome.{view_status, view_text}
use Rattle.view_top.specs.Printing.{SaysTold}

-- the answer of a call that was asked for this, over this source and this sink
pub record IsViewAnswer (asked : Option Asked) (intake : Intake) (output : Output) (told : ℕ) : Type 0 where
  -- the bytes that it read
  pub bytes : List ℕ
  pub read : Consumes intake.before intake.after bytes
  -- it had an outcome that its words and these bytes are the cause of
  pub outcome : Outcome
  pub cause : HasViewCause asked intake bytes outcome
  -- it wrote the text of that, and told its status
  pub status : Status
  pub told_is : told ≡ code status
  pub printed : SaysTold output (view_text outcome) (view_status outcome) status
