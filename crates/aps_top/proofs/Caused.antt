-- What comes of a reading has its cause in the command and in the reading.
use Rattle.std.proofs.Common.{◌≡◌, ℕ, List, [], Option, Some, Ok, inl, sym, ap, subst, ◌∙◌}
use Rattle.std.specs.Io.KnownBytes.{Consumes}
use Rattle.aps_core.specs.Run.{Run, Setup}
use Rattle.aps_model.specs.declared.entry.End.{End}
use Rattle.aps_model.specs.declared.entry.Order.{Order}
use Rattle.aps_model.specs.History.{History}
use Rattle.aps_words.specs.declared.command.Command.{Command}
use Rattle.aps_words.specs.declared.command.Report.{Report}
use Rattle.aps_calls.specs.declared.failure.Failure.{Failure}
use Rattle.aps_calls.specs.declared.failure.Failure.TheVariants.{WordsRefused, ReadFault, TooLong, InputRefused, NoMemory}
use Rattle.aps_calls.specs.Intake.{Intake}
use Rattle.aps_top.specs.declared.outcome.Outcome.{Outcome}
use Rattle.aps_top.specs.declared.outcome.Outcome.TheVariants.{Failed, Ran}
use Rattle.aps_calls.specs.declared.refusal.InputRefusal.{InputRefusal}
use Rattle.aps_top.specs.Asked.{IsToRead, run_asked}
use Rattle.aps_top.specs.Cause.{FailsFor, Input, input_of, HasCause, IsOutcome}
use Rattle.aps_top.specs.Reading.{BeginsIn, GivesNone, most_of, reading_in, refusal_of}
use Rattle.aps_top.specs.Run.{IsRun}

pub lacking : (refused : List ℕ → Option InputRefusal) (input : Input) (failure : Failure) → IsToRead input.asked
    → refusal_of input.asked input.reading.bytes ≡ refused input.reading.bytes
    → GivesNone refused (most_of input.asked) input.reading failure → FailsFor input failure
lacking refused input WordsRefused to_read same h = absurd h
lacking refused input ReadFault to_read same h = (to_read, h.0, h.1)
lacking refused input TooLong to_read same h = (to_read, h)
lacking refused input (InputRefused refusal) to_read same h = (h.0, same ∙ h.1)
lacking refused input NoMemory to_read same h = inl to_read

-- the same over a source
pub lacking_in : (refused : List ℕ → Option InputRefusal) (asked : Option Command) (intake : Intake) (failure : Failure) → IsToRead asked
    → ((bytes : List ℕ) → refusal_of asked bytes ≡ refused bytes)
    → (bytes : List ℕ) × Consumes intake.before intake.after bytes × GivesNone refused (most_of asked) (reading_in intake bytes) failure
    → IsOutcome asked intake (Failed failure)
lacking_in refused asked intake failure to_read same (bytes, read, none) =
    (bytes, read, lacking refused (input_of asked intake bytes) failure to_read (same bytes) none)

-- a run that was begun as it was asked for, and went to its end
pub ran_in : (asked : Option Command) (order : Order) (report : Report) (limit : ℕ) (intake : Intake) (begun : Run) (setup : Setup)
    (end : End) (h : History) → run_asked asked ≡ Some (record { order = order; report = report; limit = limit })
    → BeginsIn intake order limit (Ok begun) → setup ≡ begun.setup → h.scenario ≡ setup.scenario → IsRun setup.order setup.limit end h
    → IsOutcome asked intake (Ran report end h)
ran_in asked order report limit intake begun setup end h is (bytes, read, begins) same scenario run =
    let order_is : setup.order ≡ order = ap (λ (s : Setup). s.order) same ∙ begins.1.order_is in
    let limit_is : setup.limit ≡ limit = ap (λ (s : Setup). s.limit) same ∙ begins.1.limit_is in
    let scenario_is : begun.setup.scenario ≡ h.scenario = sym (scenario ∙ ap (λ (s : Setup). s.scenario) same) in (
      bytes,
      read,
      record {
        order = order;
        limit = limit;
        asked = is;
        whole = begins.0;
        scenario = begins.1.scenario ∙ ap Ok scenario_is;
        run = subst (λ o. IsRun o limit end h) order_is (subst (λ l. IsRun setup.order l end h) limit_is run);
      },
    )

-- an outcome without reading, over a source of which nothing was read
pub unread : (asked : Option Command) (intake : Intake) (outcome : Outcome) → Consumes intake.before intake.after []
    → HasCause (input_of asked intake []) outcome → IsOutcome asked intake outcome
unread asked intake outcome read cause = ([], read, cause)

-- the same outcome of a command under another name
pub asked_as : (a b : Option Command) (intake : Intake) (outcome : Outcome) → a ≡ b → IsOutcome a intake outcome → IsOutcome b intake outcome
asked_as a b intake outcome same h = subst (λ asked. IsOutcome asked intake outcome) same h
