-- How a text goes to a sink, under other names of the text and of its status.
use Rattle.std.proofs.Common.{◌≡◌, ℕ, List, Option, inl, inr, refl, sym, subst}
use Rattle.std.proofs.KnownBytes.{Keeps-refl}
use Rattle.aps_calls.specs.declared.status.Status.{Status}
use Rattle.aps_calls.specs.declared.status.Status.TheVariants.{NoMemory}
use Rattle.aps_calls.specs.declared.failure.Failure.{Failure}
use Rattle.aps_calls.specs.Failure.{SaysFailure}
use Rattle.aps_calls.specs.Printing.{MakesAndPrints, Output, Prints, output_of}

pub said_as : (output : Output) (said text : List ℕ) (told wanted status : Status)
    → said ≡ text → told ≡ wanted → Prints output said told status → Prints output text wanted status
said_as output said text told wanted status p q h =
    subst (λ t. Prints output t wanted status) p (subst (λ w. Prints output said w status) q h)

-- the same of a text that was made
pub made_as : (Made : Type 0) (output : Output) (said text : List ℕ) (told wanted status : Status)
    → said ≡ text → told ≡ wanted → Prints output said told status → MakesAndPrints Made output text wanted status
made_as Made output said text told wanted status p q h = inl (said_as output said text told wanted status p q h)

-- the same of a text that may have been made
pub makes_as : (Made : Type 0) (output : Output) (said text : List ℕ) (told wanted status : Status)
    → said ≡ text → told ≡ wanted → MakesAndPrints Made output said told status → MakesAndPrints Made output text wanted status
makes_as Made output said text told wanted status p q h =
    subst (λ t. MakesAndPrints Made output t wanted status) p (subst (λ w. MakesAndPrints Made output said w status) q h)

-- a text that wasn't made, over a sink to which nothing was written
pub unmade : (Made : Type 0) (written : Option (List ℕ)) (faults shortages : ℕ) (text : List ℕ) (wanted : Status) → Made
    → MakesAndPrints Made (output_of written written faults faults shortages shortages) text wanted NoMemory
unmade Made written faults shortages text wanted made = inr (made, refl, Keeps-refl written)

-- a failure under another name
pub says_failure_as : (output : Output) (f told : Failure) (status : Status) → f ≡ told → SaysFailure output told status → SaysFailure output f status
says_failure_as output f told status same h = subst (λ f. SaysFailure output f status) (sym same) h
