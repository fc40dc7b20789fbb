-- How a text goes to a sink, under other names of the text and of its status.
use Rattle.std.proofs.Common.{◌≡◌, ℕ, List, refl, inl, inr, subst}
use Rattle.aps_io.specs.Causes.{Rose}
use Rattle.aps_model.specs.declared.entry.Entry.{Entry}
use Rattle.aps_model.specs.Scenario.{Scenario}
use Rattle.view_words.specs.declared.asked.Trace.{Trace}
use Rattle.view_words.specs.declared.asked.Trace.TheVariants.{Vcd, Gtkw, Events}
use Rattle.aps_calls.specs.declared.status.Status.{Status}
use Rattle.aps_calls.specs.declared.status.Status.TheVariants.{NoMemory}
use Rattle.aps_calls.specs.Printing.{MakesAndPrints, Output}
use Rattle.aps_calls.specs.Status.{or_write_fault}
use Rattle.view_top.specs.Printing.{SaysTold, SaysAll, Told, Told.at_once}
use Rattle.view_top.specs.Traced.{trace_told}

-- a text that may have been made, or surely wasn't
pub says_made : (Made : Type 0) (output : Output) (text : List ℕ) (wanted status : Status)
    → MakesAndPrints Made output text wanted status → SaysTold output (at_once text) wanted status
says_made Made output text wanted status (inl printed) = inl printed
says_made Made output text wanted status (inr (made, lacks, nothing)) = inr (tt, lacks, nothing)

pub says_as : (output : Output) (said text : Told) (told wanted status : Status)
    → said ≡ text → told ≡ wanted → SaysTold output said told status → SaysTold output text wanted status
says_as output said text told wanted status p q h =
    subst (λ t. SaysTold output t wanted status) p (subst (λ w. SaysTold output said w status) q h)

-- a trace whose writing ended well, met a fault, or found no memory
module _ (output : Output) (scenario : Scenario) (h : List Entry) (status : Status) where
  pub says_all : (trace : Trace) → SaysAll output (trace_told trace scenario h) → SaysTold output (trace_told trace scenario h) status status
  says_all Vcd whole = inl (refl, whole)
  says_all Gtkw whole = inl (refl, whole)
  says_all Events whole = inl (refl, whole)

  pub says_fault : (trace : Trace) → Rose output.faults_before output.faults
      → SaysTold output (trace_told trace scenario h) status (or_write_fault status)
  says_fault Vcd rose = inr (inl (refl, rose))
  says_fault Gtkw rose = inr (inl (refl, rose))
  says_fault Events rose = inr (inl (refl, rose))

  pub says_lack : (trace : Trace) → SaysTold output (trace_told trace scenario h) status NoMemory
  says_lack Vcd = inr (inr refl)
  says_lack Gtkw = inr (inr refl)
  says_lack Events = inr (inr refl)
