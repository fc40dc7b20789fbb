-- Where neither reading nor writing fails, what is due is told.
use Rattle.std.proofs.Common.{◌≡◌, ℕ, ◌<◌, ◌≤◌, ◌⊎◌, List, ◌++◌, length, Option, Some, None, inl, inr, refl, sym, ap, subst, ◌∙◌, arith}
use Rattle.std.proofs.lemmas.List.{append-nil, length-append}
use Rattle.aps_calls.specs.declared.failure.Failure.TheVariants.{WordsRefused, ReadFault, TooLong, InputRefused, NoMemory}
use Rattle.aps_calls.specs.Intake.{Intake, intake_of}
use Rattle.aps_calls.specs.Printing.{output_of}
use Rattle.aps_calls.specs.Status.{code}
use Rattle.view_words.specs.declared.asked.Asked.{Asked}
use Rattle.view_top.specs.declared.outcome.Outcome.{Outcome}
use Rattle.view_top.specs.declared.outcome.Outcome.TheVariants.{Failed, Reported, Traced, Broken}
use Rattle.aps_calls.specs.declared.status.Status.{Status}
use Rattle.aps_calls.specs.declared.status.Status.TheVariants as status
use Rattle.view_top.specs.Answer.{IsViewAnswer}
use Rattle.view_top.specs.Cause.{HasViewCause, HasCauseIn, IsOfWhole, told_by}
use Rattle.view_top.specs.Due.{Due, IsAdded, IsViewDue, IsDueOfInput, IsDueTold}
use Rattle.view_top.specs.Outcome.{view_status, view_text}
use Rattle.view_top.specs.Printing.{SaysTold, Told, Told.at_once, Told.in_pieces}
use Rattle.aps_model.specs.Limits.{most_journal_bytes}

-- want of memory is a cause of its own, whatever was asked for
pub lacks_memory : (asked : Option Asked) (intake : Intake) (bytes : List ℕ) → HasViewCause asked intake bytes (Failed NoMemory)
lacks_memory None intake bytes = tt
lacks_memory (Some asked) intake bytes = inl refl

module _ (asked : Asked) (input bytes rest : List ℕ) (taken : input ≡ bytes ++ rest) where
  of_whole : (outcome : Outcome) → IsOfWhole asked (intake_of (Some input) (Some rest) 0 0) bytes outcome → IsViewDue (Some asked) input (told_by outcome)
  of_whole outcome h =
      let same : input ≡ bytes = taken ∙ ap (λ l. bytes ++ l) h.end ∙ append-nil bytes in
      let fits : length input ≤ most_journal_bytes = omega (arith, ap (λ (l : List ℕ). length l) same, h.short) in
      inr (fits, subst (λ l. IsDueOfInput asked l (told_by outcome)) (sym same) h.due)

  is_due : (outcome : Outcome) → HasCauseIn asked (intake_of (Some input) (Some rest) 0 0) bytes outcome → (outcome ≡ Failed NoMemory) ⊎ IsViewDue (Some asked) input (told_by outcome)
  is_due outcome (inl none) = inl none
  is_due outcome (inr (inl h)) = absurd (omega (arith, h.rose))
  is_due outcome (inr (inr (inl h))) =
      let long : most_journal_bytes < length input = omega (arith, h.long, ap (λ (l : List ℕ). length l) taken, length-append bytes rest) in
      inr (inl (long, ap told_by h.is))
  is_due outcome (inr (inr (inr h))) = inr (of_whole outcome h)

unasked : (intake : Intake) (bytes input : List ℕ) (outcome : Outcome) → HasViewCause None intake bytes outcome → (outcome ≡ Failed NoMemory) ⊎ IsViewDue None input (told_by outcome)
unasked intake bytes input (Failed WordsRefused) h = inr refl
unasked intake bytes input (Failed ReadFault) h = absurd h
unasked intake bytes input (Failed TooLong) h = absurd h
unasked intake bytes input (Failed (InputRefused refusal)) h = absurd h
unasked intake bytes input (Reported status text) h = absurd h
unasked intake bytes input (Traced traced) h = absurd h
unasked intake bytes input (Broken verdict) h = absurd h
unasked intake bytes input (Failed NoMemory) h = inl refl

outcome_due : (asked : Option Asked) (input bytes rest : List ℕ) (outcome : Outcome) → input ≡ bytes ++ rest → HasViewCause asked (intake_of (Some input) (Some rest) 0 0) bytes outcome
    → (outcome ≡ Failed NoMemory) ⊎ IsViewDue asked input (told_by outcome)
outcome_due None input bytes rest outcome taken h = unasked (intake_of (Some input) (Some rest) 0 0) bytes input outcome h
outcome_due (Some asked) input bytes rest outcome taken h = is_due asked input bytes rest taken outcome h

-- ---- what was told

-- the text was told under the status that is due, or memory ran out
module _ (before after : List ℕ) (lacked lacks told : ℕ) (came : Status) (is : told ≡ code came) where
  said_due : (text : Told) (wanted : Status) → SaysTold (output_of (Some before) (Some after) 0 0 lacked lacks) text wanted came
      → ((told ≡ code wanted) × IsAdded before after text) ⊎ (told ≡ code status.NoMemory)
  said_due (at_once text) wanted (inl (inl whole)) = inl (is ∙ ap code whole.0, whole.1)
  said_due (at_once text) wanted (inl (inr (inl fault))) = absurd (omega (arith, fault.1))
  said_due (at_once text) wanted (inl (inr (inr lack))) = inr (is ∙ ap code lack.0)
  said_due (at_once text) wanted (inr unmade) = inr (is ∙ ap code unmade.1)
  said_due (in_pieces text) wanted (inl whole) = inl (is ∙ ap code whole.0, whole.1)
  said_due (in_pieces text) wanted (inr (inl fault)) = absurd (omega (arith, fault.1))
  said_due (in_pieces text) wanted (inr (inr lack)) = inr (is ∙ ap code lack)

  printed_due : (asked : Option Asked) (input : List ℕ) (due : Due) → IsViewDue asked input due
      → SaysTold (output_of (Some before) (Some after) 0 0 lacked lacks) due.text due.status came → IsDueTold asked input before after told
  printed_due asked input due h said = elim (said_due due.text due.status said) [
    | inl came ↦ inl (due, h, came.0, came.1)
    | inr lack ↦ inr lack
  ]

  nothing_due : (text : Told) → SaysTold (output_of (Some before) (Some after) 0 0 lacked lacks) text status.NoMemory came → told ≡ code status.NoMemory
  nothing_due text said = elim (said_due text status.NoMemory said) [
    | inl came ↦ came.0
    | inr lack ↦ lack
  ]

pub calm_answer : (asked : Option Asked) (input rest before after : List ℕ) (lacked lacks told : ℕ)
    → IsViewAnswer asked (intake_of (Some input) (Some rest) 0 0) (output_of (Some before) (Some after) 0 0 lacked lacks) told → IsDueTold asked input before after told
calm_answer asked input rest before after lacked lacks told a =
    elim (outcome_due asked input a.bytes rest a.outcome a.read a.cause) [
      | inl none ↦
          let P : Status → Type 0 = λ wanted. SaysTold (output_of (Some before) (Some after) 0 0 lacked lacks) (view_text a.outcome) wanted a.status in
          inr (nothing_due before after lacked lacks told a.status a.told_is (view_text a.outcome) (subst P (ap view_status none) a.printed))
      | inr due ↦ printed_due before after lacked lacks told a.status a.told_is asked input (told_by a.outcome) due a.printed
    ]
