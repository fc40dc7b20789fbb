-- The status of an answer, by the outcome of the call.
use Rattle.std.proofs.Common.{rules, ◌≡◌, ◌≢◌, ℕ, zero, suc, List, [], take, append-nil, ◌⊎◌, inl, inr, Option, Some, None, IfSome, refl, sym, ap, subst, ◌∙◌, arith, Bool, true, false, ◌==◌, ◌||◌, true≢false}
use Rattle.std.specs.Io.KnownBytes.{Appends, IsAtEnd, Keeps}
use Rattle.aps_admit.specs.declared.admission.Admission.{Admission}
use Rattle.aps_admit.specs.declared.admission.Admission.TheVariants.{Budgets, Needs}
use Rattle.aps_admit.specs.Text.{admission_text}
use Rattle.aps_check.specs.declared.verdict.Verdict.{Verdict}
use Rattle.aps_check.specs.declared.verdict.Verdict.TheVariants.{Legal, Breaks}
use Rattle.aps_check.specs.Text.{verdict_text}
use Rattle.aps_io.specs.Causes.{Rose}
use Rattle.aps_model.specs.declared.entry.End.{End}
use Rattle.aps_model.specs.declared.entry.End.TheVariants.{Horizon, Limit, Reboot}
use Rattle.aps_model.specs.History.{History}
use Rattle.aps_words.specs.declared.command.Command.{Command}
use Rattle.aps_words.specs.declared.command.Command.TheVariants as command
use Rattle.aps_words.specs.declared.command.Report.{Report}
use Rattle.aps_calls.specs.declared.status.Status.{Status}
use Rattle.aps_calls.specs.declared.status.Status.TheVariants.{Done, WordsRefused, InputRefused, Rebooted, ReadFault, WriteFault, Limited, NoMemory, TooLong, JournalBreaks, NeedsExceed}
use Rattle.aps_top.specs.declared.outcome.Outcome.{Outcome}
use Rattle.aps_top.specs.declared.outcome.Outcome.TheVariants as outcome
use Rattle.aps_calls.specs.declared.failure.Failure.TheVariants as failure
use Rattle.aps_top.specs.declared.top.Ended.{Ended}
use Rattle.aps_top.specs.Asked.{RunAsked, IsToRead, run_asked}
use Rattle.aps_calls.specs.Intake.{Intake}
use Rattle.aps_calls.specs.Printing.{LacksMemory, Output, WritesNothing, WritesPrefix, WritesWhole}
use Rattle.aps_calls.specs.Status.{code, or_write_fault, status_of_end, status_of_verdict}
use Rattle.aps_top.specs.Outcome.{Says, report_text, status_of, status_of_admission, text_of, history_of}
use Rattle.aps_top.specs.Due.{IsDueStatus}
use Rattle.aps_top.proofs.Unread.{read_if_asked}
use Rattle.aps_top.specs.Cause.{Input, input_of, HasCause, RanAsRead, CheckedAsRead, AdmittedAsRead, IsOutcome}
use Rattle.aps_top.specs.Reading.{most_of, refusal_of}
use Rattle.aps_top.specs.Refusal.{refused_text, scenario_refusal}
use Rattle.aps_top.specs.Answers.{Tells, Answers, Comes, OrWanting, Wanting, ReachesHorizon, ReportsWhole, WritesAsked, IsAnswer}
use Rattle.aps_top.proofs.Due as due
use Rattle.aps_model.specs.Limits.{most_scenario_bytes}

-- ---- what was told of a status that was wanted

-- want of memory was told, with its cause
abbrev IsLackTold : Output → ℕ → Type 0
IsLackTold output told = (told ≡ code NoMemory) × LacksMemory output

-- the status was told that was wanted, with the whole text; or that of a fault of the sink; or want of memory
abbrev IsTold : Output → List ℕ → Status → ℕ → Type 0
IsTold output text wanted told =
    ((told ≡ code wanted) × WritesWhole output text)
    ⊎ ((told ≡ code (or_write_fault wanted)) × Rose output.faults_before output.faults × WritesPrefix output text)
    ⊎ IsLackTold output told

told_of : (output : Output) (o : Outcome) (status : Status) (told : ℕ)
    → told ≡ code status → Says output o status → IsTold output (text_of o) (status_of o) told
told_of output o status told is (inl (inl p)) = inl (is ∙ ap code p.0, p.1)
told_of output o status told is (inl (inr (inl p))) = inr (inl (is ∙ ap code p.0, p.1, p.2))
told_of output o status told is (inl (inr (inr p))) = inr (inr (is ∙ ap code p.0, inr p.1))
told_of output o status told is (inr p) = inr (inr (is ∙ ap code p.1, inl p.2))

zero_is_done : (status : Status) → code status ≡ 0 → status ≡ Done
zero_is_done Done h = refl
zero_is_done WordsRefused h = absurd (omega arith)
zero_is_done InputRefused h = absurd (omega arith)
zero_is_done Rebooted h = absurd (omega arith)
zero_is_done ReadFault h = absurd (omega arith)
zero_is_done WriteFault h = absurd (omega arith)
zero_is_done Limited h = absurd (omega arith)
zero_is_done NoMemory h = absurd (omega arith)
zero_is_done TooLong h = absurd (omega arith)
zero_is_done JournalBreaks h = absurd (omega arith)
zero_is_done NeedsExceed h = absurd (omega arith)

never_done : (status : Status) → or_write_fault status ≢ Done
never_done Done h = absurd cc
never_done WordsRefused h = absurd cc
never_done InputRefused h = absurd cc
never_done Rebooted h = absurd cc
never_done ReadFault h = absurd cc
never_done WriteFault h = absurd cc
never_done Limited h = absurd cc
never_done NoMemory h = absurd cc
never_done TooLong h = absurd cc
never_done JournalBreaks h = absurd cc
never_done NeedsExceed h = absurd cc

-- under status 0 that was wanted, and the whole text was written
whole_told : (output : Output) (text : List ℕ) (wanted : Status) (told : ℕ) → IsTold output text wanted told → told ≡ 0
    → (wanted ≡ Done) × WritesWhole output text
whole_told output text wanted told (inl p) is_zero = (zero_is_done wanted (sym p.0 ∙ is_zero), p.1)
whole_told output text wanted told (inr (inl p)) is_zero = absurd (never_done wanted (zero_is_done (or_write_fault wanted) (sym p.0 ∙ is_zero)))
whole_told output text wanted told (inr (inr p)) is_zero = absurd (omega (arith, p.0, is_zero))

seven_is_lack : (status : Status) → code status ≡ 7 → status ≡ NoMemory
seven_is_lack Done h = absurd (omega arith)
seven_is_lack WordsRefused h = absurd (omega arith)
seven_is_lack InputRefused h = absurd (omega arith)
seven_is_lack Rebooted h = absurd (omega arith)
seven_is_lack ReadFault h = absurd (omega arith)
seven_is_lack WriteFault h = absurd (omega arith)
seven_is_lack Limited h = absurd (omega arith)
seven_is_lack NoMemory h = refl
seven_is_lack TooLong h = absurd (omega arith)
seven_is_lack JournalBreaks h = absurd (omega arith)
seven_is_lack NeedsExceed h = absurd (omega arith)

lack_stays : (status : Status) → or_write_fault status ≡ NoMemory → status ≡ NoMemory
lack_stays Done h = absurd cc
lack_stays WordsRefused h = absurd cc
lack_stays InputRefused h = absurd cc
lack_stays Rebooted h = absurd cc
lack_stays ReadFault h = absurd cc
lack_stays WriteFault h = absurd cc
lack_stays Limited h = absurd cc
lack_stays NoMemory h = refl
lack_stays TooLong h = absurd cc
lack_stays JournalBreaks h = absurd cc
lack_stays NeedsExceed h = absurd cc

-- where writing didn't fail, a status 0 that was wanted came, or want of memory
done_told : (output : Output) (text : List ℕ) (told : ℕ) → IsTold output text Done told → told ≢ code WriteFault
    → (told ≡ code Done) ⊎ IsLackTold output told
done_told output text told (inl p) unfailing = inl p.0
done_told output text told (inr (inl p)) unfailing = absurd (unfailing p.0)
done_told output text told (inr (inr p)) unfailing = inr p

-- ---- want of memory

kept : (before after : Option (List ℕ)) → Appends before after [] → Keeps before after
kept None after h = tt
kept (Some xs) None h = h
kept (Some xs) (Some ys) h = h ∙ append-nil xs

none_taken : (n : ℕ) → take {A = ℕ} n [] ≡ []
none_taken zero = refl
none_taken (suc n) = refl

nothing_written : (output : Output) → WritesPrefix output [] → WritesNothing output
nothing_written output p =
    kept output.before output.after (subst (λ t. Appends output.before output.after t) (none_taken p.0) p.2)

-- where no text was to be written, nothing was
lack_of_none : (output : Output) (told : ℕ) → IsTold output [] NoMemory told → IsLackTold output told
lack_of_none output told (inl p) = (p.0, inl (kept output.before output.after p.1))
lack_of_none output told (inr (inl p)) = (p.0, inl (nothing_written output p.2))
lack_of_none output told (inr (inr p)) = p

end_lacks : (end : End) → status_of_end end ≢ NoMemory
end_lacks Horizon h = absurd cc
end_lacks Limit h = absurd cc
end_lacks (Reboot p) h = absurd cc

verdict_lacks : (verdict : Verdict) → status_of_verdict verdict ≢ NoMemory
verdict_lacks (Legal end) h = absurd cc
verdict_lacks (Breaks place rule expected) h = absurd cc

admission_lacks : (answer : Admission) → status_of_admission answer ≢ NoMemory
admission_lacks (Budgets grants) h = absurd cc
admission_lacks (Needs sum) h = absurd cc

-- an outcome under status 7 has no text
lack_has_none : (o : Outcome) → status_of o ≡ NoMemory → text_of o ≡ []
lack_has_none (outcome.Failed failure.WordsRefused) h = absurd cc
lack_has_none (outcome.Failed failure.ReadFault) h = absurd cc
lack_has_none (outcome.Failed failure.TooLong) h = absurd cc
lack_has_none (outcome.Failed (failure.InputRefused refusal)) h = absurd cc
lack_has_none (outcome.Failed failure.NoMemory) h = refl
lack_has_none (outcome.Ran report end history) h = absurd (end_lacks end h)
lack_has_none (outcome.Generated text) h = absurd cc
lack_has_none (outcome.Upgraded text) h = absurd cc
lack_has_none (outcome.Checked verdict) h = absurd (verdict_lacks verdict h)
lack_has_none (outcome.Admitted answer) h = absurd (admission_lacks answer h)

lack_told : (output : Output) (o : Outcome) (told : ℕ) → IsTold output (text_of o) (status_of o) told → told ≡ code NoMemory
    → LacksMemory output
lack_told output o told (inl p) seven =
    let none = lack_has_none o (seven_is_lack (status_of o) (sym p.0 ∙ seven)) in
    inl (kept output.before output.after (subst (λ t. WritesWhole output t) none p.1))
lack_told output o told (inr (inl p)) seven =
    let wanted = lack_stays (status_of o) (seven_is_lack (or_write_fault (status_of o)) (sym p.0 ∙ seven)) in
    inl (nothing_written output (subst (λ t. WritesPrefix output t) (lack_has_none o wanted) p.2))
lack_told output o told (inr (inr p)) seven = p.1

-- ---- how the status comes about

module _ (input : Input) (output : Output) (ended : Ended) where
  only : (status : Status) → IsDueStatus input.asked input.reading.bytes ended.history status
      → (other : Status) → IsDueStatus input.asked input.reading.bytes ended.history other → other ≡ status
  only status is other h = due.one_status input.asked input.reading.bytes ended.history other status h is

  lacking : IsLackTold output ended.status → Wanting output ended
  lacking p = record { told = p.0; cause = p.1 }

  came : (text : List ℕ) (status : Status) → IsDueStatus input.asked input.reading.bytes ended.history status
      → (IsToRead input.asked → status ≢ TooLong → IsAtEnd input.reading.left)
      → IsTold output text status ended.status → Comes input output ended
  came text status is to_end (inl p) =
      inl (record { status = status; due = is; only = only status is; to_end = to_end; told = inl p.0 })
  came text status is to_end (inr (inl p)) =
      inl (record { status = status; due = is; only = only status is; to_end = to_end; told = inr (p.0, p.1) })
  came text status is to_end (inr (inr p)) = inr (inr (lacking p))

  faulted : (text : List ℕ) → HasCause input (outcome.Failed failure.ReadFault) → ended.history ≡ None
      → IsTold output text ReadFault ended.status → Comes input output ended
  faulted text cause none (inl p) =
      inr (inl (record { told = p.0; rose = cause.1; to_read = cause.0; short = cause.2; no_history = none }))
  faulted text cause none (inr (inl p)) =
      inr (inl (record { told = p.0; rose = cause.1; to_read = cause.0; short = cause.2; no_history = none }))
  faulted text cause none (inr (inr p)) = inr (inr (lacking p))

  wanting : IsTold output [] NoMemory ended.status → Comes input output ended
  wanting told = inr (inr (lacking (lack_of_none output ended.status told)))

  -- what is due, under another name of the history
  due_as : (h : Option History) (status : Status) → ended.history ≡ h → IsDueStatus input.asked input.reading.bytes h status
      → IsDueStatus input.asked input.reading.bytes ended.history status
  due_as h status same is = subst (λ h. IsDueStatus input.asked input.reading.bytes h status) (sym same) is

  comes : (o : Outcome) → HasCause input o → ended.history ≡ history_of o → IsTold output (text_of o) (status_of o) ended.status
      → Comes input output ended
  comes (outcome.Failed failure.WordsRefused) cause same told =
      came _ WordsRefused (subst (λ asked. IsDueStatus asked input.reading.bytes ended.history WordsRefused) (sym cause.0) refl)
      (λ to_read _. absurd (subst IsToRead cause.0 to_read)) told
  comes (outcome.Failed failure.ReadFault) cause same told = faulted _ cause same told
  comes (outcome.Failed failure.TooLong) cause same told =
      came _ TooLong (due.too_long input.asked input.reading.bytes ended.history cause.0 cause.1) (λ _ other. absurd (other refl)) told
  comes (outcome.Failed (failure.InputRefused refusal)) cause same told =
      came _ InputRefused (due.refused input.asked input.reading.bytes ended.history refusal cause.0.short cause.1) (λ _ _. cause.0.end) told
  comes (outcome.Failed failure.NoMemory) cause same told = wanting told
  comes (outcome.Ran report end h) cause same told =
      came _ (status_of_end end) (due_as (Some h) _ same (due.ran input report end h cause)) (λ _ _. cause.whole.end) told
  comes (outcome.Generated text) cause same told =
      came _ Done (due_as None _ same (due.generated input _ cause)) (λ to_read _. absurd (subst IsToRead cause.asked to_read)) told
  comes (outcome.Upgraded text) cause same told =
      came _ Done (due_as None _ same (due.upgraded input _ cause)) (λ _ _. cause.whole.end) told
  comes (outcome.Checked verdict) cause same told =
      came _ (status_of_verdict verdict) (due_as None _ same (due.checked input verdict cause)) (λ _ _. cause.whole.end) told
  comes (outcome.Admitted answer) cause same told =
      came _ (status_of_admission answer) (due_as None _ same (due.admitted input answer cause)) (λ _ _. cause.whole.end) told

-- ---- the text under status 0

some_same : (a b : RunAsked) → Some a ≡ Some b → a ≡ b
some_same a b e = cc

reported : (asked : Option Command) (run : RunAsked) (bytes : List ℕ) (h : History) (output : Output) → run_asked asked ≡ Some run
    → ReportsWhole run.report (Some h) output → WritesAsked asked bytes (Some h) output
reported None run bytes h output is whole = absurd cc
reported (Some (command.Solo report limit)) run bytes h output is whole =
    subst (λ (r : RunAsked). ReportsWhole r.report (Some h) output) (sym (some_same _ _ is)) whole
reported (Some (command.Run order report limit)) run bytes h output is whole =
    subst (λ (r : RunAsked). ReportsWhole r.report (Some h) output) (sym (some_same _ _ is)) whole
reported (Some (command.Gen seed cpus partitions ticks)) run bytes h output is whole = absurd cc
reported (Some command.Upgrade) run bytes h output is whole = absurd cc
reported (Some (command.Check order limit)) run bytes h output is whole = absurd cc
reported (Some command.Admit) run bytes h output is whole = absurd cc

ran_done : (input : Input) (output : Output) (report : Report) (end : End) (h : History) → RanAsRead input report end h
    → status_of_end end ≡ Done → WritesWhole output (report_text report h)
    → WritesAsked input.asked input.reading.bytes (Some h) output
ran_done input output report Horizon h cause is whole =
    reported input.asked _ input.reading.bytes h output cause.asked (cause.run.ended, whole)
ran_done input output report Limit h cause is whole = absurd cc
ran_done input output report (Reboot p) h cause is whole = absurd cc

checked_done : (input : Input) (output : Output) (verdict : Verdict) → CheckedAsRead input verdict → status_of_verdict verdict ≡ Done
    → WritesWhole output (verdict_text verdict) → WritesAsked input.asked input.reading.bytes None output
checked_done input output (Legal end) cause is whole =
    subst (λ asked. WritesAsked asked input.reading.bytes None output) (sym cause.asked)
    (cause.scenario, cause.entries, end, cause.read, cause.judged, whole)
checked_done input output (Breaks place rule expected) cause is whole = absurd cc

admitted_done : (input : Input) (output : Output) (answer : Admission) → AdmittedAsRead input answer → status_of_admission answer ≡ Done
    → WritesWhole output (admission_text answer) → WritesAsked input.asked input.reading.bytes None output
admitted_done input output (Budgets grants) cause is whole =
    subst (λ asked. WritesAsked asked input.reading.bytes None output) (sym cause.asked)
    (cause.demands, grants, cause.read, sym cause.answered, whole)
admitted_done input output (Needs sum) cause is whole = absurd cc

done : (input : Input) (output : Output) (o : Outcome) → HasCause input o → status_of o ≡ Done → WritesWhole output (text_of o)
    → WritesAsked input.asked input.reading.bytes (history_of o) output
done input output (outcome.Failed failure.WordsRefused) cause is whole = absurd cc
done input output (outcome.Failed failure.ReadFault) cause is whole = absurd cc
done input output (outcome.Failed failure.TooLong) cause is whole = absurd cc
done input output (outcome.Failed (failure.InputRefused refusal)) cause is whole = absurd cc
done input output (outcome.Failed failure.NoMemory) cause is whole = absurd cc
done input output (outcome.Ran report end h) cause is whole = ran_done input output report end h cause is whole
done input output (outcome.Generated text) cause is whole =
    subst (λ asked. WritesAsked asked input.reading.bytes None output) (sym cause.asked) (_, cause.scenario, whole)
done input output (outcome.Upgraded text) cause is whole =
    subst (λ asked. WritesAsked asked input.reading.bytes None output) (sym cause.asked) (cause.scenario, _, cause.read, cause.upgraded, whole)
done input output (outcome.Checked verdict) cause is whole = checked_done input output verdict cause is whole
done input output (outcome.Admitted answer) cause is whole = admitted_done input output answer cause is whole

-- ---- the history

run_told : (input : Input) (o : Outcome) → HasCause input o → IfSome (history_of o) (λ h. (report : Report) × (end : End) × RanAsRead input report end h)
run_told input (outcome.Failed f) cause = tt
run_told input (outcome.Ran report end h) cause = (report, end, cause)
run_told input (outcome.Generated text) cause = tt
run_told input (outcome.Upgraded text) cause = tt
run_told input (outcome.Checked verdict) cause = tt
run_told input (outcome.Admitted answer) cause = tt

no_run : (input : Input) (o : Outcome) → HasCause input o → run_asked input.asked ≡ None → history_of o ≡ None
no_run input (outcome.Failed f) cause none = refl
no_run input (outcome.Ran report end h) cause none = let clash = sym cause.asked ∙ none in absurd cc
no_run input (outcome.Generated text) cause none = refl
no_run input (outcome.Upgraded text) cause none = refl
no_run input (outcome.Checked verdict) cause none = refl
no_run input (outcome.Admitted answer) cause none = refl

abbrev IsRefusalTold : ℕ → Type 0
IsRefusalTold told = (told ≡ 1) ⊎ (told ≡ 2) ⊎ (told ≡ 4) ⊎ (told ≡ 8)

abbrev is_refusal : ℕ → Bool
is_refusal told = told == 1 || told == 2 || told == 4 || told == 8

refusal_is : (told : ℕ) → IsRefusalTold told → is_refusal told ≡ true
refusal_is told (inl p) = rw p refl
refusal_is told (inr (inl p)) = rw p refl
refusal_is told (inr (inr (inl p))) = rw p refl
refusal_is told (inr (inr (inr p))) = rw p refl

ran_is : (output : Output) (text : List ℕ) (end : End) (told : ℕ) → IsTold output text (status_of_end end) told → is_refusal told ≡ false
ran_is output text Horizon told (inl p) = rw p.0 refl
ran_is output text Horizon told (inr (inl p)) = rw p.0 refl
ran_is output text Horizon told (inr (inr p)) = rw p.0 refl
ran_is output text Limit told (inl p) = rw p.0 refl
ran_is output text Limit told (inr (inl p)) = rw p.0 refl
ran_is output text Limit told (inr (inr p)) = rw p.0 refl
ran_is output text (Reboot q) told (inl p) = rw p.0 refl
ran_is output text (Reboot q) told (inr (inl p)) = rw p.0 refl
ran_is output text (Reboot q) told (inr (inr p)) = rw p.0 refl

ran_told : (output : Output) (text : List ℕ) (end : End) (told : ℕ) → IsTold output text (status_of_end end) told → IsRefusalTold told → ⊥
ran_told output text end told is h = true≢false (sym (refusal_is told h) ∙ ran_is output text end told is)

no_history : (output : Output) (o : Outcome) (told : ℕ) → IsTold output (text_of o) (status_of o) told → IsRefusalTold told → history_of o ≡ None
no_history output (outcome.Failed f) told is h = refl
no_history output (outcome.Ran report end history) told is h = absurd (ran_told output _ end told is h)
no_history output (outcome.Generated text) told is h = refl
no_history output (outcome.Upgraded text) told is h = refl
no_history output (outcome.Checked verdict) told is h = refl
no_history output (outcome.Admitted answer) told is h = refl

-- ---- a run in fixed order that reaches the horizon

-- a run takes a scenario
run_takes : (asked : Option Command) (run : RunAsked) (bytes : List ℕ) → run_asked asked ≡ Some run
    → (most_of asked ≡ most_scenario_bytes) × (refusal_of asked bytes ≡ scenario_refusal bytes)
run_takes None run bytes is = absurd cc
run_takes (Some (command.Solo report limit)) run bytes is = (refl, refl)
run_takes (Some (command.Run order report limit)) run bytes is = (refl, refl)
run_takes (Some (command.Gen seed cpus partitions ticks)) run bytes is = absurd cc
run_takes (Some command.Upgrade) run bytes is = absurd cc
run_takes (Some (command.Check order limit)) run bytes is = absurd cc
run_takes (Some command.Admit) run bytes is = absurd cc

unread_told : (output : Output) (text : List ℕ) (told : ℕ) → IsTold output text ReadFault told → told ≢ code ReadFault
    → (told ≡ code Done) ⊎ IsLackTold output told
unread_told output text told (inl p) unread = absurd (unread p.0)
unread_told output text told (inr (inl p)) unread = absurd (unread p.0)
unread_told output text told (inr (inr p)) unread = inr p

-- the answer, in place of the status
or_wanting : (output : Output) (ended : Ended) → (ended.status ≡ code Done) ⊎ IsLackTold output ended.status → OrWanting output ended Done
or_wanting output ended (inl p) = inl p
or_wanting output ended (inr p) = inr (record { told = p.0; cause = p.1 })

-- the history of such a run reaches the horizon
ran_to : (input : Input) (report : Report) (end : End) (h : History) → RanAsRead input report end h → ReachesHorizon input → end ≡ Horizon
ran_to input report end h cause reaches = search rules

complete : (input : Input) (output : Output) (o : Outcome) (ended : Ended) → HasCause input o
    → IsTold output (text_of o) (status_of o) ended.status → ReachesHorizon input
    → ended.status ≢ code ReadFault → ended.status ≢ code WriteFault → (ended.status ≡ code Done) ⊎ IsLackTold output ended.status
complete input output (outcome.Failed failure.WordsRefused) ended cause told reaches unread unwritten =
    let clash = sym reaches.asked ∙ ap run_asked cause.0 in absurd cc
complete input output (outcome.Failed failure.ReadFault) ended cause told reaches unread unwritten = unread_told output _ ended.status told unread
complete input output (outcome.Failed failure.TooLong) ended cause told reaches unread unwritten =
    let takes = run_takes input.asked _ input.reading.bytes reaches.asked in
    absurd (omega (arith, cause.1, takes.0, reaches.short))
complete input output (outcome.Failed (failure.InputRefused refusal)) ended cause told reaches unread unwritten =
    let takes = run_takes input.asked _ input.reading.bytes reaches.asked in
    let clash = sym (ap refused_text reaches.read) ∙ sym takes.1 ∙ cause.1 in
    absurd cc
complete input output (outcome.Failed failure.NoMemory) ended cause told reaches unread unwritten = inr (lack_of_none output ended.status told)
complete input output (outcome.Ran report end h) ended cause told reaches unread unwritten =
    done_told output _ ended.status
    (subst (λ e. IsTold output (report_text report h) (status_of_end e) ended.status) (ran_to input report end h cause reaches) told) unwritten
complete input output (outcome.Generated text) ended cause told reaches unread unwritten = done_told output _ ended.status told unwritten
complete input output (outcome.Upgraded text) ended cause told reaches unread unwritten = done_told output _ ended.status told unwritten
complete input output (outcome.Checked verdict) ended cause told reaches unread unwritten =
    let clash = sym reaches.asked ∙ ap run_asked cause.asked in absurd cc
complete input output (outcome.Admitted answer) ended cause told reaches unread unwritten =
    let clash = sym reaches.asked ∙ ap run_asked cause.asked in absurd cc

-- ---- all of it

pub answers : (input : Input) (output : Output) (o : Outcome) (ended : Ended) → HasCause input o → Tells o output ended
    → Answers input output ended
answers input output o ended cause tells =
    let told = told_of output o tells.status ended.status tells.told tells.printed in
    let same = tells.history in
    record {
      comes = comes input output ended o cause same told;
      done = λ is_zero.
          let p = whole_told output _ (status_of o) ended.status told is_zero in
          subst (λ h. WritesAsked input.asked input.reading.bytes h output) (sym same) (done input output o cause p.0 p.1);
      history = subst (λ h. IfSome h (λ h. (report : Report) × (end : End) × RanAsRead input report end h)) (sym same) (run_told input o cause);
      no_run = λ none. same ∙ no_run input o cause none;
      no_history = λ h. same ∙ no_history output o ended.status told h;
      complete = λ reaches unread unwritten.
          or_wanting output ended (complete input output o ended cause told reaches unread unwritten);
      wanting = λ seven. lack_told output o ended.status told seven;
      unread = read_if_asked input o cause;
    }

pub answered : (asked : Option Command) (intake : Intake) (output : Output) (o : Outcome) (ended : Ended)
    → IsOutcome asked intake o → Tells o output ended → IsAnswer asked intake output ended
answered asked intake output o ended (bytes, read, cause) told = record {
  bytes = bytes;
  read = read;
  outcome = o;
  cause = cause;
  told = told;
  answers = answers (input_of asked intake bytes) output o ended cause told;
}
