-- Each outcome has the status that is due to its cause, and no other is due.
use Rattle.std.proofs.Common.{◌≡◌, ℕ, ◌+◌, ◌≤◌, List, length, Option, Some, None, Result, Ok, Err, inl, inr, refl, sym, ap, subst, ◌∙◌, arith}
use Rattle.std.specs.Result.{result_err}
use Rattle.aps_admit.specs.Admission.{admission}
use Rattle.aps_admit.specs.declared.admission.Admission.{Admission}
use Rattle.aps_check.specs.declared.verdict.Verdict.{Verdict}
use Rattle.aps_check.specs.Verdict.{IsVerdict}
use Rattle.aps_check.proofs.Verdicts.{verdict_is_one}
use Rattle.aps_model.specs.declared.entry.End.{End}
use Rattle.aps_model.specs.declared.entry.Order.{Order}
use Rattle.aps_model.specs.History.{History}
use Rattle.aps_model.specs.Limits.{most_scenario_bytes}
use Rattle.aps_model.specs.Scenario.{Scenario}
use Rattle.aps_scenario.specs.Demands.{reads_demands}
use Rattle.aps_scenario.specs.Reading.{reads}
use Rattle.aps_scenario.specs.Refusal.{Refusal}
use Rattle.aps_text.proofs.Journals.{one_list}
use Rattle.aps_words.specs.declared.command.Command.{Command}
use Rattle.aps_words.specs.declared.command.Command.TheVariants.{Solo, Run, Gen, Upgrade, Check, Admit}
use Rattle.aps_words.specs.declared.command.Report.{Report}
use Rattle.aps_calls.specs.declared.refusal.InputRefusal.{InputRefusal}
use Rattle.aps_calls.specs.declared.status.Status.{Status}
use Rattle.aps_calls.specs.declared.status.Status.TheVariants.{Done, InputRefused, TooLong}
use Rattle.aps_top.specs.Asked.{RunAsked, run_asked, IsToRead}
use Rattle.aps_top.specs.Cause.{Input, RanAsRead, GeneratedAsAsked, UpgradedAsRead, CheckedAsRead, AdmittedAsRead}
use Rattle.aps_top.specs.CheckInput.{CheckInput, reads_check}
use Rattle.aps_top.specs.Due.{or_refused, run_status, IsJudged, IsJudgedOf, IsDueTo, IsDueStatus}
use Rattle.aps_top.specs.Reading.{most_of, refusal_by, refusal_of}
use Rattle.aps_top.specs.Refusal.{refused_text}
use Rattle.aps_calls.specs.Status.{status_of_end, status_of_verdict}
use Rattle.aps_top.specs.Outcome.{status_of_admission}

-- ---- what is due

pub too_long : (asked : Option Command) (bytes : List ℕ) (h : Option History) → IsToRead asked
    → length bytes ≡ most_of asked + 1 → IsDueStatus asked bytes h TooLong
too_long None bytes h to_read long = absurd to_read
too_long (Some command) bytes h to_read long = inl (omega (arith, long), refl)

refused_read : {A : Type 0} (status : A → Option Status) (read : Result A Refusal) (refusal : InputRefusal)
    → refused_text read ≡ Some refusal → or_refused status read ≡ Some InputRefused
refused_read status (Ok value) refusal h = absurd cc
refused_read status (Err e) refusal h = refl

refused_check : (order : Order) (limit : ℕ) (read : Result CheckInput InputRefusal) (refusal : InputRefusal)
    → result_err read ≡ Some refusal → IsJudgedOf order limit read InputRefused
refused_check order limit (Ok input) refusal h = absurd cc
refused_check order limit (Err e) refusal h = refl

refused_by : (command : Command) (bytes : List ℕ) (h : Option History) (refusal : InputRefusal)
    → refusal_by command bytes ≡ Some refusal → IsDueTo command bytes h InputRefused
refused_by (Solo report limit) bytes h refusal is = refused_read (λ _. run_status h) (reads bytes) refusal is
refused_by (Run order report limit) bytes h refusal is = refused_read (λ _. run_status h) (reads bytes) refusal is
refused_by (Gen seed cpus partitions ticks) bytes h refusal is = absurd cc
refused_by Upgrade bytes h refusal is = refused_read (λ _. Some Done) (reads bytes) refusal is
refused_by (Check order limit) bytes h refusal is = refused_check order limit (reads_check bytes) refusal is
refused_by Admit bytes h refusal is =
    refused_read (λ d. Some (status_of_admission (admission d.shape d.demands))) (reads_demands bytes) refusal is

pub refused : (asked : Option Command) (bytes : List ℕ) (h : Option History) (refusal : InputRefusal) → length bytes ≤ most_of asked
    → refusal_of asked bytes ≡ Some refusal → IsDueStatus asked bytes h InputRefused
refused None bytes h refusal short is = absurd cc
refused (Some command) bytes h refusal short is = inr (short, refused_by command bytes h refusal is)

-- what was read isn't looked into
run_due : (read : Result Scenario Refusal) (h : History) (end : End) → read ≡ Ok h.scenario → h.end ≡ Some end
    → or_refused (λ _. run_status (Some h)) read ≡ Some (status_of_end end)
run_due read h end is ended = rw (is, ended) refl

done_due : {A : Type 0} (read : Result A Refusal) (value : A) → read ≡ Ok value → or_refused (λ _. Some Done) read ≡ Some Done
done_due read value is = rw is refl

value_due : {A : Type 0} (status : A → Status) (read : Result A Refusal) (value : A) → read ≡ Ok value
    → or_refused (λ value. Some (status value)) read ≡ Some (status value)
value_due status read value is = rw is refl

ran_by : (asked : Option Command) (run : RunAsked) (bytes : List ℕ) (h : History) (end : End) → run_asked asked ≡ Some run
    → length bytes ≤ most_scenario_bytes → reads bytes ≡ Ok h.scenario → h.end ≡ Some end
    → IsDueStatus asked bytes (Some h) (status_of_end end)
ran_by None run bytes h end is short read ended = absurd cc
ran_by (Some (Solo report limit)) run bytes h end is short read ended = inr (short, run_due (reads bytes) h end read ended)
ran_by (Some (Run order report limit)) run bytes h end is short read ended = inr (short, run_due (reads bytes) h end read ended)
ran_by (Some (Gen seed cpus partitions ticks)) run bytes h end is short read ended = absurd cc
ran_by (Some Upgrade) run bytes h end is short read ended = absurd cc
ran_by (Some (Check order limit)) run bytes h end is short read ended = absurd cc
ran_by (Some Admit) run bytes h end is short read ended = absurd cc

pub ran : (input : Input) (report : Report) (end : End) (h : History) → RanAsRead input report end h
    → IsDueStatus input.asked input.reading.bytes (Some h) (status_of_end end)
ran input report end h cause =
    ran_by input.asked _ input.reading.bytes h end cause.asked cause.whole.short cause.scenario cause.run.ended

-- what is due to a command, under another name of it
due_as : (asked : Option Command) (command : Command) (bytes : List ℕ) (h : Option History) (status : Status) → asked ≡ Some command
    → IsDueStatus (Some command) bytes h status → IsDueStatus asked bytes h status
due_as asked command bytes h status is due = subst (λ a. IsDueStatus a bytes h status) (sym is) due

pub generated : (input : Input) (text : List ℕ) → GeneratedAsAsked input text
    → IsDueStatus input.asked input.reading.bytes None Done
generated input text cause =
    due_as input.asked _ input.reading.bytes None Done cause.asked (inr (omega (arith, ap length cause.unread), refl))

pub upgraded : (input : Input) (text : List ℕ) → UpgradedAsRead input text
    → IsDueStatus input.asked input.reading.bytes None Done
upgraded input text cause =
    due_as input.asked Upgrade input.reading.bytes None Done cause.asked
    (inr (cause.whole.short, done_due (reads input.reading.bytes) cause.scenario cause.read))

pub admitted : (input : Input) (answer : Admission) → AdmittedAsRead input answer
    → IsDueStatus input.asked input.reading.bytes None (status_of_admission answer)
admitted input answer cause =
    due_as input.asked Admit input.reading.bytes None _ cause.asked
    (inr (
      cause.whole.short,
      value_due (λ d. status_of_admission (admission d.shape d.demands)) (reads_demands input.reading.bytes) cause.demands cause.read
          ∙ ap (λ a. Some (status_of_admission a)) (sym cause.answered),
    ))

pub checked : (input : Input) (verdict : Verdict) → CheckedAsRead input verdict
    → IsDueStatus input.asked input.reading.bytes None (status_of_verdict verdict)
checked input verdict cause =
    let judged : IsJudged cause.order cause.limit (record { scenario = cause.scenario; journal = cause.read.0 }) (status_of_verdict verdict) =
    record { entries = cause.entries; verdict = verdict; read = cause.read.2; judged = cause.judged; status_is = refl } in
    due_as input.asked (Check cause.order cause.limit) input.reading.bytes None _ cause.asked
    (inr (cause.whole.short, subst (λ read. IsJudgedOf cause.order cause.limit read (status_of_verdict verdict)) (sym cause.read.1) judged))

-- ---- and nothing else is

some_same : (a b : Status) (o : Option Status) → o ≡ Some a → o ≡ Some b → a ≡ b
some_same a b o p q = cc

one_judged : (order : Order) (limit : ℕ) (read : Result CheckInput InputRefusal) (a b : Status)
    → IsJudgedOf order limit read a → IsJudgedOf order limit read b → a ≡ b
one_judged order limit (Ok input) a b p q =
    let entries : q.entries ≡ p.entries = one_list q.entries p.entries input.journal q.read p.read in
    let verdict : p.verdict ≡ q.verdict = verdict_is_one _ p.entries p.verdict q.verdict p.judged
    (subst (λ entries. IsVerdict (record { scenario = input.scenario; order = order; limit = limit }) entries q.verdict) entries q.judged) in
    p.status_is ∙ ap status_of_verdict verdict ∙ sym q.status_is
one_judged order limit (Err refusal) a b p q = p ∙ sym q

one_due : (command : Command) (bytes : List ℕ) (h : Option History) (a b : Status) → IsDueTo command bytes h a → IsDueTo command bytes h b → a ≡ b
one_due (Solo report limit) bytes h a b p q = some_same a b (or_refused (λ _. run_status h) (reads bytes)) p q
one_due (Run order report limit) bytes h a b p q = some_same a b (or_refused (λ _. run_status h) (reads bytes)) p q
one_due (Gen seed cpus partitions ticks) bytes h a b p q = some_same a b (Some Done) p q
one_due Upgrade bytes h a b p q = some_same a b (or_refused (λ _. Some Done) (reads bytes)) p q
one_due (Check order limit) bytes h a b p q = one_judged order limit (reads_check bytes) a b p q
one_due Admit bytes h a b p q =
    some_same a b (or_refused (λ d. Some (status_of_admission (admission d.shape d.demands))) (reads_demands bytes)) p q

pub one_status : (asked : Option Command) (bytes : List ℕ) (h : Option History) (a b : Status)
    → IsDueStatus asked bytes h a → IsDueStatus asked bytes h b → a ≡ b
one_status None bytes h a b p q = some_same a b _ p q
one_status (Some command) bytes h a b (inl p) (inl q) = some_same a b _ p.1 q.1
one_status (Some command) bytes h a b (inl p) (inr q) = absurd (omega (arith, p.0, q.0))
one_status (Some command) bytes h a b (inr p) (inl q) = absurd (omega (arith, p.0, q.0))
one_status (Some command) bytes h a b (inr p) (inr q) = one_due command bytes h a b p.1 q.1
