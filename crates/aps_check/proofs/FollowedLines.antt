-- A text is followed line by line, beside a run that makes the steps; where a line is another, the text is read.
use lib.Chars.{codes}
use Rattle.std.proofs.Common.{◌≡◌, ℕ, ◌+◌, ◌-◌, ◌<◌, ◌≤◌, List, [], ◌∷◌, ◌++◌, Option, Some, None, Ok, length, drop, get_or, refl, sym, subst, ap, ◌∙◌, append_assoc, arith, length-append}
use Rattle.std.specs.Prelude.{if◌then◌else◌}
use Rattle.std.specs.Fmt.{decimal}
use Rattle.std.specs.List.{All, join_with_byte}
use Rattle.std.proofs.Math.Seq.{drop-append_seam, get_or-append_seam}
use Rattle.std.proofs.lemmas.List.{append-nil}
use Rattle.std.proofs.lemmas.List.Elements.{All-head, All-nil, All-push}
use Rattle.aps_model.specs.declared.entry.Entry.{Entry}
use Rattle.aps_model.specs.History.{IsEntry}
use Rattle.aps_model.specs.Journal.{done_text, entry_line, journal_text, option_text, IsJournal, IsLine}
use Rattle.aps_model.specs.Legal.{IsLegal}
use Rattle.aps_model.specs.Limits.{last_cpu}
use Rattle.aps_model.specs.Valid.{IsScenario}
use Rattle.aps_core.specs.Run.{Run, Setup}
use Rattle.aps_core.specs.Turn.{IsTurnTaken, with_entry}
use Rattle.aps_core.proofs.Kept.{not_over}
use Rattle.aps_core.proofs.Turns.{due_now}
use Rattle.aps_text.specs.InTime.{IsInTime}
use Rattle.aps_text.specs.Line.{cpu_of_line, read_value}
use Rattle.aps_text.specs.Reader.{number_at}
use Rattle.aps_text.proofs.Journals.{goes_on}
use Rattle.aps_text.proofs.Lines.{journal_text-push}
use Rattle.aps_text.proofs.Numbers.{IsReader-number}
use Rattle.aps_text.proofs.Places.{line_body}
use Rattle.aps_check.specs.Difference.{IsFirstDifference}
use Rattle.aps_check.specs.declared.following.Followed.TheVariants.{Differs}
use Rattle.aps_check.specs.declared.verdict.Rule.{Rule}
use Rattle.aps_check.specs.declared.verdict.Rule.TheVariants.{Turn, After}
use Rattle.aps_check.specs.declared.verdict.Verdict.{Verdict}
use Rattle.aps_check.specs.declared.verdict.Verdict.TheVariants.{Legal, Breaks}
use Rattle.aps_check.specs.Following.{run_begun, IsFollowed, IsNamedStep, IsTextVerdict, IsOther, IsOtherAt, HasReadUpTo, IsUpToLine, TellsDifference}
use Rattle.aps_check.specs.Verdict.{BreaksRule, HasTurnAfter, IsFirstBreach, IsOtherStep, IsRunSoFar, IsVerdict, step_after}

-- the moments of a step are those of a line
pub step_in_time : (run : Run) (e : Entry) → IsScenario run.setup.scenario → IsLegal run.setup.scenario run.setup.order run.entries
    → IsTurnTaken run e.cpu e → IsInTime e
step_in_time run e valid legal taken =
    let now = due_now run.setup.scenario run.setup.order run.entries e.cpu valid legal (not_over run taken.goes_on) taken.turn in
    let fits : IsEntry e = subst IsEntry (sym taken.stepped) now.fits in
    record { from = omega (arith, fits.forward, fits.to); to = fits.to }

-- at first nothing was followed
pub nothing_followed : (run : Run) (text : List ℕ) → HasReadUpTo run run text text
nothing_followed run text = record {
  entries = [];
  lines = All-nil IsLine;
  parts = refl;
  goes_on = ap (λ (h : List Entry). record { setup = run.setup; entries = h }) (sym (append-nil run.entries));
}

-- one line more
pub line_followed : (run before later : Run) (text rest after : List ℕ) → HasReadUpTo run before text rest → IsUpToLine before later rest after
    → HasReadUpTo run later text after
line_followed run before later text rest after so_far line = record {
  entries = so_far.entries ++ line.entry ∷ [];
  lines = All-push IsLine so_far.entries line.entry so_far.lines line.line;
  parts = so_far.parts ∙ ap (λ t. journal_text so_far.entries ++ t) line.parts
      ∙ sym (append_assoc (journal_text so_far.entries) (entry_line line.entry) after)
      ∙ ap (λ t. t ++ after) (sym (journal_text-push so_far.entries line.entry));
  goes_on = line.goes_on ∙ ap (λ r. with_entry r line.entry) so_far.goes_on
      ∙ ap (λ (h : List Entry). record { setup = run.setup; entries = h }) (append_assoc run.entries so_far.entries (line.entry ∷ []));
}

-- what is left gets shorter
pub line_shorter : (before later : Run) (rest after : List ℕ) → IsUpToLine before later rest after → length after < length rest
line_shorter before later rest after line =
    omega (arith, ap length line.parts, length-append (line_body line.entry ++ 10 ∷ []) after, length-append (line_body line.entry) (10 ∷ []))

-- ---- a text that is a journal, read behind the lines that were followed

-- behind the processor, in the line of an entry
abbrev fields_behind : Entry → List ℕ
fields_behind e = join_with_byte 32 (
    decimal e.from ∷ decimal e.to ∷ option_text e.ran ∷ option_text e.billed
    ∷ (if e.critical then codes "c" else codes "-") ∷ done_text e.done
    ∷ option_text e.picked ∷ option_text e.starved ∷ option_text e.flagged ∷ [])

-- a line names its entry's processor
pub line_names : (e : Entry) (rest : List ℕ) → IsLine e → cpu_of_line (entry_line e ++ rest) ≡ Some e.cpu
line_names e rest line =
    let behind = fields_behind e ++ 10 ∷ rest in
    let parts : entry_line e ++ rest ≡ (decimal e.cpu ++ 32 ∷ []) ++ behind =
    append_assoc (line_body e) (10 ∷ []) rest ∙ append_assoc (decimal e.cpu) (32 ∷ fields_behind e) (10 ∷ rest) ∙ sym (append_assoc (decimal e.cpu) (32 ∷ []) behind) in
    let read : number_at last_cpu 32 ((decimal e.cpu ++ 32 ∷ []) ++ behind) ≡ Ok (e.cpu, behind) =
    (IsReader-number last_cpu 32 (omega arith) refl).again (decimal e.cpu ++ 32 ∷ []) e.cpu behind (refl, line.cpu) in
    ap cpu_of_line parts ∙ ap read_value read

none_apart : (n : ℕ) → (λ (o : Option ℕ). o) None ≡ Some n → ⊥
none_apart n e = cc

some_is : (m n : ℕ) → (λ (o : Option ℕ). o) (Some m) ≡ Some n → m ≡ n
some_is m n e = cc

module _ (setup : Setup) (text : List ℕ) (entries : List Entry) (journal : IsJournal entries text) where
  -- the journal goes on behind the run's entries
  pub record ReadsOnBehind (later : Run) (rest : List ℕ) : Type 0 where
    pub more : List Entry
    pub lines : All IsLine more
    pub whole : entries ≡ later.entries ++ more
    pub text_is : rest ≡ journal_text more
    pub same : later.setup ≡ setup

  pub reads_on : (later : Run) (rest : List ℕ) → HasReadUpTo (run_begun setup) later text rest → ReadsOnBehind later rest
  reads_on later rest so_far =
      let g = goes_on entries so_far.entries rest journal.lines so_far.lines (sym journal.text ∙ so_far.parts) in
      record {
        more = g.more;
        lines = g.lines;
        whole = g.whole ∙ ap (λ (r : Run). r.entries ++ g.more) (sym so_far.goes_on);
        text_is = g.rest;
        same = ap (λ (r : Run). r.setup) so_far.goes_on;
      }

  -- the run's entries stand at the front, and those behind them are behind their number
  pub front_inside : (later : Run) (rest : List ℕ) (n : ℕ) → HasReadUpTo (run_begun setup) later text rest → n ≡ length later.entries → n ≤ length entries
  front_inside later rest n so_far at =
      let on = reads_on later rest so_far in
      omega (arith, at, ap length on.whole, length-append later.entries on.more)

  pub front_and_rest : (later : Run) (rest : List ℕ) (n : ℕ) → HasReadUpTo (run_begun setup) later text rest → n ≡ length later.entries
      → later.entries ++ drop n entries ≡ entries
  front_and_rest later rest n so_far at =
      let on = reads_on later rest so_far in
      ap (λ l. later.entries ++ l) (ap (drop n) on.whole ∙ ap (λ k. drop k (later.entries ++ on.more)) at ∙ drop-append_seam later.entries on.more) ∙ sym on.whole

  -- the verdict on the run's entries and those behind them is that on the text
  pub rest_judged : (later : Run) (rest : List ℕ) (n : ℕ) (behind : List Entry) (verdict : Verdict) → HasReadUpTo (run_begun setup) later text rest
      → n ≡ length later.entries → behind ≡ drop n entries → IsVerdict later.setup (later.entries ++ behind) verdict
      → IsTextVerdict setup text verdict
  rest_judged later rest n behind verdict so_far at is judged =
      let on = reads_on later rest so_far in
      let whole : later.entries ++ behind ≡ entries = ap (λ l. later.entries ++ l) is ∙ front_and_rest later rest n so_far at in
      (entries, journal, subst (λ (s : Setup). IsVerdict s entries verdict) on.same (subst (λ (h : List Entry). IsVerdict later.setup h verdict) whole judged))

  -- the entry at the line where the text isn't that of the step, the last of so many of the run
  pub record IsDiffering (n : ℕ) (made : Entry) : Type 0 where
    pub before : List Entry
    pub entry : Entry
    pub later : List Entry
    pub parts : entries ≡ before ++ entry ∷ later
    pub at : n ≡ length before + 1
    pub own : entry.cpu ≡ made.cpu
    pub other : ¬ (entry ≡ made)
    pub sound : IsRunSoFar setup before
    pub taken : IsTurnTaken (record { setup = setup; entries = before }) made.cpu made

  pub differing : (before later : Run) (rest : List ℕ) (n : ℕ) (made : Entry) → HasReadUpTo (run_begun setup) before text rest
      → IsOther before later rest made → n ≡ length later.entries → IsDiffering n made
  differing before later rest n made so_far differs at =
      let g = goes_on entries so_far.entries rest journal.lines so_far.lines (sym journal.text ∙ so_far.parts) in
      by_more g.more g.lines g.whole g.rest
    where
      step : IsNamedStep (record { setup = setup; entries = so_far.entries }) later rest made
      step = subst (λ (r : Run). IsNamedStep r later rest made) so_far.goes_on differs.step

      by_more : (more : List Entry) → All IsLine more → entries ≡ so_far.entries ++ more → rest ≡ journal_text more → IsDiffering n made
      by_more [] lines whole is = absurd (none_apart made.cpu (sym (ap cpu_of_line is) ∙ step.named))
      by_more (e ∷ es) lines whole is = record {
        before = so_far.entries;
        entry = e;
        later = es;
        parts = whole;
        at = omega (arith, at, ap (λ (r : Run). length r.entries) step.goes_on, length-append so_far.entries (made ∷ []));
        own = some_is e.cpu made.cpu (sym (line_names e (journal_text es) (All-head IsLine e es lines)) ∙ sym (ap cpu_of_line is) ∙ step.named);
        other = λ same. differs.other (journal_text es) (is ∙ ap (λ (x : Entry). entry_line x ++ journal_text es) same);
        sound = step.sound;
        taken = step.taken;
      }

  pub found_differing : (core later : Run) (n : ℕ) (made : Entry) → core ≡ run_begun setup → IsFollowed core later text (Differs made)
      → n ≡ length later.entries → IsDiffering n made
  found_differing core later n made is stop at =
      differing stop.0 later stop.1 n made (subst (λ (r : Run). HasReadUpTo r stop.0 text stop.1) is stop.2) stop.3 at

  module _ (n : ℕ) (made : Entry) (d : IsDiffering n made) where
    at_place : n - 1 ≡ length d.before
    at_place = omega (arith, d.at)

    entry_at : get_or entries (n - 1) made ≡ d.entry
    entry_at = ap (λ k. get_or entries k made) at_place ∙ ap (λ l. get_or l (length d.before) made) d.parts ∙ get_or-append_seam d.before d.entry d.later made

    pub other_at : n ≤ 4294967296 → IsOtherAt entries (n - 1) made
    other_at small = record {
      there = omega (arith, d.at, ap length d.parts, length-append d.before (d.entry ∷ d.later));
      small = omega (arith, small);
      own = ap (λ (e : Entry). e.cpu) entry_at ∙ d.own;
      other = λ same. d.other (sym entry_at ∙ same);
    }

    -- it breaks the rule of the first field in which it differs
    differing_breaks : (field : Rule) → IsFirstDifference d.entry made field → IsFirstBreach setup entries (n - 1) field (Some made)
    differing_breaks field differs = record {
      before = d.before;
      entry = d.entry;
      later = d.later;
      parts = d.parts;
      at_place = sym at_place;
      sound = d.sound;
      breaks = breaks_field field differs (record { goes_on = d.taken.goes_on; turn = turn; stepped = ap Some same; differs = subst (λ (x : Entry). IsFirstDifference d.entry x field) same differs });
    }
      where
        turn : HasTurnAfter setup d.before d.entry.cpu
        turn = subst (HasTurnAfter setup d.before) (sym d.own) d.taken.turn

        same : made ≡ step_after setup d.before d.entry.cpu
        same = d.taken.stepped ∙ ap (step_after setup d.before) (sym d.own)

        breaks_field : (field : Rule) → IsFirstDifference d.entry made field → IsOtherStep setup d.before d.entry field (Some made)
            → BreaksRule setup d.before d.entry field (Some made)
        breaks_field Turn differs o = absurd (differs.here tt)
        breaks_field After differs o = absurd (differs.here tt)
        breaks_field field differs o = o

    -- and that is the verdict
    pub differing_judged : (verdict : Verdict) → TellsDifference entries (n - 1) made verdict → IsTextVerdict setup text verdict
    differing_judged (Legal end) told = absurd told
    differing_judged (Breaks at rule expected) told =
        let breach = differing_breaks rule (subst (λ (e : Entry). IsFirstDifference e made rule) entry_at told.2) in
        (entries, journal, rw (told.0, told.1) breach)
