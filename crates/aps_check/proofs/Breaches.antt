-- What the answers of a core say of a journal.
use Rattle.std.proofs.Common.{◌≡◌, ℕ, ◌+◌, ◌<◌, ◌≤◌, List, [], ◌∷◌, ◌++◌, length, take, drop, get_or, drop-cons, add-one, refl, sym, ap, subst, ◌∙◌, append_assoc, arith, Option, None}
use Rattle.std.proofs.lemmas.List.{append-nil, take-append-drop, take_all, take_more}
use Rattle.aps_model.specs.declared.entry.End.{End}
use Rattle.aps_model.specs.declared.entry.Entry.{Entry}
use Rattle.aps_model.specs.Legal.{IsLegal}
use Rattle.aps_model.specs.Valid.{IsScenario}
use Rattle.laws_runs.specs.Runs.{EndsNoSooner}
use Rattle.laws_runs.proofs.Counts.{counts_law}
use Rattle.aps_core.specs.Run.{Run, end_of_run}
use Rattle.aps_core.specs.Turn.{with_entry}
use Rattle.aps_check.specs.declared.judging.Breach.{Breach}
use Rattle.aps_check.specs.declared.verdict.Rule.TheVariants.{Turn}
use Rattle.aps_check.specs.Breach.{IsBreach}
use Rattle.aps_check.specs.Verdict.{HasTurnAfter, IsFirstBreach, IsLegalJournal}

-- a processor that doesn't exist has no turn
missing_waits : (run : Run) (c : ℕ) → IsScenario run.setup.scenario → IsLegal run.setup.scenario run.setup.order run.entries
    → run.setup.scenario.shape.cpus ≤ c
    → ¬ HasTurnAfter run.setup run.entries c
missing_waits run c valid legal high = λ turn.
    omega (arith, turn.exists, high, (counts_law run.setup.scenario run.setup.order run.entries valid legal).sizes.cpus)

-- the run's setup with these entries
abbrev with_entries : Run → List Entry → Run
with_entries run h = record { setup = run.setup; entries = h }

-- the run with the first of these entries behind its own
abbrev pub behind : Run → List Entry → ℕ → Run
behind run entries i = record { setup = run.setup; entries = run.entries ++ take i entries }

pub nothing_behind : (run : Run) (entries : List Entry) → run ≡ behind run entries 0
nothing_behind run entries =
    ap (λ h. with_entries run h) (sym (append-nil run.entries))

-- what the next entry breaks is the journal's first breach
pub first_breach : (run : Run) (entries : List Entry) (i : ℕ) (e : Entry) (breach : Breach) → i < length entries
    → get_or entries i e ≡ e → IsBreach (behind run entries i) e breach
    → IsFirstBreach run.setup (run.entries ++ entries) breach.place breach.rule breach.expected
first_breach run entries i e breach less is b = record {
  before = run.entries ++ take i entries;
  entry = e;
  later = drop (i + 1) entries;
  parts = ap (λ l. run.entries ++ l) (sym (take-append-drop i entries) ∙ ap (λ l. take i entries ++ l) (cut ∙ ap (λ x. x ∷ drop (i + 1) entries) is))
      ∙ sym (append_assoc run.entries (take i entries) (e ∷ drop (i + 1) entries));
  at_place = sym b.place;
  sound = b.sound;
  breaks = b.breaks;
}
  where
    cut : drop i entries ≡ get_or entries i e ∷ drop (i + 1) entries
    cut = rw (add-one, drop-cons entries i e) refl

-- where the entry breaks nothing, the run has it too
pub one_behind : (run : Run) (entries : List Entry) (i : ℕ) (e : Entry) (now later : Run) → i < length entries
    → get_or entries i e ≡ e → now ≡ behind run entries i → later ≡ with_entry now e
    → later ≡ behind run entries (i + 1)
one_behind run entries i e now later less is same goes_on =
    goes_on ∙ ap (λ (r : Run). with_entry r e) same
    ∙ ap (λ h. with_entries run h) (append_assoc run.entries (take i entries) (e ∷ [])
    ∙ ap (λ l. run.entries ++ l) (sym (take_more entries i e less ∙ ap (λ x. take i entries ++ x ∷ []) is)))

-- where no entry is left, the journal is the run's
pub legal_journal : (run : Run) (entries : List Entry) (i : ℕ) (now : Run) (end : Option End) → length entries ≤ i
    → now ≡ behind run entries i
    → IsLegal now.setup.scenario now.setup.order now.entries → EndsNoSooner now.setup.scenario now.setup.limit now.entries
    → end ≡ end_of_run now
    → IsLegalJournal run.setup (run.entries ++ entries) end
legal_journal run entries i now end past same legal no_sooner ended =
    let P : Run → Type 0 = λ r. IsLegalJournal r.setup r.entries end in
    let own : P now = record { sound = record { legal = legal; no_sooner = no_sooner }; ended = sym ended } in
    subst P (same ∙ ap (λ l. with_entries run (run.entries ++ l)) (take_all i entries past)) own

-- an entry of a processor that doesn't exist is out of turn
pub missing_breach : (run : Run) (e : Entry) (place : ℕ) → IsScenario run.setup.scenario
    → IsLegal run.setup.scenario run.setup.order run.entries → EndsNoSooner run.setup.scenario run.setup.limit run.entries
    → end_of_run run ≡ None → run.setup.scenario.shape.cpus ≤ e.cpu → place ≡ length run.entries
    → IsBreach run e (record { place = place; rule = Turn; expected = None })
missing_breach run e place valid legal no_sooner goes_on high at_place = record {
  place = at_place;
  sound = record { legal = legal; no_sooner = no_sooner };
  breaks = record { goes_on = goes_on; waits = missing_waits run e.cpu valid legal high; none = refl };
}
