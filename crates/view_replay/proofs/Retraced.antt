-- A core that makes the steps of a legal history again.
use Rattle.std.proofs.Common.{◌≡◌, ℕ, ◌+◌, ◌<◌, ◌≤◌, List, [], ◌∷◌, ◌++◌, length, take, drop, get_or, cond, drop-cons, add-one, Some, None, sym, ap, subst, ◌∙◌, refl, arith}
use Rattle.std.proofs.lemmas.List.{length-take-le, take-append-drop, take_more}
use Rattle.aps_model.specs.declared.entry.Entry.{Entry}
use Rattle.aps_model.specs.declared.entry.End.TheVariants.{Limit}
use Rattle.aps_model.specs.After.{or_limit}
use Rattle.aps_model.specs.Legal.{IsLegal}
use Rattle.laws_runs.proofs.Prefixes.{goes_on, legal_up_to}
use Rattle.laws_runs.proofs.WaitFacts.{test_ne}
use Rattle.laws_runs.specs.Runs.{GoesOn}
use Rattle.aps_core.specs.Run.{Run, Setup}
use Rattle.aps_core.specs.Turn.{IsTurnTaken, with_entry}
use Rattle.view_replay.specs.Retraced.{front}

-- the history by the entries before one, that one, and those after it
pub parted : (h : List Entry) (i : ℕ) (e : Entry) → i < length h → get_or h i e ≡ e → h ≡ take i h ++ e ∷ drop (i + 1) h
parted h i e less is = sym (take-append-drop i h) ∙ ap (λ l. take i h ++ l) (cut ∙ ap (λ x. x ∷ drop (i + 1) h) is)
  where
    cut : drop i h ≡ get_or h i e ∷ drop (i + 1) h
    cut = rw (add-one, drop-cons h i e) refl

-- one entry more
pub one_more : (h : List Entry) (i : ℕ) (e : Entry) → i < length h → get_or h i e ≡ e → take (i + 1) h ≡ take i h ++ e ∷ []
one_more h i e less is = take_more h i e less ∙ ap (λ x. take i h ++ x ∷ []) is

-- an entry with which a run is legal is the step of its processor, which has the turn
pub taken : (run : Run) (e : Entry) → IsLegal run.setup.scenario run.setup.order (run.entries ++ e ∷ []) → length run.entries < run.setup.limit → IsTurnTaken run e.cpu e
taken run e legal less =
    let next : GoesOn run.setup.scenario run.setup.order run.entries e = goes_on run.setup.scenario run.setup.order run.entries [] e legal in
    record {
      goes_on = ap (λ o. or_limit o run.setup.limit (length run.entries)) next.running
          ∙ ap (λ t. cond t (Some Limit) None) (test_ne (length run.entries) run.setup.limit (λ same. omega (arith, same, less)));
      turn = next.turn;
      stepped = next.same;
    }

-- so is each entry of a legal history
pub next_taken : (setup : Setup) (h : List Entry) (i : ℕ) (e : Entry) (run : Run) → run ≡ front setup h i → IsLegal setup.scenario setup.order h → i < length h → get_or h i e ≡ e → length h ≤ setup.limit
    → IsTurnTaken run e.cpu e
next_taken setup h i e run here legal less is few =
    let count = length-take-le i h (omega (arith, less)) in
    let up_to = legal_up_to setup.scenario setup.order (take i h) (drop (i + 1) h) e (subst (IsLegal setup.scenario setup.order) (parted h i e less is) legal) in
    subst (λ (r : Run). IsTurnTaken r e.cpu e) (sym here) (taken (front setup h i) e up_to (omega (arith, count, less, few)))

-- the run then has it too
pub front_more : (setup : Setup) (h : List Entry) (i : ℕ) (e : Entry) (run later : Run) → run ≡ front setup h i → i < length h → get_or h i e ≡ e → later ≡ with_entry run e → later ≡ front setup h (i + 1)
front_more setup h i e run later here less is goes_on =
    let whole : List Entry → Run = λ g. record { setup = setup; entries = g } in
    goes_on ∙ ap (λ (r : Run). with_entry r e) here ∙ ap whole (sym (one_more h i e less is))
