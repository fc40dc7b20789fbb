-- What comes before and after in a legal history.
use Rattle.std.proofs.Common.{◌≡◌, List, [], ◌∷◌, ◌++◌, sym, subst, append_assoc, None}
use Rattle.std.proofs.lemmas.List.{append-nil}
use Rattle.aps_model.specs.declared.entry.Entry.{Entry}
use Rattle.aps_model.specs.declared.entry.Order.{Order}
use Rattle.laws_runs.specs.Runs.{GoesOn, IsOneMore}
use Rattle.laws_runs.proofs.Sound.{legal_last}
use Rattle.laws_runs.proofs.Words.{prefix_legal}
use Rattle.aps_model.specs.After.{After, after, after_from, at_start, left_by, over}
use Rattle.aps_model.specs.Due.{HasTurn}
use Rattle.aps_model.specs.Legal.{IsLegal, LegalFrom}
use Rattle.aps_model.specs.Scenario.{Scenario}
use Rattle.aps_model.specs.Step.{step}
use Rattle.aps_model.proofs.AfterLaws.{after-append}

record IsNextFrom (scenario : Scenario) (order : Order) (a : After) (h : List Entry) (e : Entry) : Type 0 where
  running : over a h ≡ None
  turn : HasTurn order a.state h e.cpu
  same : e ≡ (step scenario a.state h e.cpu).entry

more_from : (scenario : Scenario) (order : Order) (a : After) (h es : List Entry) (e : Entry) → LegalFrom scenario order a h es → IsNextFrom scenario order (after_from scenario a h es) (h ++ es) e
    → LegalFrom scenario order a h (es ++ e ∷ [])
more_from scenario order a h [] e legal next =
    let here : IsNextFrom scenario order a h e = subst (λ g. IsNextFrom scenario order a g e) (append-nil h) next in
    (here.running, here.turn, here.same, tt)
more_from scenario order a h (x ∷ es) e legal next =
    let b = left_by (step scenario a.state h x.cpu) in
    let there = subst (λ g. IsNextFrom scenario order (after_from scenario b (h ++ x ∷ []) es) g e) (sym (append_assoc h (x ∷ []) es)) next in
    (legal.0, legal.1, legal.2, more_from scenario order b (h ++ x ∷ []) es e legal.3 there)

-- a legal history goes on by the step of who has the turn
pub legal_more : (scenario : Scenario) (order : Order) (h : List Entry) (e : Entry) → IsLegal scenario order h → GoesOn scenario order h e → IsLegal scenario order (h ++ e ∷ [])
unfolding after IsLegal
legal_more scenario order h e legal next =
    more_from scenario order (at_start scenario) [] h e legal (record { running = next.running; turn = next.turn; same = next.same })

pub one_more : (scenario : Scenario) (order : Order) (h : List Entry) (e : Entry) → IsLegal scenario order (h ++ e ∷ []) → IsOneMore scenario order h e
one_more scenario order h e legal =
    let last = legal_last scenario order h e legal in
    record {
      before = last.0;
      goes_on = record { running = last.1.running; turn = last.1.turn; same = last.1.same };
      leaves = after-append scenario h e;
    }

-- up to and with an entry of a legal history
pub legal_up_to : (scenario : Scenario) (order : Order) (h later : List Entry) (e : Entry) → IsLegal scenario order (h ++ e ∷ later) → IsLegal scenario order (h ++ e ∷ [])
legal_up_to scenario order h later e legal =
    prefix_legal scenario order (h ++ e ∷ []) later (subst (IsLegal scenario order) (sym (append_assoc h (e ∷ []) later)) legal)

pub goes_on : (scenario : Scenario) (order : Order) (h later : List Entry) (e : Entry) → IsLegal scenario order (h ++ e ∷ later) → GoesOn scenario order h e
goes_on scenario order h later e legal = (one_more scenario order h e (legal_up_to scenario order h later e legal)).goes_on

-- ---- induction on the last entry

entries_from : (scenario : Scenario) (order : Order) (P : List Entry → Type 0) → ((h : List Entry) (e : Entry) → IsLegal scenario order (h ++ e ∷ []) → P h → P (h ++ e ∷ []))
    → (es done : List Entry) → IsLegal scenario order (done ++ es) → P done → P (done ++ es)
entries_from scenario order P more [] done legal p = subst P (sym (append-nil done)) p
entries_from scenario order P more (e ∷ es) done legal p =
    let next : P (done ++ e ∷ []) = more done e (legal_up_to scenario order done es e legal) p in
    subst P (append_assoc done (e ∷ []) es)
    (entries_from scenario order P more es (done ++ e ∷ []) (subst (IsLegal scenario order) (sym (append_assoc done (e ∷ []) es)) legal) next)

-- what holds of a prefix and is kept by each further entry holds of the whole
pub by_more : (scenario : Scenario) (order : Order) (P : List Entry → Type 0) → ((h : List Entry) (e : Entry) → IsLegal scenario order (h ++ e ∷ []) → P h → P (h ++ e ∷ []))
    → (h later : List Entry) → IsLegal scenario order (h ++ later) → P h → P (h ++ later)
by_more scenario order P more h later legal p = entries_from scenario order P more later h legal p

pub by_entries : (scenario : Scenario) (order : Order) (P : List Entry → Type 0) → ((h : List Entry) (e : Entry) → IsLegal scenario order (h ++ e ∷ []) → P h → P (h ++ e ∷ []))
    → (h : List Entry) → IsLegal scenario order h → P [] → P h
by_entries scenario order P more h legal p = entries_from scenario order P more h [] legal p
