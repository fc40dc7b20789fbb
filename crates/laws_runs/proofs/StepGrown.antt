-- A step changes rows and shape only with a change at its own tick.
use Rattle.std.proofs.Common.{◌≡◌, ℕ, ◌-◌, ◌/◌, List, [], ◌∷◌, ◌++◌, refl, sym, ◌∙◌, ap, subst, Bool, true, false, cond, nat_eq, Option, Some, None, slice_set}
use Rattle.std.proofs.lemmas.Bool.{eqb-true}
use Rattle.std.proofs.lemmas.List.{set-get_or}
use Rattle.aps_model.specs.declared.entry.Entry.{Entry}
use Rattle.aps_model.specs.declared.entry.Order.{Order}
use Rattle.aps_model.specs.declared.command.ChangeKind.TheVariants.{Cancelled}
use Rattle.aps_model.specs.declared.merit.PartFacts.{PartFacts}
use Rattle.aps_model.specs.declared.merit.Contender.{Contender}
use Rattle.aps_model.specs.declared.state.Pick.{Pick}
use Rattle.laws_runs.specs.Waits.{IsPlain}
use Rattle.laws_runs.specs.Bears.{Bears, NamesChannels}
use Rattle.laws_runs.specs.Untouched.{AgreesOnRunning}
use Rattle.laws_runs.specs.Grown.{IsGrown}
use Rattle.laws_runs.proofs.Walk.{returned_kept}
use Rattle.laws_runs.proofs.WaitBears.{plain_bears}
use Rattle.laws_runs.proofs.Mid.{IsBilled, billed_mid, test_mid, tested_by, unflagged}
use Rattle.laws_runs.proofs.StepOf.{step_by, bill_says, bill_at, tested_at}
use Rattle.laws_runs.proofs.Channels.{names_channels}
use Rattle.laws_runs.proofs.Sound.{sound, step_law, legal_last}
use Rattle.laws_runs.proofs.Grown.{grown_same, grown_trans, go_on_grown, tick_grown}
use Rattle.aps_model.specs.After.{After, state_after}
use Rattle.aps_model.specs.Bill.{after_test, bankrupt, cancel, spend}
use Rattle.aps_model.specs.Budget.{all_parts}
use Rattle.aps_model.specs.Due.{due, last_end}
use Rattle.aps_model.specs.Flag.{with_flag}
use Rattle.aps_model.specs.Legal.{IsLegal}
use Rattle.aps_model.specs.Partition.{no_row, row_or_none}
use Rattle.aps_model.specs.Pick.{contenders, greatest}
use Rattle.aps_model.specs.Scenario.{Scenario}
use Rattle.aps_model.specs.SchedulerState.{SchedulerState, cpu_at, row_at}
use Rattle.aps_model.specs.Step.{Step, begun, billed, chosen, settled, step}
use Rattle.aps_model.specs.Tree.{rows_cancelled}
use Rattle.aps_model.specs.Usage.{names}
use Rattle.aps_model.specs.Valid.{IsScenario}
use Rattle.aps_model.proofs.AfterLaws.{after-append}

-- where the threads move, rows, shape and changes stay
grown_bears : (scenario : Scenario) (now c x j : ℕ) (s : SchedulerState) → Bears scenario now c x (λ t. IsPlain scenario t × IsGrown j s t)
grown_bears scenario now c x j s =
    let b = plain_bears scenario now c x in
    let on : (t u : SchedulerState) → IsGrown j s t → u.rows ≡ t.rows → u.shape ≡ t.shape → u.changes ≡ t.changes → IsGrown j s u = λ t u m p q r. grown_trans j s t u m (grown_same j t u p q r) in
    record {
      waiting = λ t m. b.waiting t m.0;
      woken = λ t y u m e. (b.woken t y u m.0 e, go_on_grown scenario j s t y now m.1);
      put = λ t u m run loose st. (b.put t u m.0 run loose st, on t _ m.1 refl refl refl);
      stamped = λ t u m run up. (b.stamped t u m.0 run up, on t _ m.1 refl refl refl);
      send_waits = λ t d named m run e. (b.send_waits t d named m.0 run e, on t _ m.1 refl refl refl);
      send_meets = λ t d r rest named m run e. (b.send_meets t d r rest named m.0 run e, go_on_grown scenario j s _ r now (on t _ m.1 refl refl refl));
      receive_waits = λ t d named m run free e. (b.receive_waits t d named m.0 run free e, on t _ m.1 refl refl refl);
      receive_takes = λ t d msg named m run free e. (b.receive_takes t d msg named m.0 run free e, on t _ m.1 refl refl refl);
      replies = λ t y m run e. (b.replies t y m.0 run e, go_on_grown scenario j s _ y now (on t _ m.1 refl refl refl));
      leaves = λ t m run free. (b.leaves t m.0 run free, on t _ m.1 refl refl refl);
    }

spend_grown : (j : ℕ) (s : SchedulerState) (ns : ℕ) (running : Option Pick) → IsGrown j s (spend s ns running)
spend_grown j s ns None = grown_same j s s refl refl refl
spend_grown j s ns (Some p) = grown_same j s _ refl refl refl

cancel_grown : (j : ℕ) (s : SchedulerState) (p : ℕ) → IsGrown j s (cancel s j p)
cancel_grown j s p = by_test (nat_eq (row_at s p).critical 0) refl
  where
    same_rows : (row_at s p).critical ≡ 0 → rows_cancelled s.rows p ≡ s.rows
    same_rows e =
        ap (λ n. slice_set s.rows p (record (row_or_none s.rows p) { critical = n })) (sym e)
        ∙ set-get_or s.rows p no_row

    by_test : (t : Bool) → nat_eq (row_at s p).critical 0 ≡ t → IsGrown j s (record s {
      rows = rows_cancelled s.rows p;
      changes = cond t s.changes (s.changes ++ (record { tick = j; kind = Cancelled p }) ∷ []);
    })
    by_test true e = grown_same j s _ (same_rows (eqb-true (row_at s p).critical 0 e)) refl refl
    by_test false e = record { more = (record { tick = j; kind = Cancelled p }) ∷ []; is = refl; ticks = (refl, tt); same = λ f. absurd cc }

chosen_grown : (j : ℕ) (s : SchedulerState) (ps : List PartFacts) (c : ℕ) (best : Option Contender) → IsGrown j s (chosen s ps c best)
chosen_grown j s ps c None = grown_same j s _ refl refl refl
chosen_grown j s ps c (Some b) = grown_same j s _ refl refl refl

flag_grown : (j : ℕ) (s : SchedulerState) (now : ℕ) (o : Option ℕ) → IsGrown j s (with_flag s now o)
flag_grown j s now None = grown_same j s s refl refl refl
flag_grown j s now (Some d) = grown_same j s _ refl refl refl

settled_grown : (scenario : Scenario) (s r : SchedulerState) (c now j : ℕ) (running : Option Pick) → NamesChannels scenario → IsBilled scenario s c running r → IsGrown j r (settled scenario r now running).state
settled_grown scenario s r c now j None names b = grown_same j r r refl refl refl
settled_grown scenario s r c now j (Some p) names b =
    (returned_kept scenario now c p (λ t. IsPlain scenario t × IsGrown j r t) (grown_bears scenario now c p.thread j r) names r (b.mid.plain, grown_same j r r refl refl refl) (b.runs p refl)).0.1

pub step_grown : (scenario : Scenario) (s : SchedulerState) (h : List Entry) (c : ℕ) → NamesChannels scenario → IsPlain scenario s → AgreesOnRunning s → IsGrown (due s h c / s.shape.tick) s (step scenario s h c).state
step_grown scenario s h c names plain k =
    let now = due s h c in
    let j = now / s.shape.tick in
    let running = (cpu_at s c).running in
    let e = bill_at s h c in
    let s0 = unflagged s c in
    let s1 = begun scenario s h c now in
    let s2 = billed s1 e running in
    let s3 = (tested_at scenario s h c).state in
    let b = test_mid scenario s h c now e running plain k refl in
    let to : e.to ≡ now = (bill_says c (last_end h c) now running).to in
    let g1 : IsGrown j s s1 = grown_trans j s s0 s1 (grown_same j s s0 refl refl refl) (tick_grown scenario s0 h now) in
    let g2 : IsGrown j s s2 = grown_trans j s s1 s2 g1 (spend_grown j s1 (e.to - e.from) running) in
    let g3 : IsGrown j s s3 = tested_grown s2 j (e.to / s2.shape.tick) (bankrupt s2 (h ++ e ∷ []) e) g2 (tick_is s2 e now to (billed_mid scenario s h c now (e.to - e.from) running plain k refl).mid.sizes.tick) in
    step_by scenario s h c (λ (out : Step). IsGrown j s out.state)
    (λ o why. g3)
    (λ early.
    let r = (settled scenario s3 now running).state in
    let ps = all_parts r.shape r.rows (h ++ (record e { done = (settled scenario s3 now running).done }) ∷ []) (now / r.shape.tick) in
    let best = greatest r.shape.free ps (contenders r) in
    let q = chosen r ps c best in
    let g4 = grown_trans j s s3 r g3 (settled_grown scenario s s3 c now j running names b) in
    grown_trans j s q _ (grown_trans j s r q g4 (chosen_grown j r ps c best)) (flag_grown j q now _))
  where
    tick_is : (s2 : SchedulerState) (e : Entry) (now : ℕ) → e.to ≡ now → s2.shape.tick ≡ s.shape.tick → e.to / s2.shape.tick ≡ now / s.shape.tick
    tick_is s2 e now to tick = ap (λ n. n / s2.shape.tick) to ∙ ap (λ t. now / t) tick

    tested_grown : (s2 : SchedulerState) (j i : ℕ) (o : Option ℕ) → IsGrown j s s2 → i ≡ j → IsGrown j s (after_test s2.shape.bankruptcy s2 i o).state
    tested_grown s2 j i o g same =
        subst (λ n. IsGrown j s (after_test s2.shape.bankruptcy s2 n o).state) (sym same)
        (tested_by s2.shape.bankruptcy s2 j o (IsGrown j s) g (λ p. grown_trans j s s2 (cancel s2 j p) g (cancel_grown j s2 p)))

pub change_or_same : (scenario : Scenario) (order : Order) (h : List Entry) (e : Entry) → IsScenario scenario → IsLegal scenario order (h ++ e ∷ [])
    → IsGrown (e.to / scenario.shape.tick) (state_after scenario h) (state_after scenario (h ++ e ∷ []))
change_or_same scenario order h e r legal =
    let last = legal_last scenario order h e legal in
    let m = sound scenario order r h last.0 in
    let s = state_after scenario h in
    let st = step_law scenario order h e r legal in
    let g = step_grown scenario s h e.cpu (names_channels scenario r) m.grounded.plain m.grounded.kept in
    let tick : due s h e.cpu / s.shape.tick ≡ e.to / scenario.shape.tick = ap (λ n. n / s.shape.tick) (sym st.to) ∙ ap (λ t. e.to / t) m.grounded.sizes.tick in
    subst (λ j. IsGrown j s (state_after scenario (h ++ e ∷ []))) tick
    (subst (IsGrown (due s h e.cpu / s.shape.tick) s) (sym (ap (λ (a : After). a.state) (after-append scenario h e))) g)
