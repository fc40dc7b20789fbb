-- A property of rows, shape, replies and changes alone is kept by a step if commands and cancels keep it.
use Rattle.std.proofs.Common.{ℕ, ◌-◌, ◌/◌, ◌<◌, List, [], ◌∷◌, ◌++◌, length, All, refl, sym, ap, subst, Bool, true, false, nat_eq, Option, Some, None}
use Rattle.std.specs.List.{AllByRecursion, enumerate_from, fold}
use Rattle.std.proofs.lemmas.List.Elements.{All-filter, recursion_from_All}
use Rattle.std.proofs.lemmas.List.FromFn.{length-enumerate_from, get_or-enumerate_from}
use Rattle.aps_model.specs.declared.command.Change.{Change}
use Rattle.aps_model.specs.declared.command.CommandRow.{CommandRow}
use Rattle.aps_model.specs.declared.command.Reply.{Reply}
use Rattle.aps_model.specs.declared.entry.Entry.{Entry}
use Rattle.aps_model.specs.declared.entry.Order.{Order}
use Rattle.aps_model.specs.declared.merit.Contender.{Contender}
use Rattle.aps_model.specs.declared.merit.PartFacts.{PartFacts}
use Rattle.aps_model.specs.declared.partition.PartitionRow.{PartitionRow}
use Rattle.aps_model.specs.declared.shape.Shape.{Shape}
use Rattle.aps_model.specs.declared.state.Pick.{Pick}
use Rattle.laws_runs.specs.Waits.{IsPlain}
use Rattle.laws_runs.specs.Bears.{Bears, NamesChannels}
use Rattle.laws_runs.specs.Untouched.{AgreesOnRunning}
use Rattle.laws_runs.proofs.ThreadFacts.{go_on_by}
use Rattle.laws_runs.proofs.Walk.{returned_kept, sleepers_fold, wake_each}
use Rattle.laws_runs.proofs.WaitBears.{plain_bears}
use Rattle.laws_runs.proofs.Mid.{IsBilled, test_mid, tested_by, unflagged}
use Rattle.laws_runs.proofs.StepOf.{bill_at, step_by, tested_at}
use Rattle.laws_runs.proofs.Channels.{names_channels}
use Rattle.laws_runs.proofs.Sound.{legal_last, sound}
use Rattle.aps_model.specs.After.{After, state_after}
use Rattle.aps_model.specs.Bill.{bankrupt, cancel, spend}
use Rattle.aps_model.specs.Budget.{all_parts}
use Rattle.aps_model.specs.Due.{due}
use Rattle.aps_model.specs.Flag.{with_flag}
use Rattle.aps_model.specs.Legal.{IsLegal}
use Rattle.aps_model.specs.Operation.{go_on}
use Rattle.aps_model.specs.Pick.{contenders, greatest}
use Rattle.aps_model.specs.Scenario.{Scenario}
use Rattle.aps_model.specs.SchedulerState.{SchedulerState, cpu_at}
use Rattle.aps_model.specs.Step.{Step, begun, billed, chosen, settled, step}
use Rattle.aps_model.specs.TickWork.{commands_of, do_command, do_commands, has_tick_work, tick_work, wake_all, waking}
use Rattle.aps_model.specs.Valid.{IsScenario}
use Rattle.aps_model.proofs.AfterLaws.{after-append}

-- the property of the state's rows, shape, replies and changes
abbrev pub OfBooks : (List PartitionRow → Shape → List Reply → List Change → Type 0) → SchedulerState → Type 0
OfBooks Q s = Q s.rows s.shape s.replies s.changes

books_go_on : (scenario : Scenario) (t : SchedulerState) (y now : ℕ) (Q : List PartitionRow → Shape → List Reply → List Change → Type 0) → OfBooks Q t → OfBooks Q (go_on scenario t y now)
books_go_on scenario t y now Q m = go_on_by scenario t y now (OfBooks Q) (λ u e o. m) (λ u n e o st l. m)

books_bears : (scenario : Scenario) (now c x : ℕ) (Q : List PartitionRow → Shape → List Reply → List Change → Type 0) → Bears scenario now c x (λ t. IsPlain scenario t × OfBooks Q t)
books_bears scenario now c x Q =
    let b = plain_bears scenario now c x in
    record {
      waiting = λ t m. b.waiting t m.0;
      woken = λ t y u m e. (b.woken t y u m.0 e, books_go_on scenario t y now Q m.1);
      put = λ t u m run loose st. (b.put t u m.0 run loose st, m.1);
      stamped = λ t u m run up. (b.stamped t u m.0 run up, m.1);
      send_waits = λ t d named m run e. (b.send_waits t d named m.0 run e, m.1);
      send_meets = λ t d r rest named m run e. (b.send_meets t d r rest named m.0 run e, books_go_on scenario _ r now Q m.1);
      receive_waits = λ t d named m run free e. (b.receive_waits t d named m.0 run free e, m.1);
      receive_takes = λ t d msg named m run free e. (b.receive_takes t d msg named m.0 run free e, m.1);
      replies = λ t y m run e. (b.replies t y m.0 run e, books_go_on scenario _ y now Q m.1);
      leaves = λ t m run free. (b.leaves t m.0 run free, m.1);
    }

-- ---- after the work of the tick

spend_books : (Q : List PartitionRow → Shape → List Reply → List Change → Type 0) (s : SchedulerState) (ns : ℕ) (running : Option Pick) → OfBooks Q s → OfBooks Q (spend s ns running)
spend_books Q s ns None m = m
spend_books Q s ns (Some p) m = m

chosen_books : (Q : List PartitionRow → Shape → List Reply → List Change → Type 0) (s : SchedulerState) (ps : List PartFacts) (c : ℕ) (best : Option Contender) → OfBooks Q s → OfBooks Q (chosen s ps c best)
chosen_books Q s ps c None m = m
chosen_books Q s ps c (Some b) m = m

flag_books : (Q : List PartitionRow → Shape → List Reply → List Change → Type 0) (s : SchedulerState) (now : ℕ) (o : Option ℕ) → OfBooks Q s → OfBooks Q (with_flag s now o)
flag_books Q s now None m = m
flag_books Q s now (Some d) m = m

settled_books : (Q : List PartitionRow → Shape → List Reply → List Change → Type 0) (scenario : Scenario) (s r : SchedulerState) (c now : ℕ) (running : Option Pick) → NamesChannels scenario → IsBilled scenario s c running r → OfBooks Q r
    → OfBooks Q (settled scenario r now running).state
settled_books Q scenario s r c now None names b m = m
settled_books Q scenario s r c now (Some p) names b m =
    (returned_kept scenario now c p (λ t. IsPlain scenario t × OfBooks Q t) (books_bears scenario now c p.thread Q) names r (b.mid.plain, m) (b.runs p refl)).0.1

-- from the work of the tick on a step keeps what cancels keep
pub step_books : (Q : List PartitionRow → Shape → List Reply → List Change → Type 0) → ((t : SchedulerState) (j p : ℕ) → OfBooks Q t → OfBooks Q (cancel t j p))
    → (scenario : Scenario) (s : SchedulerState) (h : List Entry) (c : ℕ) → NamesChannels scenario → IsPlain scenario s → AgreesOnRunning s → OfBooks Q (begun scenario s h c (due s h c)) → OfBooks Q (step scenario s h c).state
step_books Q cancels scenario s h c names plain k m =
    let now = due s h c in
    let running = (cpu_at s c).running in
    let e = bill_at s h c in
    let s2 = billed (begun scenario s h c now) e running in
    let s3 = (tested_at scenario s h c).state in
    let b = test_mid scenario s h c now e running plain k refl in
    let m2 : OfBooks Q s2 = spend_books Q (begun scenario s h c now) (e.to - e.from) running m in
    let m3 : OfBooks Q s3 = tested_by s2.shape.bankruptcy s2 (e.to / s2.shape.tick) (bankrupt s2 (h ++ e ∷ []) e) (OfBooks Q) m2 (λ p. cancels s2 (e.to / s2.shape.tick) p m2) in
    step_by scenario s h c (λ (out : Step). OfBooks Q out.state)
    (λ o why. m3)
    (λ early.
    let r = (settled scenario s3 now running).state in
    let ps = all_parts r.shape r.rows (h ++ (record e { done = (settled scenario s3 now running).done }) ∷ []) (now / r.shape.tick) in
    let best = greatest r.shape.free ps (contenders r) in
    let m4 = settled_books Q scenario s s3 c now running names b m3 in
    flag_books Q (chosen r ps c best) now _ (chosen_books Q r ps c best m4))

-- ---- the work of the tick

commands_all : (h : List Entry) (j : ℕ) (M : SchedulerState → Type 0) (C : ℕ × CommandRow → Type 0) → ((t : SchedulerState) (k : ℕ × CommandRow) → C k → M t → M (do_command h j t k))
    → (ks : List (ℕ × CommandRow)) (s : SchedulerState) → AllByRecursion C ks → M s → M (fold (do_command h j) s ks)
commands_all h j M C b [] s fits m = m
commands_all h j M C b (k ∷ ks) s fits m = commands_all h j M C b ks (do_command h j s k) fits.1 (b s k fits.0 m)

-- the commands of a tick are commands of the scenario
pub commands_among : (scenario : Scenario) (j : ℕ) (C : CommandRow → Type 0) → All C scenario.commands → AllByRecursion (λ (k : ℕ × CommandRow). C k.1) (commands_of scenario j)
commands_among scenario j C each =
    recursion_from_All (λ (k : ℕ × CommandRow). C k.1) (commands_of scenario j)
    (All-filter (λ (k : ℕ × CommandRow). nat_eq k.1.tick j) (λ (k : ℕ × CommandRow). C k.1) (enumerate_from 0 scenario.commands)
    (λ i d below.
    let inside : i < length scenario.commands = subst (λ n. i < n) (length-enumerate_from 0 scenario.commands) below in
    subst (λ (k : ℕ × CommandRow). C k.1) (sym (get_or-enumerate_from 0 scenario.commands i d inside)) (each i d.1 inside)))

pub wake_books : (Q : List PartitionRow → Shape → List Reply → List Change → Type 0) (scenario : Scenario) (now : ℕ) (s : SchedulerState) → OfBooks Q s → OfBooks Q (wake_all scenario now s)
wake_books Q scenario now s m =
    wake_each scenario now (OfBooks Q) (λ t y u q st. books_go_on scenario t y now Q q) (waking s now) s (sleepers_fold s now (length s.threads) 0 [] (λ y l. tt) tt) m

tick_books : (Q : List PartitionRow → Shape → List Reply → List Change → Type 0) (C : CommandRow → Type 0)
    → ((h : List Entry) (j : ℕ) (t : SchedulerState) (k : ℕ × CommandRow) → C k.1 → OfBooks Q t → OfBooks Q (do_command h j t k))
    → (scenario : Scenario) (s : SchedulerState) (h : List Entry) (now : ℕ) → All C scenario.commands → OfBooks Q s → OfBooks Q (tick_work scenario s h now)
tick_books Q C commands scenario s h now each m = by_test (has_tick_work s h now)
  where
    by_test : (t : Bool) → OfBooks Q (elim t [
      | true ↦ wake_all scenario now (do_commands scenario h (now / s.shape.tick) s)
      | false ↦ s
    ])
    by_test true =
        let j = now / s.shape.tick in
        wake_books Q scenario now (do_commands scenario h j s)
        (commands_all h j (OfBooks Q) (λ k. C k.1) (λ t k fits q. commands h j t k fits q) (commands_of scenario j) s (commands_among scenario j C each) m)
    by_test false = m

-- ---- one entry more

-- what commands and cancels keep
pub record KeepsBooks (C : CommandRow → Type 0) (Q : List PartitionRow → Shape → List Reply → List Change → Type 0) : Type 0 where
  pub commands : (h : List Entry) (j : ℕ) (t : SchedulerState) (k : ℕ × CommandRow) → C k.1 → OfBooks Q t → OfBooks Q (do_command h j t k)
  pub cancels : (t : SchedulerState) (j p : ℕ) → OfBooks Q t → OfBooks Q (cancel t j p)

pub entry_books : (C : CommandRow → Type 0) (Q : List PartitionRow → Shape → List Reply → List Change → Type 0) → KeepsBooks C Q
    → (scenario : Scenario) (order : Order) (h : List Entry) (e : Entry) → IsScenario scenario → All C scenario.commands → IsLegal scenario order (h ++ e ∷ []) → OfBooks Q (state_after scenario h) → OfBooks Q (state_after scenario (h ++ e ∷ []))
entry_books C Q keeps scenario order h e r each legal m =
    let last = legal_last scenario order h e legal in
    let ground = (sound scenario order r h last.0).grounded in
    let s = state_after scenario h in
    subst (OfBooks Q) (sym (ap (λ (a : After). a.state) (after-append scenario h e)))
    (step_books Q keeps.cancels scenario s h e.cpu (names_channels scenario r) ground.plain ground.kept
    (tick_books Q C keeps.commands scenario (unflagged s e.cpu) h (due s h e.cpu) each m))
