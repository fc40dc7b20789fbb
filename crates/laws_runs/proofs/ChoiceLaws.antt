-- Each entry that makes a pick picks the greatest candidate.
use Rattle.std.proofs.Common.{◌≡◌, ℕ, ◌/◌, ◌⊎◌, List, [], ◌∷◌, ◌++◌, refl, sym, ◌∙◌, ap, subst, Option, Some, None, inl, inr}
use Rattle.std.specs.Option.{option_map}
use Rattle.aps_model.specs.declared.entry.Entry.{Entry}
use Rattle.aps_model.specs.declared.entry.Order.{Order}
use Rattle.aps_model.specs.declared.merit.Contender.{Contender}
use Rattle.aps_model.specs.declared.merit.PartFacts.{PartFacts}
use Rattle.aps_model.specs.declared.state.Pick.{Pick}
use Rattle.laws_runs.specs.Bears.{NamesChannels}
use Rattle.laws_runs.specs.Choices.{EachPickIsGreatest, MadeNoPick, PicksGreatest, state_to_pick}
use Rattle.laws_runs.specs.Untouched.{IsComplete, AgreesOnRunning}
use Rattle.laws_runs.specs.Waits.{IsPlain}
use Rattle.laws_runs.proofs.Channels.{names_channels}
use Rattle.laws_runs.proofs.Mid.{test_mid}
use Rattle.laws_runs.proofs.PickSays.{complete_in, parts_same}
use Rattle.laws_runs.proofs.Sound.{legal_last, sound}
use Rattle.laws_runs.proofs.StepOf.{bill_at, bill_says, step_by, tested_at}
use Rattle.laws_runs.proofs.Words.{up_to}
use Rattle.aps_model.specs.After.{After, after, state_after}
use Rattle.aps_model.specs.Bill.{bill_of}
use Rattle.aps_model.specs.Budget.{all_parts}
use Rattle.aps_model.specs.Due.{due, last_end}
use Rattle.aps_model.specs.Legal.{IsLegal}
use Rattle.aps_model.specs.Pick.{contenders, greatest, missing}
use Rattle.aps_model.specs.Scenario.{Scenario}
use Rattle.aps_model.specs.SchedulerState.{SchedulerState, cpu_at}
use Rattle.aps_model.specs.Step.{Step, pick, settled, step}
use Rattle.aps_model.specs.Valid.{IsScenario}
use Rattle.aps_model.proofs.AfterLaws.{after-append}

pub bill_picks_none : (c from now : ℕ) (running : Option Pick) → (bill_of c from now running).picked ≡ None
bill_picks_none c from now None = refl
bill_picks_none c from now (Some p) = refl

-- the candidates are compared by the usage with the bill, whatever else the entry says
pick_greatest : (r : SchedulerState) (h : List Entry) (c now : ℕ) (e0 : Entry) → e0.to ≡ now → PicksGreatest r h (pick r h c now e0).entry
pick_greatest r h c now e0 now_is =
    let e = (pick r h c now e0).entry in
    let parts : ℕ → List PartFacts = λ moment. all_parts r.shape r.rows (h ++ e ∷ []) (moment / r.shape.tick) in
    let same : all_parts r.shape r.rows (h ++ e0 ∷ []) (now / r.shape.tick) ≡ parts e.to =
    sym (parts_same r.shape r.rows h (now / r.shape.tick) e0 e refl refl refl refl) ∙ ap parts (sym now_is) in
    record {
      picked = ap (λ ps. option_map (λ (b : Contender). b.thread) (greatest r.shape.free ps (contenders r))) same;
      starved = ap (λ ps. missing ps (contenders r)) same;
    }

step_picks : (scenario : Scenario) (s : SchedulerState) (h : List Entry) (c : ℕ) → NamesChannels scenario → IsPlain scenario s → AgreesOnRunning s
    → PicksGreatest (state_to_pick scenario s h c) h (step scenario s h c).entry
    ⊎ MadeNoPick s (step scenario s h c).entry (step scenario s h c).reboot
step_picks scenario s h c names plain k =
    let now = due s h c in
    let running = (cpu_at s c).running in
    let e = bill_at s h c in
    let says = bill_says c (last_end h c) now running in
    let b = test_mid scenario s h c now e running plain k refl in
    step_by scenario s h c (λ (out : Step). PicksGreatest (state_to_pick scenario s h c) h out.entry ⊎ MadeNoPick s out.entry out.reboot)
    (λ o why. inr (record {
      none = bill_picks_none c (last_end h c) now running;
      complete = subst (λ n. IsComplete s n o) (sym says.to) (complete_in s (tested_at scenario s h c).state now o b.mid.sizes why);
    }))
    (λ early.
    let did = settled scenario (tested_at scenario s h c).state now running in
    inl (pick_greatest did.state h c now (record e { done = did.done }) says.to))

-- each pick of a legal history is of the greatest candidate
pub picks_law : (scenario : Scenario) (order : Order) (h : List Entry) → IsScenario scenario → IsLegal scenario order h → EachPickIsGreatest scenario h
picks_law scenario order h r legal = λ before later e same.
    let front = up_to scenario order h before later e same legal in
    let last = legal_last scenario order before e front in
    let m = sound scenario order r before last.0 in
    let s = state_after scenario before in
    let c = e.cpu in
    subst (λ (x : Entry). PicksGreatest (state_to_pick scenario s before c) before x ⊎ MadeNoPick s x (after scenario (before ++ e ∷ [])).reboot) (sym last.1.same)
    (subst (λ (a : After). PicksGreatest (state_to_pick scenario s before c) before (step scenario s before c).entry ⊎ MadeNoPick s (step scenario s before c).entry a.reboot)
    (sym (after-append scenario before e))
    (step_picks scenario s before c (names_channels scenario r) m.grounded.plain m.grounded.kept))
