-- What ties threads after one more entry.
use Rattle.std.proofs.Common.{◌≡◌, ℕ, ◌/◌, List, [], ◌∷◌, ◌++◌, refl, sym, ◌∙◌, ap, map, replicate, length, Option, Some, None}
use Rattle.aps_model.specs.declared.entry.Done.{Done}
use Rattle.aps_model.specs.declared.entry.Entry.{Entry}
use Rattle.aps_model.specs.declared.entry.Order.{Order}
use Rattle.aps_model.specs.declared.state.Pick.{Pick}
use Rattle.aps_model.specs.After.{After, state_after}
use Rattle.aps_model.specs.Bill.{bill_of}
use Rattle.aps_model.specs.Budget.{all_parts}
use Rattle.aps_model.specs.Due.{due, last_end}
use Rattle.aps_model.specs.Flag.{flag_for}
use Rattle.aps_model.specs.Inherit.{facts_of}
use Rattle.aps_model.specs.Legal.{IsLegal}
use Rattle.aps_model.specs.Pick.{contenders, greatest}
use Rattle.aps_model.specs.Scenario.{Scenario, op_at}
use Rattle.aps_model.specs.SchedulerState.{ChannelNow, SchedulerState, cpu_at, no_channel, thread_at}
use Rattle.aps_model.specs.Step.{Step, chosen, settled, step}
use Rattle.aps_model.specs.Valid.{IsScenario}
use Rattle.aps_model.proofs.AfterLaws.{after-append, after_none}
use Rattle.laws_runs.specs.Untouched.{AgreesOnRunning}
use Rattle.laws_runs.specs.Waits.{IsPlain}
use Rattle.laws_runs.proofs.ListsFit.{tested_lists}
use Rattle.laws_runs.proofs.Sound.{legal_last, sound}
use Rattle.laws_runs.proofs.StepOf.{bill_at, step_by, tested_at}
use Rattle.view_explain.specs.Ties.{Ties, after_done, after_ran, channel_of_operation, ties_of}
use Rattle.view_explain.proofs.Beside.{place_before, priority_before}
use Rattle.view_explain.proofs.Done.{settled_says, thread_in}
use Rattle.view_explain.proofs.Lists.{chosen_lists, flagged_lists}

bill_ran : (c from now : ℕ) (o : Option Pick) → (bill_of c from now o).ran ≡ thread_in o
bill_ran c from now None = refl
bill_ran c from now (Some p) = refl

-- who did nothing ties nobody
bill_says_nothing : (scenario : Scenario) (s : SchedulerState) (ties : Ties) (c from now : ℕ) (o : Option Pick) → after_ran scenario s ties (bill_of c from now o).ran (bill_of c from now o).done ≡ ties
bill_says_nothing scenario s ties c from now None = refl
bill_says_nothing scenario s ties c from now (Some p) = refl

tested_ties : (scenario : Scenario) (s : SchedulerState) (h : List Entry) (c : ℕ) → ties_of (tested_at scenario s h c).state ≡ ties_of s
tested_ties scenario s h c =
    let same = tested_lists scenario s h c in
    let t = (tested_at scenario s h c).state in
    ap (λ cs. ties_of (record t { channels = cs })) same.channels ∙ ap (λ ts. ties_of (record t { channels = s.channels; triples = ts })) same.triples

-- the operation goes by the place and the priority that the thread had before
ran_before : (scenario : Scenario) (s : SchedulerState) (h : List Entry) (c : ℕ) (running : Option Pick) (done : Done) → IsPlain scenario s → AgreesOnRunning s → (cpu_at s c).running ≡ running
    → after_ran scenario (tested_at scenario s h c).state (ties_of (tested_at scenario s h c).state) (thread_in running) done ≡ after_ran scenario s (ties_of s) (thread_in running) done
ran_before scenario s h c None done plain kept is = tested_ties scenario s h c
ran_before scenario s h c (Some p) done plain kept is =
    let t = (tested_at scenario s h c).state in
    let x = p.thread in
    ap (λ ties. after_done ties x (channel_of_operation (op_at scenario x (thread_at t x).place)) (facts_of t x).priority done) (tested_ties scenario s h c)
    ∙ ap (λ place. after_done (ties_of s) x (channel_of_operation (op_at scenario x place)) (facts_of t x).priority done) (place_before scenario s h c p plain kept is)
    ∙ ap (λ priority. after_done (ties_of s) x (channel_of_operation (op_at scenario x (thread_at s x).place)) priority done) (priority_before scenario s h c x)

-- a step as a whole
step_ties : (scenario : Scenario) (s : SchedulerState) (h : List Entry) (c : ℕ) → IsPlain scenario s → AgreesOnRunning s
    → ties_of (step scenario s h c).state ≡ after_ran scenario s (ties_of s) (step scenario s h c).entry.ran (step scenario s h c).entry.done
step_ties scenario s h c plain kept =
    let now = due s h c in
    let running = (cpu_at s c).running in
    let e = bill_at s h c in
    let s3 = (tested_at scenario s h c).state in
    step_by scenario s h c (λ (out : Step). ties_of out.state ≡ after_ran scenario s (ties_of s) out.entry.ran out.entry.done)
    (λ o why. tested_ties scenario s h c ∙ sym (bill_says_nothing scenario s (ties_of s) c (last_end h c) now running))
    (λ early.
    let did = settled scenario s3 now running in
    let r = did.state in
    let ps = all_parts r.shape r.rows (h ++ (record e { done = did.done }) ∷ []) (now / r.shape.tick) in
    let best = greatest r.shape.free ps (contenders r) in
    let q = chosen r ps c best in
    flagged_lists q now (flag_for q h ps c now (greatest r.shape.free ps (contenders q))) ∙ chosen_lists r ps c best
    ∙ settled_says scenario s3 now running ∙ ran_before scenario s h c running did.done plain kept refl
    ∙ ap (λ ran. after_ran scenario s (ties_of s) ran did.done) (sym (bill_ran c (last_end h c) now running)))

-- an entry more
pub ties_more : (scenario : Scenario) (order : Order) (h : List Entry) (e : Entry) → IsScenario scenario → IsLegal scenario order (h ++ e ∷ [])
    → ties_of (state_after scenario (h ++ e ∷ [])) ≡ after_ran scenario (state_after scenario h) (ties_of (state_after scenario h)) e.ran e.done
ties_more scenario order h e valid legal =
    let last = legal_last scenario order h e legal in
    let ground = (sound scenario order valid h last.0).grounded in
    let s = state_after scenario h in
    ap (λ (a : After). ties_of a.state) (after-append scenario h e)
    ∙ step_ties scenario s h e.cpu ground.plain ground.kept
    ∙ ap (λ (d : Entry). after_ran scenario s (ties_of s) d.ran d.done) (sym last.1.same)

no_messages : (names : List (List ℕ)) → map (λ (c : ChannelNow). c.messages) (map (λ (name : List ℕ). no_channel) names) ≡ replicate (length names) []
no_messages [] = refl
no_messages (name ∷ names) = ap (λ l. [] ∷ l) (no_messages names)

-- at the start nothing waits
pub ties_none : (scenario : Scenario) → ties_of (state_after scenario []) ≡ record { messages = replicate (length scenario.channels) []; triples = [] }
ties_none scenario =
    let made : List (List _) → Ties = λ l. record { messages = l; triples = [] } in
    ap (λ (a : After). ties_of a.state) (after_none scenario) ∙ ap made (no_messages scenario.channels)
