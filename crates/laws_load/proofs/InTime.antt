-- An operation that loses no time is over in time.
use Rattle.std.proofs.Common.{◌≡◌, ◌≢◌, ℕ, suc, ◌+◌, ◌-◌, ◌/◌, ◌<◌, ◌≤◌, List, [], ◌∷◌, ◌++◌, refl, sym, ◌∙◌, ap, subst, append_assoc, Option, Some, None, arith, ◌⊎◌, inl, inr}
use Rattle.std.specs.Prelude.{unwrap_or}
use Rattle.std.proofs.lemmas.Bool.{cases_eq, cases_lt}
use Rattle.std.proofs.lemmas.List.{append-nil}
use Rattle.aps_model.specs.declared.entry.Entry.{Entry}
use Rattle.aps_model.specs.declared.entry.Order.{Order}
use Rattle.aps_model.specs.declared.state.Pick.{Pick}
use Rattle.aps_model.specs.declared.state.State.TheVariants.{Ready, Running}
use Rattle.aps_model.specs.After.{after, state_after}
use Rattle.aps_model.specs.Budget.{all_parts}
use Rattle.aps_model.specs.Due.{due, last_end, last_to, left_running}
use Rattle.aps_model.specs.Flag.{flag_for}
use Rattle.aps_model.specs.Legal.{IsLegal}
use Rattle.aps_model.specs.Pick.{contenders, greatest}
use Rattle.aps_model.specs.Scenario.{Scenario}
use Rattle.aps_model.specs.SchedulerState.{SchedulerState, cpu_at, thread_at}
use Rattle.aps_model.specs.Step.{Step, chosen, pick, settled, step}
use Rattle.aps_model.specs.Valid.{IsScenario}
use Rattle.laws_runs.specs.Bears.{NamesChannels}
use Rattle.laws_runs.specs.Moments.{moment}
use Rattle.laws_runs.specs.Untouched.{IsAlike, AgreesOnRunning, thread_kept}
use Rattle.laws_runs.specs.Waits.{IsPlain, state_at}
use Rattle.laws_runs.proofs.Channels.{names_channels}
use Rattle.laws_runs.proofs.MomentLaws.{first_is_due, last_other, last_own, moment-append}
use Rattle.laws_runs.proofs.Sound.{legal_last, next_law, running_on, sound, step_law}
use Rattle.laws_runs.proofs.StepOf.{bill_at, step_by, tested_at}
use Rattle.laws_runs.proofs.Words.{prefix_legal}
use Rattle.laws_bounds.proofs.Prefixes.{state-append}
use Rattle.laws_runs.specs.Ids.{NamesKnown}
use Rattle.laws_runs.specs.Sound.{IsSound}
use Rattle.laws_runs.specs.Starving.{is_active}
use Rattle.laws_runs.proofs.BoundaryLaws.{last_split}
use Rattle.laws_runs.proofs.IdsLaw.{in_range}
use Rattle.laws_runs.proofs.Prefixes.{legal_up_to}
use Rattle.laws_runs.proofs.StepOf.{horizon_same}
use Rattle.aps_model.specs.Shape.{horizon}
use Rattle.std.specs.Prelude.{IsTrue}
use Rattle.laws_load.specs.Operation.{HasFewRivals, IsDoneInTime, IsInOperation, RanUntil, RunsOn, StaysAhead}
use Rattle.laws_load.specs.Passing.{PassesTime}
use Rattle.laws_load.specs.Response.{IsRunning, class_now, rivals}
use Rattle.laws_load.proofs.Responds.{class_one_responds}
use Rattle.laws_load.proofs.Untouched.{StandsReady, StandsRunning, StandsWith, own_settled, own_tested, picked_stands, ready_kept, test_of}

-- ---- one step

module _ (scenario : Scenario) (s : SchedulerState) (h : List Entry) (c : ℕ) (names : NamesChannels scenario) (plain : IsPlain scenario s) (kept : AgreesOnRunning s) where
  -- a step that ends with its pick, by what stands before it
  by_pick : (r : SchedulerState) (e : Entry) (x place : ℕ) (left : Option ℕ) → StandsReady place left (thread_at r x) → StandsWith c place left (thread_at (pick r h c (due s h c) e).state x)
  by_pick r e x place left ready =
      let now = due s h c in
      let ps = all_parts r.shape r.rows (h ++ e ∷ []) (now / r.shape.tick) in
      let best = greatest r.shape.free ps (contenders r) in
      let q = chosen r ps c best in
      picked_stands scenario s h c names plain kept r ps best now (flag_for q h ps c now (greatest r.shape.free ps (contenders q))) x place left ready

  step_ready : (x : ℕ) → state_at s x ≡ Ready → StandsWith c (thread_at s x).place (thread_at s x).left (thread_at (step scenario s h c).state x)
  step_ready x ready =
      let was = ready_kept scenario s h c names plain kept x ready (cpu_at s c).running refl in
      step_by scenario s h c (λ (out : Step). StandsWith c (thread_at s x).place (thread_at s x).left (thread_at out.state x))
      (λ o why. record { place' = was.0.place; left' = was.0.left; state = inl (was.0.state ∙ ready) })
      (λ early. by_pick (settled scenario (tested_at scenario s h c).state (due s h c) (cpu_at s c).running).state
      (record (bill_at s h c) { done = (settled scenario (tested_at scenario s h c).state (due s h c) (cpu_at s c).running).done }) x (thread_at s x).place (thread_at s x).left
      (record { place' = was.1.place; left' = was.1.left; state = was.1.state ∙ ready }))

  step_own : (p : Pick) (n k : ℕ) → (cpu_at s c).running ≡ Some p → (thread_at s p.thread).left ≡ Some n → n - (due s h c - last_end h c) ≡ suc k
      → StandsWith c (thread_at s p.thread).place (Some (suc k)) (thread_at (step scenario s h c).state p.thread)
  step_own p n k is left more =
      let place : ℕ = (thread_at s p.thread).place in
      let own : StandsRunning c place (Some (suc k)) (thread_at (test_of scenario s h c (Some p)).state p.thread) =
      subst (λ m. StandsRunning c place (Some m) (thread_at (test_of scenario s h c (Some p)).state p.thread)) more (own_tested scenario s h c names plain kept p n is left) in
      let tested' : StandsRunning c place (Some (suc k)) (thread_at (tested_at scenario s h c).state p.thread) =
      subst (λ o. StandsRunning c place (Some (suc k)) (thread_at (test_of scenario s h c o).state p.thread)) (sym is) own in
      let back : StandsReady place (Some (suc k)) (thread_at (settled scenario (tested_at scenario s h c).state (due s h c) (cpu_at s c).running).state p.thread) =
      subst (λ o. StandsReady place (Some (suc k)) (thread_at (settled scenario (tested_at scenario s h c).state (due s h c) o).state p.thread)) (sym is)
      (own_settled scenario s h c names plain kept (tested_at scenario s h c).state p place k (due s h c) tested') in
      step_by scenario s h c (λ (out : Step). StandsWith c place (Some (suc k)) (thread_at out.state p.thread))
      (λ o why. record { place' = tested'.place'; left' = tested'.left'; state = inr tested'.state })
      (λ early. by_pick (settled scenario (tested_at scenario s h c).state (due s h c) (cpu_at s c).running).state
      (record (bill_at s h c) { done = (settled scenario (tested_at scenario s h c).state (due s h c) (cpu_at s c).running).done }) p.thread place (Some (suc k)) back)

-- ---- one entry of a legal history

abbrev Ends : Entry → ℕ → ℕ → Type 0
Ends e x end = (e.ran ≡ Some x) × (e.to ≡ end)

module _ (scenario : Scenario) (order : Order) (h : List Entry) (e : Entry) (r : IsScenario scenario) (legal : IsLegal scenario order (h ++ e ∷ [])) (x place end : ℕ) where
  abbrev s : SchedulerState
  s = state_after scenario h

  abbrev g : List Entry
  g = h ++ e ∷ []

  abbrev t : SchedulerState
  t = state_after scenario g

  -- how the thread stands after the entry
  goes_on : (left start : ℕ) → StandsWith e.cpu place (Some left) (thread_at (step scenario s h e.cpu).state x) → start ≡ e.to → start + left ≡ end → IsInOperation t g x place end
  goes_on left start stands from sum =
      let here : StandsWith e.cpu place (Some left) (thread_at t x) = subst (λ (u : SchedulerState). StandsWith e.cpu place (Some left) (thread_at u x)) (sym (state-append scenario h e)) stands in
      record {
        start = start;
        left = left;
        stands = here.place';
        left_is = here.left';
        from = elim here.state [
          | inl ready ↦ inl (ready, from ∙ sym (moment-append h e))
          | inr runs ↦ inr (e.cpu, runs, from ∙ sym (ap (λ o. unwrap_or o 0) (last_own h e e.cpu refl)))
        ];
        sum = sum;
      }

  clash : {c : ℕ} → Ready ≡ Running c → ⊥
  clash e = cc

  entry_ready : (left : ℕ) → (thread_at s x).place ≡ place → (thread_at s x).left ≡ Some left → state_at s x ≡ Ready → moment h + left ≡ end → (moment h < e.to → IsRunning s x) → IsInOperation t g x place end
  entry_ready left stands left_is ready sum runs =
      let m = (sound scenario order r h (legal_last scenario order h e legal).0).grounded in
      let next = next_law scenario order h e r legal in
      let rises = next.rises in
      let now : moment h ≡ e.to = elim (cases_lt (moment h) e.to) [
        | inl less ↦ let on = runs less in absurd (clash (sym ready ∙ on.runs))
        | inr le ↦ omega (arith, rises, le)
      ] in
      let step' = step_ready scenario s h e.cpu (names_channels scenario r) m.plain m.kept x ready in
      let step'' : StandsWith e.cpu place (Some left) (thread_at (step scenario s h e.cpu).state x) =
      subst (λ n. StandsWith e.cpu n (Some left) (thread_at (step scenario s h e.cpu).state x)) stands
      (subst (λ o. StandsWith e.cpu (thread_at s x).place o (thread_at (step scenario s h e.cpu).state x)) left_is step') in
      goes_on left (moment h) step'' now sum

  pick_of : (o : Option Pick) → thread_kept o ≡ Some x → (p : Pick) × (o ≡ Some p) × (p.thread ≡ x)
  pick_of None is = absurd cc
  pick_of (Some p) is = (p, refl, some_same p.thread x is)
    where
      some_same : (a b : ℕ) → Some a ≡ Some b → a ≡ b
      some_same a b e = cc

  -- it runs on another processor
  entry_other : (left d : ℕ) → (thread_at s x).place ≡ place → (thread_at s x).left ≡ Some left → state_at s x ≡ Running d → last_end h d + left ≡ end → d ≢ e.cpu → IsInOperation t g x place end
  entry_other left d stands left_is run sum ne =
      let m = (sound scenario order r h (legal_last scenario order h e legal).0).grounded in
      let p = pick_of (cpu_at s d).running (m.kept.kept x d run) in
      let like : IsAlike (thread_at s x) (thread_at t x) = subst (λ n. IsAlike (thread_at s n) (thread_at t n)) p.2 ((step_law scenario order h e r legal).others_thread d p.0 ne p.1) in
      record {
        start = last_end h d;
        left = left;
        stands = like.place ∙ stands;
        left_is = like.left ∙ left_is;
        from = inr (d, like.state ∙ run, sym (ap (λ o. unwrap_or o 0) (last_other h e d (λ k. ne (sym k)))));
        sum = sum;
      }

  -- it runs on the processor that steps
  entry_own : (left : ℕ) → (thread_at s x).place ≡ place → (thread_at s x).left ≡ Some left → state_at s x ≡ Running e.cpu → last_end h e.cpu + left ≡ end → IsInOperation t g x place end ⊎ Ends e x end
  entry_own left stands left_is run sum =
      let m = (sound scenario order r h (legal_last scenario order h e legal).0).grounded in
      let st = step_law scenario order h e r legal in
      let next = next_law scenario order h e r legal in
      let p = pick_of (cpu_at s e.cpu).running (m.kept.kept x e.cpu run) in
      let from = next.joins in
      let forward = next.forward in
      let within : e.to ≤ e.from + left = by_last (last_to h e.cpu) refl (ap (left_running s) p.1 ∙ ap (λ n. (thread_at s n).left) p.2 ∙ left_is) in
      let to = st.to in
      elim (cases_lt e.to end) [
        | inr late ↦ inr (st.ran ∙ m.kept.kept x e.cpu run, omega (arith, late, within, from, sum))
        | inl early ↦
            let k : ℕ = end - e.to - 1 in
            let more : left - (due s h e.cpu - last_end h e.cpu) ≡ suc k = omega (arith, early, sum, from, forward, to) in
            let own = step_own scenario s h e.cpu (names_channels scenario r) m.plain m.kept p.0 left k p.1 (ap (λ n. (thread_at s n).left) p.2 ∙ left_is) more in
            let own' : StandsWith e.cpu place (Some (suc k)) (thread_at (step scenario s h e.cpu).state x) =
            subst (λ n. StandsWith e.cpu n (Some (suc k)) (thread_at (step scenario s h e.cpu).state x)) stands
            (subst (λ n. StandsWith e.cpu (thread_at s n).place (Some (suc k)) (thread_at (step scenario s h e.cpu).state n)) p.2 own) in
            inl (goes_on (suc k) e.to own' refl (omega (arith, early)))
      ]
    where
      some_none : (z : ℕ) → Some z ≡ None → ⊥
      some_none z k = cc

      by_last : (o : Option ℕ) → last_to h e.cpu ≡ o → left_running s (cpu_at s e.cpu).running ≡ Some left → e.to ≤ e.from + left
      by_last None is lefts = let to = (next_law scenario order h e r legal).opens is in omega (arith, to)
      by_last (Some z) is lefts = (next_law scenario order h e r legal).exact left (λ none. some_none z (sym is ∙ none)) lefts

  entry_goes : IsInOperation s h x place end → (moment h < e.to → IsRunning s x) → IsInOperation t g x place end ⊎ Ends e x end
  entry_goes way runs = elim way.from [
    | inl ready ↦ inl (entry_ready way.left way.stands way.left_is ready.0 (ap (λ n. n + way.left) (sym ready.1) ∙ way.sum) runs)
    | inr on ↦
        let sum : last_end h on.0 + way.left ≡ end = ap (λ n. n + way.left) (sym on.2) ∙ way.sum in
        elim (cases_eq on.0 e.cpu) [
          | inl same ↦ entry_own way.left way.stands way.left_is (on.1 ∙ ap (λ n. Running n) same) (ap (λ n. last_end h n + way.left) (sym same) ∙ sum)
          | inr ne ↦ inl (entry_other way.left on.0 way.stands way.left_is on.1 sum ne)
        ]
  ]

-- ---- all further entries

-- whenever time passes with the operation under way, the thread runs
abbrev RunsUnderWay : Scenario → List Entry → List Entry → ℕ → ℕ → ℕ → Type 0
RunsUnderWay scenario h more x place end =
    (before later : List Entry) (e : Entry) → more ≡ before ++ e ∷ later → IsInOperation (state_after scenario (h ++ before)) (h ++ before) x place end → moment (h ++ before) < e.to
    → IsRunning (state_after scenario (h ++ before)) x

module _ (scenario : Scenario) (order : Order) (r : IsScenario scenario) (x place end : ℕ) where
  abbrev WayAfter : List Entry → Type 0
  WayAfter g = IsInOperation (state_after scenario g) g x place end

  walk : (h more : List Entry) → IsLegal scenario order (h ++ more) → WayAfter h → RunsUnderWay scenario h more x place end → WayAfter (h ++ more) ⊎ RanUntil scenario h more x place end
  walk h [] legal way runs = inl (subst WayAfter (sym (append-nil h)) way)
  walk h (e ∷ es) legal way runs =
      let cut : (h ++ e ∷ []) ++ es ≡ h ++ e ∷ es = append_assoc h (e ∷ []) es in
      let legal' = subst (IsLegal scenario order) (sym cut) legal in
      let front = prefix_legal scenario order (h ++ e ∷ []) es legal' in
      let first : moment h < e.to → IsRunning (state_after scenario h) x = λ less.
      subst (λ g. IsRunning (state_after scenario g) x) (append-nil h) (runs [] es e refl (subst WayAfter (sym (append-nil h)) way) (subst (λ g. moment g < e.to) (sym (append-nil h)) less)) in
      elim (entry_goes scenario order h e r front x place end way first) [
        | inr ends ↦ inr (record { before = []; later = es; e = e; same = refl; way = subst WayAfter (sym (append-nil h)) way; ran = ends.0; to = ends.1 })
        | inl on ↦
            let rest = walk (h ++ e ∷ []) es legal' on (λ before later f same w less.
            let shift : (h ++ e ∷ []) ++ before ≡ h ++ e ∷ before = append_assoc h (e ∷ []) before in
            subst (λ g. IsRunning (state_after scenario g) x) (sym shift)
            (runs (e ∷ before) later f (ap (λ l. e ∷ l) same) (subst WayAfter shift w) (subst (λ g. moment g < f.to) shift less))) in
            elim rest [
              | inl still ↦ inl (subst WayAfter cut still)
              | inr done ↦ inr (record { before = e ∷ done.before; later = done.later; e = done.e; same = ap (λ l. e ∷ l) done.same; way = subst WayAfter (append_assoc h (e ∷ []) done.before) done.way; ran = done.ran; to = done.to })
            ]
      ]

  -- while the operation is under way its end hasn't passed
  not_past : (h : List Entry) → IsLegal scenario order h → WayAfter h → moment h ≤ end
  not_past h legal way = elim way.from [
    | inl ready ↦ let sum = way.sum in omega (arith, ready.1, sum)
    | inr on ↦ by_last on.0 on.1 on.2 (last_to h on.0) refl
  ]
    where
      m : IsSound scenario (state_after scenario h) h
      m = sound scenario order r h legal

      exists : (c : ℕ) → state_at (state_after scenario h) x ≡ Running c → c < (state_after scenario h).shape.cpus
      exists c run =
          let names = subst (NamesKnown scenario) run ((in_range scenario order h r legal).states x) in
          omega (arith, names, m.grounded.sizes.cpus)

      lefts : (c : ℕ) → state_at (state_after scenario h) x ≡ Running c → left_running (state_after scenario h) (cpu_at (state_after scenario h) c).running ≡ Some way.left
      lefts c run = by_kept (cpu_at (state_after scenario h) c).running (m.grounded.kept.kept x c run)
        where
          some_same : (a b : ℕ) → Some a ≡ Some b → a ≡ b
          some_same a b e = cc

          by_kept : (o : Option Pick) → thread_kept o ≡ Some x → left_running (state_after scenario h) o ≡ Some way.left
          by_kept None is = absurd cc
          by_kept (Some p) is = ap (λ n. (thread_at (state_after scenario h) n).left) (some_same p.thread x is) ∙ way.left_is

      by_last : (c : ℕ) → state_at (state_after scenario h) x ≡ Running c → way.start ≡ last_end h c → (o : Option ℕ) → last_to h c ≡ o → moment h ≤ end
      by_last c run from None is =
          let ahead = m.timely.ahead c (exists c run) in
          let first = first_is_due (state_after scenario h) h c is in
          omega (arith, ahead, first)
      by_last c run from (Some z) is =
          let start : way.start ≡ z = from ∙ ap (λ o. unwrap_or o 0) is in
          let sum = way.sum in
          elim (cases_eq z (horizon (state_after scenario h).shape)) [
            | inl at_end ↦ let within = m.timely.moment_within in omega (arith, within, at_end, start, sum)
            | inr before_end ↦
                let ahead = m.timely.ahead c (exists c run) in
                let exact = m.timely.exact c z way.left is (lefts c run) before_end in
                omega (arith, ahead, exact, start, sum)
          ]

  pub in_time : (h more : List Entry) → IsLegal scenario order (h ++ more) → WayAfter h → RunsUnderWay scenario h more x place end → IsDoneInTime scenario h more x place end
  in_time h more legal way runs =
      let so_far = walk h more legal way runs in
      record {
        so_far = so_far;
        at_last = λ past. elim so_far [
          | inl still ↦ let le = not_past (h ++ more) legal still in absurd (never (moment (h ++ more)) end le past)
          | inr done ↦ done
        ];
      }
    where
      never : (a b : ℕ) → a ≤ b → b < a → ⊥
      never a b le less = omega (arith, le, less)

  -- ---- whenever time passes

  way_active : (h : List Entry) → WayAfter h → IsTrue (is_active (state_at (state_after scenario h) x))
  way_active h way = elim way.from [
    | inl ready ↦ ap is_active ready.0
    | inr on ↦ ap is_active on.1
  ]

  ahead_runs : (g later : List Entry) (e : Entry) → IsLegal scenario order (g ++ e ∷ later) → HasFewRivals (state_after scenario g) g x → WayAfter g → moment g < e.to → IsRunning (state_after scenario g) x
  ahead_runs g later e legal ahead way less = elim (last_split g) [
    | inl empty ↦
        let front = legal_up_to scenario order g later e legal in
        let first = (next_law scenario order g e r front).opens (ap (λ l. last_to l e.cpu) empty) in
        absurd (never (moment g) e.to first less)
    | inr more ↦
        let before = more.0 in
        let f = more.1 in
        let front = legal_up_to scenario order g later e legal in
        let next = next_law scenario order g e r front in
        let last = legal_last scenario order g e front in
        let sizes = (sound scenario order r g last.0).grounded.sizes in
        let now : moment g ≡ f.to = ap moment more.2 ∙ moment-append before f in
        let early : f.to < horizon scenario.shape =
        let within = next.within in omega (arith, within, less, now, horizon_same scenario.shape (state_after scenario g).shape sizes) in
        let calm : (after scenario g).reboot ≡ None = (running_on (after scenario g) g last.1.running).calm in
        let dues : (c : ℕ) → c < scenario.shape.cpus → f.to < due (state_after scenario g) g c = λ c exists.
        let due' = next.first c (omega (arith, exists, sizes.cpus)) in
        omega (arith, due', less, now) in
        let time : PassesTime scenario before f = record {
          early = early;
          calm = subst (λ l. (after scenario l).reboot ≡ None) more.2 calm;
          later = subst (λ l. (c : ℕ) → c < scenario.shape.cpus → f.to < due (state_after scenario l) l c) more.2 dues;
        } in
        let legal' = subst (IsLegal scenario order) more.2 last.0 in
        let class = subst (λ l. class_now (state_after scenario l) l x ≡ 1) more.2 ahead.class in
        let responds = class_one_responds scenario order before f x r legal' time class in
        subst (λ l. IsRunning (state_after scenario l) x) (sym more.2)
        (responds.runs (subst (λ l. IsTrue (is_active (state_at (state_after scenario l) x))) more.2 (way_active g way)) (subst (λ l. rivals (state_after scenario l) l x < (state_after scenario l).shape.cpus) more.2 ahead.few))
  ]
    where
      never : (a b : ℕ) → b ≡ 0 → a < b → ⊥
      never a b zero' less = omega (arith, zero', less)

pub done_in_time : (scenario : Scenario) (order : Order) (h more : List Entry) (x place end : ℕ) → IsScenario scenario → IsLegal scenario order (h ++ more)
    → IsInOperation (state_after scenario h) h x place end → RunsOn scenario h more x → IsDoneInTime scenario h more x place end
done_in_time scenario order h more x place end r legal way runs = in_time scenario order r x place end h more legal way (λ before later e same under less. runs before later e same less)

pub class_one_in_time : (scenario : Scenario) (order : Order) (h more : List Entry) (x place end : ℕ) → IsScenario scenario → IsLegal scenario order (h ++ more)
    → IsInOperation (state_after scenario h) h x place end → StaysAhead scenario h more x → IsDoneInTime scenario h more x place end
class_one_in_time scenario order h more x place end r legal way ahead =
    in_time scenario order r x place end h more legal way
    (λ before later e same under less.
    let whole : IsLegal scenario order ((h ++ before) ++ e ∷ later) = subst (IsLegal scenario order) (ap (λ l. h ++ l) same ∙ sym (append_assoc h before (e ∷ later))) legal in
    ahead_runs scenario order r x place end (h ++ before) later e whole (ahead before later e same less) under less)
