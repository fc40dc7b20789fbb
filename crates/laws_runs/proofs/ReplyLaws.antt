-- The replies are those of the commands whose ticks have begun.
use Rattle.std.proofs.Common.{◌≡◌, ◌≢◌, ℕ, ◌+◌, ◌*◌, ◌/◌, ◌%◌, ◌<◌, ◌≤◌, List, [], ◌∷◌, ◌++◌, length, map, refl, sym, ◌∙◌, ap, subst, append_assoc, Bool, true, false, cond, not, ◌&&◌, nat_eq, nat_lt, slice_get, arith, inl, inr, ◌⊎◌}
use Rattle.std.specs.List.{count_by, fold}
use Rattle.std.proofs.lemmas.Bool.{and_cases, and_parts, cases_Bool, eqb-true, eqb-false, ltb-true, ltb-false, not-true, not-false}
use Rattle.std.proofs.lemmas.List.{append-nil, length-map, map-append}
use Rattle.std.proofs.lemmas.List.Elements.{All-weaker}
use Rattle.aps_model.specs.declared.command.Change.{Change}
use Rattle.aps_model.specs.declared.command.CommandRow.{CommandRow}
use Rattle.aps_model.specs.declared.command.Reply.{Reply}
use Rattle.aps_model.specs.declared.entry.Entry.{Entry}
use Rattle.aps_model.specs.declared.entry.Order.{Order}
use Rattle.aps_model.specs.declared.partition.PartitionRow.{PartitionRow}
use Rattle.aps_model.specs.declared.shape.Shape.{Shape}
use Rattle.laws_runs.specs.Answered.{once_below, places_answered, places_below, places_of}
use Rattle.laws_runs.specs.Boundaries.{EndsInTick, is_met, ticks_begun}
use Rattle.laws_runs.proofs.BoundaryLaws.{in_tick}
use Rattle.laws_runs.proofs.Books.{step_books, wake_books}
use Rattle.laws_runs.proofs.Channels.{names_channels}
use Rattle.laws_runs.proofs.Mid.{unflagged}
use Rattle.laws_runs.proofs.MomentLaws.{moment-append}
use Rattle.laws_runs.proofs.Places.{place_once, places_few, places_more, places_none, sum_map}
use Rattle.laws_runs.proofs.Prefixes.{by_entries}
use Rattle.laws_runs.proofs.Sound.{legal_last, next_law, sound, step_law}
use Rattle.laws_runs.proofs.StepOf.{horizon_same}
use Rattle.aps_model.specs.After.{After, after, state_after}
use Rattle.aps_model.specs.Due.{due}
use Rattle.aps_model.specs.Legal.{IsLegal}
use Rattle.aps_model.specs.Scenario.{Scenario}
use Rattle.aps_model.specs.SchedulerState.{SchedulerState}
use Rattle.aps_model.specs.Shape.{horizon}
use Rattle.aps_model.specs.Step.{begun, step}
use Rattle.aps_model.specs.TickWork.{commands_of, do_command, do_commands, has_tick_work, tick_work, wake_all}
use Rattle.aps_model.specs.Valid.{IsCommand, IsScenario}
use Rattle.aps_model.proofs.AfterLaws.{after-append}

-- ---- the replies of a step

abbrev RepliesAre : List Reply → List PartitionRow → Shape → List Reply → List Change → Type 0
RepliesAre first rows shape replies changes = replies ≡ first

abbrev answers : SchedulerState → List ℕ
answers s = places_answered s.replies

commands_answer : (h : List Entry) (j : ℕ) (ks : List (ℕ × CommandRow)) (s : SchedulerState) → places_answered (fold (do_command h j) s ks).replies ≡ places_answered s.replies ++ map (λ (k : ℕ × CommandRow). k.0) ks
commands_answer h j [] s = sym (append-nil (places_answered s.replies))
commands_answer h j ((place, row) ∷ ks) s =
    let rest = map (λ (k : ℕ × CommandRow). k.0) ks in
    commands_answer h j ks (do_command h j s (place, row))
    ∙ ap (λ l. l ++ rest) (map-append (λ (reply : Reply). reply.command) s.replies _)
    ∙ append_assoc (places_answered s.replies) (place ∷ []) rest

tick_answers : (scenario : Scenario) (s : SchedulerState) (h : List Entry) (now : ℕ)
    → places_answered (tick_work scenario s h now).replies ≡ places_answered s.replies ++ cond (has_tick_work s h now) (places_of scenario (now / s.shape.tick)) []
tick_answers scenario s h now = by_test (has_tick_work s h now)
  where
    by_test : (t : Bool) → answers (elim t [
      | true ↦ wake_all scenario now (do_commands scenario h (now / s.shape.tick) s)
      | false ↦ s
    ]) ≡ answers s ++ cond t (places_of scenario (now / s.shape.tick)) []
    by_test true =
        let j = now / s.shape.tick in
        let mid = do_commands scenario h j s in
        let woken : (wake_all scenario now mid).replies ≡ mid.replies = wake_books (RepliesAre mid.replies) scenario now mid refl in
        ap places_answered woken ∙ commands_answer h j (commands_of scenario j) s
    by_test false = sym (append-nil (places_answered s.replies))

entry_answers : (scenario : Scenario) (order : Order) (h : List Entry) (e : Entry) → IsScenario scenario → IsLegal scenario order (h ++ e ∷ [])
    → places_answered (state_after scenario (h ++ e ∷ [])).replies ≡ places_answered (state_after scenario h).replies ++ cond (has_tick_work (state_after scenario h) h e.to) (places_of scenario (e.to / (state_after scenario h).shape.tick)) []
entry_answers scenario order h e r legal =
    let last = legal_last scenario order h e legal in
    let ground = (sound scenario order r h last.0).grounded in
    let s = state_after scenario h in
    let now = due s h e.cpu in
    let mid = begun scenario s h e.cpu now in
    let kept : (step scenario s h e.cpu).state.replies ≡ mid.replies =
    step_books (RepliesAre mid.replies) (λ t j p m. m) scenario s h e.cpu (names_channels scenario r) ground.plain ground.kept refl in
    ap (λ (a : After). places_answered a.state.replies) (after-append scenario h e)
    ∙ ap places_answered kept
    ∙ tick_answers scenario (unflagged s e.cpu) h now
    ∙ ap (λ n. places_answered s.replies ++ cond (has_tick_work s h n) (places_of scenario (n / s.shape.tick)) []) (sym (step_law scenario order h e r legal).to)

-- ---- ticks

begun_more : (tick : ℕ) (h : List Entry) (e : Entry) → ticks_begun tick (h ++ e ∷ []) ≡ e.to / tick + 1
begun_more tick [] e = ap (λ n. n / tick + 1) (moment-append [] e)
begun_more tick (x ∷ h) e = ap (λ n. n / tick + 1) (moment-append (x ∷ h) e)

-- the tests of the work of a tick
record IsFirstAt (tick end : ℕ) (h : List Entry) (now : ℕ) : Type 0 where
  at : now % tick ≡ 0
  early : now < end
  unmet : is_met h now ≡ false

first_at : (s : SchedulerState) (h : List Entry) (now : ℕ) → has_tick_work s h now ≡ true → IsFirstAt s.shape.tick (horizon s.shape) h now
first_at s h now work =
    let a = and_parts (nat_eq (now % s.shape.tick) 0 && nat_lt now (horizon s.shape)) (not (is_met h now)) work in
    let b = and_parts (nat_eq (now % s.shape.tick) 0) (nat_lt now (horizon s.shape)) a.0 in
    record { at = eqb-true (now % s.shape.tick) 0 b.0; early = ltb-true now (horizon s.shape) b.1; unmet = not-true (is_met h now) a.1 }

abbrev NotFirst : ℕ → ℕ → List Entry → ℕ → Type 0
NotFirst tick end h now = (now % tick ≢ 0) ⊎ ((end ≤ now) ⊎ (is_met h now ≡ true))

not_first : (s : SchedulerState) (h : List Entry) (now : ℕ) → has_tick_work s h now ≡ false → NotFirst s.shape.tick (horizon s.shape) h now
not_first s h now none = elim (and_cases (nat_eq (now % s.shape.tick) 0 && nat_lt now (horizon s.shape)) (not (is_met h now)) none) [
  | inr met ↦ inr (inr (not-false (is_met h now) met))
  | inl other ↦ elim (and_cases (nat_eq (now % s.shape.tick) 0) (nat_lt now (horizon s.shape)) other) [
    | inl inside ↦ inl (λ e. eqb-false (now % s.shape.tick) 0 inside e)
    | inr late ↦ inr (inl (ltb-false now (horizon s.shape) late))
  ]
]

-- ---- the commands of the ticks that have begun

whole_mod : (n t : ℕ) → 0 < t → n * t % t ≡ 0
whole_mod n t pos = search (arith)

whole_div : (n t : ℕ) → 0 < t → n * t / t ≡ n
whole_div n t pos = search (arith)

-- a tick begins: its commands are added
places_first : (scenario : Scenario) (h : List Entry) (e : Entry) → EndsInTick scenario.shape.tick h e → e.to % scenario.shape.tick ≡ 0 → is_met h e.to ≡ false
    → places_below scenario (e.to / scenario.shape.tick + 1) ≡ places_below scenario (ticks_begun scenario.shape.tick h) ++ places_of scenario (e.to / scenario.shape.tick)
places_first scenario h e m at unmet =
    places_more scenario (e.to / scenario.shape.tick) ∙ ap (λ n. places_below scenario n ++ places_of scenario (e.to / scenario.shape.tick)) (m.begins at unmet)

-- no tick begins: none is added, nor at the horizon, where no command stands
places_same : (scenario : Scenario) (h : List Entry) (e : Entry) → IsScenario scenario → EndsInTick scenario.shape.tick h e → e.to ≤ horizon scenario.shape → NotFirst scenario.shape.tick (horizon scenario.shape) h e.to
    → places_below scenario (e.to / scenario.shape.tick + 1) ≡ places_below scenario (ticks_begun scenario.shape.tick h) ++ []
places_same scenario h e r m within (inl inside) = ap (places_below scenario) (m.inside inside).0 ∙ sym (append-nil _)
places_same scenario h e r m within (inr (inr met)) = ap (places_below scenario) (m.again met).1 ∙ sym (append-nil _)
places_same scenario h e r m within (inr (inl late)) = elim (cases_Bool (is_met h e.to)) [
  | inl met ↦ ap (places_below scenario) (m.again met).1 ∙ sym (append-nil _)
  | inr unmet ↦
      let t = scenario.shape.tick in
      let pos : 0 < t = let l = r.shape.tick_long in omega (arith, l) in
      let end : e.to ≡ scenario.shape.ticks * t = omega (arith, late, within) in
      let none : places_of scenario (e.to / t) ≡ [] =
      ap (places_of scenario) (ap (λ n. n / t) end ∙ whole_div scenario.shape.ticks t pos)
      ∙ places_none scenario scenario.shape.ticks (All-weaker (IsCommand scenario.shape.parts scenario.shape.ticks (length scenario.threads)) (λ (row : CommandRow). row.tick < scenario.shape.ticks) (λ row c. c.tick) scenario.commands r.commands) in
      places_first scenario h e m (ap (λ n. n % t) end ∙ whole_mod scenario.shape.ticks t pos) unmet ∙ ap (λ l. places_below scenario (ticks_begun t h) ++ l) none
]

-- the commands of the ticks begun with one entry more
places_next : (scenario : Scenario) (order : Order) (h : List Entry) (e : Entry) → IsScenario scenario → IsLegal scenario order (h ++ e ∷ []) → (work : Bool) → has_tick_work (state_after scenario h) h e.to ≡ work
    → places_below scenario (ticks_begun scenario.shape.tick (h ++ e ∷ [])) ≡ places_below scenario (ticks_begun scenario.shape.tick h) ++ cond work (places_of scenario (e.to / scenario.shape.tick)) []
places_next scenario order h e r legal work is =
    let s = state_after scenario h in
    let t = scenario.shape.tick in
    let sizes = (sound scenario order r h (legal_last scenario order h e legal).0).grounded.sizes in
    let end : horizon s.shape ≡ horizon scenario.shape = horizon_same scenario.shape s.shape sizes in
    let m = in_tick scenario order h e r legal in
    let within : e.to ≤ horizon scenario.shape = subst (λ n. e.to ≤ n) end (next_law scenario order h e r legal).within in
    ap (places_below scenario) (begun_more t h e)
    ∙ by_work work
    (λ true_. let f = first_at s h e.to (is ∙ true_) in places_first scenario h e m (ap (λ n. e.to % n) (sym sizes.tick) ∙ f.at) f.unmet)
    (λ false_. places_same scenario h e r m within (subst (λ n. NotFirst n (horizon scenario.shape) h e.to) sizes.tick (subst (λ n. NotFirst s.shape.tick n h e.to) end (not_first s h e.to (is ∙ false_)))))
  where
    by_work : (work : Bool)
        → (work ≡ true → places_below scenario (e.to / scenario.shape.tick + 1) ≡ places_below scenario (ticks_begun scenario.shape.tick h) ++ places_of scenario (e.to / scenario.shape.tick))
        → (work ≡ false → places_below scenario (e.to / scenario.shape.tick + 1) ≡ places_below scenario (ticks_begun scenario.shape.tick h) ++ [])
        → places_below scenario (e.to / scenario.shape.tick + 1) ≡ places_below scenario (ticks_begun scenario.shape.tick h) ++ cond work (places_of scenario (e.to / scenario.shape.tick)) []
    by_work true f g = f refl
    by_work false f g = g refl

pub answered : (scenario : Scenario) (order : Order) (h : List Entry) → IsScenario scenario → IsLegal scenario order h → places_answered (state_after scenario h).replies ≡ places_below scenario (ticks_begun scenario.shape.tick h)
unfolding after
answered scenario order h r legal =
    by_entries scenario order (λ g. places_answered (state_after scenario g).replies ≡ places_below scenario (ticks_begun scenario.shape.tick g))
    (λ g e l m.
    let tick = (sound scenario order r g (legal_last scenario order g e l).0).grounded.sizes.tick in
    let work = has_tick_work (state_after scenario g) g e.to in
    entry_answers scenario order g e r l
    ∙ ap (λ n. places_answered (state_after scenario g).replies ++ cond work (places_of scenario (e.to / n)) []) tick
    ∙ ap (λ l. l ++ cond work (places_of scenario (e.to / scenario.shape.tick)) []) m
    ∙ sym (places_next scenario order g e r l work refl))
    h legal refl

pub answered_once : (scenario : Scenario) (order : Order) (h : List Entry) (i : ℕ) → IsScenario scenario → IsLegal scenario order h
    → count_by (λ (reply : Reply). nat_eq reply.command i) (state_after scenario h).replies ≡ once_below (ticks_begun scenario.shape.tick h) (slice_get scenario.commands i)
answered_once scenario order h i r legal =
    sym (count_map (state_after scenario h).replies)
    ∙ ap (count_by (λ p. nat_eq p i)) (answered scenario order h r legal)
    ∙ place_once scenario (ticks_begun scenario.shape.tick h) i
  where
    count_map : (replies : List Reply) → count_by (λ p. nat_eq p i) (places_answered replies) ≡ count_by (λ (reply : Reply). nat_eq reply.command i) replies
    count_map replies = sum_map (λ p. cond (nat_eq p i) 1 0) (λ (reply : Reply). reply.command) replies

pub few_answered : (scenario : Scenario) (order : Order) (h : List Entry) → IsScenario scenario → IsLegal scenario order h → length (state_after scenario h).replies ≤ length scenario.commands
few_answered scenario order h r legal =
    let all = ap (λ (l : List ℕ). length l) (answered scenario order h r legal) in
    let same = length-map (state_after scenario h).replies (λ (reply : Reply). reply.command) in
    let few = places_few scenario (ticks_begun scenario.shape.tick h) in
    omega (arith, all, same, few)
