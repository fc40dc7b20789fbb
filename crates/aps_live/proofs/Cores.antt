-- What a step keeps of the parts of a core.
use Rattle.std.proofs.Common.{◌≡◌, ◌≢◌, ℕ, ◌+◌, ◌*◌, ◌/◌, ◌<◌, ◌≤◌, List, [], ◌∷◌, ◌++◌, length, map, slice_index_or, slice_set, replicate, Option, Some, None, refl, sym, ◌∙◌, ap, subst, arith, inl, inr, length-set}
use Rattle.std.specs.Prelude.{All}
use Rattle.std.specs.List.{sum_by}
use Rattle.std.proofs.lemmas.Bool.{cases_eq}
use Rattle.std.proofs.lemmas.List.{get_or-replicate, get_or-set_other, get_or-set_same, length-append, length-map, length-replicate}
use Rattle.std.proofs.lemmas.List.Sums.{sum_by-append, sum_by-cons}
use Rattle.aps_model.specs.declared.entry.Entry.{Entry}
use Rattle.aps_model.specs.declared.merit.PartFacts.{PartFacts}
use Rattle.aps_model.specs.declared.partition.PartitionRow.{PartitionRow}
use Rattle.aps_model.specs.Due.{last_end}
use Rattle.aps_model.specs.Limits.{last_moment, most_entries, thousandths}
use Rattle.aps_model.specs.Partition.{IsRow}
use Rattle.aps_model.specs.Scenario.{Scenario}
use Rattle.aps_model.specs.Usage.{billed_by, critical_by}
use Rattle.aps_model.specs.Valid.{IsScenario}
use Rattle.aps_window.specs.Window.{Window}
use Rattle.aps_live.specs.declared.event.LiveEvent.{LiveEvent}
use Rattle.aps_live.specs.Core.{IsAt, IsCore, pairs}
use Rattle.aps_live.specs.LiveHistory.{IsLiveStep, NamesThread, Taken, entries_of, events_of, latest}
use Rattle.aps_live.specs.LiveRun.{IsLiveRun, LiveRun, live_state_of, with_step}
use Rattle.aps_live.specs.LiveState.{LiveState, live_cpu_at, live_opening}
use Rattle.aps_live.specs.LiveStep.{LiveStep, live_bill, live_step}
use Rattle.aps_live.specs.Tied.{FitsTicks, IsTied}
use Rattle.aps_live.proofs.Lives.{after_more, bill_has, entries_more, is_live_more, is_live_none, sound}
use Rattle.aps_live.proofs.Tiles.{end_other, end_own, last_late, latest_more, tiled_fits, tiled_more}

-- ---- entries with their events

pub pairs_more : (entries : List Entry) (events : List LiveEvent) (e : Entry) (v : LiveEvent) → length entries ≡ length events
    → pairs (entries ++ e ∷ []) (events ++ v ∷ []) ≡ pairs entries events ++ (record { entry = e; event = v }) ∷ []
pairs_more [] [] e v same = refl
pairs_more [] (w ∷ events) e v same = absurd (omega (arith, same))
pairs_more (x ∷ entries) [] e v same = absurd (omega (arith, same))
pairs_more (x ∷ entries) (w ∷ events) e v same = ap (λ (ts : List Taken). (record { entry = x; event = w }) ∷ ts) (pairs_more entries events e v (omega (arith, same)))

pub events_more : (steps : List Taken) (t : Taken) → events_of (steps ++ t ∷ []) ≡ events_of steps ++ t.event ∷ []
events_more [] t = refl
events_more (u ∷ steps) t = ap (λ (vs : List LiveEvent). u.event ∷ vs) (events_more steps t)

-- ---- the pick doesn't change what an entry bills

added : (f : Entry → ℕ) (h : List Entry) (e : Entry) → sum_by f (h ++ e ∷ []) ≡ sum_by f h + f e
added f h e =
    let one = sum_by-cons f e [] in
    let more = sum_by-append f h (e ∷ []) in
    omega (arith, one, more)

tied_like : (tick : ℕ) (window : Window) (h : List Entry) (e : Entry) (picked starved : Option ℕ) → IsTied tick window (h ++ e ∷ []) → IsTied tick window (h ++ (record e { picked = picked; starved = starved }) ∷ [])
tied_like tick window h e picked starved m = record {
  bills = m.bills;
  stands = m.stands;
  used = λ p a b near. m.used p a b near ∙ (added (billed_by tick p a b) h e ∙ sym (added (billed_by tick p a b) h (record e { picked = picked; starved = starved })));
  critical = λ p a b near. m.critical p a b near ∙ (added (critical_by tick p a b) h e ∙ sym (added (critical_by tick p a b) h (record e { picked = picked; starved = starved })));
}

-- ---- where the parts stand

pub at_more : (tick span cpus : ℕ) (h : List Entry) (window new : Window) (lasts : List ℕ) (moment : ℕ) (e : Entry) → IsAt tick span cpus h window lasts moment
    → e.cpu < cpus → latest h ≤ e.to → IsTied tick new (h ++ e ∷ []) → new.tick ≡ e.to / tick → new.span ≡ window.span
    → IsAt tick span cpus (h ++ e ∷ []) new (slice_set lasts e.cpu e.to) e.to
at_more tick span cpus h window new lasts moment e m exists later tied at_tick same = record {
  tied = tied;
  at_tick = at_tick ∙ ap (λ n. n / tick) (sym (latest_more h e later));
  span_is = same ∙ m.span_is;
  one_each = length-set lasts e.cpu e.to ∙ m.one_each;
  ends = λ c below. elim (cases_eq c e.cpu) [
    | inl is ↦ ap (λ k. slice_index_or (slice_set lasts e.cpu e.to) k 0) is ∙ get_or-set_same lasts e.cpu e.to 0 (omega (arith, exists, m.one_each)) ∙ sym (end_own h e) ∙ ap (last_end (h ++ e ∷ [])) (sym is)
    | inr ne ↦ get_or-set_other lasts e.cpu c e.to 0 ne ∙ m.ends c below ∙ sym (end_other h e c ne)
  ];
  is_latest = sym (latest_more h e later);
}

-- the window at its beginning, where nothing is billed
pub at_start : (tick span cpus : ℕ) (window : Window) (lasts : List ℕ) → IsTied tick window [] → window.tick ≡ 0 → window.span ≡ span → lasts ≡ replicate cpus 0 → IsAt tick span cpus [] window lasts 0
at_start tick span cpus window lasts tied start same zeros = record {
  tied = tied;
  at_tick = start ∙ sym (zero_of tick);
  span_is = same;
  one_each = ap length zeros ∙ length-replicate cpus 0;
  ends = λ c below. ap (λ (ns : List ℕ). slice_index_or ns c 0) zeros ∙ get_or-replicate cpus c 0 0 below;
  is_latest = refl;
}
  where
    zero_of : (tick : ℕ) → 0 / tick ≡ 0
    zero_of tick = omega arith

-- ---- what a step rests on

-- the bill of a step fits
pub bill_fits : (run : LiveRun) (c now : ℕ) → IsLiveRun run → c < run.setup.scenario.shape.cpus → latest (entries_of run.steps) ≤ now
    → FitsTicks run.setup.scenario.shape.tick (entries_of run.steps ++ live_bill (live_state_of run) (entries_of run.steps) c now ∷ [])
bill_fits run c now keeps exists later =
    let scenario = run.setup.scenario in
    let h = entries_of run.steps in
    let e = live_bill (live_state_of run) h c now in
    let has = bill_has c (last_end h c) now (live_cpu_at (live_state_of run) c) in
    let shape = keeps.valid.shape in
    let late = last_late h c in
    tiled_fits scenario.shape.tick scenario.shape.cpus (h ++ e ∷ []) shape.tick_short shape.few_cpus
    (tiled_more scenario.shape.tick scenario.shape.cpus h e (omega (arith, exists, has.0)) (has.1 ∙ ap (last_end h) (sym has.0)) (omega (arith, has.1, has.2, late, later)) (sound scenario run.steps keeps.live).tiled)

pub rows_fit : (scenario : Scenario) → IsScenario scenario → All IsRow scenario.partitions
rows_fit scenario r = λ k d inside.
    let row = r.tree.funded.each k d inside in
    let few : scenario.shape.parts ≤ thousandths = elim r.shape.parts [
      | inl is ↦ omega (arith, is)
      | inr is ↦ omega (arith, is)
    ] in record {
      budget = let b = row.budget in let m = row.max in omega (arith, few, b, m);
      critical = row.critical;
      max = let m = row.max in omega (arith, few, m);
    }

-- ---- a step more

pub step_is : (run : LiveRun) (c now : ℕ) (event : LiveEvent) (e : Entry) → e ≡ (live_step run.setup.scenario (live_state_of run) (entries_of run.steps) c now event).entry → (e.cpu ≡ c) × (e.to ≡ now)
step_is run c now event e is =
    let has = bill_has c (last_end (entries_of run.steps) c) now (live_cpu_at (live_state_of run) c) in
    (ap (λ (x : Entry). x.cpu) is ∙ has.0, ap (λ (x : Entry). x.to) is ∙ has.2)

pub core_more : (run : LiveRun) (s t : LiveState) (window new : Window) (lasts : List ℕ) (moment : ℕ) (parts later_parts : List PartFacts) (entries : List Entry) (events : List LiveEvent)
    (c now : ℕ) (event : LiveEvent) (taken : Entry)
    → IsCore run s window lasts moment parts entries events
    → c < run.setup.scenario.shape.cpus → now ≤ last_moment → NamesThread run.setup.scenario event → latest (entries_of run.steps) ≤ now → length run.steps < run.setup.limit
    → live_step run.setup.scenario s (entries_of run.steps) c now event ≡ record { entry = taken; state = t }
    → IsTied run.setup.scenario.shape.tick new (entries_of run.steps ++ live_bill s (entries_of run.steps) c now ∷ []) → new.tick ≡ now / run.setup.scenario.shape.tick → new.span ≡ window.span
    → length later_parts ≡ length parts
    → IsCore (with_step run taken event) t new (slice_set lasts c now) now later_parts (entries ++ taken ∷ []) (events ++ event ∷ [])
core_more run s t window new lasts moment parts later_parts entries events c now event taken m exists early named later room step tied at_tick same parts_same =
    let scenario = run.setup.scenario in
    let h = entries_of run.steps in
    let u : Taken = record { entry = taken; event = event } in
    let step' : live_step scenario (live_state_of run) h c now event ≡ record { entry = taken; state = t } = ap (λ (x : LiveState). live_step scenario x h c now event) (sym m.machine) ∙ step in
    let own : taken ≡ (live_step scenario (live_state_of run) h c now event).entry = sym (ap (λ (x : LiveStep). x.entry) step') in
    let has = step_is run c now event taken own in
    let again : live_step scenario (live_state_of run) h taken.cpu taken.to event ≡ record { entry = taken; state = t } =
    ap (λ k. live_step scenario (live_state_of run) h k taken.to event) has.0 ∙ ap (λ k. live_step scenario (live_state_of run) h c k event) has.1 ∙ step' in
    let is_step : IsLiveStep scenario (live_state_of run) h u = record {
      exists = omega (arith, exists, has.0);
      named = named;
      later = omega (arith, later, has.1);
      stepped = sym (ap (λ (x : LiveStep). x.entry) again);
    } in
    let more = entries_more run.steps u in
    let bill = live_bill s h c now in
    let tied' : IsTied scenario.shape.tick new (h ++ taken ∷ []) = subst (λ (x : Entry). IsTied scenario.shape.tick new (h ++ x ∷ [])) (ap (λ (x : LiveStep). x.entry) step) (tied_like scenario.shape.tick new h bill _ _ tied) in
    let stands = at_more scenario.shape.tick scenario.shape.window scenario.shape.cpus h window new lasts moment taken m.stands (omega (arith, exists, has.0)) (omega (arith, later, has.1)) tied'
    (at_tick ∙ ap (λ n. n / scenario.shape.tick) (sym has.1)) same in
    let stands' : IsAt scenario.shape.tick scenario.shape.window scenario.shape.cpus (h ++ taken ∷ []) new (slice_set lasts c now) now =
    subst (λ k. IsAt scenario.shape.tick scenario.shape.window scenario.shape.cpus (h ++ taken ∷ []) new (slice_set lasts k now) now) has.0
    (subst (λ k. IsAt scenario.shape.tick scenario.shape.window scenario.shape.cpus (h ++ taken ∷ []) new (slice_set lasts taken.cpu k) k) has.1 stands) in record {
      keeps = record {
        valid = m.keeps.valid;
        some = m.keeps.some;
        few = m.keeps.few;
        live = is_live_more scenario run.steps u m.keeps.live is_step;
        fits = omega (arith, room, length-append run.steps (u ∷ []));
        early = let l = ap latest more in let k = latest_more h taken (omega (arith, later, has.1)) in omega (arith, l, k, early, has.1);
      };
      machine = sym (ap (λ (x : LiveStep). x.state) again) ∙ sym (after_more scenario (live_opening scenario) [] run.steps u);
      stands = subst (λ (g : List Entry). IsAt scenario.shape.tick scenario.shape.window scenario.shape.cpus g new (slice_set lasts c now) now) (sym more) stands';
      room = parts_same ∙ m.room;
      recorded = ap (λ (es : List Entry). es ++ taken ∷ []) m.recorded ∙ sym more;
      told = ap (λ (vs : List LiveEvent). vs ++ event ∷ []) m.told ∙ sym (events_more run.steps u);
    }

-- as many entries as events, and as steps
length_entries : (steps : List Taken) → length (entries_of steps) ≡ length steps
length_entries [] = refl
length_entries (t ∷ steps) = omega (arith, length_entries steps)

length_events : (steps : List Taken) → length (events_of steps) ≡ length steps
length_events [] = refl
length_events (t ∷ steps) = omega (arith, length_events steps)

pub as_many : (run : LiveRun) (s : LiveState) (window : Window) (lasts : List ℕ) (moment : ℕ) (parts : List PartFacts) (entries : List Entry) (events : List LiveEvent) → IsCore run s window lasts moment parts entries events
    → (length entries ≡ length events) × (length entries ≡ length run.steps)
as_many run s window lasts moment parts entries events m =
    let a = ap length m.recorded ∙ length_entries run.steps in
    let b = ap length m.told ∙ length_events run.steps in
    (a ∙ sym b, a)

pub core_start : (scenario : Scenario) (limit : ℕ) (window : Window) (lasts : List ℕ) (parts : List PartFacts) → IsScenario scenario → 1 ≤ limit → limit ≤ most_entries
    → IsAt scenario.shape.tick scenario.shape.window scenario.shape.cpus [] window lasts 0 → length parts ≡ length scenario.partitions
    → IsCore (record { setup = record { scenario = scenario; limit = limit }; steps = [] }) (live_opening scenario) window lasts 0 parts [] []
core_start scenario limit window lasts parts valid some few stands room = record {
  keeps = record { valid = valid; some = some; few = few; live = is_live_none scenario; fits = omega arith; early = omega arith };
  machine = refl;
  stands = stands;
  room = room;
  recorded = refl;
  told = refl;
}
