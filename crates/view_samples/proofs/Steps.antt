-- A pass goes on.
use Rattle.std.proofs.Common.{◌≡◌, ℕ, ◌/◌, ◌+◌, ◌-◌, ◌*◌, ◌<◌, ◌≤◌, List, [], ◌∷◌, ◌++◌, Bool, true, false, length, take, drop, get_or, slice_index_or, All, sym, ap, subst, ◌∙◌, inl, inr, arith}
use Rattle.std.proofs.Math.ListN.{set}
use Rattle.std.specs.List.{AllByRecursion}
use Rattle.std.proofs.Math.Nat.{div-lt_iff_lt-mul}
use Rattle.std.proofs.lemmas.Bool.{cases_eq, cases_lt}
use Rattle.std.proofs.lemmas.List.{get_or-set_other, get_or-set_same, take-append-drop}
use Rattle.std.proofs.lemmas.List.Elements.{recursion_from_All}
use Rattle.aps_model.specs.declared.entry.Entry.{Entry}
use Rattle.aps_model.specs.declared.entry.Order.{Order}
use Rattle.aps_model.specs.After.{state_after}
use Rattle.aps_model.specs.Legal.{IsLegal}
use Rattle.aps_model.specs.Limits.{most_cpus, most_time_of_tick}
use Rattle.aps_model.specs.Scenario.{Scenario}
use Rattle.aps_model.specs.Valid.{IsScenario}
use Rattle.aps_core.specs.Run.{Run, Setup, state_of_run}
use Rattle.aps_core.specs.Turn.{with_entry}
use Rattle.laws_bounds.specs.Kinds.{is_free, kind_of, last_kind}
use Rattle.laws_bounds.proofs.LastPick.{kind_other, kind_own}
use Rattle.view_replay.specs.Retraced.{front, order_of_run, scenario_of_run}
use Rattle.view_replay.proofs.Retraced.{front_more}
use Rattle.view_samples.specs.declared.look.Look.{Look}
use Rattle.view_samples.specs.declared.pass.Cursor.{Cursor}
use Rattle.view_samples.specs.declared.pass.Samples.{Samples}
use Rattle.view_samples.specs.declared.sums.Sums.{Sums}
use Rattle.view_samples.specs.Look.{IsLook, IsLookAtEntry}
use Rattle.view_samples.specs.Note.{IsLookAdded, IsFreshNote, IsNote, is_reached}
use Rattle.view_samples.specs.Pass.{AreFree, HasNote, IsCut, IsPassReady, IsUpTo, KeepsNotes, Opens, entry_at, no_entry}
use Rattle.view_samples.specs.Sums.{AreWindowSums, GoesOnByMarked, HasRoomInTick}
use Rattle.view_samples.proofs.Billing.{room_all, room_free, sums_more}
use Rattle.view_samples.proofs.Cuts.{all_before, all_later, entry_fits, in_one_tick, legal_to, one_longer}
use Rattle.view_samples.proofs.Fill.{same_read}
use Rattle.view_samples.proofs.Looks.{seen_is}
use Rattle.view_samples.proofs.Notes.{note_kept, note_more, split_fresh, split_note}
use Rattle.view_samples.proofs.Ticks.{reached_last, reached_more, through_next}

-- ---- the next entry

-- the run after it
pub run_more : (scenario : Scenario) (order : Order) (h : List Entry) (j : ℕ) (cursor : Cursor) (core : Run) → IsUpTo scenario order h j cursor → cursor.next < length h
    → core ≡ with_entry cursor.core (entry_at h cursor.next) → core ≡ front (record { scenario = scenario; order = order; limit = core.setup.limit }) h (cursor.next + 1)
run_more scenario order h j cursor core up less goes_on =
    let limit : core.setup.limit ≡ cursor.core.setup.limit = ap (λ (run : Run). run.setup.limit) goes_on in
    let own : ℕ → Setup = λ n. record { scenario = scenario; order = order; limit = n } in
    front_more (own cursor.core.setup.limit) h cursor.next (entry_at h cursor.next) cursor.core core up.run less (sym (entry_is h cursor.next less)) goes_on
    ∙ ap (λ n. front (own n) h (cursor.next + 1)) (sym limit)
  where
    entry_is : (h : List Entry) (i : ℕ) → i < length h → entry_at h i ≡ get_or h i (entry_at h i)
    entry_is h i less = same_read h i no_entry (entry_at h i) less

free_more : (scenario : Scenario) (h : List Entry) (e : Entry) (free : List Bool) (mark : Bool) → AreFree scenario h free → e.cpu < length free → mark ≡ is_free (kind_of scenario h e)
    → AreFree scenario (h ++ e ∷ []) (set free e.cpu mark)
free_more scenario h e free mark are exists is = λ c less. elim (cases_eq c e.cpu) [
  | inl same ↦
      ap (λ d. slice_index_or (set free e.cpu mark) d false) same ∙ get_or-set_same free e.cpu mark false exists
      ∙ is ∙ ap is_free (sym (kind_own scenario h e)) ∙ ap (λ d. is_free (last_kind scenario (h ++ e ∷ []) d)) (sym same)
  | inr ne ↦ get_or-set_other free e.cpu c mark false ne ∙ are c less ∙ ap is_free (sym (kind_other scenario h e c (λ q. ne (sym q))))
]

pub up_more : (scenario : Scenario) (order : Order) (h : List Entry) (j : ℕ) (cursor : Cursor) (core : Run) (sums : Sums) (mark : Bool) → IsScenario scenario → IsLegal scenario order h
    → (up : IsUpTo scenario order h j cursor) → cursor.next < length h
    → ((entry_at h cursor.next).from < (entry_at h cursor.next).to → (entry_at h cursor.next).from / scenario.shape.tick ≡ j)
    → core ≡ with_entry cursor.core (entry_at h cursor.next)
    → (entry_at h cursor.next).cpu < most_cpus → length cursor.free ≡ most_cpus → mark ≡ is_free (kind_of scenario (take cursor.next h) (entry_at h cursor.next))
    → GoesOnByMarked cursor.sums.all j (entry_at h cursor.next) (entry_at h cursor.next).critical sums.all
    → GoesOnByMarked cursor.sums.free j (entry_at h cursor.next) (slice_index_or cursor.free (entry_at h cursor.next).cpu false) sums.free → sums.span ≡ cursor.sums.span
    → IsUpTo scenario order h j (record { core = core; next = cursor.next + 1; free = set cursor.free (entry_at h cursor.next).cpu mark; sums = sums })
up_more scenario order h j cursor core sums mark valid legal up less at goes_on few places is all free span =
    let e = entry_at h cursor.next in
    let limit : core.setup.limit ≡ cursor.core.setup.limit = ap (λ (run : Run). run.setup.limit) goes_on in
    let room = up.room in
    let longer = one_longer h cursor.next less in
    record {
      window = up.window;
      run = run_more scenario order h j cursor core up less goes_on;
      place = omega (arith, less);
      room = omega (arith, limit, room);
      free = subst (λ g. AreFree scenario g (set cursor.free e.cpu mark)) (sym longer) (free_more scenario (take cursor.next h) e cursor.free mark up.free (omega (arith, few, places)) is);
      sums = subst (λ g. AreWindowSums scenario g j up.window sums) (sym longer)
          (sums_more scenario (take cursor.next h) j up.window cursor.sums sums e (slice_index_or cursor.free e.cpu false) up.sums (in_one_tick scenario order h cursor.next valid legal less) at (up.free e.cpu few) all free span);
    }

pub look_of : (setup : Setup) (h : List Entry) (i changes : ℕ) (core : Run) (look : Look) → i < length h → core ≡ front setup h (i + 1)
    → changes ≡ length (state_after setup.scenario (take i h)).changes → IsLookAtEntry (state_of_run core) core.entries changes (entry_at h i) look → IsLook setup.scenario (take i h) (entry_at h i) look
look_of setup h i changes core look less run count seen =
    let scenario = setup.scenario in
    let ByRun : Run → Type 0 = λ r. IsLookAtEntry (state_of_run r) r.entries changes (entry_at h i) look in
    let ByList : List Entry → ℕ → Type 0 = λ g n. IsLookAtEntry (state_after scenario g) g n (entry_at h i) look in
    let there : ByRun (front setup h (i + 1)) = subst ByRun run seen in
    let here : ByList (take i h ++ entry_at h i ∷ []) changes = subst (λ g. ByList g changes) (one_longer h i less) there in
    seen_is scenario (take i h) (entry_at h i) look (subst (λ n. ByList (take i h ++ entry_at h i ∷ []) n) count here)

-- its time has room
pub rooms : (scenario : Scenario) (order : Order) (h : List Entry) (j : ℕ) (cursor : Cursor) → IsScenario scenario → IsLegal scenario order h → IsUpTo scenario order h j cursor → cursor.next < length h
    → ((entry_at h cursor.next).from < (entry_at h cursor.next).to → (entry_at h cursor.next).from / scenario.shape.tick ≡ j)
    → HasRoomInTick cursor.sums.all j (entry_at h cursor.next) × HasRoomInTick cursor.sums.free j (entry_at h cursor.next)
rooms scenario order h j cursor valid legal up less at =
    let e = entry_at h cursor.next in
    let g = take cursor.next h in
    let more = legal_to scenario order h cursor.next legal less in
    let whole = in_one_tick scenario order h cursor.next valid legal less in
    let fits = entry_fits scenario order h cursor.next valid legal less in
    let short : e.to - e.from ≤ most_time_of_tick = let s = fits.short in omega (arith, s) in
    (room_all scenario order g j up.window cursor.sums e valid more up.sums whole at short, room_free scenario order g j up.window cursor.sums e valid more up.sums whole at short)

-- ---- the pass

pub ready_more : (h : List Entry) (before after : Samples) → IsPassReady h before → after.tick ≡ before.tick → after.cursor.core.setup ≡ before.cursor.core.setup
    → IsUpTo (scenario_of_run before.cursor.core) (order_of_run before.cursor.core) h before.tick after.cursor → IsPassReady h after
ready_more h before after ready tick setup up =
    let early = ready.early in
    record {
      valid = subst (λ (s : Setup). IsScenario s.scenario) (sym setup) ready.valid;
      legal = subst (λ (s : Setup). IsLegal s.scenario s.order h) (sym setup) ready.legal;
      up = subst (λ (s : Setup). IsUpTo s.scenario s.order h after.tick after.cursor) (sym setup)
          (subst (λ n. IsUpTo (scenario_of_run before.cursor.core) (order_of_run before.cursor.core) h n after.cursor) (sym tick) up);
      early = omega (arith, early, tick);
    }

-- the note has its pick
pub notes_more : (scenario : Scenario) (h : List Entry) (before mid after : Samples) (look : Look) → mid.cursor.next < length h → before.cursor.next ≤ mid.cursor.next → after.cursor.next ≡ mid.cursor.next + 1
    → IsLook scenario (take mid.cursor.next h) (entry_at h mid.cursor.next) look → IsLookAdded look mid.note after.note
    → KeepsNotes scenario h before mid → KeepsNotes scenario h before after
notes_more scenario h before mid after look less from next seen added keeps = λ j all reached note.
    let i = mid.cursor.next in
    let e = entry_at h i in
    let m = keeps j (λ k low high. all k low (omega (arith, high, next))) reached note in
    let longer : take after.cursor.next h ≡ take i h ++ e ∷ [] = ap (λ n. take n h) next ∙ one_longer h i less in
    record {
      reached = subst (λ (g : List Entry). is_reached (j * scenario.shape.tick) g ≡ true) (sym longer) (reached_more (j * scenario.shape.tick) (take i h) (e ∷ []) m.reached);
      note = subst (λ (g : List Entry). IsNote scenario g j after.note) (sym longer)
          (note_more scenario (take i h) e j look mid.note after.note (all i from (omega (arith, next))) (split_note scenario (take i h) (e ∷ []) j mid.note m.reached m.note) seen added);
    }

-- ---- a tick begins

early_of : (tick j : ℕ) (h : List Entry) → 0 < tick → All (λ (e : Entry). e.to < j * tick) h → AllByRecursion (λ (e : Entry). e.to / tick < j) h
early_of tick j h pos all = recursion_from_All (λ (e : Entry). e.to / tick < j) h (λ k d less. let at = all k d less in (div-lt_iff_lt-mul {k = tick} {x = (get_or h k d).to} {y = j} pos).1 at)

at_boundary : (tick j to : ℕ) → 0 < tick → to ≡ j * tick → to / tick ≡ j
at_boundary tick j to pos is = search (arith)

-- the first entry that meets it opens the note
pub note_begun : (h : List Entry) (j : ℕ) (before after : Samples) → IsScenario (scenario_of_run before.cursor.core) → before.cursor.next < length h → (entry_at h before.cursor.next).to ≡ j * (scenario_of_run before.cursor.core).shape.tick
    → IsCut h (j * (scenario_of_run before.cursor.core).shape.tick) before.cursor.next → Opens h before after → HasNote (scenario_of_run before.cursor.core) h j after
note_begun h j before after valid less at cut opens =
    let scenario = scenario_of_run before.cursor.core in
    let tick = scenario.shape.tick in
    let i = before.cursor.next in
    let e = entry_at h i in
    let long = valid.shape.tick_long in
    let pos : 0 < tick = omega (arith, long) in
    let g = take i h in
    let past = all_before h (j * tick) i (omega (arith, less)) cut in
    let longer : take (i + 1) h ≡ g ++ e ∷ [] = one_longer h i less in
    let later : take after.cursor.next h ≡ g ++ e ∷ [] = ap (λ n. take n h) opens.next ∙ longer in
    let fresh : IsFreshNote (state_after scenario (g ++ e ∷ [])) opens.fresh = subst (λ (l : List Entry). IsFreshNote (state_after scenario l) opens.fresh) longer opens.is_fresh in
    let state = ap (state_after scenario) (through_next (j * tick) g e (recursion_from_All (λ (d : Entry). d.to < j * tick) g past)) in
    let split = split_fresh scenario (g ++ e ∷ []) g j (state_after scenario (g ++ e ∷ [])) opens.fresh (early_of tick j g pos past) state fresh in
    record {
      reached = subst (λ (l : List Entry). is_reached (j * tick) l ≡ true) (sym later) (reached_last (j * tick) g e (omega (arith, at)));
      note = subst (λ (l : List Entry). IsNote scenario l j after.note) (sym later)
          (note_more scenario g e j opens.look opens.fresh after.note (at_boundary tick j e.to pos at) split opens.is_look opens.is_added);
    }

-- and those that follow on at that moment keep it
pub note_opened : (h : List Entry) (j moment : ℕ) (before mid after : Samples) → IsScenario (scenario_of_run before.cursor.core) → before.cursor.next < length h → moment ≡ j * (scenario_of_run before.cursor.core).shape.tick
    → (entry_at h before.cursor.next).to < moment + 1 → IsCut h moment before.cursor.next → Opens h before mid → after.cursor.next ≤ length h → mid.cursor.next ≤ after.cursor.next → IsCut h (moment + 1) after.cursor.next
    → KeepsNotes (scenario_of_run mid.cursor.core) h mid after → HasNote (scenario_of_run before.cursor.core) h j after
note_opened h j moment before mid after valid less at early cut opens place forward end keeps =
    let scenario = scenario_of_run before.cursor.core in
    let tick = scenario.shape.tick in
    let long = valid.shape.tick_long in
    let pos : 0 < tick = omega (arith, long) in
    let i = before.cursor.next in
    let low = cut.later i (omega arith) less in
    let note = note_begun h j before mid valid less (omega (arith, low, early, at)) (subst (λ n. IsCut h n i) at cut) opens in
    let same : scenario_of_run mid.cursor.core ≡ scenario = ap (λ (s : Setup). s.scenario) opens.setup in
    let keeps' = subst (λ (s : Scenario). KeepsNotes s h mid after) same keeps in
    let next = opens.next in
    keeps' j
    (λ k from below.
    let low = cut.later k (omega (arith, from, next)) (omega (arith, below, place)) in
    let high = end.past k below in
    at_boundary tick j (entry_at h k).to pos (omega (arith, low, high, at)))
    note.reached note.note

-- ---- a tick is over

-- its note is that of the whole history
pub note_whole : (scenario : Scenario) (h : List Entry) (j : ℕ) (s : Samples) → IsScenario scenario → s.cursor.next ≤ length h → IsCut h ((j + 1) * scenario.shape.tick) s.cursor.next → HasNote scenario h j s
    → IsNote scenario h j s.note
note_whole scenario h j s valid place cut has =
    let tick = scenario.shape.tick in
    let long = valid.shape.tick_long in
    let pos : 0 < tick = omega (arith, long) in
    let later = all_later h ((j + 1) * tick) s.cursor.next place cut in
    subst (λ (g : List Entry). IsNote scenario g j s.note) (take-append-drop s.cursor.next h)
    (note_kept scenario (take s.cursor.next h) (drop s.cursor.next h) j s.note has.reached
    (recursion_from_All (λ (e : Entry). j + 1 ≤ e.to / tick) (drop s.cursor.next h) (λ k d less. let at = later k d less in reaches tick (j + 1) (get_or (drop s.cursor.next h) k d).to pos at))
    has.note)
  where
    reaches : (tick n to : ℕ) → 0 < tick → n * tick ≤ to → n ≤ to / tick
    reaches tick n to pos at = search (arith)

-- in a tick, between its beginning and its end
pub in_tick : (tick j to : ℕ) → 0 < tick → j * tick + 1 ≤ to → to < (j + 1) * tick → to / tick ≡ j
in_tick tick j to pos low high = search (arith)

-- one place more ends before the bound
pub past_more : (h : List Entry) (bound i : ℕ) → (entry_at h i).to < bound → ((k : ℕ) → k < i → (entry_at h k).to < bound) → (k : ℕ) → k < i + 1 → (entry_at h k).to < bound
past_more h bound i here past = λ k less. elim (cases_lt k i) [
  | inl below ↦ past k below
  | inr ge ↦ let same : k ≡ i = omega (arith, less, ge) in subst (λ n. (entry_at h n).to < bound) (sym same) here
]
