-- The parts of a step, put together.
use Rattle.std.proofs.Common.{◌≡◌, ℕ, zero, suc, ◌+◌, ◌/◌, ◌<◌, ◌≤◌, List, [], ◌∷◌, ◌++◌, length, take, drop, slice_index_or, slice_set, Option, Some, None, refl, sym, ◌∙◌, ap, subst, arith}
use Rattle.aps_model.specs.declared.entry.Entry.{Entry}
use Rattle.aps_model.specs.declared.merit.PartFacts.{PartFacts}
use Rattle.aps_model.specs.declared.partition.PartitionRow.{PartitionRow}
use Rattle.aps_model.specs.declared.shape.Shape.{Shape}
use Rattle.aps_model.specs.declared.state.Pick.{Pick}
use Rattle.aps_model.specs.Bill.{bill_of}
use Rattle.aps_model.specs.Budget.{all_parts}
use Rattle.aps_model.specs.Due.{last_end}
use Rattle.aps_model.specs.Limits.{last_moment, most_entries}
use Rattle.aps_window.specs.Window.{Window}
use Rattle.aps_live.specs.declared.event.LiveEvent.{LiveEvent}
use Rattle.aps_live.specs.declared.event.LiveEvent.TheVariants.{Stay, Block, Wake}
use Rattle.aps_live.specs.Core.{IsCore, pairs}
use Rattle.aps_live.specs.LiveHistory.{NamesThread, Taken, entries_of, latest}
use Rattle.aps_live.specs.LiveRun.{IsTaken, LiveRun, live_state_of, with_step}
use Rattle.aps_live.specs.LiveState.{LiveState, live_cpu_at}
use Rattle.aps_live.specs.LiveStep.{LiveStep, live_bill, live_pick, live_settled, live_step}
use Rattle.aps_live.specs.Tied.{FitsTicks, IsTied}
use Rattle.aps_live.proofs.Cores.{as_many, bill_fits, core_more, pairs_more}
use Rattle.aps_live.proofs.Lives.{IsSound, bill_has, sound}
use Rattle.aps_live.proofs.ReadAt.{read_at}
use Rattle.aps_live.proofs.Sizes.{settled_sized}
use Rattle.aps_live.proofs.Tiles.{last_late}

-- a list that was lent and came back as long
pub put_back : (items new : List PartFacts) (len : ℕ) → len ≡ length items → length new ≡ length items → take len (new ++ drop (length new) items) ≡ new
put_back [] [] zero is same = refl
put_back [] [] (suc len) is same = refl
put_back [] (y ∷ new) len is same = absurd (omega (arith, same))
put_back (x ∷ items) [] len is same = absurd (omega (arith, same))
put_back (x ∷ items) (y ∷ new) zero is same = absurd (omega (arith, is))
put_back (x ∷ items) (y ∷ new) (suc len) is same = ap (λ l. y ∷ l) (put_back items new len (omega (arith, is)) (omega (arith, same)))

module _ (run : LiveRun) (s : LiveState) (window : Window) (lasts : List ℕ) (moment : ℕ) (parts : List PartFacts) (entries : List Entry) (events : List LiveEvent) (m : IsCore run s window lasts moment parts entries events) where
  abbrev h : List Entry
  h = entries_of run.steps

  -- how many threads, processors and stamps there are
  pub core_sound : IsSound run.setup.scenario s h
  core_sound = subst (λ (x : LiveState). IsSound run.setup.scenario x h) (sym m.machine) (sound run.setup.scenario run.steps m.keeps.live)

  pub few_stamps : s.stamps ≤ most_entries
  few_stamps = let k = as_many run s window lasts moment parts entries events m in omega (arith, core_sound.stamps, k.1, ap length m.recorded, m.keeps.fits, m.keeps.few)

  pub named_thread : (event : LiveEvent) → NamesThread run.setup.scenario event → (x : ℕ) → event ≡ Wake x → x < length s.threads
  named_thread event named x is = let n = by_event event named x is in omega (arith, n, core_sound.threads)
    where
      by_event : (v : LiveEvent) → NamesThread run.setup.scenario v → (y : ℕ) → v ≡ Wake y → y < length run.setup.scenario.threads
      by_event Stay named y e = absurd cc
      by_event Block named y e = absurd cc
      by_event (Wake z) named y e = let same : z ≡ y = cc in omega (arith, named, same)

  pub settled_cpus : (c d : ℕ) (event : LiveEvent) (t : LiveState) → d < run.setup.scenario.shape.cpus → t ≡ live_settled s c event → d < length t.cpus
  settled_cpus c d event t below is = omega (arith, below, core_sound.cpus, (settled_sized s c event).cpus, ap (λ (x : LiveState). length x.cpus) is)

  -- the bill is that of the definitions
  pub bill_is : (c k now from : ℕ) (running : Option Pick) (e : Entry) → c < run.setup.scenario.shape.cpus → k ≡ c → from ≡ slice_index_or lasts k from → running ≡ live_cpu_at s c → e ≡ bill_of c from now running → e ≡ live_bill s h c now
  bill_is c k now from running e below same read runs is =
      let ends = read_at lasts k c from 0 (omega (arith, below, m.stands.one_each)) same read ∙ m.stands.ends c below in
      is ∙ ap (λ n. bill_of c n now running) ends ∙ ap (bill_of c (last_end h c) now) runs

  pub bill_forward : (c now : ℕ) (e : Entry) → latest h ≤ now → e ≡ live_bill s h c now → e.from ≤ e.to
  bill_forward c now e later is =
      let has = bill_has c (last_end h c) now (live_cpu_at s c) in
      let late = last_late h c in
      omega (arith, late, later, has.1, has.2, ap (λ (x : Entry). x.from) is, ap (λ (x : Entry). x.to) is)

  pub bill_within : (c now : ℕ) (e : Entry) (es : List Entry) (shape : Shape) → c < run.setup.scenario.shape.cpus → latest h ≤ now → shape ≡ run.setup.scenario.shape → es ≡ entries → e ≡ live_bill s h c now → FitsTicks shape.tick (es ++ e ∷ [])
  bill_within c now e es shape below later same list is =
      let fits = subst (λ (x : LiveState). FitsTicks run.setup.scenario.shape.tick (h ++ live_bill x h c now ∷ [])) (sym m.machine) (bill_fits run c now m.keeps below later) in
      let one = subst (λ (x : Entry). FitsTicks run.setup.scenario.shape.tick (h ++ x ∷ [])) (sym is) fits in
      let two = subst (λ (g : List Entry). FitsTicks run.setup.scenario.shape.tick (g ++ e ∷ [])) (sym (list ∙ m.recorded)) one in
      subst (λ (x : Shape). FitsTicks x.tick (es ++ e ∷ [])) (sym same) two

  -- all of it
  pub took : (settled t : LiveState) (new : Window) (later_parts : List PartFacts) (c now : ℕ) (event : LiveEvent) (shape : Shape) (rows : List PartitionRow) (e taken : Entry) (es gs : List Entry)
      → c < run.setup.scenario.shape.cpus → now ≤ last_moment → NamesThread run.setup.scenario event → latest h ≤ now → length run.steps < run.setup.limit
      → e ≡ live_bill s h c now → shape ≡ run.setup.scenario.shape → rows ≡ run.setup.scenario.partitions → es ≡ entries → gs ≡ entries
      → IsTied shape.tick new (es ++ e ∷ []) → new.tick ≡ e.to / shape.tick → new.span ≡ window.span
      → settled ≡ live_settled s c event
      → later_parts ≡ all_parts shape rows (gs ++ e ∷ []) new.tick
      → live_pick shape.free later_parts settled c e ≡ record { entry = taken; state = t }
      → length later_parts ≡ length parts
      → IsCore (with_step run taken event) t new (slice_set lasts c now) now later_parts (entries ++ taken ∷ []) (events ++ event ∷ []) × IsTaken run c now event taken
  took settled t new later_parts c now event shape rows e taken es gs below early named later room bill shape_is rows_is es_is gs_is tied at_tick span settled_is parts_is pick parts_same =
      let scenario = run.setup.scenario in
      let has = bill_has c (last_end h c) now (live_cpu_at s c) in
      let to : e.to ≡ now = ap (λ (x : Entry). x.to) bill ∙ has.2 in
      let tick : new.tick ≡ now / scenario.shape.tick = at_tick ∙ ap (λ n. n / shape.tick) to ∙ ap (λ (x : Shape). now / x.tick) shape_is in
      let at_bill : IsTied scenario.shape.tick new (h ++ live_bill s h c now ∷ []) =
      subst (λ (x : Entry). IsTied scenario.shape.tick new (h ++ x ∷ [])) bill
      (subst (λ (g : List Entry). IsTied scenario.shape.tick new (g ++ e ∷ [])) (es_is ∙ m.recorded) (subst (λ (x : Shape). IsTied x.tick new (es ++ e ∷ [])) shape_is tied)) in
      let all : later_parts ≡ all_parts scenario.shape scenario.partitions (h ++ live_bill s h c now ∷ []) (now / scenario.shape.tick) =
      parts_is ∙ ap (λ (x : Shape). all_parts x rows (gs ++ e ∷ []) new.tick) shape_is ∙ ap (λ rs. all_parts scenario.shape rs (gs ++ e ∷ []) new.tick) rows_is
      ∙ ap (λ (g : List Entry). all_parts scenario.shape scenario.partitions (g ++ e ∷ []) new.tick) (gs_is ∙ m.recorded)
      ∙ ap (λ (x : Entry). all_parts scenario.shape scenario.partitions (h ++ x ∷ []) new.tick) bill
      ∙ ap (all_parts scenario.shape scenario.partitions (h ++ live_bill s h c now ∷ [])) tick in
      let step : live_step scenario s h c now event ≡ record { entry = taken; state = t } =
      sym (ap (λ (x : Shape). live_pick x.free later_parts settled c e) shape_is ∙ ap (λ ps. live_pick scenario.shape.free ps settled c e) all
      ∙ ap (λ (x : LiveState). live_pick scenario.shape.free (all_parts scenario.shape scenario.partitions (h ++ live_bill s h c now ∷ []) (now / scenario.shape.tick)) x c e) settled_is
      ∙ ap (λ (x : Entry). live_pick scenario.shape.free (all_parts scenario.shape scenario.partitions (h ++ live_bill s h c now ∷ []) (now / scenario.shape.tick)) (live_settled s c event) c x) bill)
      ∙ pick in (
        core_more run s t window new lasts moment parts later_parts entries events c now event taken m below early named later room step at_bill tick span parts_same,
        record {
          room = room;
          after = later;
          stepped = sym (ap (λ (x : LiveStep). x.entry) (ap (λ (x : LiveState). live_step scenario x h c now event) (sym m.machine) ∙ step));
        },
      )

  -- the run that the new lists stand for
  pub run_more : (e : Entry) (v : LiveEvent) → pairs (entries ++ e ∷ []) (events ++ v ∷ []) ≡ pairs entries events ++ (record { entry = e; event = v }) ∷ []
  run_more e v = pairs_more entries events e v (as_many run s window lasts moment parts entries events m).0
