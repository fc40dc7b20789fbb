-- The pass goes on by a whole tick.
use Rattle.std.proofs.Common.{◌≡◌, ℕ, ◌+◌, ◌*◌, ◌<◌, ◌≤◌, ◌++◌, List, take, drop, sym, ap, subst, ◌∙◌, arith}
use Rattle.std.proofs.lemmas.List.{take-append-drop}
use Rattle.std.proofs.lemmas.List.Elements.{recursion_from_All}
use Rattle.aps_model.specs.declared.entry.Entry.{Entry}
use Rattle.aps_model.specs.Limits.{last_tick, longest_window, shortest_window}
use Rattle.aps_model.specs.Loaded.{finished_ticks, state_of_tick}
use Rattle.aps_model.specs.Scenario.{Scenario}
use Rattle.aps_core.specs.Run.{Setup}
use Rattle.laws_runs.proofs.HeldRows.{tick_in_order}
use Rattle.aps_window.specs.Window.{advanced, resized}
use Rattle.view_replay.specs.Retraced.{order_of_run, scenario_of_run}
use Rattle.view_samples.specs.declared.lasts.Lasts.{Lasts}
use Rattle.view_samples.specs.declared.pass.Samples.{Samples}
use Rattle.view_samples.specs.declared.sums.Sums.{Sums}
use Rattle.view_samples.specs.Lasts.{AreLasts}
use Rattle.view_samples.specs.Note.{IsNote}
use Rattle.view_samples.specs.Pass.{BeginsIfMet, GoesUpTo, HasNote, IsAtTickBegin, IsCut, KeepsNotes, RunsIn, entry_at}
use Rattle.view_samples.specs.Passed.{IsPassed}
use Rattle.view_samples.specs.Sums.{AreWindowSums}
use Rattle.view_samples.specs.Window.{AreOfWindow}
use Rattle.view_samples.proofs.Billing.{sums_later, sums_of_window, sums_resized}
use Rattle.view_samples.proofs.Cuts.{begin_later, meets, runs_after}
use Rattle.view_samples.proofs.Passing.{lasts_more}
use Rattle.view_samples.proofs.Steps.{in_tick, note_whole}

abbrev tick_of : Samples → ℕ
tick_of s = (scenario_of_run s.cursor.core).shape.tick

-- with other last ticks
abbrev pub with_lasts : Samples → Lasts → Samples
with_lasts s lasts = record { cursor = s.cursor; note = s.note; lasts = lasts; tick = s.tick }

abbrev pub resized_by : ℕ → Sums → Sums
resized_by window sums = record { all = resized window sums.all; free = resized window sums.free; span = window }

abbrev pub later_by : Sums → Sums
later_by sums = record { all = advanced 1 sums.all; free = advanced 1 sums.free; span = sums.span }

-- and at the next tick, with these windows
abbrev pub one_on : Samples → Sums → Samples
one_on s sums = record {
  cursor = record { core = s.cursor.core; next = s.cursor.next; free = s.cursor.free; sums = sums };
  note = s.note;
  lasts = s.lasts;
  tick = s.tick + 1;
}

ticks_long : (h : List Entry) (s : Samples) → IsAtTickBegin h s → 0 < tick_of s
ticks_long h s at = let long = at.ready.valid.shape.tick_long in omega (arith, long)

runs_in_tick : (h : List Entry) (s : Samples) → IsAtTickBegin h s → RunsIn (tick_of s) h s.cursor.next ((s.tick + 1) * tick_of s) s.tick
runs_in_tick h s at =
    runs_after (scenario_of_run s.cursor.core) (order_of_run s.cursor.core) h s.cursor.next ((s.tick + 1) * tick_of s) s.tick at.ready.valid at.ready.legal (omega arith)
    (λ k from less. let low = at.cut.later k from less in omega (arith, low))

-- the code has the entries and the tick by other names
pub runs_first : (es h : List Entry) (t : ℕ) (s : Samples) → es ≡ h → t ≡ tick_of s → IsAtTickBegin h s → RunsIn (tick_of s) es s.cursor.next ((s.tick + 1) * t) s.tick
runs_first es h t s same ticks at =
    subst (λ n. RunsIn (tick_of s) es s.cursor.next ((s.tick + 1) * n) s.tick) (sym ticks)
    (runs_in_tick es s (subst (λ (l : List Entry). IsAtTickBegin l s) (sym same) at))

cut_there : (h : List Entry) (a b : Samples) → IsAtTickBegin h a → GoesUpTo h ((a.tick + 1) * tick_of a) a b → IsCut h ((a.tick + 1) * tick_of a) b.cursor.next
cut_there h a b at up =
    let pos = ticks_long h a at in
    up.cut (λ k less. let past = at.cut.past k less in omega (arith, past, pos))

runs_on : (h : List Entry) (a b : Samples) → IsAtTickBegin h a → GoesUpTo h ((a.tick + 1) * tick_of a) a b → RunsIn (tick_of b) h b.cursor.next ((a.tick + 1) * tick_of a + 1) b.tick
runs_on h a b at up =
    let pos = ticks_long h a at in
    let same : tick_of b ≡ tick_of a = ap (λ (s : Setup). s.scenario.shape.tick) up.setup in
    let there = runs_after (scenario_of_run a.cursor.core) (order_of_run a.cursor.core) h b.cursor.next ((a.tick + 1) * tick_of a + 1) a.tick at.ready.valid at.ready.legal (omega arith)
    (λ k from less. let low = (cut_there h a b at up).later k from less in omega (arith, low, pos)) in
    subst (λ n. RunsIn (tick_of b) h b.cursor.next ((a.tick + 1) * tick_of a + 1) n) (sym up.tick)
    (subst (λ t. RunsIn t h b.cursor.next ((a.tick + 1) * tick_of a + 1) a.tick) (sym same) there)

pub runs_second : (es h : List Entry) (t : ℕ) (a b : Samples) → es ≡ h → t ≡ tick_of a → IsAtTickBegin h a → GoesUpTo es ((a.tick + 1) * t) a b → RunsIn (tick_of b) es b.cursor.next ((a.tick + 1) * t + 1) b.tick
runs_second es h t a b same ticks at up =
    subst (λ n. RunsIn (tick_of b) es b.cursor.next ((a.tick + 1) * n + 1) b.tick) (sym ticks)
    (runs_on es a b (subst (λ (l : List Entry). IsAtTickBegin l a) (sym same) at) (subst (λ n. GoesUpTo es ((a.tick + 1) * n) a b) ticks up))

-- ---- its note

pub note_at : (es h : List Entry) (t : ℕ) (scenario : Scenario) (a b : Samples) → es ≡ h → t ≡ tick_of a → scenario_of_run a.cursor.core ≡ scenario → IsAtTickBegin h a → a.tick < finished_ticks scenario.shape h
    → GoesUpTo es ((a.tick + 1) * t) a b → KeepsNotes (scenario_of_run a.cursor.core) es a b → IsNote (scenario_of_run a.cursor.core) h a.tick b.note
note_at es h t scenario a b same ticks named at finished up' keeps' =
    let up : GoesUpTo h ((a.tick + 1) * tick_of a) a b = subst (λ (l : List Entry). GoesUpTo l ((a.tick + 1) * tick_of a) a b) same (subst (λ n. GoesUpTo es ((a.tick + 1) * n) a b) ticks up') in
    let keeps : KeepsNotes (scenario_of_run a.cursor.core) h a b = subst (λ (l : List Entry). KeepsNotes (scenario_of_run a.cursor.core) l a b) same keeps' in
    let pos = ticks_long h a at in
    let cut = cut_there h a b at up in
    let place = up.ready.up.place in
    let own = at.note (subst (λ (s : Scenario). a.tick < finished_ticks s.shape h) (sym named) finished) in
    let has = keeps a.tick
    (λ k from less. in_tick (tick_of a) a.tick (entry_at h k).to pos (at.cut.later k from (omega (arith, less, place))) (cut.past k less))
    own.reached own.note in
    note_whole (scenario_of_run a.cursor.core) h a.tick b at.ready.valid place cut has

pub record IsWide (window : ℕ) : Type 0 where
  pub long : shortest_window ≤ window
  pub short : window ≤ longest_window

pub wide_at : (h : List Entry) (a b : Samples) → IsAtTickBegin h a → IsNote (scenario_of_run a.cursor.core) h a.tick b.note → IsWide b.note.window
wide_at h a b at note =
    let shape = (tick_in_order (scenario_of_run a.cursor.core) (order_of_run a.cursor.core) h a.tick at.ready.valid at.ready.legal).shape in
    let long = shape.window_long in
    let short = shape.window_short in
    let is = note.begun.window in
    record { long = omega (arith, long, is); short = omega (arith, short, is) }

-- ---- all of it

pub record IsTicked (scenario : Scenario) (h : List Entry) (a b d : Samples) : Type 0 where
  pub note : IsNote scenario h d.tick b.note
  pub lasts : AreLasts scenario h (d.tick + 1) d.lasts
  pub sums : AreOfWindow scenario h d.tick (resized_by b.note.window d.cursor.sums)
  pub next : IsAtTickBegin h (one_on d (later_by (resized_by b.note.window d.cursor.sums)))

ticked_of : (h : List Entry) (a b d : Samples) (lasts : Lasts) → IsAtTickBegin h a → a.tick < finished_ticks (scenario_of_run a.cursor.core).shape h → a.tick < last_tick
    → GoesUpTo h ((a.tick + 1) * tick_of a) a b → IsNote (scenario_of_run a.cursor.core) h a.tick b.note → IsPassed b.tick b.note b.lasts lasts
    → GoesUpTo h ((a.tick + 1) * tick_of a + 1) (with_lasts b lasts) d → BeginsIfMet (scenario_of_run b.cursor.core) h ((a.tick + 1) * tick_of a) (with_lasts b lasts) d
    → IsTicked (scenario_of_run a.cursor.core) h a b d
ticked_of h a b d lasts at finished few up note passed on begins =
    let scenario = scenario_of_run a.cursor.core in
    let j = a.tick in
    let tick = tick_of a in
    let setup : d.cursor.core.setup ≡ a.cursor.core.setup = on.setup ∙ up.setup in
    let named : scenario_of_run d.cursor.core ≡ scenario = ap (λ (s : Setup). s.scenario) setup in
    let mid : scenario_of_run b.cursor.core ≡ scenario = ap (λ (s : Setup). s.scenario) up.setup in
    let at_tick : d.tick ≡ j = on.tick ∙ up.tick in
    let window = b.note.window in
    let wide = wide_at h a b at note in
    let short = wide.short in
    let cut_one = cut_there h a b at up in
    let cut_two = on.cut (λ k less. let past = cut_one.past k less in omega (arith, past)) in
    let place = on.ready.up.place in
    let after = recursion_from_All (λ (e : Entry). (j + 1) * tick ≤ e.from) (drop d.cursor.next h) (begin_later scenario (order_of_run a.cursor.core) h j d.cursor.next at.ready.valid at.ready.legal place cut_two) in
    let are_d : AreWindowSums scenario (take d.cursor.next h) j on.ready.up.window d.cursor.sums =
    subst (λ n. AreWindowSums scenario (take d.cursor.next h) n on.ready.up.window d.cursor.sums) at_tick
    (subst (λ (s : Scenario). AreWindowSums s (take d.cursor.next h) d.tick on.ready.up.window d.cursor.sums) named on.ready.up.sums) in
    let are = sums_resized scenario (take d.cursor.next h) j on.ready.up.window window d.cursor.sums are_d short in
    let whole : take d.cursor.next h ++ drop d.cursor.next h ≡ h = take-append-drop d.cursor.next h in
    let wide_is : window ≡ (state_of_tick scenario (take d.cursor.next h ++ drop d.cursor.next h) j).shape.window =
    note.begun.window ∙ ap (λ (g : List Entry). (state_of_tick scenario g j).shape.window) (sym whole) in
    let sums : AreOfWindow scenario h j (resized_by window d.cursor.sums) =
    subst (λ (g : List Entry). AreOfWindow scenario g j (resized_by window d.cursor.sums)) whole
    (sums_of_window scenario (take d.cursor.next h) (drop d.cursor.next h) j window (resized_by window d.cursor.sums) are after wide_is) in
    let old : AreLasts scenario h j b.lasts = subst (λ (l : Lasts). AreLasts scenario h j l) (sym up.lasts) at.lasts in
    let gone : IsPassed j b.note b.lasts lasts = subst (λ n. IsPassed n b.note b.lasts lasts) up.tick passed in
    let new : AreLasts scenario h (j + 1) d.lasts = subst (λ (l : Lasts). AreLasts scenario h (j + 1) l) (sym on.lasts) (lasts_more scenario h j b.note b.lasts lasts note old gone) in
    let later = sums_later scenario (take d.cursor.next h) j window (resized_by window d.cursor.sums) are in
    record {
      note = subst (λ n. IsNote scenario h n b.note) (sym at_tick) note;
      lasts = subst (λ n. AreLasts scenario h (n + 1) d.lasts) (sym at_tick) new;
      sums = subst (λ n. AreOfWindow scenario h n (resized_by window d.cursor.sums)) (sym at_tick) sums;
      next = record {
        ready = record {
          valid = on.ready.valid;
          legal = on.ready.legal;
          up = record {
            window = window;
            run = on.ready.up.run;
            place = place;
            room = on.ready.up.room;
            free = on.ready.up.free;
            sums = subst (λ (s : Scenario). AreWindowSums s (take d.cursor.next h) (d.tick + 1) window (later_by (resized_by window d.cursor.sums))) (sym named)
                (subst (λ n. AreWindowSums scenario (take d.cursor.next h) (n + 1) window (later_by (resized_by window d.cursor.sums))) (sym at_tick) later);
          };
          early = omega (arith, few, at_tick);
        };
        cut = subst (λ (s : Scenario). IsCut h ((d.tick + 1) * s.shape.tick + 1) d.cursor.next) (sym named) (subst (λ n. IsCut h ((n + 1) * tick + 1) d.cursor.next) (sym at_tick) cut_two);
        note = λ less.
            let met = meets scenario (order_of_run a.cursor.core) h (j + 1) b.cursor.next at.ready.valid at.ready.legal (omega (arith, finished)) (omega (arith, finished)) cut_one in
            let has = begins (j + 1) (ap (λ (s : Scenario). (j + 1) * s.shape.tick) (sym mid)) cut_one met in
            let has' : HasNote (scenario_of_run d.cursor.core) h (d.tick + 1) d =
            subst (λ (s : Scenario). HasNote s h (d.tick + 1) d) (mid ∙ sym named) (subst (λ n. HasNote (scenario_of_run b.cursor.core) h (n + 1) d) (sym at_tick) has) in
            record { reached = has'.reached; note = has'.note };
        lasts = subst (λ (s : Scenario). AreLasts s h (d.tick + 1) d.lasts) (sym named) (subst (λ n. AreLasts scenario h (n + 1) d.lasts) (sym at_tick) new);
      };
    }

pub ticked : (es h : List Entry) (t : ℕ) (scenario : Scenario) (a b d : Samples) (lasts : Lasts) → es ≡ h → t ≡ tick_of a → scenario_of_run a.cursor.core ≡ scenario
    → IsAtTickBegin h a → a.tick < finished_ticks scenario.shape h → a.tick < last_tick
    → GoesUpTo es ((a.tick + 1) * t) a b → KeepsNotes (scenario_of_run a.cursor.core) es a b → IsPassed b.tick b.note b.lasts lasts
    → GoesUpTo es ((a.tick + 1) * t + 1) (with_lasts b lasts) d → BeginsIfMet (scenario_of_run b.cursor.core) es ((a.tick + 1) * t) (with_lasts b lasts) d
    → IsTicked scenario h a b d
ticked es h t scenario a b d lasts same ticks named at finished few up keeps passed on begins =
    subst (λ (s : Scenario). IsTicked s h a b d) named
    (ticked_of h a b d lasts at (subst (λ (s : Scenario). a.tick < finished_ticks s.shape h) (sym named) finished) few
    (subst (λ (l : List Entry). GoesUpTo l ((a.tick + 1) * tick_of a) a b) same (subst (λ n. GoesUpTo es ((a.tick + 1) * n) a b) ticks up))
    (note_at es h t scenario a b same ticks named at finished up keeps) passed
    (subst (λ (l : List Entry). GoesUpTo l ((a.tick + 1) * tick_of a + 1) (with_lasts b lasts) d) same (subst (λ n. GoesUpTo es ((a.tick + 1) * n + 1) (with_lasts b lasts) d) ticks on))
    (subst (λ (l : List Entry). BeginsIfMet (scenario_of_run b.cursor.core) l ((a.tick + 1) * tick_of a) (with_lasts b lasts) d) same (subst (λ n. BeginsIfMet (scenario_of_run b.cursor.core) es ((a.tick + 1) * n) (with_lasts b lasts) d) ticks begins)))
