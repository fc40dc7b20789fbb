-- How far a pass over a history has come.
use Rattle.std.specs.Prelude.{◌≡◌, ℕ, ◌+◌, ◌*◌, ◌/◌, ◌<◌, ◌≤◌, ◌&&◌, List, length, take, replicate, Bool, true, false, nat_lt, slice_index_or, None}
use Rattle.aps_model.specs.declared.entry.Entry.{Entry}
use Rattle.aps_model.specs.declared.entry.Order.{Order}
use Rattle.aps_model.specs.declared.entry.Done.TheVariants.{Nothing}
use Rattle.aps_model.specs.After.{state_after}
use Rattle.aps_model.specs.History.{History}
use Rattle.aps_model.specs.Legal.{IsLegal}
use Rattle.aps_model.specs.Limits.{last_tick, most_cpus}
use Rattle.aps_model.specs.Loaded.{finished_ticks}
use Rattle.aps_model.specs.Scenario.{Scenario}
use Rattle.aps_model.specs.Valid.{IsScenario}
use Rattle.aps_window.specs.Window.{opened}
use Rattle.laws_bounds.specs.Kinds.{is_free, last_kind}
use Rattle.view_replay.specs.Retraced.{front, order_of_run, scenario_of_run, start_of}
use Rattle.view_samples.specs.declared.look.Look.{Look}
use Rattle.view_samples.specs.declared.note.Note.{Note}
use Rattle.view_samples.specs.declared.pass.Cursor.{Cursor}
use Rattle.view_samples.specs.declared.pass.Samples.{Samples}
use Rattle.view_samples.specs.Lasts.{AreLasts}
use Rattle.view_samples.specs.Look.{IsLook}
use Rattle.view_samples.specs.Note.{IsLookAdded, IsFreshNote, IsNote, is_reached, no_note}
use Rattle.view_samples.specs.Passed.{no_lasts}
use Rattle.view_samples.specs.Sums.{AreWindowSums}

-- what is read past the end
abbrev pub no_entry : Entry
no_entry = record {
  from = 0;
  to = 0;
  done = Nothing;
  ran = None;
  picked = None;
  billed = None;
  starved = None;
  flagged = None;
  cpu = 0;
  critical = false;
}

abbrev pub entry_at : List Entry → ℕ → Entry
entry_at h i = slice_index_or h i no_entry

-- there is an entry at this place, and it ends before the bound
abbrev pub is_before : List Entry → ℕ → ℕ → Bool
is_before h i bound = nat_lt i (length h) && nat_lt (entry_at h i).to bound

-- the last pick of each processor was a free one
abbrev pub AreFree : Scenario → List Entry → List Bool → Type 0
AreFree scenario h free = (c : ℕ) → c < most_cpus → slice_index_or free c false ≡ is_free (last_kind scenario h c)

-- the first entries are done: the core made their steps, and the windows, which stand at tick j, have their bills
pub record IsUpTo (scenario : Scenario) (order : Order) (h : List Entry) (j : ℕ) (cursor : Cursor) : Type 0 where
  pub window : ℕ
  pub run : cursor.core ≡ front (record { scenario = scenario; order = order; limit = cursor.core.setup.limit }) h cursor.next
  pub place : cursor.next ≤ length h
  pub room : length h ≤ cursor.core.setup.limit
  pub free : AreFree scenario (take cursor.next h) cursor.free
  pub sums : AreWindowSums scenario (take cursor.next h) j window cursor.sums

-- the entries before this place end before the bound, and the others don't
pub record IsCut (h : List Entry) (bound i : ℕ) : Type 0 where
  pub past : (k : ℕ) → k < i → (entry_at h k).to < bound
  pub later : (k : ℕ) → i ≤ k → k < length h → bound ≤ (entry_at h k).to

-- what takes time of the entries from this place on that end before the bound lies in this tick
abbrev pub RunsIn : ℕ → List Entry → ℕ → ℕ → ℕ → Type 0
RunsIn tick h i bound j =
    (k : ℕ) → i ≤ k → k < length h → (entry_at h k).to < bound → (entry_at h k).from < (entry_at h k).to → (entry_at h k).from / tick ≡ j

-- the entries so far are done, those of a legal history
pub record IsPassReady (h : List Entry) (s : Samples) : Type 0 where
  pub valid : IsScenario (scenario_of_run s.cursor.core)
  pub legal : IsLegal (scenario_of_run s.cursor.core) (order_of_run s.cursor.core) h
  pub up : IsUpTo (scenario_of_run s.cursor.core) (order_of_run s.cursor.core) h s.tick s.cursor
  pub early : s.tick ≤ last_tick

-- it goes on to the first entry that doesn't end before the bound
pub record GoesUpTo (h : List Entry) (bound : ℕ) (before after : Samples) : Type 0 where
  pub ready : IsPassReady h after
  pub tick : after.tick ≡ before.tick
  pub lasts : after.lasts ≡ before.lasts
  pub setup : after.cursor.core.setup ≡ before.cursor.core.setup
  pub forward : before.cursor.next ≤ after.cursor.next
  pub cut : ((k : ℕ) → k < before.cursor.next → (entry_at h k).to < bound) → IsCut h bound after.cursor.next

-- tick j is reached, and this is its note so far
pub record HasNote (scenario : Scenario) (h : List Entry) (j : ℕ) (s : Samples) : Type 0 where
  pub reached : is_reached (j * scenario.shape.tick) (take s.cursor.next h) ≡ true
  pub note : IsNote scenario (take s.cursor.next h) j s.note

-- where all entries in between end in tick j, a note of this tick has their picks too
abbrev pub KeepsNotes : Scenario → List Entry → Samples → Samples → Type 0
KeepsNotes scenario h before after =
    (j : ℕ)
    → ((k : ℕ) → before.cursor.next ≤ k → k < after.cursor.next → (entry_at h k).to / scenario.shape.tick ≡ j)
    → is_reached (j * scenario.shape.tick) (take before.cursor.next h) ≡ true
    → IsNote scenario (take before.cursor.next h) j before.note
    → HasNote scenario h j after

-- one entry more, which opens a note
pub record Opens (h : List Entry) (before after : Samples) : Type 0 where
  pub ready : IsPassReady h after
  pub tick : after.tick ≡ before.tick
  pub lasts : after.lasts ≡ before.lasts
  pub setup : after.cursor.core.setup ≡ before.cursor.core.setup
  pub next : after.cursor.next ≡ before.cursor.next + 1
  pub fresh : Note
  pub look : Look
  pub is_fresh : IsFreshNote (state_after (scenario_of_run before.cursor.core) (take (before.cursor.next + 1) h)) fresh
  pub is_look : IsLook (scenario_of_run before.cursor.core) (take before.cursor.next h) (entry_at h before.cursor.next) look
  pub is_added : IsLookAdded look fresh after.note

-- where tick j begins at this moment, and an entry meets it, there is a note of this tick then
abbrev pub BeginsIfMet : Scenario → List Entry → ℕ → Samples → Samples → Type 0
BeginsIfMet scenario h moment before after =
    (j : ℕ)
    → moment ≡ j * scenario.shape.tick
    → IsCut h moment before.cursor.next
    → is_before h before.cursor.next (moment + 1) ≡ true
    → HasNote scenario h j after

-- the pass stands at the beginning of its next tick
pub record IsAtTickBegin (h : List Entry) (s : Samples) : Type 0 where
  pub ready : IsPassReady h s
  pub cut : IsCut h (s.tick * (scenario_of_run s.cursor.core).shape.tick + 1) s.cursor.next
  pub note : s.tick < finished_ticks (scenario_of_run s.cursor.core).shape h → HasNote (scenario_of_run s.cursor.core) h s.tick s
  pub lasts : AreLasts (scenario_of_run s.cursor.core) h s.tick s.lasts

-- before its first step
abbrev pub samples_at_start : History → Order → Samples
samples_at_start history order = record {
  cursor = record {
    core = start_of history order;
    next = 0;
    free = replicate most_cpus false;
    sums = record {
      all = opened history.scenario.shape.window;
      free = opened history.scenario.shape.window;
      span = history.scenario.shape.window;
    };
  };
  note = no_note;
  lasts = no_lasts;
  tick = 0;
}
