use Rattle.std.proofs.Common.{◌≡◌, ℕ, ◌-◌, ◌<◌, ◌≤◌, length}
use Rattle.view_replay.specs.Retraced.{scenario_of_run}
use Rattle.view_samples.specs.Pass.{IsPassReady, KeepsNotes, entry_at}
use Rattle.view_samples.proofs.pass.Samples.go_through.Given as goal

abbrev pub invariant-loop-self : goal.invariant-loop-self
invariant-loop-self l = record {
  ready : IsPassReady l.entries l.self;
  tick : l.self.tick ≡ l.initial.self.tick;
  lasts : l.self.lasts ≡ l.initial.self.lasts;
  setup : l.self.cursor.core.setup ≡ l.initial.self.cursor.core.setup;
  forward : l.initial.self.cursor.next ≤ l.self.cursor.next;
  past : ((k : ℕ) → k < l.initial.self.cursor.next → (entry_at l.entries k).to < l.bound) → (k : ℕ) → k < l.self.cursor.next → (entry_at l.entries k).to < l.bound;
  notes : KeepsNotes (scenario_of_run l.initial.self.cursor.core) l.entries l.initial.self l.self;
}

abbrev pub decreases-loop-self : goal.decreases-loop-self
decreases-loop-self l = length l.entries - l.self.cursor.next
