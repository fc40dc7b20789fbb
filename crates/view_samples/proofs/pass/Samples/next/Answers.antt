use Rattle.std.proofs.Common.{◌≡◌, ◌∙◌, ap, sym, subst}
use Rattle.aps_model.specs.declared.shape.Shape.{Shape}
use Rattle.aps_model.specs.Scenario.{Scenario}
use Rattle.aps_model.specs.Valid.{IsScenario}
use Rattle.aps_model.specs.Legal.{IsLegal}
use Rattle.view_replay.specs.Retraced.{order_of_run, scenario_of_run}
use Rattle.view_samples.specs.declared.sums.Sums.{Sums}
use Rattle.view_samples.specs.Pass.{IsAtTickBegin}
use Rattle.view_samples.specs.Window.{AreOfWindow}
use Rattle.view_samples.proofs.Changes.{changes_is}
use Rattle.view_samples.proofs.Ticked.{note_at, one_on, later_by, resized_by, runs_first, runs_second, ticked, wide_at}
use Rattle.view_samples.proofs.pass.Samples.next.Goals as goal

pub go_through-requires-clause-runs : goal.go_through-requires-clause-runs
go_through-requires-clause-runs c =
    let ticks : c.shape.result.now.tick ≡ (scenario_of_run c.args.self.now.cursor.core).shape.tick =
    ap (λ (s : Shape). s.tick) (c.shape.ensures.same ∙ ap (λ (s : Scenario). s.shape) (c.scenario.ensures ∙ sym c.requires.of)) in
    runs_first c.entries-entries.result.now c.args.history.now.entries c.shape.result.now.tick c.args.self.now c.entries-entries.ensures.same ticks c.requires.at

pub begin_tick-requires-clause-runs : goal.begin_tick-requires-clause-runs
begin_tick-requires-clause-runs c =
    let ticks : c.shape.result.now.tick ≡ (scenario_of_run c.args.self.now.cursor.core).shape.tick =
    ap (λ (s : Shape). s.tick) (c.shape.ensures.same ∙ ap (λ (s : Scenario). s.shape) (c.scenario.ensures ∙ sym c.requires.of)) in
    runs_second c.entries-entries.result.now c.args.history.now.entries c.shape.result.now.tick c.args.self.now c.go_through.new.self c.entries-entries.ensures.same ticks c.requires.at c.go_through.ensures.up

pub resize-requires-clause-least : goal.resize-requires-clause-least
resize-requires-clause-least c =
    let ticks : c.shape.result.now.tick ≡ (scenario_of_run c.args.self.now.cursor.core).shape.tick =
    ap (λ (s : Shape). s.tick) (c.shape.ensures.same ∙ ap (λ (s : Scenario). s.shape) (c.scenario.ensures ∙ sym c.requires.of)) in
    let note = note_at c.entries-entries.result.now c.args.history.now.entries c.shape.result.now.tick c.args.history.now.scenario c.args.self.now c.go_through.new.self
    c.entries-entries.ensures.same ticks c.requires.of c.requires.at c.requires.finished c.go_through.ensures.up c.go_through.ensures.notes in
    (wide_at c.args.history.now.entries c.args.self.now c.go_through.new.self c.requires.at note).long

pub resize-requires-clause-most : goal.resize-requires-clause-most
resize-requires-clause-most c =
    let ticks : c.shape.result.now.tick ≡ (scenario_of_run c.args.self.now.cursor.core).shape.tick =
    ap (λ (s : Shape). s.tick) (c.shape.ensures.same ∙ ap (λ (s : Scenario). s.shape) (c.scenario.ensures ∙ sym c.requires.of)) in
    let note = note_at c.entries-entries.result.now c.args.history.now.entries c.shape.result.now.tick c.args.history.now.scenario c.args.self.now c.go_through.new.self
    c.entries-entries.ensures.same ticks c.requires.of c.requires.at c.requires.finished c.go_through.ensures.up c.go_through.ensures.notes in
    (wide_at c.args.history.now.entries c.args.self.now c.go_through.new.self c.requires.at note).short

pub resize-requires-clause-all : goal.resize-requires-clause-all
resize-requires-clause-all c = let sums = c.begin_tick.ensures.up.ready.up.sums in sums.all.span ∙ sym sums.span

pub resize-requires-clause-free : goal.resize-requires-clause-free
resize-requires-clause-free c = let sums = c.begin_tick.ensures.up.ready.up.sums in sums.free.span ∙ sym sums.span

pub sample_at-sample-requires-clause-note : goal.sample_at-sample-requires-clause-note
sample_at-sample-requires-clause-note c =
    let ticks : c.shape.result.now.tick ≡ (scenario_of_run c.args.self.now.cursor.core).shape.tick =
    ap (λ (s : Shape). s.tick) (c.shape.ensures.same ∙ ap (λ (s : Scenario). s.shape) (c.scenario.ensures ∙ sym c.requires.of)) in
    let all = ticked c.entries-entries.result.now c.args.history.now.entries c.shape.result.now.tick c.args.history.now.scenario c.args.self.now c.go_through.new.self c.begin_tick.new.self c.pass.new.self
    c.entries-entries.ensures.same ticks c.requires.of c.requires.at c.requires.finished c.requires.few c.go_through.ensures.up c.go_through.ensures.notes c.pass.ensures c.begin_tick.ensures.up c.begin_tick.ensures.begins in
    all.note

pub sample_at-sample-requires-clause-lasts : goal.sample_at-sample-requires-clause-lasts
sample_at-sample-requires-clause-lasts c =
    let ticks : c.shape.result.now.tick ≡ (scenario_of_run c.args.self.now.cursor.core).shape.tick =
    ap (λ (s : Shape). s.tick) (c.shape.ensures.same ∙ ap (λ (s : Scenario). s.shape) (c.scenario.ensures ∙ sym c.requires.of)) in
    let all = ticked c.entries-entries.result.now c.args.history.now.entries c.shape.result.now.tick c.args.history.now.scenario c.args.self.now c.go_through.new.self c.begin_tick.new.self c.pass.new.self
    c.entries-entries.ensures.same ticks c.requires.of c.requires.at c.requires.finished c.requires.few c.go_through.ensures.up c.go_through.ensures.notes c.pass.ensures c.begin_tick.ensures.up c.begin_tick.ensures.begins in
    all.lasts

pub sample_at-sample-requires-clause-changes : goal.sample_at-sample-requires-clause-changes
sample_at-sample-requires-clause-changes c =
    let ready = c.requires.at.ready in
    changes_is c.args.history.now.scenario (order_of_run c.args.self.now.cursor.core) c.args.history.now.entries (subst IsScenario c.requires.of ready.valid)
    (subst (λ (s : Scenario). IsLegal s (order_of_run c.args.self.now.cursor.core) c.args.history.now.entries) c.requires.of ready.legal)

pub sample_at-sample-requires-clause-sums : goal.sample_at-sample-requires-clause-sums
sample_at-sample-requires-clause-sums c =
    let ticks : c.shape.result.now.tick ≡ (scenario_of_run c.args.self.now.cursor.core).shape.tick =
    ap (λ (s : Shape). s.tick) (c.shape.ensures.same ∙ ap (λ (s : Scenario). s.shape) (c.scenario.ensures ∙ sym c.requires.of)) in
    let all = ticked c.entries-entries.result.now c.args.history.now.entries c.shape.result.now.tick c.args.history.now.scenario c.args.self.now c.go_through.new.self c.begin_tick.new.self c.pass.new.self
    c.entries-entries.ensures.same ticks c.requires.of c.requires.at c.requires.finished c.requires.few c.go_through.ensures.up c.go_through.ensures.notes c.pass.ensures c.begin_tick.ensures.up c.begin_tick.ensures.begins in
    subst (AreOfWindow c.args.history.now.scenario c.args.history.now.entries c.begin_tick.new.self.tick) (sym c.resize.ensures) all.sums

pub returns-clause-at : goal.returns-clause-at
returns-clause-at c =
    let ticks : c.shape.result.now.tick ≡ (scenario_of_run c.args.self.now.cursor.core).shape.tick =
    ap (λ (s : Shape). s.tick) (c.shape.ensures.same ∙ ap (λ (s : Scenario). s.shape) (c.scenario.ensures ∙ sym c.requires.of)) in
    let all = ticked c.entries-entries.result.now c.args.history.now.entries c.shape.result.now.tick c.args.history.now.scenario c.args.self.now c.go_through.new.self c.begin_tick.new.self c.pass.new.self
    c.entries-entries.ensures.same ticks c.requires.of c.requires.at c.requires.finished c.requires.few c.go_through.ensures.up c.go_through.ensures.notes c.pass.ensures c.begin_tick.ensures.up c.begin_tick.ensures.begins in
    let sums : c.go_on.new.self ≡ later_by (resized_by c.go_through.new.self.note.window c.begin_tick.new.self.cursor.sums) = c.go_on.ensures ∙ ap later_by c.resize.ensures in
    subst (λ (s : Sums). IsAtTickBegin c.args.history.now.entries (one_on c.begin_tick.new.self s)) (sym sums) all.next
