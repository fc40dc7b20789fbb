use Rattle.std.proofs.Common.{◌∙◌, ◌<◌, ◌+◌, ℕ, refl, sym, arith}
use Rattle.view_replay.specs.Retraced.{order_of_run, scenario_of_run}
use Rattle.view_samples.specs.Pass.{entry_at}
use Rattle.view_samples.proofs.Cuts.{cut_at, is_there}
use Rattle.view_samples.proofs.Steps.{note_opened, past_more}
use Rattle.view_samples.proofs.pass.Samples.begin_tick.Goals as goal

pub returns-then-is_before-clause-begins : goal.returns-then-is_before-clause-begins
returns-then-is_before-clause-begins c = λ j at cut met.
    let h = c.args.entries.now in
    let self = c.args.self.now in
    let i = self.cursor.next in
    let moment = c.args.moment in
    let there = is_there h i (moment + 1) met in
    let opens = c.open.ensures in
    let up = c.go_through.ensures.up in
    let next = opens.next in
    let past : (k : ℕ) → k < i → (entry_at h k).to < moment + 1 = λ k less. let low = cut.past k less in omega (arith, low) in
    let end = up.cut (λ k less. past_more h (moment + 1) i there.1 past k (omega (arith, less, next))) in
    note_opened h j moment self c.open.new.self _ c.requires.ready.valid there.0 at there.1 cut opens up.ready.up.place up.forward end c.go_through.ensures.notes

pub returns-else-is_before-clause-up : goal.returns-else-is_before-clause-up
returns-else-is_before-clause-up c =
    let h = c.args.entries.now in
    let self = c.args.self.now in
    let ready = c.requires.ready in
    record {
      ready = ready;
      tick = refl;
      lasts = refl;
      setup = refl;
      forward = omega arith;
      cut = λ past. cut_at (scenario_of_run self.cursor.core) (order_of_run self.cursor.core) h (c.args.moment + 1) self.cursor.next ready.valid ready.legal ready.up.place (sym c.is_before.ensures ∙ c.if-is_before.false) past;
    }
