use Rattle.std.proofs.Common.{◌≤◌, ◌∙◌, ap, subst, sym}
use Rattle.aps_model.specs.Limits.{most_entries}
use Rattle.laws_runs.proofs.Turns.{any_turn}
use Rattle.aps_core.specs.Run.{Run, Setup, state_of_run}
use Rattle.view_shares.proofs.running.spend_run.Goals as goal

pub loop-alloc-init : goal.loop-alloc-init
loop-alloc-init c = record { at = c.in_ok-pass.ensures.at; setup = ap (λ (r : Run). r.setup) c.in_ok-pass.ensures.core }

pub loop-alloc-preserved : goal.loop-alloc-preserved
loop-alloc-preserved c = record {
  at = c.in_ok-_overspent.ensures.at;
  setup = ap (λ (r : Run). r.setup) c.in_ok-_overspent.ensures.core ∙ c.loop-alloc.invariant.setup;
}

pub go_on-requires-clause-turn : goal.go_on-requires-clause-turn
go_on-requires-clause-turn c =
    let run = c.loop-alloc.pass.core in
    any_turn run.setup.order (state_of_run run) run.entries c.first_due-first.result c.first_due-first.ensures.lowest

pub go_on-requires-clause-few : goal.go_on-requires-clause-few
go_on-requires-clause-few c = subst (λ (s : Setup). s.limit ≤ most_entries) (sym c.loop-alloc.invariant.setup) c.requires.few
