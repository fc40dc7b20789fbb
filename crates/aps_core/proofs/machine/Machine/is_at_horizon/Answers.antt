use Rattle.std.proofs.Common.{◌≡◌, ◌∙◌, ◌<◌, ℕ, Bool, true, false, ◌&&◌, arith, sym, ap}
use Rattle.aps_model.specs.After.{stands_at}
use Rattle.aps_model.specs.Due.{last_to}
use Rattle.aps_model.specs.Shape.{horizon}
use Rattle.aps_model.specs.SchedulerState.{SchedulerState}
use Rattle.aps_core.proofs.Ranges.{all_range_at, all_range_more}
use Rattle.aps_core.proofs.machine.Machine.is_at_horizon.Goals as goal

pub returns-then-not-stands_at : goal.returns-then-not-stands_at
returns-then-not-stands_at c =
    let stands : ℕ → Bool = λ d. stands_at (horizon c.args.self.now.shape) (last_to c.args.entries.now d) in
    let fails : stands c.loop-c.c ≡ false =
    ap (λ d. stands_at (horizon c.args.self.now.shape) (last_to c.args.entries.now d)) (sym c.at.ensures)
    ∙ ap (stands_at (horizon c.args.self.now.shape)) (sym c.last_to.ensures.same)
    ∙ ap (λ h. stands_at h c.last_to.result) (sym c.horizon-horizon.ensures.same)
    ∙ sym c.stands_at.ensures ∙ c.if-not-stands_at.true in
    let inside : c.loop-c.c < c.args.self.now.shape.cpus =
    omega (arith, c.loop-c-test.true, c.len-c-end.ensures, c.self.invariant.cpus, ap (λ (s : SchedulerState). s.shape.cpus) c.self.view_is) in
    sym (all_range_at stands c.args.self.now.shape.cpus c.loop-c.c inside fails)

pub loop-c-preserved : goal.loop-c-preserved
loop-c-preserved c =
    let stands : ℕ → Bool = λ d. stands_at c.horizon-horizon.result (last_to c.args.entries.now d) in
    let holds : stands c.loop-c.c ≡ true =
    ap stands (sym c.at.ensures) ∙ ap (stands_at c.horizon-horizon.result) (sym c.last_to.ensures.same) ∙ sym c.stands_at.ensures ∙ c.if-not-stands_at.false in
    all_range_more stands c.loop-c.c ∙ ap (λ b. b && stands c.loop-c.c) c.loop-c.invariant ∙ holds
