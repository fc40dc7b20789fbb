use Rattle.std.proofs.Common.{◌≡◌, ◌<◌, ◌∙◌, ℕ, Bool, Some, false, nat_eq, length, arith, sym, ap, refl}
use Rattle.std.proofs.lemmas.Bool.Decides.{nat_tests}
use Rattle.aps_model.specs.After.{stands_at}
use Rattle.aps_model.specs.Due.{last_to}
use Rattle.aps_model.specs.Shape.{horizon}
use Rattle.aps_model.specs.SchedulerState.{SchedulerState}
use Rattle.laws_runs.proofs.MomentLaws.{last_own}
use Rattle.aps_core.proofs.Ranges.{all_range_at}
use Rattle.aps_core.proofs.machine.Machine.is_at_horizon_after.Goals as goal

apart : (a b : ℕ) → (a ≡ b → ⊥) → nat_eq a b ≡ false
apart a b ne = grind (arith, nat_tests)

pub returns-then-last-horizon : goal.returns-then-last-horizon
returns-then-last-horizon c =
    let s = c.args.self.now in
    let e = c.args.last.now in
    let stands : ℕ → Bool = λ d. stands_at (horizon s.shape) (last_to c.args.entries.now d) in
    let here : c.horizon.result ≡ horizon s.shape = c.horizon.ensures.same ∙ ap (λ (t : SchedulerState). horizon t.shape) c.self.view_is in
    let own : last_to c.args.entries.now e.cpu ≡ Some e.to = ap (λ h. last_to h e.cpu) c.requires.last.1 ∙ last_own c.requires.last.0 e e.cpu refl in
    let fails : stands e.cpu ≡ false =
    ap (stands_at (horizon s.shape)) own ∙ apart e.to (horizon s.shape) (λ same. c.if-last-horizon.true (same ∙ sym here)) in
    let inside : e.cpu < s.shape.cpus =
    omega (arith, c.requires.cpu, c.self.invariant.cpus, ap (λ (s : SchedulerState). s.shape.cpus) c.self.view_is, ap (λ (s : SchedulerState). length s.cpus) c.self.view_is) in
    sym (all_range_at stands s.shape.cpus e.cpu inside fails)
