use Rattle.std.proofs.Common.{◌≡◌, ◌<◌, ◌∙◌, ap, arith, length, refl, sym}
use Rattle.aps_model.specs.Due.{due}
use Rattle.aps_model.specs.SchedulerState.{SchedulerState}
use Rattle.aps_core.proofs.FirstDue.{first_sooner, first_stays}
use Rattle.aps_core.proofs.machine.Machine.first_due.Goals as goal
use Rattle.aps_core.proofs.machine.Machine.first_due.Goals.{then-due-least, else-due-least}

some : (c : goal.After-at-least) → 0 < length c.args.self.now.cpus
some c =
    let one = c.self.invariant.shape.some_cpu in
    omega (arith, one, c.self.invariant.cpus, ap (λ (s : SchedulerState). length s.cpus) c.self.view_is)

pub loop-c-init : goal.loop-c-init
loop-c-init c =
    let s = c.args.self.now in
    let h = c.args.entries.now in
    let least : c.at-least.result ≡ due s h 0 = c.at-least.ensures ∙ c.requires.dues 0 (some c) in
    record {
      same = first_stays s h 0 0 c.at-least.result 0 c.at-least.result refl least refl least (omega arith);
      within = some c;
      least = least;
    }

pub loop-c-preserved : goal.loop-c-preserved
loop-c-preserved c =
    let s = c.args.self.now in
    let h = c.args.entries.now in
    let l = c.loop-c in
    let inside : l.c < length s.cpus = omega (arith, c.loop-c-test.true, c.len-count.ensures, ap (λ (s : SchedulerState). length s.cpus) c.self.view_is) in
    let at : c.at-due.result ≡ due s h l.c = c.at-due.ensures ∙ c.requires.dues l.c inside in
    elim c.if-due-least.branch [
      | then-due-least w ↦ record {
        same = w.first-is ∙ first_sooner s h l.c l.first l.least l.c c.at-due.result l.invariant.same l.invariant.least refl at w.if-due-least.true;
        within = omega (arith, w.first-is, inside);
        least = w.least-is ∙ at ∙ ap (due s h) (sym w.first-is);
      }
      | else-due-least w ↦ record {
        same = w.first-is ∙ first_stays s h l.c l.first l.least l.c c.at-due.result l.invariant.same l.invariant.least refl at w.if-due-least.false;
        within = omega (arith, w.first-is, l.invariant.within);
        least = w.least-is ∙ l.invariant.least ∙ ap (due s h) (sym w.first-is);
      }
    ]
