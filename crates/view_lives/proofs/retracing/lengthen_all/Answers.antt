use Rattle.std.proofs.Common.{ℕ, ◌∙◌, List, take, ap, sym, subst, refl}
use Rattle.laws_runs.specs.Moments.{moment}
use Rattle.aps_model.specs.declared.entry.Entry.{Entry}
use Rattle.aps_core.specs.Run.{Run, Setup, state_of_run}
use Rattle.view_replay.specs.Retraced.{front}
use Rattle.view_replay.proofs.Retraced.{front_more, next_taken, one_more}
use Rattle.view_lives.specs.Life.{AreLives, AreLonger}
use Rattle.view_lives.proofs.Longer.{lives_more, lives_none, moment_more}
use Rattle.view_lives.proofs.retracing.lengthen_all.Goals as goal

pub loop-e-init : goal.loop-e-init
loop-e-init c =
    let begun : List Entry → Run = λ entries. record { setup = c.args.core.now.setup; entries = entries } in
    record {
      core = ap begun c.requires.begun;
      lives = lives_none c.args.core.now.setup.scenario c.args.lives.now c.requires.unborn;
      moment = refl;
    }

pub retrace-requires : goal.retrace-requires
retrace-requires c =
    next_taken c.args.core.now.setup c.args.entries.now c.loop-e.e-index c.e-item.result c.loop-e.core c.loop-e.invariant.core c.requires.legal c.loop-e-test.true (sym c.e-item.is) c.requires.room

pub loop-e-preserved : goal.loop-e-preserved
loop-e-preserved c =
    let setup : Setup = c.args.core.now.setup in
    let h = c.args.entries.now in
    let i = c.loop-e.e-index in
    let e = c.e-item.result in
    let here = take i h in
    let before = c.loop-e.lives in
    let after = c.lengthen.new.self in
    let next = one_more h i e c.loop-e-test.true (sym c.e-item.is) in
    let Longer : Run → ℕ → Type 0 = λ run m. AreLonger (state_of_run run) m e.to before after in
    let longer : Longer (front setup h i) (moment here) =
    subst (Longer (front setup h i)) c.loop-e.invariant.moment (subst (λ (run : Run). Longer run c.loop-e.moment) c.loop-e.invariant.core c.in_ok-lengthen.ensures) in
    record {
      core = front_more setup h i e c.loop-e.core c.retrace.new.core c.loop-e.invariant.core c.loop-e-test.true (sym c.e-item.is) c.retrace.ensures;
      lives = subst (λ g. AreLives setup.scenario g after) (sym next) (lives_more setup.scenario here e before after c.loop-e.invariant.lives longer);
      moment = sym (ap moment next ∙ moment_more here e);
    }
