use Rattle.std.proofs.Common.{◌≡◌, ◌+◌, ◌∙◌, ◌++◌, ◌∷◌, [], List, take, drop, ap, sym, subst, refl, arith}
use Rattle.std.proofs.lemmas.List.{take-append-drop}
use Rattle.std.proofs.lemmas.List.Elements.{All-get_or}
use Rattle.aps_model.specs.declared.entry.Entry.{Entry}
use Rattle.aps_model.specs.History.{IsEntry}
use Rattle.aps_model.specs.After.{state_after}
use Rattle.aps_model.specs.Legal.{IsLegal}
use Rattle.laws_runs.specs.Moments.{moment}
use Rattle.laws_runs.proofs.Words.{prefix_legal}
use Rattle.aps_core.specs.Run.{Run, state_of_run}
use Rattle.view_lives.proofs.Longer.{moment_more}
use Rattle.view_replay.proofs.Retraced.{front_more, next_taken, one_more}
use Rattle.view_explain.specs.Ties.{Ties, after_ran, ties_of}
use Rattle.view_explain.proofs.Tied.{ties_more}
use Rattle.view_explain.proofs.retracing.go_through.Goals as goal

pub loop-e-init : goal.loop-e-init
loop-e-init c =
    let whole : List Entry → Run = λ es. record { setup = c.args.core.now.setup; entries = es } in
    record { core = ap whole c.requires.begins; tied = c.requires.tied; last = refl; early = omega arith }

pub retrace-requires : goal.retrace-requires
retrace-requires c =
    next_taken c.args.core.now.setup c.args.entries.now c.loop-e.e-index c.e-item.result c.loop-e.core c.loop-e.invariant.core c.requires.legal c.loop-e-test.true (sym c.e-item.is) c.requires.few

pub loop-e-preserved : goal.loop-e-preserved
loop-e-preserved c =
    let setup = c.args.core.now.setup in
    let scenario = setup.scenario in
    let h = c.args.entries.now in
    let i = c.loop-e.e-index in
    let e = c.e-item.result in
    let is = sym c.e-item.is in
    let before = take i h in
    let core = front_more setup h i e c.loop-e.core c.retrace.new.core c.loop-e.invariant.core c.loop-e-test.true is c.retrace.ensures in
    let next = one_more h i e c.loop-e-test.true is in
    let legal : IsLegal scenario setup.order (take (i + 1) h) =
    prefix_legal scenario setup.order (take (i + 1) h) (drop (i + 1) h) (subst (IsLegal scenario setup.order) (sym (take-append-drop (i + 1) h)) c.requires.legal) in
    let more = ties_more scenario setup.order before e c.requires.valid (subst (IsLegal scenario setup.order) next legal) in
    let tied : c.go_on.new.self ≡ ties_of (state_after scenario (before ++ e ∷ [])) =
    c.in_ok-go_on.ensures ∙ ap (λ (run : Run). after_ran run.setup.scenario (state_of_run run) c.loop-e.ties e.ran e.done) c.loop-e.invariant.core
    ∙ ap (λ (ties : Ties). after_ran scenario (state_after scenario before) ties e.ran e.done) (c.loop-e.invariant.tied ∙ ap (λ (run : Run). ties_of (state_of_run run)) c.loop-e.invariant.core)
    ∙ sym more in
    record {
      core = core;
      tied = tied ∙ ap (λ g. ties_of (state_after scenario g)) (sym next) ∙ ap (λ (run : Run). ties_of (state_of_run run)) (sym core);
      last = sym (ap moment next ∙ moment_more before e);
      early = let each = All-get_or IsEntry h i e c.loop-e-test.true c.requires.entries in
          let own : IsEntry e = subst IsEntry is each in omega (arith, own.to);
    }
