use Rattle.std.proofs.Common.{◌≡◌, ap, rules, sym, subst}
use Rattle.aps_core.specs.Run.{Run, Setup, rooms_of}
use Rattle.laws_runs.proofs.FixedRun.{run_is_one}
use Rattle.aps_model.specs.declared.entry.Order.TheVariants.{Fixed}
use Rattle.aps_model.specs.Legal.{IsLegal, fixed_run}
use Rattle.aps_model.specs.Bound.{KeepsWindowBound, KeepsCriticalBound}
use Rattle.aps_model.specs.Tiled.{IsTiled, IsBilledAsInherited}
use Rattle.aps_model.specs.History.{History}
use Rattle.laws_runs.specs.Choices.{EachPickIsGreatest}
use Rattle.laws_bounds.specs.Excess.{KeepsExcess}
use Rattle.laws_load.specs.OwnShare.{KeepsOwnShare}
use Rattle.laws_load.specs.Passing.{NeverPassesOver}
use Rattle.laws_bounds.proofs.Below.{excess}
use Rattle.laws_load.proofs.Moments.{never_passed}
use Rattle.laws_load.proofs.OwnShares.{own_share}
use Rattle.aps_top.specs.PrintedBound.{HasSmallExcess}
use Rattle.aps_top.proofs.PrintedBound.{small_excess, worst_windows}
use Rattle.aps_top.proofs.run.run_to_end.Goals as goal

pub returns-clause-run : goal.returns-clause-run
returns-clause-run c =
    let known = c.into_history.ensures in
    let run : Run = c.finish-end.new.self in
    let setup : run.setup ≡ c.args.core.setup = ap (λ (r : Run). r.setup) c.finish-end.ensures.run in
    let one : run.setup.order ≡ Fixed → run.entries ≡ fixed_run run.setup.scenario run.setup.limit = λ is. run_is_one run.setup.scenario run.setup.limit run.entries known.valid record {
      legal = subst (λ o. IsLegal run.setup.scenario o run.entries) is known.legal;
      ended = search rules;
      no_sooner = known.no_sooner;
    } in
    record {
      fixed = subst (λ (x : Setup × History). x.0.order ≡ Fixed → x.1.entries ≡ fixed_run x.1.scenario x.0.limit) (λ i. (setup i, sym known.same i)) one;
      kept = search rules;
      ended = search rules;
      no_sooner = search rules;
      legal = search rules;
      tiled = subst (λ (h : History). IsTiled h.scenario.shape.tick h.entries) (sym known.same) known.tiled;
      billed = subst (λ (h : History). IsBilledAsInherited h.scenario h.entries) (sym known.same) known.billed;
      picks = subst (λ (h : History). EachPickIsGreatest h.scenario h.entries) (sym known.same) known.picks;
      bound = subst (λ (h : History). KeepsWindowBound h.scenario h.entries) (sym known.same) known.bound;
      critical_bound = subst (λ (h : History). KeepsCriticalBound h.scenario h.entries) (sym known.same) known.critical_bound;
      worst = worst_windows c.into_history.result;
      small = subst HasSmallExcess (sym known.same)
          (small_excess run.setup.scenario run.setup.order run.entries run.setup.limit (rooms_of run.setup) known.valid known.legal);
      excess = subst (λ (h : History). KeepsExcess h.scenario h.entries) (sym known.same)
          (excess run.setup.scenario run.setup.order run.entries known.valid known.legal);
      own_share = subst (λ (h : History). KeepsOwnShare h.scenario h.entries) (sym known.same)
          (own_share run.setup.scenario run.setup.order run.entries known.valid known.legal);
      moments = subst (λ (h : History). NeverPassesOver h.scenario h.entries) (sym known.same)
          (never_passed run.setup.scenario run.setup.order run.entries known.valid known.legal);
    }
