use Rattle.std.proofs.Common.{◌≡◌, ◌∙◌, List, [], length, replicate, ap, refl, sym, subst}
use Rattle.aps_model.specs.declared.entry.Entry.{Entry}
use Rattle.aps_model.specs.declared.scenario.ThreadRow.{ThreadRow}
use Rattle.aps_model.specs.History.{History}
use Rattle.aps_model.specs.Scenario.{Scenario}
use Rattle.aps_core.specs.Run.{Run, state_of_run}
use Rattle.view_lives.proofs.Longer.{lives_none}
use Rattle.view_latency.specs.declared.following.Following.{Following}
use Rattle.view_latency.specs.Callers.{AreCallers}
use Rattle.view_latency.specs.Calls.{no_calls}
use Rattle.view_latency.specs.Following.{IsBeside}
use Rattle.view_latency.specs.Seen.{AreSeen}
use Rattle.view_latency.proofs.CallsLonger.{all_none}
use Rattle.view_latency.proofs.following.Following.begin.Goals as goal

pub returns : goal.returns
returns c =
    let run = c.args.core.now in
    let begun : Run = record { setup = run.setup; entries = [] } in
    let whole : List Entry → Run = λ h. record { setup = run.setup; entries = h } in
    let same : c.scenario-scenario.result.now ≡ run.setup.scenario = c.scenario-scenario.ensures ∙ ap (λ (h : History). h.scenario) c.history.ensures.same in
    let count : length c.threads-count.result.now ≡ length run.setup.scenario.threads = ap (λ (rows : List ThreadRow). length rows) (c.threads-count.ensures.same ∙ ap (λ (s : Scenario). s.threads) same) in
    let all : Following = record { lives = c.in_ok-unborn.field-0; calls = c.in_ok-uncalled.field-0; callers = c.in_ok-callers.callers; seen = c.in_ok-seen.seen; moment = 0 } in
    let beside : IsBeside begun all = record {
      lives = lives_none run.setup.scenario c.in_ok-unborn.field-0 (c.in_ok-unborn.ensures ∙ ap (λ n. replicate n []) count);
      calls = all_none run.setup.scenario c.in_ok-uncalled.field-0.items (c.in_ok-uncalled.ensures ∙ ap (λ n. replicate n no_calls) count);
      callers = subst (λ (s : Scenario). AreCallers s c.in_ok-callers.callers.items) same c.in_ok-callers.ensures;
      seen = subst (λ h. AreSeen (state_of_run (whole h)) c.in_ok-callers.callers.items c.in_ok-seen.seen.items) c.requires.begins
          (subst (λ l. AreSeen (state_of_run run) l c.in_ok-seen.seen.items) c.deref.ensures.value c.in_ok-seen.ensures);
      moment = refl;
    } in
    subst (λ h. IsBeside (whole h) all) (sym c.requires.begins) beside
