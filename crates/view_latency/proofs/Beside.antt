-- The lives and the calls beside a core that makes one step more.
use Rattle.std.proofs.Common.{◌≡◌, ◌∙◌, List, sym, subst, arith}
use Rattle.aps_model.specs.declared.entry.Entry.{Entry}
use Rattle.aps_model.specs.declared.entry.Order.{Order}
use Rattle.aps_model.specs.After.{state_after}
use Rattle.aps_model.specs.Legal.{IsLegal}
use Rattle.aps_model.specs.Scenario.{Scenario}
use Rattle.aps_model.specs.Valid.{IsScenario}
use Rattle.laws_runs.proofs.Counts.{counts_law}
use Rattle.laws_runs.proofs.ThreadFit.{fits_law}
use Rattle.aps_core.specs.Run.{Run, state_of_run}
use Rattle.aps_core.specs.Turn.{with_entry}
use Rattle.view_lives.specs.Life.{AreLonger as LivesLonger}
use Rattle.view_lives.proofs.Longer.{lives_more, moment_more}
use Rattle.view_latency.specs.declared.following.Following.{Following}
use Rattle.view_latency.specs.Calls.{AreLongerCalls}
use Rattle.view_latency.specs.Following.{IsBeside}
use Rattle.view_latency.specs.Seen.{AreSeen, HasFits}
use Rattle.view_latency.proofs.CallsLonger.{all_more}

-- each thread stands as its program has it
pub has_fits : (scenario : Scenario) (order : Order) (h : List Entry) → IsScenario scenario → IsLegal scenario order h → HasFits scenario (state_after scenario h)
has_fits scenario order h valid legal =
    let all = (counts_law scenario order h valid legal).threads in
    λ x less. (fits_law scenario order h valid legal x (omega (arith, less, all))).0

-- all go on with the entry
pub beside_more : (run later : Run) (e : Entry) (before after : Following) → IsBeside run before → later ≡ with_entry run e
    → LivesLonger (state_of_run run) before.moment e.to before.lives after.lives
    → AreLongerCalls run.setup.scenario (state_of_run run) e before.calls.items after.calls.items
    → after.callers ≡ before.callers → AreSeen (state_of_run later) before.callers.items after.seen.items → after.moment ≡ e.to → IsBeside later after
beside_more run later e before after are goes_on lives calls callers seen moment_is =
    let scenario = run.setup.scenario in
    let h = run.entries in
    let next : IsBeside (with_entry run e) after = record {
      lives = lives_more scenario h e before.lives after.lives are.lives
          (subst (λ m. LivesLonger (state_of_run run) m e.to before.lives after.lives) are.moment lives);
      calls = all_more scenario h e before.calls.items after.calls.items are.calls calls;
      callers = rw callers are.callers;
      seen = rw callers (subst (λ (r : Run). AreSeen (state_of_run r) before.callers.items after.seen.items) goes_on seen);
      moment = moment_is ∙ sym (moment_more h e);
    } in
    subst (λ (r : Run). IsBeside r after) (sym goes_on) next
