use Rattle.std.proofs.Common.{◌≡◌, Some, sym, ap, subst, ◌∙◌}
use Rattle.aps_core.specs.Turn.{IsTurnTaken}
use Rattle.aps_check.proofs.FollowedLines.{step_in_time}
use Rattle.aps_check.proofs.following.step_named.Goals as goal

pub returns-in-Took : goal.returns-in-Took
returns-in-Took c =
    let run = c.args.core.now in
    let made = c.in-Took.step in
    let own : made.cpu ≡ c.in_ok-cpu.cpu = c.in-Took.ensures.own in
    let taken = subst (λ d. IsTurnTaken run d made) (sym own) c.in-Took.ensures.turn in
    record {
      sound = record { legal = c.history.ensures.legal; no_sooner = c.history.ensures.no_sooner };
      named = sym c.cpu_of_line.ensures ∙ c.in_ok-cpu.was ∙ ap Some (sym own);
      taken = taken;
      goes_on = c.in-Took.ensures.run;
      in_time = step_in_time run made c.history.ensures.valid c.history.ensures.legal taken;
    }
