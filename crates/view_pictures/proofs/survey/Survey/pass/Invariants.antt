use Rattle.std.proofs.Common.{◌≡◌, ◌-◌}
use Rattle.view_replay.specs.Retraced.{scenario_of_run}
use Rattle.view_samples.specs.Pass.{IsAtTickBegin}
use Rattle.view_pictures.specs.Survey.{IsSurvey}
use Rattle.view_pictures.proofs.survey.Survey.pass.Given as goal

-- the pass has come so far
abbrev pub invariant-skip : goal.invariant-skip
invariant-skip l = record {
  at : IsAtTickBegin l.history.entries l.samples;
  of : scenario_of_run l.samples.cursor.core ≡ l.history.scenario;
  tick : l.samples.tick ≡ l.j;
}

-- and the survey tells of the ticks so far that are shown
abbrev pub invariant-take : goal.invariant-take
invariant-take l = record {
  at : IsAtTickBegin l.history.entries l.samples;
  of : scenario_of_run l.samples.cursor.core ≡ l.history.scenario;
  tick : l.samples.tick ≡ l.j;
  told : IsSurvey l.history.scenario l.history.entries l.sizes l.fn.range.from (l.j - l.fn.range.from) l.self;
}
