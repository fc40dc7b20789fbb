use Rattle.view_pictures.proofs.Surveyed.{none_surveyed}
use Rattle.view_pictures.proofs.survey.survey_of.Goals as goal

pub pass-requires-clause-none : goal.pass-requires-clause-none
pass-requires-clause-none c =
    none_surveyed c.args.history.now.scenario c.args.history.now.entries c.args.sizes c.args.range.from c.none-survey.result
    c.none-survey.ensures.unchanged c.none-survey.ensures.partial c.none-survey.ensures.found
