use Rattle.std.proofs.Common.{codes, Option, Ok, Err, subst, sym, ◌∙◌}
use Rattle.aps_words.specs.Command.{WordsMean}
use Rattle.aps_words.proofs.Reading.{meant_unhyphened, refusal_says}
use Rattle.view_words.specs.declared.asked.Asked.{Asked}
use Rattle.view_words.specs.Asked.{picture, ticks_options}
use Rattle.view_words.proofs.Meaning.{picture_is_clapped}
use Rattle.view_words.proofs.asked.picture_of.Goals as goal

pub returns-in-Ok-clause-same : goal.returns-in-Ok-clause-same
returns-in-Ok-clause-same c =
    let e = c.in-Ok.ensures in
    let read = meant_unhyphened (codes "apsview") ticks_options (picture c.args.picture) (picture_is_clapped c.args.picture) _ c.args.words.now (Ok c.in-Ok.matches)
    c.in_ok-ticks_options.ensures c.requires.plain e.taken e.rows e.refused in
    subst (λ (said : Option Asked). WordsMean c.said.result said) (c.picture_from.ensures.same ∙ sym read) c.said.ensures.same

pub returns-in-Err-clause-same : goal.returns-in-Err-clause-same
returns-in-Err-clause-same c =
    let e = c.in-Err.ensures in
    refusal_says (picture c.args.picture) _ _ (meant_unhyphened (codes "apsview") ticks_options (picture c.args.picture) (picture_is_clapped c.args.picture) _ c.args.words.now (Err c.in-Err.refusal)
    c.in_ok-ticks_options.ensures c.requires.plain e.taken e.rows e.refused)
