use Rattle.std.proofs.Common.{codes, Option, Ok, Err, subst, sym, ◌∙◌}
use Rattle.aps_words.specs.declared.command.Command.{Command}
use Rattle.aps_words.specs.Command.{run, run_options, WordsMean}
use Rattle.aps_words.proofs.Meaning.{run_is_read}
use Rattle.aps_words.proofs.Reading.{meant, refusal_says}
use Rattle.aps_words.proofs.command.run_of.Goals as goal

pub returns-in-Ok-clause-same : goal.returns-in-Ok-clause-same
returns-in-Ok-clause-same c =
    let e = c.in-Ok.ensures in
    let read = meant (codes "run") run_options run run_is_read _ c.args.words.now (Ok c.in-Ok.matches)
    c.in_ok-run_options.ensures c.requires.plain e.taken e.rows e.refused in
    subst (λ (said : Option Command). WordsMean c.said.result said) (c.run_from.ensures.same ∙ sym read) c.said.ensures.same

pub returns-in-Err-clause-same : goal.returns-in-Err-clause-same
returns-in-Err-clause-same c =
    let e = c.in-Err.ensures in
    refusal_says run _ _ (meant (codes "run") run_options run run_is_read _ c.args.words.now (Err c.in-Err.refusal)
    c.in_ok-run_options.ensures c.requires.plain e.taken e.rows e.refused)
