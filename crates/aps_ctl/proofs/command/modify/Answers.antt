use Rattle.std.proofs.Common.{◌≡◌, ◌∙◌, sym, ap, None, Some}
use Rattle.aps_model.specs.declared.command.Answer.TheVariants.{Refused}
use Rattle.aps_model.specs.declared.shape.Shape.{Shape}
use Rattle.aps_model.specs.Command.{Performed, modify_found, refusal_of}
use Rattle.aps_model.specs.Partition.{partition_named}
use Rattle.aps_model.specs.Tree.{modify_refusal, rows_modified}
use Rattle.aps_tree.specs.Tree.{rows_unless_refused}
use Rattle.aps_ctl.proofs.Refused.{cause_of, modify_refused}
use Rattle.aps_ctl.proofs.command.modify.Goals as goal

cause : (c : goal.After-refusal_of) → modify_refusal c.args.tree.now.parts c.args.tree.now.rows c.in-Some.p c.args.budget c.args.critical c.args.max ≡ Some c.in-Err.why
cause c = cause_of _ c.in-Err.why tt (sym c.in-Err.is ∙ c.modify.ensures.answer)

done : (c : goal.After-refusal_of) (shape : Shape) → c.args.tree.now.parts ≡ shape.parts
    → modify_found c.args.tree.now.rows shape c.args.budget c.args.critical c.args.max (partition_named c.args.tree.now.rows c.args.partition)
    ≡ record { answer = Refused (refusal_of c.in-Err.why); rows = c.args.tree.now.rows; shape = shape; mark = None; change = None }
done c shape same =
    modify_refused c.args.tree.now.rows c.args.tree.now.parts shape c.args.partition c.in-Some.p c.args.budget c.args.critical c.args.max c.in-Err.why
    (sym c.lookup.ensures.same ∙ c.in-Some.is) same (cause c)

pub returns-in-Err-clause-answer : goal.returns-in-Err-clause-answer
returns-in-Err-clause-answer c shape same = ap Refused c.refusal_of.ensures ∙ ap (λ (p : Performed). p.answer) (sym (done c shape same))

pub returns-in-Err-clause-rows : goal.returns-in-Err-clause-rows
returns-in-Err-clause-rows c shape same =
    let rows = c.args.tree.now.rows in
    c.modify.ensures.rows
    ∙ ap (λ why. rows_unless_refused why rows (rows_modified rows c.in-Some.p c.args.budget c.args.critical c.args.max)) (cause c)
    ∙ ap (λ (p : Performed). p.rows) (sym (done c shape same))
