use Rattle.std.proofs.Common.{◌≡◌, ◌∙◌, ℕ, length, get_or, List, Option, Some, None, ap, sym, arith}
use Rattle.aps_model.specs.TickWork.{insert_sleeper}
use Rattle.aps_timer.specs.Sleepers.{due_by}
use Rattle.aps_timer.proofs.Due.{due_later, due_now}
use Rattle.aps_timer.proofs.Gathered.{gathered_few}
use Rattle.aps_timer.proofs.Turns.{gathered_more, with_sleeper}
use Rattle.aps_timer.proofs.lines.add_due.Goals as goal

-- who of the row is due by now
abbrev due_in : List (Option ℕ) → ℕ → ℕ → Option (ℕ × ℕ)
due_in row now y = due_by now y (get_or row y None)

pub insert-requires : goal.insert-requires
insert-requires c = omega (arith, ap length c.requires, gathered_few (due_in c.args.row.now c.args.now) c.args.x)

pub returns-then-until-now : goal.returns-then-until-now
returns-then-until-now c =
    let row = c.args.row.now in
    let now = c.args.now in
    let x = c.args.x in
    let this : due_in row now x ≡ Some (c.in-Some.until, x) =
    ap (due_by now x) (sym c.moment_of.ensures ∙ c.in-Some.is) ∙ due_now now x c.in-Some.until c.if-until-now.true in
    c.insert.ensures ∙ ap (insert_sleeper (c.in-Some.until, x)) c.requires
    ∙ sym (gathered_more (due_in row now) x ∙ ap (with_sleeper _) this)

pub returns-else-until-now : goal.returns-else-until-now
returns-else-until-now c =
    let row = c.args.row.now in
    let now = c.args.now in
    let x = c.args.x in
    let this : due_in row now x ≡ None =
    ap (due_by now x) (sym c.moment_of.ensures ∙ c.in-Some.is) ∙ due_later now x c.in-Some.until c.if-until-now.false in
    c.requires ∙ sym (gathered_more (due_in row now) x ∙ ap (with_sleeper _) this)

pub returns-in_default : goal.returns-in_default
returns-in_default c =
    let row = c.args.row.now in
    let now = c.args.now in
    let x = c.args.x in
    let this : due_in row now x ≡ None = ap (due_by now x) (sym c.moment_of.ensures ∙ c.in_default.is) in
    c.requires ∙ sym (gathered_more (due_in row now) x ∙ ap (with_sleeper _) this)
