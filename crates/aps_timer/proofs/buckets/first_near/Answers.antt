use Rattle.std.proofs.Common.{◌≤◌, ℕ, Some, ap, subst, arith}
use Rattle.aps_timer.specs.Lines.{IsOfLine}
use Rattle.aps_timer.proofs.Kept.{IsFirstIn, first_of_near, near_on, not_earlier}
use Rattle.aps_timer.proofs.buckets.first_near.Goals as goal

pub returns-in-Some-clause-others : goal.returns-in-Some-clause-others
returns-in-Some-clause-others c x until few asleep at came =
    let row = c.args.row.now in
    let lines = c.args.lines.now in
    let begin = c.args.begin in
    first_of_near row lines begin c.loop-bucket.bucket c.in-Some.first c.requires.near c.loop-bucket.invariant (omega arith)
    (subst (λ (line : ℕ). IsOfLine row lines line c.in-Some.first) c.line_of.ensures c.in-Some.ensures.one)
    (subst (λ (line : ℕ). IsFirstIn row lines begin line (Some c.in-Some.first)) c.line_of.ensures c.in-Some.ensures.others) x until few asleep at

pub returns-in-Some-clause-still : goal.returns-in-Some-clause-still
returns-in-Some-clause-still c x until few asleep at =
    let moment = ap (λ (s : ℕ × ℕ). s.0) c.first.view_is in
    let row = c.args.row.now in
    let lines = c.args.lines.now in
    let begin = c.args.begin in
    let after : c.in-Some.first.0 ≤ until =
    not_earlier x until c.in-Some.first
    (first_of_near row lines begin c.loop-bucket.bucket c.in-Some.first c.requires.near c.loop-bucket.invariant (omega arith)
    (subst (λ (line : ℕ). IsOfLine row lines line c.in-Some.first) c.line_of.ensures c.in-Some.ensures.one)
    (subst (λ (line : ℕ). IsFirstIn row lines begin line (Some c.in-Some.first)) c.line_of.ensures c.in-Some.ensures.others) x until few asleep at) in
    near_on c.args.lines.now c.args.begin c.max.result x until at (omega arith) (omega (arith, moment, after, at.from))
