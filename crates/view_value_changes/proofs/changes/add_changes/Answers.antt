use Rattle.std.proofs.Common.{arith}
use Rattle.view_texts.proofs.Texts.{tick_more}
use Rattle.view_texts.proofs.Pieces.{as_other}
use Rattle.view_value_changes.specs.declared.value.Value.{Value}
use Rattle.view_value_changes.specs.Changes.{change_at, change_line, value_at}
use Rattle.view_value_changes.proofs.Alike.{read_before, read_now}
use Rattle.view_value_changes.proofs.changes.add_changes.Goals as goal

pub loop-signal-preserved : goal.loop-signal-preserved
loop-signal-preserved c =
    let threads = c.args.threads.now in
    let rows = c.args.rows.now in
    let before = c.args.before.now in
    let now = c.args.now.now in
    let k = c.loop-signal.signal in
    let was = read_before before now k _ c.loop-signal-test.true c.min-signal-end.ensures _ c.index-before-signal.is in
    let is = read_now before now k _ c.loop-signal-test.true c.min-signal-end.ensures _ c.index-now-signal.is in
    tick_more (change_at threads rows before now) _ _ _ 0 k k (omega arith) c.loop-signal.invariant
    (as_other (change_line threads rows k (value_at before k)) _ _ _ _
    (as_other (λ (v : Value). change_line threads rows k v c.index-now-signal.result) _ _ _ _ c.in_ok-add_change.ensures was) is)
