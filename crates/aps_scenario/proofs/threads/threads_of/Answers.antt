use Rattle.std.proofs.Common.{length, ap, arith, length-append}
use Rattle.std.proofs.lemmas.Result.{err_from_is_err_and}
use Rattle.aps_scenario.specs.Threads.{next_thread, threads_with_new}
use Rattle.aps_scenario.proofs.Elements.{read_each-next, read_each-fails, read_each-ends}
use Rattle.aps_scenario.proofs.threads.threads_of.Goals as goal

pub returns-in_err-thread : goal.returns-in_err-thread
returns-in_err-thread c =
    let p = err_from_is_err_and c.from_residual.result c.from_residual.ensures.1 in
    rw (p.1, p.2) (read_each-fails (next_thread c.args.partitions.now c.args.channels.now c.args.joinable.now) threads_with_new c.loop-value.threads.items c.args.array.now.items c.loop-value.value-index _
    c.deref-value-items.result.now c.value-item.result c.in_err-thread.field-0.0
    (record { items_are = c.deref-value-items.ensures.value; within = c.loop-value-test.true; here = c.value-item.is; before = c.loop-value.invariant.goes_on })
    (rw c.deref.ensures.value at c.in_err-thread.ensures))

pub loop-value-preserved : goal.loop-value-preserved
loop-value-preserved c = record {
  goes_on = rw c.in_ok-push.ensures.items (read_each-next (next_thread c.args.partitions.now c.args.channels.now c.args.joinable.now) threads_with_new c.loop-value.threads.items c.args.array.now.items c.loop-value.value-index _
      c.deref-value-items.result.now c.value-item.result c.in_ok-thread.thread
      (record { items_are = c.deref-value-items.ensures.value; within = c.loop-value-test.true; here = c.value-item.is; before = c.loop-value.invariant.goes_on })
      (rw c.deref.ensures.value at c.in_ok-thread.ensures));
  count = rw c.in_ok-push.ensures.items (simp length-append (omega arith));
}

pub returns : goal.returns
returns c =
    let same = ap length c.deref-value-items.ensures.value in
    read_each-ends (next_thread c.args.partitions.now c.args.channels.now c.args.joinable.now) threads_with_new c.loop-value.threads.items c.args.array.now.items _ _ (omega arith) c.loop-value.invariant.goes_on
