use Rattle.std.proofs.Common.{length, sym, ap, arith, length-append}
use Rattle.std.proofs.lemmas.Result.{err_from_is_err_and}
use Rattle.aps_scenario.specs.Demands.{next_demand, demands_with_new}
use Rattle.aps_scenario.proofs.Elements.{read_each-next, read_each-stops, read_each-ends}
use Rattle.aps_scenario.proofs.demands.demands_from.Goals as goal

pub returns-in_err-new : goal.returns-in_err-new
returns-in_err-new c =
    let p = err_from_is_err_and c.from_residual.result c.from_residual.ensures.1 in
    rw (p.1, p.2) (read_each-stops next_demand demands_with_new c.loop-value.demands.items c.args.array.now.items c.loop-value.value-index _
    c.deref-value-items.result.now c.value-item.result c.in_err-new.field-0.0
    (record { items_are = c.deref-value-items.ensures.value; within = c.loop-value-test.true; here = c.value-item.is; before = c.loop-value.invariant.goes_on })
    (sym (rw c.deref.ensures.value at c.in_err-new.ensures)))

pub loop-value-preserved : goal.loop-value-preserved
loop-value-preserved c = record {
  goes_on = rw c.in_ok-push.ensures.items (read_each-next next_demand demands_with_new c.loop-value.demands.items c.args.array.now.items c.loop-value.value-index _
      c.deref-value-items.result.now c.value-item.result c.in_ok-new.new
      (record { items_are = c.deref-value-items.ensures.value; within = c.loop-value-test.true; here = c.value-item.is; before = c.loop-value.invariant.goes_on })
      (sym (rw c.deref.ensures.value at c.in_ok-new.ensures)));
  count = rw c.in_ok-push.ensures.items (simp length-append (omega arith));
}

pub returns : goal.returns
returns c =
    let same = ap length c.deref-value-items.ensures.value in
    read_each-ends next_demand demands_with_new c.loop-value.demands.items c.args.array.now.items _ _ (omega arith) c.loop-value.invariant.goes_on
