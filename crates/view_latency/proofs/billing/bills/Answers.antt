use Rattle.std.proofs.Common.{◌≡◌, ◌+◌, ◌*◌, ◌∷◌, ◌++◌, [], ◌∙◌, take, ap, sym, subst, arith}
use Rattle.std.proofs.lemmas.List.{take_more, take_all}
use Rattle.aps_model.specs.declared.entry.Entry.{Entry}
use Rattle.aps_model.specs.History.{IsEntry}
use Rattle.aps_model.specs.Limits.{longest_tick}
use Rattle.view_latency.specs.Bills.{AreBills}
use Rattle.view_latency.proofs.Billed.{at_most_more, bills_more, bills_none, small_more, small_none}
use Rattle.view_latency.proofs.billing.bills.Goals as goal

pub loop-e-init : goal.loop-e-init
loop-e-init c = record {
  sums = bills_none c.in_ok-bills.bills.items c.in_ok-bills.ensures;
  small = small_none c.in_ok-bills.bills.items c.in_ok-bills.ensures;
}

pub add-requires-clause-room : goal.add-requires-clause-room
add-requires-clause-room c = record {
  count = c.loop-e.invariant.sums.count;
  each = λ x less. at_most_more (c.loop-e.e-index * longest_tick) _ _ (omega arith) (c.loop-e.invariant.small x less);
}

pub loop-e-preserved : goal.loop-e-preserved
loop-e-preserved c =
    let h = c.args.entries.now in
    let i = c.loop-e.e-index in
    let e = c.e-item.result in
    let before = c.loop-e.bills.items in
    let after = c.add.new.bills.items in
    let next : take (i + 1) h ≡ take i h ++ e ∷ [] = take_more h i e c.loop-e-test.true ∙ ap (λ (d : Entry). take i h ++ d ∷ []) (sym c.e-item.is) in
    let entry : IsEntry e = subst IsEntry (sym c.e-item.is) (c.requires.entries i e c.loop-e-test.true) in
    record {
      sums = subst (λ g. AreBills g after) (sym next) (bills_more (take i h) e before after c.loop-e.invariant.sums c.add.ensures);
      small = small_more i e before after entry.short c.add.ensures c.loop-e.invariant.small;
    }

pub returns : goal.returns
returns c = subst (λ g. AreBills g c.loop-e.bills.items) (take_all c.loop-e.e-index c.args.entries.now (omega arith)) c.loop-e.invariant.sums
