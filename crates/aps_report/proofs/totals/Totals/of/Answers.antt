use Rattle.std.proofs.Common.{◌≡◌, ◌+◌, [], ◌∷◌, ◌++◌, sym, ap, ◌∙◌, take, arith}
use Rattle.aps_model.specs.declared.entry.Entry.{Entry}
use Rattle.std.proofs.lemmas.List.{take_more}
use Rattle.aps_report.proofs.Sums.{sums_none, sums_more, sums-HaveRoom}
use Rattle.aps_report.proofs.totals.Totals.of.Goals as goal

pub loop-e-init : goal.loop-e-init
loop-e-init c = rw c.in_ok-totals.ensures sums_none

pub add-requires-clause-room : goal.add-requires-clause-room
add-requires-clause-room c = sums-HaveRoom c.args.entries.now c.loop-e.e-index c.loop-e.totals c.requires (omega arith) c.loop-e.invariant

pub loop-e-preserved : goal.loop-e-preserved
loop-e-preserved c =
    let more = sums_more _ c.e-item.result c.loop-e.totals c.add.ensures.places c.loop-e.invariant in
    let here : take (c.loop-e.e-index + 1) c.args.entries.now ≡ take c.loop-e.e-index c.args.entries.now ++ c.e-item.result ∷ [] = take_more _ _ c.e-item.result c.loop-e-test.true ∙ ap (λ (e : Entry). take c.loop-e.e-index c.args.entries.now ++ e ∷ []) (sym c.e-item.is) in
    rw (here, c.add.ensures.sums) more
