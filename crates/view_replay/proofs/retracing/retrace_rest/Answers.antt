use Rattle.std.proofs.Common.{◌∙◌, List, ap, arith, sym}
use Rattle.std.proofs.lemmas.List.{take_all}
use Rattle.aps_model.specs.declared.entry.Entry.{Entry}
use Rattle.aps_core.specs.Run.{Run}
use Rattle.view_replay.proofs.Retraced.{front_more, next_taken}
use Rattle.view_replay.proofs.retracing.retrace_rest.Goals as goal

pub loop-i-init : goal.loop-i-init
loop-i-init c =
    let whole : List Entry → Run = λ es. record { setup = c.args.core.now.setup; entries = es } in
    record { core = ap whole c.requires.done; place = c.requires.place }

pub retrace-requires : goal.retrace-requires
retrace-requires c =
    next_taken c.args.core.now.setup c.args.entries.now c.loop-i.i c.index-entries-i.result c.loop-i.core c.loop-i.invariant.core c.requires.legal c.loop-i-test.true (sym c.index-entries-i.is) c.requires.few

pub loop-i-preserved : goal.loop-i-preserved
loop-i-preserved c =
    let less = c.loop-i-test.true in
    record {
      core = front_more c.args.core.now.setup c.args.entries.now c.loop-i.i c.index-entries-i.result c.loop-i.core c.retrace.new.core c.loop-i.invariant.core less (sym c.index-entries-i.is) c.retrace.ensures;
      place = omega (arith, less);
    }

pub returns : goal.returns
returns c =
    let whole : List Entry → Run = λ es. record { setup = c.args.core.now.setup; entries = es } in
    c.loop-i.invariant.core ∙ ap whole (take_all c.loop-i.i c.args.entries.now (omega arith))
