use Rattle.std.proofs.Common.{List, ap, arith, rules, sym, ◌∙◌}
use Rattle.aps_model.specs.declared.entry.Entry.{Entry}
use Rattle.aps_core.specs.Run.{Run}
use Rattle.view_replay.proofs.Retraced.{front_more, next_taken}
use Rattle.view_pictures.proofs.UpTo.{all_up_to, met_up_to, more_up_to, none_up_to}
use Rattle.view_pictures.proofs.retracing.retrace_to.Goals as goal

pub loop-e-init : goal.loop-e-init
loop-e-init c =
    let whole : List Entry → Run = λ es. record { setup = c.args.core.now.setup; entries = es } in
    record { made = ap whole c.requires.begins; so_far = none_up_to c.args.moment c.args.entries.now }

pub retrace-requires : goal.retrace-requires
retrace-requires c =
    next_taken c.args.core.now.setup c.args.entries.now c.loop-e.e-index c.e-item.result c.loop-e.core c.loop-e.invariant.made c.requires.legal c.loop-e-test.true (sym c.e-item.is) c.requires.few

pub loop-e-preserved : goal.loop-e-preserved
loop-e-preserved c =
    record {
      made = front_more c.args.core.now.setup c.args.entries.now c.loop-e.e-index c.e-item.result c.loop-e.core c.retrace.new.core c.loop-e.invariant.made c.loop-e-test.true (sym c.e-item.is) c.retrace.ensures;
      so_far = more_up_to c.args.moment c.args.entries.now c.loop-e.e-index c.e-item.result c.loop-e-test.true c.e-item.is (search rules) c.loop-e.invariant.so_far;
    }

pub returns-then-moment-e : goal.returns-then-moment-e
returns-then-moment-e c =
    let setup = c.args.core.now.setup in
    let whole : List Entry → Run = λ es. record { setup = setup; entries = es } in
    front_more setup c.args.entries.now c.loop-e.e-index c.e-item.result c.loop-e.core c.retrace.new.core c.loop-e.invariant.made c.loop-e-test.true (sym c.e-item.is) c.retrace.ensures
    ∙ ap whole (sym (met_up_to c.args.moment c.args.entries.now c.loop-e.e-index c.e-item.result c.loop-e-test.true c.e-item.is (search rules) c.loop-e.invariant.so_far))

pub returns : goal.returns
returns c =
    let whole : List Entry → Run = λ es. record { setup = c.args.core.now.setup; entries = es } in
    c.loop-e.invariant.made ∙ ap whole (sym (all_up_to c.args.moment c.args.entries.now c.loop-e.e-index (omega arith) c.loop-e.invariant.so_far))
