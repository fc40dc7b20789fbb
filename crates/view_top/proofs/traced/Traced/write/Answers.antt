use Rattle.std.proofs.Common.{◌≡◌, ◌∙◌, ap, subst, sym}
use Rattle.std.specs.Io.KnownBytes.{Appends}
use Rattle.aps_model.specs.History.{History}
use Rattle.view_shares.specs.Spent.{overspent_of}
use Rattle.view_texts.proofs.Pieces.{on_ok}
use Rattle.view_words.specs.declared.asked.Trace.{Trace}
use Rattle.view_value_changes.specs.Dump.{dump_text}
use Rattle.aps_calls.specs.Printing.{Output, output_of}
use Rattle.view_top.specs.Printing.{SaysAll}
use Rattle.view_top.specs.Traced.{Traced, trace_told}
use Rattle.view_top.proofs.traced.Traced.write.Goals as goal

pub returns-in_ok-overspent-in-Vcd-clause-whole : goal.returns-in_ok-overspent-in-Vcd-clause-whole
returns-in_ok-overspent-in-Vcd-clause-whole g c =
    let before = g.K.Sink.written c.args.sink.now in
    let after = g.K.Sink.written c.vcd.new.sink in
    let output : Output = output_of before after (g.K.Sink.faults c.args.sink.now) (g.K.Sink.faults c.vcd.new.sink)
    (g.K.Sink.shortages c.args.sink.now) (g.K.Sink.shortages c.vcd.new.sink) in
    let core = c.self.inside.core in
    let history = c.history-history.result.now in
    let same : dump_text history.scenario history.entries c.deref.result.now ≡ dump_text core.setup.scenario core.entries (overspent_of core.setup.scenario core.entries) =
    ap (dump_text history.scenario history.entries) (c.deref.ensures.value ∙ c.in_ok-overspent-in-Vcd.ensures)
    ∙ ap (λ (h : History). dump_text h.scenario h.entries (overspent_of h.scenario h.entries)) c.history-history.ensures.same in
    on_ok c.vcd.result
    (λ whole.
    subst (λ (t : Traced). SaysAll output (trace_told t.trace t.run.setup.scenario t.run.entries)) c.self.view_is
    (subst (λ (trace : Trace). SaysAll output (trace_told trace core.setup.scenario core.entries)) (sym c.in-Vcd.is) (subst (Appends before after) same whole)))
    c.vcd.ensures.whole
