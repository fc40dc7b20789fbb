use Rattle.std.proofs.Common.{◌+◌, ◌∙◌, ap, min}
use Rattle.aps_report.proofs.Spans.{some_span}
use Rattle.aps_report.proofs.Cells.{parts-HaveEntry}
use Rattle.aps_report.proofs.by_window.add_entry.Goals as goal

pub returns-in-Some : goal.returns-in-Some
returns-in-Some c =
    parts-HaveEntry c.args.shape.now c.args.e.now c.in-Some.p c.index.result c.args.span c.args.windows c.min-first.result c.min-past.result c.args.cells.now c.add_parts.new.cells
    c.requires.span c.index.ensures.same c.in-Some.is
    (record {
      some = rw c.requires.span (some_span _ _ c.requires.shape.window_long c.requires.shape.tick_long);
      forward = c.requires.entry.forward;
      end = c.min-past.ensures ∙ ap (λ k. min c.args.windows (k + 1)) c.tick_of.ensures.same;
      start = c.min-first.ensures ∙ ap (λ k. min k c.min-past.result) c.requires.first;
    })
    c.requires.places c.add_parts.ensures
