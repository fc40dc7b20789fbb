use Rattle.std.proofs.Common.{List, ℕ, string_bytes, ap, ◌∙◌, ◌++◌}
use Rattle.aps_report.specs.Lines.{with_head, tables_with}
use Rattle.aps_report.proofs.Tables.{usage_by}
use Rattle.aps_report.proofs.overview.usage.Goals as goal

pub returns : goal.returns
returns c =
    let tables = c.in_ok-add_tables.ensures in
    usage_by c.args.history.now c.in_ok-totals.totals (string_bytes c.add_tables.new.out)
    (rw (← c.entries.ensures.same) c.in_ok-totals.ensures) tables.few_rows tables.few_threads
    (tables.text ∙ ap (λ t. t ++ tables_with c.args.history.now c.in_ok-totals.totals)
    (c.in_ok-add_head.ensures ∙ ap (λ (t : List ℕ). with_head t c.args.history.now) c.new-out.ensures.bytes))
