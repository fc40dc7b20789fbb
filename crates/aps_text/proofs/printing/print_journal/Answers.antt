use Rattle.std.proofs.Common.{◌≡◌, List, take, subst, rules, take_all}
use Rattle.std.specs.List.{All}
use Rattle.aps_model.specs.declared.entry.Entry.{Entry}
use Rattle.aps_model.specs.Journal.{IsLine}
use Rattle.std.proofs.lemmas.Str.{IsAscii-append, IsUtf8-from_ascii}
use Rattle.aps_text.proofs.Lines.{journal_text-take, lines-more}
use Rattle.aps_text.proofs.printing.print_journal.Goals as goal

pub loop-entry-preserved : goal.loop-entry-preserved
loop-entry-preserved c = rw c.in_ok-extend_from_slice.ensures.items record {
  lines = rw (c.line.ensures.text, c.loop-entry.invariant.lines, journal_text-take c.args.entries.now c.loop-entry.entry-index c.entry-item.result c.loop-entry-test.true c.entry-item.is);
  ascii = IsAscii-append _ _ c.loop-entry.invariant.ascii c.line.ensures.ascii;
  within = λ h. lines-more c.args.entries.now c.loop-entry.entry-index c.entry-item.result c.loop-entry-test.true c.entry-item.is h c.line.ensures.within (c.loop-entry.invariant.within h);
}

pub unwrap-requires : goal.unwrap-requires
unwrap-requires c = c.from_utf8.ensures.succeeds (IsUtf8-from_ascii _ c.loop-entry.invariant.ascii)

pub returns-clause-journal : goal.returns-clause-journal
returns-clause-journal c = λ h.
    let es = c.args.entries.now in
    let all : take c.loop-entry.entry-index es ≡ es = take_all c.loop-entry.entry-index es c.loop-entry-test.false in
    record {
      lines = subst (λ (fs : List Entry). All IsLine fs) all (c.loop-entry.invariant.within h);
      text = search rules;
    }
