use Rattle.std.proofs.Common.{refl, sym, ap, ◌∙◌}
use Rattle.aps_calls.specs.Refusal.{refusal_text}
use Rattle.aps_calls.proofs.Said.{made_as}
use Rattle.aps_calls.proofs.refusal.print_refusal.Goals as goal

pub returns-in-Ok : goal.returns-in-Ok
returns-in-Ok g c =
    made_as _ _ _ _ _ _ _ (c.deref.ensures.value ∙ c.in-Ok.ensures ∙ sym (ap refusal_text c.in-Text.is)) refl c.print.ensures.prints

pub returns-in-NoJournal : goal.returns-in-NoJournal
returns-in-NoJournal g c =
    made_as _ _ _ _ _ _ _ (sym (ap refusal_text c.in-NoJournal.is)) refl c.print-in-NoJournal.ensures.prints

pub returns-in-Ok-journal_line : goal.returns-in-Ok-journal_line
returns-in-Ok-journal_line g c =
    made_as _ _ _ _ _ _ _ (c.as_bytes.ensures.value ∙ c.in-Ok-journal_line.ensures ∙ sym (ap refusal_text c.in-BadJournal.is)) refl
    c.print-in-Ok-journal_line.ensures.prints

pub returns-in-UnknownThread : goal.returns-in-UnknownThread
returns-in-UnknownThread g c =
    made_as _ _ _ _ _ _ _ (sym (ap refusal_text c.in-UnknownThread.is)) refl c.print-in-UnknownThread.ensures.prints

pub returns-in-BehindEnd : goal.returns-in-BehindEnd
returns-in-BehindEnd g c =
    made_as _ _ _ _ _ _ _ (sym (ap refusal_text c.in-BehindEnd.is)) refl c.print-in-BehindEnd.ensures.prints
