use Rattle.std.proofs.Common.{◌≡◌, ◌≤◌, ◌∙◌, List, ℕ, Some, length, string_bytes, ap, subst, sym, arith}
use Rattle.aps_model.specs.History.{History}
use Rattle.aps_model.specs.Limits.{most_entries}
use Rattle.view_shares.specs.Text.{shares_text}
use Rattle.view_words.specs.declared.asked.Report.{Report}
use Rattle.view_top.specs.Report.{IsReport}
use Rattle.view_top.proofs.report.report_of.Goals as goal

-- how many entries a history has room for
abbrev room_for : History → ℕ
room_for h = h.room.entries

-- a history has no more entries than it has room for
few_entries : (h : History) (limit : ℕ) → length h.entries ≤ h.room.entries → h.room.entries ≡ limit → limit ≤ most_entries → length h.entries ≤ most_entries
few_entries h limit fit room few = omega (arith, fit, room, few)

pub cycles_text-requires-clause-few : goal.cycles_text-requires-clause-few
cycles_text-requires-clause-few c = few_entries c.history-history.result.now c.args.core.now.setup.limit c.entries-entries.ensures.keeps.entries_fit (ap room_for c.history-history.ensures.same) c.requires.few

pub csv-requires-clause-few : goal.csv-requires-clause-few
csv-requires-clause-few c = few_entries c.history-history.result.now c.args.core.now.setup.limit c.entries-entries.ensures.keeps.entries_fit (ap room_for c.history-history.ensures.same) c.requires.few

pub latency_text-requires-clause-few : goal.latency_text-requires-clause-few
latency_text-requires-clause-few c = few_entries c.history-history.result.now c.args.core.now.setup.limit c.entries-entries.ensures.keeps.entries_fit (ap room_for c.history-history.ensures.same) c.requires.few

pub explained-requires-clause-few : goal.explained-requires-clause-few
explained-requires-clause-few c = few_entries c.history-history.result.now c.args.core.now.setup.limit c.entries-entries.ensures.keeps.entries_fit (ap room_for c.history-history.ensures.same) c.requires.few

pub shares_text-requires-clause-few : goal.shares_text-requires-clause-few
shares_text-requires-clause-few c = few_entries c.history-history.result.now c.args.core.now.setup.limit c.entries-entries.ensures.keeps.entries_fit (ap room_for c.history-history.ensures.same) c.requires.few

pub pictured-requires-clause-few : goal.pictured-requires-clause-few
pictured-requires-clause-few c = few_entries c.history-history.result.now c.args.core.now.setup.limit c.entries-entries.ensures.keeps.entries_fit (ap room_for c.history-history.ensures.same) c.requires.few

pub returns-in_ok-shares_text-in-Shares : goal.returns-in_ok-shares_text-in-Shares
returns-in_ok-shares_text-in-Shares c =
    let core = c.args.core.now in
    let text = string_bytes c.in_ok-shares_text-in-Shares.field-0 in
    subst (λ (r : Report). IsReport r core.setup.scenario core.entries (Some text)) (sym c.in-Shares.is)
    (ap (λ (t : List ℕ). Some t) (c.in_ok-shares_text-in-Shares.ensures ∙ ap (λ (k : History). shares_text k.scenario k.entries) c.history-history.ensures.same))
