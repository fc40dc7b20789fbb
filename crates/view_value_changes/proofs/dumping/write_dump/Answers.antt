use Rattle.std.proofs.Common.{◌≡◌, ◌∙◌, List, true, ap}
use Rattle.aps_model.specs.declared.scenario.ThreadRow.{ThreadRow}
use Rattle.aps_model.specs.declared.shape.Shape.{Shape}
use Rattle.aps_model.specs.Scenario.{Scenario}
use Rattle.aps_core.specs.Run.{Setup}
use Rattle.view_texts.proofs.Pieces.{on_ok}
use Rattle.view_texts.proofs.Told.{told_all, told_both, told_put, told_same}
use Rattle.view_value_changes.specs.Dump.{Dumped, Telling, dumped, moment_text, start_telling, telling_of}
use Rattle.view_value_changes.specs.Signals.{head_text}
use Rattle.view_value_changes.proofs.dumping.write_dump.Goals as goal

pub returns-clause-whole : goal.returns-clause-whole
returns-clause-whole g c =
    let scenario = c.args.history.now.scenario in
    let h = c.args.history.now.entries in
    let rows = c.args.rows.now in
    let overspent = c.args.overspent.now in
    let setup = c.args.dump.now.at.core.setup in
    let start = start_telling overspent in
    let threads : c.threads-threads.result.now ≡ scenario.threads = c.threads-threads.ensures.same ∙ ap (λ (s : Scenario). s.threads) c.scenario.ensures in
    let cpus : c.from-cpus.result ≡ scenario.shape.cpus =
    c.from-cpus.ensures ∙ ap (λ (s : Shape). s.cpus) c.shape.ensures.same ∙ ap (λ (s : Scenario). s.shape.cpus) c.scenario-2.ensures in
    let whole : dumped setup c.threads-threads.result.now rows (telling_of overspent c.args.dump.now) c.entries.result.now ≡ dumped setup scenario.threads rows start h =
    ap (λ (t : Telling). dumped setup c.threads-threads.result.now rows t c.entries.result.now) (c.requires.starts overspent)
    ∙ ap (dumped setup c.threads-threads.result.now rows start) c.entries.ensures.same
    ∙ ap (λ (rs : List ThreadRow). dumped setup rs rows start h) threads in
    let telling = c.in_ok-go_through.ensures.telling ∙ ap (λ (d : Dumped). d.telling) whole in
    let last_moment = ap (λ (s : Setup). moment_text s c.threads-threads.result.now rows true (telling_of overspent c.go_through.new.self)) c.in_ok-go_through.ensures.setup
    ∙ ap (λ (rs : List ThreadRow). moment_text setup rs rows true (telling_of overspent c.go_through.new.self)) threads
    ∙ ap (moment_text setup scenario.threads rows true) telling in
    let head = ap (λ n. head_text n rows c.threads-threads.result.now) cpus ∙ ap (head_text scenario.shape.cpus rows) threads in
    on_ok c.write_out.result
    (λ last.
    told_all _ _ _ _ _ _ c.requires.empty
    (told_both _ _ _ _ _ _ _ _ (told_same _ _ _ _ _ _ head (told_put _ _ _ _ c.in_ok-add_head.ensures))
    (told_both _ _ _ _ _ _ _ _ (told_same _ _ _ _ _ _ (ap (λ (d : Dumped). d.text) whole) c.in_ok-go_through.ensures.told)
    (told_same _ _ _ _ _ _ last_moment (told_put _ _ _ _ c.in_ok-tell.ensures.text)))) last)
    c.write_out.ensures.written
