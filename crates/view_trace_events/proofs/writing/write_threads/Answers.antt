use Rattle.std.proofs.Common.{◌∙◌, List, ap, length, sym}
use Rattle.std.specs.List.{flat_map, enumerate_from}
use Rattle.aps_model.specs.Scenario.{Scenario}
use Rattle.view_lives.specs.declared.life.Segment.{Segment}
use Rattle.view_texts.proofs.Pieces.{on_ok}
use Rattle.view_texts.proofs.Told.{told_same}
use Rattle.view_trace_events.proofs.Numbered.{lives_same}
use Rattle.view_trace_events.specs.Slices.{life_events}
use Rattle.view_trace_events.proofs.writing.write_threads.Goals as goal

pub write_lives-requires : goal.write_lives-requires
write_lives-requires g c =
    ap (λ (lives : List (List Segment)). length lives) c.deref.ensures.value ∙ c.in_ok-lives.ensures.count ∙ sym (ap (λ (s : Scenario). length s.threads) c.scenario.ensures)

pub returns-clause-told : goal.returns-clause-told
returns-clause-told g c =
    let scenario = c.args.history.now.scenario in
    let rows = c.args.rows.now in
    on_ok c.write_lives.result
    (λ last.
    told_same _ _ _ _ _ _
    (ap (λ (s : Scenario). flat_map (life_events s rows) (enumerate_from 0 c.deref.result.now)) c.scenario.ensures
    ∙ ap (λ (lives : List (List Segment)). flat_map (life_events scenario rows) (enumerate_from 0 lives)) c.deref.ensures.value
    ∙ lives_same scenario c.args.history.now.entries rows c.in_ok-lives.lives.items c.in_ok-lives.ensures)
    last)
    c.write_lives.ensures.told
