use Rattle.std.proofs.Common.{◌≡◌, ◌≤◌, ℕ, ◌++◌, ◌∙◌, List, ap, subst, sym, length, arith}
use lib.Chars.{codes}
use Rattle.std.specs.List.{flat_map, enumerate_from}
use Rattle.aps_model.specs.declared.scenario.ThreadRow.{ThreadRow}
use Rattle.aps_model.specs.Limits.{most_threads}
use Rattle.aps_model.specs.Scenario.{Scenario}
use Rattle.aps_model.specs.Valid.{IsScenario}
use Rattle.view_latency.specs.Text.{HasPlaces, thread_by_known}
use Rattle.view_latency.proofs.KnownLines.{lines_same, places}
use Rattle.view_latency.proofs.latency.latency_text_of.Goals as goal

pub add_threads-requires : goal.add_threads-requires
add_threads-requires c =
    let scenario = c.args.history.now.scenario in
    let valid : IsScenario scenario = subst IsScenario c.scenario-scenario.ensures c.threads-threads.ensures.valid in
    let threads : c.threads-threads.result.now ≡ scenario.threads = c.threads-threads.ensures.same ∙ ap (λ (s : Scenario). s.threads) c.scenario-scenario.ensures in
    subst (λ (rows : List ThreadRow). HasPlaces (length rows) c.in_ok-known.known) (sym threads)
    (places scenario c.args.history.now.entries c.in_ok-known.known c.in_ok-known.ensures valid.few_threads)

pub returns : goal.returns
returns c =
    let scenario = c.args.history.now.scenario in
    let known = c.in_ok-known.known in
    let title : List ℕ = codes "aps latency 1\n" in
    let valid : IsScenario scenario = subst IsScenario c.scenario-scenario.ensures c.threads-threads.ensures.valid in
    let few : length scenario.threads ≤ most_threads = valid.few_threads in
    let threads : c.threads-threads.result.now ≡ scenario.threads = c.threads-threads.ensures.same ∙ ap (λ (s : Scenario). s.threads) c.scenario-scenario.ensures in
    let channels : c.channels-channels.result.now ≡ scenario.channels = c.channels-channels.ensures.same ∙ ap (λ (s : Scenario). s.channels) c.scenario-scenario.ensures in
    c.in_ok-add_threads.ensures
    ∙ ap (λ t. t ++ flat_map (thread_by_known c.channels-channels.result.now known) (enumerate_from 0 c.threads-threads.result.now))
    (c.in_ok-push_str.ensures.bytes ∙ ap (λ (t : List ℕ). t ++ title) c.new-out.ensures.bytes)
    ∙ ap (λ (rows : List ThreadRow). title ++ flat_map (thread_by_known c.channels-channels.result.now known) (enumerate_from 0 rows)) threads
    ∙ ap (λ (names : List (List ℕ)). title ++ flat_map (thread_by_known names known) (enumerate_from 0 scenario.threads)) channels
    ∙ ap (λ (t : List ℕ). title ++ t) (lines_same scenario c.args.history.now.entries known c.in_ok-known.ensures few 0 scenario.threads (omega arith))
