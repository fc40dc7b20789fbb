use Rattle.std.proofs.Common.{◌≡◌, ℕ, ◌++◌, ◌∙◌, List, ap, arith}
use lib.Chars.{codes}
use Rattle.std.specs.List.{flat_map, enumerate_from}
use Rattle.aps_model.specs.declared.scenario.ThreadRow.{ThreadRow}
use Rattle.aps_model.specs.Scenario.{Scenario}
use Rattle.view_lives.specs.Text.{thread_cycle_lines}
use Rattle.view_lives.proofs.Lines.{lines_same}
use Rattle.view_lives.proofs.text.cycles_text.Goals as goal

pub returns : goal.returns
returns c =
    let scenario = c.args.history.now.scenario in
    let lives = c.in_ok-lives.lives.items in
    let titles : List ℕ = codes "thread,begin_ns,end_ns,running_ns,ready_ns,calling_ns,receiving_ns\n" in
    let threads : c.threads.result.now ≡ scenario.threads = c.threads.ensures.same ∙ ap (λ (s : Scenario). s.threads) c.scenario.ensures in
    c.in_ok-add_threads.ensures
    ∙ ap (λ t. t ++ flat_map (thread_cycle_lines lives) (enumerate_from 0 c.threads.result.now))
    (c.in_ok-push_str.ensures.bytes ∙ ap (λ (t : List ℕ). t ++ titles) c.new-out.ensures.bytes)
    ∙ ap (λ (rows : List ThreadRow). titles ++ flat_map (thread_cycle_lines lives) (enumerate_from 0 rows)) threads
    ∙ ap (λ (t : List ℕ). titles ++ t) (lines_same scenario c.args.history.now.entries lives c.in_ok-lives.ensures 0 scenario.threads (omega arith))
