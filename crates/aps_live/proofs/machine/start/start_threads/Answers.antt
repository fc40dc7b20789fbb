use Rattle.std.proofs.Common.{◌≡◌, ℕ, ◌+◌, ◌∙◌, ap, sym, List, ◌++◌, ◌∷◌, [], map, arith}
use Rattle.std.specs.List.{range_with_len}
use Rattle.std.proofs.lemmas.List.FromFn.{map-range_with_len_more}
use Rattle.aps_live.specs.declared.thread.LiveThread.{LiveThread}
use Rattle.aps_live.specs.LiveState.{live_start}
use Rattle.aps_live.proofs.machine.start.start_threads.Goals as goal

pub loop-x-preserved : goal.loop-x-preserved
loop-x-preserved c =
    c.in_ok-push.ensures.items
    ∙ ap (λ (ts : List LiveThread). ts ++ c.start_thread.result ∷ []) c.loop-x.invariant
    ∙ ap (λ (t : LiveThread). map (live_start c.args.scenario.now) (range_with_len 0 c.loop-x.x) ++ t ∷ []) (c.start_thread.ensures ∙ ap (live_start c.args.scenario.now) c.at.ensures)
    ∙ sym (map-range_with_len_more (live_start c.args.scenario.now) 0 c.loop-x.x c.loop-x.x (omega arith))
