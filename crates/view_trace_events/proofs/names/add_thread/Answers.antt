use lib.Chars.{codes}
use Rattle.std.proofs.Common.{ℕ, List, ◌++◌}
use Rattle.view_texts.proofs.Pieces.{as_other, on_ok, three}
use Rattle.view_trace_events.specs.Names.{track_head_text, index_event}
use Rattle.view_trace_events.proofs.names.add_thread.Goals as goal

pub returns : goal.returns
returns c =
    on_ok c.add_index.result
    (λ last.
    three _ _ _ _ (track_head_text (codes "thread_name") c.args.track) (c.args.name.now ++ codes "\"}}")
    (index_event (codes "thread") c.args.track c.args.place) c.in_ok-add_head.ensures
    (as_other (λ (name : List ℕ). name ++ codes "\"}}") _ _ _ _ c.in_ok-write.ensures.bytes c.text_of-name.ensures) last)
    c.add_index.ensures
