use Rattle.std.proofs.Common.{◌+◌, ◌*◌, length}
use Rattle.view_texts.proofs.Pieces.{four, on_ok, on_put, two}
use Rattle.view_value_changes.specs.Signals.{cpus_text, head_end, head_start, partitions_text, threads_text}
use Rattle.view_value_changes.proofs.signals.add_head.Goals as goal

pub returns : goal.returns
returns c =
    let first = 3 * c.args.cpus in
    let rows = c.args.rows.now in
    let threads = c.args.threads.now in
    on_ok c.push_str-2.result
    (λ last.
    two _ _ _ head_start _ c.in_ok-push_str.ensures.bytes
    (four _ _ _ _ _ (cpus_text c.args.cpus) (partitions_text first rows) (threads_text (first + 7 * length rows) threads) head_end
    c.in_ok-add_processors.ensures c.in_ok-add_partitions.ensures c.in_ok-add_threads.ensures last))
    (on_put c.push_str-2.result _ _ _ c.push_str-2.ensures.bytes)
