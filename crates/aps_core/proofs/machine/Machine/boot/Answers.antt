use Rattle.std.proofs.Common.{◌∙◌, ap, List, min, replicate, length, subst, sym, vec_capacity}
use Rattle.aps_model.specs.declared.scenario.ThreadRow.{ThreadRow}
use Rattle.aps_model.specs.declared.shape.Shape.{Shape}
use Rattle.aps_model.specs.Limits.{most_threads}
use Rattle.aps_model.specs.SchedulerState.{no_channel}
use Rattle.aps_channel.specs.Channels.{Channels}
use Rattle.aps_tree.specs.Tree.{Tree}
use Rattle.aps_core.specs.Machine.{IsCoreMachine}
use Rattle.aps_core.proofs.Boot.{all_threads, machine_opening, opening_by_parts}
use Rattle.aps_core.proofs.machine.Machine.boot.Goals as goal

pub returns : goal.returns
returns c =
    opening_by_parts c.args.scenario.now _ _ _ c.in_ok-inherit.inherit _ _ _ _ _
    (ap (λ (t : Tree). t.rows) c.in_ok-tree.ensures ∙ c.partitions.ensures.same)
    c.shape-shape.ensures.same
    c.in_ok-tasks.ensures
    c.in_ok-inherit.ensures
    (ap (λ (k : Channels). k.channels) c.in_ok-channels.ensures ∙ ap (λ names. replicate (length names) no_channel) c.channels.ensures.same)
    (ap (λ (k : Channels). k.triples) c.in_ok-channels.ensures)
    c.in_ok-cpus.ensures
    c.in_ok-with_capacity.ensures.items
    c.in_ok-with_capacity-2.ensures.items

pub invariant_of-result : goal.invariant_of-result
invariant_of-result c =
    subst (λ s. IsCoreMachine s c.in_ok-channels.channels.threads c.in_ok-inherit.inherit c.in_ok-tree.tree.parts (vec_capacity c.in_ok-with_capacity.field-0) (vec_capacity c.in_ok-with_capacity-2.field-0)) (sym (returns c))
    (machine_opening c.args.scenario.now _ _ _ _ _ c.partitions.ensures.valid
    (all_threads c.args.scenario.now _ c.partitions.ensures.valid
    (ap (λ (k : Channels). k.threads) c.in_ok-channels.ensures ∙ ap (λ (rows : List ThreadRow). min (length rows) most_threads) c.threads.ensures.same))
    c.in_ok-inherit.ensures
    (ap (λ (t : Tree). t.parts) c.in_ok-tree.ensures ∙ ap (λ (shape : Shape). shape.parts) c.shape-shape.ensures.same)
    c.in_ok-with_capacity.ensures.capacity c.in_ok-with_capacity-2.ensures.capacity)
