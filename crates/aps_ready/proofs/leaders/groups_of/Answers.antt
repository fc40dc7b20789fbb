use Rattle.std.proofs.Common.{◌+◌, Bool, ◌||◌, nat_eq, ap, ◌∙◌}
use Rattle.aps_model.specs.Limits.{most_partitions}
use Rattle.aps_ready.proofs.Leading.{one_of_two}
use Rattle.aps_ready.proofs.leaders.groups_of.Goals as goal

pub returns : goal.returns
returns c g below =
    let p = c.args.p in
    c.with-2.ensures g ∙ ap (λ (t : Bool). nat_eq g (p + most_partitions) || t) (c.with.ensures g ∙ ap (λ (t : Bool). nat_eq g p || t) (c.none.ensures g))
    ∙ one_of_two g p below c.requires
