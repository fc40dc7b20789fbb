use Rattle.std.proofs.Common.{◌≡◌, get_or, replicate, subst, sym}
use Rattle.std.proofs.lemmas.List.{get_or-replicate}
use Rattle.aps_model.specs.Limits.{most_partitions}
use Rattle.view_shares.specs.declared.share.Share.{Share}
use Rattle.view_shares.specs.Share.{no_share}
use Rattle.view_shares.proofs.shares.Shares.none.Goals as goal

pub returns-clause-each : goal.returns-clause-each
returns-clause-each c = λ p less.
    subst (λ (s : Share). get_or (replicate most_partitions s) p no_share ≡ no_share) (sym c.none-2.ensures) (get_or-replicate most_partitions p no_share no_share less)
