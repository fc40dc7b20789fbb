use Rattle.std.proofs.Common.{ap}
use Rattle.aps_model.specs.declared.state.Facts.{Facts}
use Rattle.aps_model.proofs.InheritLaws.{inherited-server, inherited-own}
use Rattle.aps_model.proofs.laws.servers_have_their_clients_values.Goals as goal

pub returns-clause-server : goal.returns-clause-server
returns-clause-server c = λ i x t made is.
    let e = inherited-server i x t made is in
    record {
      partition = ap (λ (f : Facts). f.partition) e;
      critical = ap (λ (f : Facts). f.critical) e;
      priority = ap (λ (f : Facts). f.priority) e;
    }

pub returns-clause-others : goal.returns-clause-others
returns-clause-others c = inherited-own
