use Rattle.std.proofs.Common.{◌≡◌, get_or, replicate, subst, sym}
use Rattle.std.proofs.lemmas.List.{get_or-replicate}
use Rattle.aps_model.specs.Limits.{most_partitions}
use Rattle.view_pictures.specs.declared.survey.Found.{Found}
use Rattle.view_pictures.specs.Survey.{no_found}
use Rattle.view_pictures.proofs.survey.Survey.none.Goals as goal

pub returns-clause-found : goal.returns-clause-found
returns-clause-found c = λ p less.
    subst (λ (one : Found). get_or (replicate most_partitions one) p no_found ≡ no_found) (sym c.nothing.ensures) (get_or-replicate most_partitions p no_found no_found less)
