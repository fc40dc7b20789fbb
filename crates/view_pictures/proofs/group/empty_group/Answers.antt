use Rattle.std.proofs.Common.{◌≡◌, refl, get_or, replicate, subst, sym}
use Rattle.std.proofs.lemmas.List.{get_or-replicate}
use Rattle.aps_model.specs.Limits.{most_partitions}
use Rattle.view_pictures.specs.declared.group.Point.{Point}
use Rattle.view_pictures.specs.Group.{no_point, unread_point}
use Rattle.view_pictures.proofs.group.empty_group.Goals as goal

pub returns : goal.returns
returns c = record {
  from = refl;
  end = refl;
  unchanged = refl;
  points = λ p less. subst (λ (one : Point). get_or (replicate most_partitions one) p unread_point ≡ no_point) (sym c.no_point.ensures) (get_or-replicate most_partitions p no_point unread_point less);
}
