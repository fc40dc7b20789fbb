use Rattle.std.proofs.Common.{◌≡◌, Bool, true, false, not, refl}
use Rattle.aps_model.specs.Merit.{is_greater}
use Rattle.aps_model.proofs.MeritOrder.{greater_order, greater_total}
use Rattle.aps_model.proofs.laws.distinct_stamps_decide.Goals as goal

-- one of two tests holds, and not both
exactly_one : (ab ba : Bool) → (ab ≡ true → ba ≡ false) → (ab ≡ false → ba ≡ true) → ba ≡ not ab
exactly_one true ba one_way total = one_way refl
exactly_one false ba one_way total = total refl

pub returns : goal.returns
returns c = λ free a b ne.
    exactly_one (is_greater free a b) (is_greater free b a) ((greater_order free).one_way a b) (greater_total free a b ne)
