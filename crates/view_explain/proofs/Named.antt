-- A test is named exactly where the merit is greater.
use Rattle.std.proofs.Common.{◌≡◌, Bool, true, false, is_some, cond, nat_lt, refl, Option, Some, None}
use Rattle.aps_model.specs.declared.merit.Merit.{Merit}
use Rattle.aps_model.specs.declared.shape.Free.{Free}
use Rattle.aps_model.specs.Merit.{by_ratio, greater_first, is_greater, smaller, smaller_first}
use Rattle.view_explain.specs.declared.deciding.Test.{Test}
use Rattle.view_explain.specs.declared.deciding.Test.TheVariants.{Class, Fraction, Priority, Stamp}
use Rattle.view_explain.specs.Ahead.{ahead, by_fraction, by_priority, by_stamp, decided}

-- one test, and what comes behind it
one : (test : Test) (greater less : Bool) (rest : Option Test) (truth : Bool) → is_some rest ≡ truth
    → is_some (decided test greater less rest) ≡ cond greater true (cond less false truth)
one test true less rest truth same = refl
one test false true rest truth same = refl
one test false false rest truth same = same

stamps : (t : Test) (less : Bool) → is_some (cond less (Some t) None) ≡ less
stamps t true = refl
stamps t false = refl

either : (ratio : Bool) (o p : Option Test) (a b : Bool) → is_some o ≡ a → is_some p ≡ b → is_some (cond ratio o p) ≡ cond ratio a b
either true o p a b first second = first
either false o p a b first second = second

pub named : (free : Free) (a b : Merit) → is_some (ahead free a b) ≡ is_greater free a b
named free a b =
    let stamp = stamps Stamp (nat_lt a.stamp b.stamp) in
    let fraction : (o : Option Test) (rest : Bool) → is_some o ≡ rest → is_some (by_fraction a b o) ≡ smaller_first a b rest =
    one Fraction (smaller a.used a.budget b.used b.budget) (smaller b.used b.budget a.used a.budget) in
    let priority : (o : Option Test) (rest : Bool) → is_some o ≡ rest → is_some (by_priority a b o) ≡ greater_first a.priority b.priority rest =
    one Priority (nat_lt b.priority a.priority) (nat_lt a.priority b.priority) in
    let rest = nat_lt a.stamp b.stamp in
    either (by_ratio free a b) _ _ _ _
    (fraction (by_priority a b (by_stamp a b)) (greater_first a.priority b.priority rest) (priority (by_stamp a b) rest stamp))
    (one Class (nat_lt b.class a.class) (nat_lt a.class b.class) (by_priority a b (by_fraction a b (by_stamp a b))) (greater_first a.priority b.priority (smaller_first a b rest))
    (priority (by_fraction a b (by_stamp a b)) (smaller_first a b rest) (fraction (by_stamp a b) rest stamp)))
