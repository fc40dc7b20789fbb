-- By which test one merit is greater than another.
use Rattle.std.specs.Prelude.{Bool, nat_lt, if◌then◌else◌, Option, Some, None}
use Rattle.aps_model.specs.declared.merit.Merit.{Merit}
use Rattle.aps_model.specs.declared.shape.Free.{Free}
use Rattle.aps_model.specs.Merit.{by_ratio, smaller}
use Rattle.view_explain.specs.declared.deciding.Test.{Test}
use Rattle.view_explain.specs.declared.deciding.Test.TheVariants.{Class, Priority, Fraction, Stamp}

-- the test decides where one is greater by it, or less; else the rest does
abbrev pub decided : Test → Bool → Bool → Option Test → Option Test
decided test greater less rest = if greater then Some test else if less then None else rest

abbrev pub by_class : Merit → Merit → Option Test → Option Test
by_class a b rest = decided Class (nat_lt b.class a.class) (nat_lt a.class b.class) rest

abbrev pub by_priority : Merit → Merit → Option Test → Option Test
by_priority a b rest = decided Priority (nat_lt b.priority a.priority) (nat_lt a.priority b.priority) rest

abbrev pub by_fraction : Merit → Merit → Option Test → Option Test
by_fraction a b rest =
    decided Fraction (smaller a.used a.budget b.used b.budget) (smaller b.used b.budget a.used a.budget) rest

abbrev pub by_stamp : Merit → Merit → Option Test
by_stamp a b = if nat_lt a.stamp b.stamp then Some Stamp else None

-- the first test that decides, where a is the greater one by it
abbrev pub ahead : Free → Merit → Merit → Option Test
ahead free a b =
    if by_ratio free a b
    then by_fraction a b (by_priority a b (by_stamp a b))
    else by_class a b (by_priority a b (by_fraction a b (by_stamp a b)))
