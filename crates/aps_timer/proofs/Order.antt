-- Who goes before whom: a chain of sleepers of which none goes before the next.
use Rattle.std.proofs.Common.{◌≡◌, ℕ, Bool, true, false, cond, refl, Option, Some, None, arith}
use Rattle.std.proofs.lemmas.Bool.Decides.{nat_tests}
use Rattle.aps_model.specs.TickWork.{is_earlier}
use Rattle.aps_timer.specs.Order.{wakes_before, earlier_sleeper}

earlier_chain : (a b c : ℕ × ℕ) → is_earlier a b ≡ false → is_earlier b c ≡ false → is_earlier a c ≡ false
earlier_chain (a, x) (b, y) (c, z) h k = grind (arith, nat_tests)

earlier_itself : (a : ℕ × ℕ) → is_earlier a a ≡ false
earlier_itself (a, x) = grind (arith, nat_tests)

pub earlier_one_way : (a b : ℕ × ℕ) → is_earlier a b ≡ true → is_earlier b a ≡ false
earlier_one_way (a, x) (b, y) h = grind (arith, nat_tests)

pub before_chain : (a b c : Option (ℕ × ℕ)) → wakes_before a b ≡ false → wakes_before b c ≡ false → wakes_before a c ≡ false
before_chain None b c h k = refl
before_chain (Some a) None c h k = absurd cc
before_chain (Some a) (Some b) None h k = absurd cc
before_chain (Some a) (Some b) (Some c) h k = earlier_chain a b c h k

pub before_itself : (a : Option (ℕ × ℕ)) → wakes_before a a ≡ false
before_itself None = refl
before_itself (Some a) = earlier_itself a

before_one_way : (a b : Option (ℕ × ℕ)) → wakes_before a b ≡ true → wakes_before b a ≡ false
before_one_way None b h = absurd cc
before_one_way (Some a) None h = refl
before_one_way (Some a) (Some b) h = earlier_one_way a b h

pub first_left : (a b : Option (ℕ × ℕ)) → wakes_before a (earlier_sleeper a b) ≡ false
first_left a b = by_test (wakes_before b a) refl
  where
    by_test : (t : Bool) → wakes_before b a ≡ t → wakes_before a (cond t b a) ≡ false
    by_test true h = before_one_way b a h
    by_test false h = before_itself a

pub first_right : (a b : Option (ℕ × ℕ)) → wakes_before b (earlier_sleeper a b) ≡ false
first_right a b = by_test (wakes_before b a) refl
  where
    by_test : (t : Bool) → wakes_before b a ≡ t → wakes_before b (cond t b a) ≡ false
    by_test true h = before_itself b
    by_test false h = h
