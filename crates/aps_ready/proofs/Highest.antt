use Rattle.std.proofs.Common.{◌≡◌, ℕ, Bool, true, false, ◌&&◌, nat_eq, List, refl, sym, ◌∙◌, ap, arith}
use Rattle.std.proofs.lemmas.Bool.Decides.{nat_tests}
use Rattle.aps_levels.specs.declared.bits.Bits64.{Bits64}
use Rattle.aps_levels.specs.Bits.{set_has}
use Rattle.aps_levels.specs.Levels.{level_count}
use Rattle.aps_ready.specs.declared.entrant.Entrant.{Entrant}
use Rattle.aps_ready.specs.Entrant.{entrant_at}
use Rattle.aps_ready.specs.Firsts.{firsts_of, level_of, AreAt, AreEmpty, AreLeast}
use Rattle.aps_ready.specs.Highest.{IsHighest}
use Rattle.aps_ready.specs.Ready.{IsQueued}
use Rattle.aps_ready.proofs.Tops.{kept, level_at_most, Occupant, occupant}

both : (a b : Bool) → (a && b) ≡ true → (a ≡ true) × (b ≡ true)
both true b h = (refl, h)
both false b h = absurd cc

is_same : (a b : ℕ) → nat_eq a b ≡ true → a ≡ b
is_same a b h = grind (arith, nat_tests)

-- the least level of the groups of a set is the least of anybody in them
pub highest_at : (row : List Entrant) (set found : ℕ → Bool) (l : ℕ) → IsQueued row → AreLeast (firsts_of row) set found → AreAt (firsts_of row) found l
    → IsHighest row set l
highest_at row set found l queued least at = record {
  least = λ x within there among.
      omega (arith, level, least.least (entrant_at row x).group there among, level_at_most row (firsts_of row) x (kept row queued) within there);
  some = λ _. record {
    place = one.place;
    within = one.within;
    there = omega (arith, one.group, least.inside);
    among = ap set one.group ∙ parts.1;
    is = one.level ∙ at.same least.group least.inside least.some;
  };
}
  where
    parts : (nat_eq (level_of (firsts_of row) least.group) least.level ≡ true) × (set least.group ≡ true)
    parts = both (nat_eq (level_of (firsts_of row) least.group) least.level) (set least.group) (sym (least.these least.group least.inside) ∙ least.some)

    level : least.level ≡ l
    level = sym (is_same (level_of (firsts_of row) least.group) least.level parts.0) ∙ at.same least.group least.inside least.some

    one : Occupant row least.group (level_of (firsts_of row) least.group)
    one = occupant row (firsts_of row) least.group (kept row queued) least.inside (omega (arith, at.below, at.same least.group least.inside least.some))

pub highest_none : (row : List Entrant) (set : Bits64) → IsQueued row → AreEmpty (firsts_of row) set → IsHighest row (set_has set) level_count
highest_none row set queued empty = record {
  least = λ x within there among.
      omega (arith, empty (entrant_at row x).group there among, level_at_most row (firsts_of row) x (kept row queued) within there);
  some = λ low. absurd (omega (arith, low));
}
