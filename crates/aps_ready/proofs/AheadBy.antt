use Rattle.std.proofs.Common.{◌≡◌, ◌≢◌, ◌⊎◌, inl, inr, ℕ, ◌-◌, ◌<◌, ◌≤◌, Bool, true, false, cond, ◌&&◌, ◌||◌, not, nat_eq, nat_lt, List, [], length, map, Option, Some, None, refl, sym, ◌∙◌, ap, arith}
use Rattle.std.specs.List.{Contains}
use Rattle.std.proofs.lemmas.Bool.{cases_eq}
use Rattle.std.proofs.lemmas.Bool.Decides.{nat_tests}
use Rattle.std.proofs.lemmas.List.Elements.{All-contains}
use Rattle.aps_model.specs.declared.shape.Free.{Free}
use Rattle.aps_model.specs.declared.shape.Free.TheVariants.{Priority, Ratio}
use Rattle.aps_model.specs.declared.merit.PartFacts.{PartFacts}
use Rattle.aps_model.specs.declared.merit.Merit.{Merit}
use Rattle.aps_model.specs.declared.merit.Contender.{Contender}
use Rattle.aps_model.specs.Merit.{by_ratio, is_below, is_greater, IsGreater}
use Rattle.aps_model.specs.Pick.{merit_among, candidates, greatest, IsGreatestCandidate}
use Rattle.aps_model.proofs.GreatestLaws.{greatest-is, no_greatest}
use Rattle.aps_model.specs.Limits.{greatest_priority}
use Rattle.aps_levels.specs.Bits.{set_has}
use Rattle.aps_levels.specs.Levels.{level_count}
use Rattle.aps_ready.specs.declared.ahead.Ahead.{Ahead}
use Rattle.aps_ready.specs.declared.entrant.Entrant.{Entrant}
use Rattle.aps_ready.specs.declared.gates.Gates.{Gates}
use Rattle.aps_ready.specs.Ahead.{IsAheadOf, IsAhead}
use Rattle.aps_ready.specs.Choice.{is_ahead, is_ahead_by_level}
use Rattle.aps_ready.specs.Entrant.{entrant_at}
use Rattle.aps_ready.specs.Gates.{AreGates}
use Rattle.aps_ready.specs.Highest.{HasOneAt, IsHighest}
use Rattle.aps_ready.specs.Ready.{members, entrant_contender, entrant_seat, IsQueued}
use Rattle.aps_ready.specs.Winner.{is_above, is_candidate_at}
use Rattle.aps_ready.proofs.Above.{class_at, above_first, above_first_by_level, above_second_by_level, above_one_way}
use Rattle.aps_ready.proofs.Content.{IsOpenAt, open_from, open_group, open_among}
use Rattle.aps_ready.proofs.Winner.{Stands, first_stands, second_stands, in_one}
use Rattle.aps_ready.specs.Group.{group_count}

clash : (t : Bool) → t ≡ true → t ≡ false → ⊥
clash t p q = cc

below_or_not : (a b : ℕ) → (a < b) ⊎ (b ≤ a)
below_or_not a b = search arith

-- ---- the greatest candidate is one of the row, and nobody is above it

record IsWon (free : Free) (parts : List PartFacts) (row : List Entrant) (c : Contender) : Type 0 where
  place : ℕ
  within : place < length row
  candidate : is_candidate_at parts (entrant_at row place) ≡ true
  is : c ≡ entrant_contender (entrant_at row place)
  others : (x : ℕ) → x < length row → is_candidate_at parts (entrant_at row x) ≡ true
      → is_above free parts (entrant_at row x) (entrant_at row place) ≡ false

won : (free : Free) (parts : List PartFacts) (row : List Entrant) (c : Contender) → IsQueued row
    → greatest free parts (members (map entrant_seat row)) ≡ Some c → IsWon free parts row c
won free parts row c queued h = record {
  place = at.place;
  within = at.within;
  candidate = at.open_here;
  is = at.is;
  others = beaten;
}
  where
    found : IsGreatestCandidate free parts (members (map entrant_seat row)) c
    found = greatest-is free parts (members (map entrant_seat row)) c h

    at : IsOpenAt parts row c
    at = open_from parts row c found.candidate

    e : Entrant
    e = entrant_at row at.place

    not_itself : (t : Bool) → is_above free parts e e ≡ t → is_above free parts e e ≡ false
    not_itself true p = above_one_way free parts e e p
    not_itself false p = p

    beaten : (x : ℕ) → x < length row → is_candidate_at parts (entrant_at row x) ≡ true → is_above free parts (entrant_at row x) e ≡ false
    beaten x within here = elim (cases_eq (entrant_at row x).stamp e.stamp) [
      | inl same ↦
          let is : x ≡ at.place =
          queued.stamps x at.place within at.within (open_group parts (entrant_at row x) here) (open_group parts e at.open_here) same in
          ap (λ (k : ℕ). is_above free parts (entrant_at row k) e) is ∙ not_itself (is_above free parts e e) refl
      | inr ne ↦
          let below : IsGreater free (merit_among parts c) (merit_among parts (entrant_contender (entrant_at row x))) =
          All-contains (λ (d : Contender). d.stamp ≢ c.stamp → IsGreater free (merit_among parts c) (merit_among parts d))
          (candidates parts (members (map entrant_seat row))) (entrant_contender (entrant_at row x)) found.others (open_among parts row x within here)
          (λ same. ne (same ∙ ap (λ (d : Contender). d.stamp) at.is)) in
          above_one_way free parts e (entrant_at row x)
          (ap (λ (d : Contender). is_greater free (merit_among parts d) (merit_among parts (entrant_contender (entrant_at row x)))) (sym at.is) ∙ below)
    ]

-- where there is none, nobody is a candidate
none_open : (free : Free) (parts : List PartFacts) (row : List Entrant) (x : ℕ) → greatest free parts (members (map entrant_seat row)) ≡ None
    → x < length row → is_candidate_at parts (entrant_at row x) ≡ true → ⊥
none_open free parts row x h within here =
    nothing _ _ (no_greatest free parts (members (map entrant_seat row)) h) (open_among parts row x within here)
  where
    nothing : (cs : List Contender) (c : Contender) → cs ≡ [] → Contains cs c → ⊥
    nothing cs c none (k, inside, is) = omega (arith, inside, ap length none)

-- ---- its class and its level

-- whoever isn't ahead by level has no lower one
not_lower : (parts : List PartFacts) (a b : Entrant) → is_ahead_by_level parts a b ≡ false → b.level ≤ a.level
not_lower parts a b h = elim (below_or_not a.level b.level) [
  | inr high ↦ high
  | inl low ↦ absurd (clash (is_ahead_by_level parts a b)
      (ap (λ (t : Bool). cond t (is_ahead parts a b) (nat_lt a.level b.level)) (other a.level b.level low) ∙ less a.level b.level low) h)
]
  where
    less : (a b : ℕ) → a < b → nat_lt a b ≡ true
    less a b h = grind (arith, nat_tests)

    other : (a b : ℕ) → a < b → nat_eq a b ≡ false
    other a b h = grind (arith, nat_tests)

small : (parts : List PartFacts) (row : List Entrant) (x : ℕ) → IsQueued row → x < length row → is_candidate_at parts (entrant_at row x) ≡ true
    → (entrant_at row x).level ≤ greatest_priority
small parts row x queued within here = queued.levels x within (open_group parts (entrant_at row x) here)

abbrev told : ℕ → ℕ → Ahead
told class level = record { class = class; priority = greatest_priority - level }

-- what is told of a candidate of this class, where its level is told too
told_of : (free : Free) (parts : List PartFacts) (row : List Entrant) (c : Contender) (k l : ℕ) → (w : IsWon free parts row c)
    → class_at parts (entrant_at row w.place) ≡ k
    → (by_ratio free (merit_among parts c) (merit_among parts c) ≡ false → (entrant_at row w.place).level ≡ l)
    → IsAheadOf free parts c (told k l)
told_of free parts row c k l w class level = record {
  class = sym (ap (λ (d : Contender). (merit_among parts d).class) w.is ∙ class);
  priority = λ h. ap (λ (i : ℕ). greatest_priority - i) (sym (level h)) ∙ sym (ap (λ (d : Contender). d.facts.priority) w.is);
}

-- ---- somebody of class 1

first_won : (free : Free) (parts : List PartFacts) (row : List Entrant) (gates : Gates) (c : Contender) (l : ℕ) → AreGates parts gates → IsQueued row
    → IsHighest row (set_has gates.first) l → HasOneAt row (set_has gates.first) l → IsWon free parts row c → IsAheadOf free parts c (told 1 l)
first_won free parts row gates c l are queued highest one w = elim (in_one parts gates best are w.candidate) [
  | inr two ↦ absurd (clash (is_above free parts e best)
      (above_first free parts e best stands.class (second_stands parts gates best are below two).class) behind)
  | inl first ↦
      let class : class_at parts best ≡ 1 = (first_stands parts gates best are below first).class in
      let most : best.level ≤ e.level =
      not_lower parts e best (sym (above_first_by_level free parts e best stands.class class (small parts row one.place queued one.within stands.candidate)
      (small parts row w.place queued w.within w.candidate)) ∙ behind) in
      told_of free parts row c 1 l w class (λ _. omega (arith, most, one.is, highest.least w.place w.within below first))
]
  where
    best : Entrant
    best = entrant_at row w.place

    below : best.group < group_count
    below = open_group parts best w.candidate

    e : Entrant
    e = entrant_at row one.place

    stands : Stands parts e 1
    stands = first_stands parts gates e are one.there one.among

    behind : is_above free parts e best ≡ false
    behind = w.others one.place one.within stands.candidate

pub first_ahead : (free : Free) (parts : List PartFacts) (row : List Entrant) (gates : Gates) (l : ℕ) → AreGates parts gates → IsQueued row
    → IsHighest row (set_has gates.first) l → l < level_count → IsAhead free parts (greatest free parts (members (map entrant_seat row))) (Some (told 1 l))
first_ahead free parts row gates l are queued highest low = by_result (greatest free parts (members (map entrant_seat row))) refl
  where
    one : HasOneAt row (set_has gates.first) l
    one = highest.some low

    by_result : (r : Option Contender) → greatest free parts (members (map entrant_seat row)) ≡ r → IsAhead free parts r (Some (told 1 l))
    by_result None h =
        none_open free parts row one.place h one.within (first_stands parts gates (entrant_at row one.place) are one.there one.among).candidate
    by_result (Some c) h = first_won free parts row gates c l are queued highest one (won free parts row c queued h)

-- ---- nobody of class 1

-- nobody has a level past the last
nobody_past : (parts : List PartFacts) (row : List Entrant) (set : ℕ → Bool) (l x : ℕ) → IsQueued row → IsHighest row set l → level_count ≤ l → x < length row
    → is_candidate_at parts (entrant_at row x) ≡ true → set (entrant_at row x).group ≡ true → ⊥
nobody_past parts row set l x queued highest past within here among =
    omega (arith, past, small parts row x queued within here, highest.least x within (open_group parts (entrant_at row x) here) among)

-- of class 0 the level comes first unless free time goes by ratio
by_level : (free : Free) (m : Merit) → m.class ≡ 0 → by_ratio free m m ≡ false → free ≡ Priority
by_level Priority m none h = refl
by_level Ratio m none h = absurd (clash (by_ratio Ratio m m) (ap (λ (k : ℕ). nat_eq k 0 && nat_eq k 0) none) h)

second_won : (free : Free) (parts : List PartFacts) (row : List Entrant) (gates : Gates) (c : Contender) (past l : ℕ) → AreGates parts gates → IsQueued row
    → IsHighest row (set_has gates.first) past → level_count ≤ past → IsHighest row (set_has gates.second) l → HasOneAt row (set_has gates.second) l
    → IsWon free parts row c → IsAheadOf free parts c (told 0 l)
second_won free parts row gates c past l are queued none over highest one w = elim (in_one parts gates best are w.candidate) [
  | inl first ↦ absurd (nobody_past parts row (set_has gates.first) past w.place queued none over w.within w.candidate first)
  | inr two ↦
      let class : class_at parts best ≡ 0 = (second_stands parts gates best are below two).class in
      told_of free parts row c 0 l w class (λ h.
      let policy : free ≡ Priority = by_level free (merit_among parts c) (ap (λ (d : Contender). (merit_among parts d).class) w.is ∙ class) h in
      let most : best.level ≤ e.level =
      not_lower parts e best (sym (above_second_by_level parts e best stands.class class (small parts row one.place queued one.within stands.candidate)
      (small parts row w.place queued w.within w.candidate))
      ∙ ap (λ (f : Free). is_above f parts e best) (sym policy) ∙ w.others one.place one.within stands.candidate) in
      omega (arith, most, one.is, highest.least w.place w.within below two))
]
  where
    best : Entrant
    best = entrant_at row w.place

    below : best.group < group_count
    below = open_group parts best w.candidate

    e : Entrant
    e = entrant_at row one.place

    stands : Stands parts e 0
    stands = second_stands parts gates e are one.there one.among

pub second_ahead : (free : Free) (parts : List PartFacts) (row : List Entrant) (gates : Gates) (past l : ℕ) → AreGates parts gates → IsQueued row
    → IsHighest row (set_has gates.first) past → level_count ≤ past → IsHighest row (set_has gates.second) l → l < level_count
    → IsAhead free parts (greatest free parts (members (map entrant_seat row))) (Some (told 0 l))
second_ahead free parts row gates past l are queued none over highest low = by_result (greatest free parts (members (map entrant_seat row))) refl
  where
    one : HasOneAt row (set_has gates.second) l
    one = highest.some low

    by_result : (r : Option Contender) → greatest free parts (members (map entrant_seat row)) ≡ r → IsAhead free parts r (Some (told 0 l))
    by_result None h =
        none_open free parts row one.place h one.within (second_stands parts gates (entrant_at row one.place) are one.there one.among).candidate
    by_result (Some c) h = second_won free parts row gates c past l are queued none over highest one (won free parts row c queued h)

pub nobody_ahead : (free : Free) (parts : List PartFacts) (row : List Entrant) (gates : Gates) (past past_too : ℕ) → AreGates parts gates → IsQueued row
    → IsHighest row (set_has gates.first) past → level_count ≤ past → IsHighest row (set_has gates.second) past_too → level_count ≤ past_too
    → IsAhead free parts (greatest free parts (members (map entrant_seat row))) None
nobody_ahead free parts row gates past past_too are queued none over none_too over_too =
    by_result (greatest free parts (members (map entrant_seat row))) refl
  where
    by_result : (r : Option Contender) → greatest free parts (members (map entrant_seat row)) ≡ r → IsAhead free parts r None
    by_result None h = tt
    by_result (Some c) h =
        let w = won free parts row c queued h in
        elim (in_one parts gates (entrant_at row w.place) are w.candidate) [
          | inl first ↦ nobody_past parts row (set_has gates.first) past w.place queued none over w.within w.candidate first
          | inr two ↦ nobody_past parts row (set_has gates.second) past_too w.place queued none_too over_too w.within w.candidate two
        ]

-- ---- who is below it

-- a running thread is below the greatest candidate exactly where it is below what that is ahead by
pub below_by_ahead : (free : Free) (parts : List PartFacts) (c : Contender) (ahead : Ahead) (running left : Merit) → IsAheadOf free parts c ahead
    → left.class ≡ ahead.class → left.priority ≡ ahead.priority → is_below free running left ≡ is_below free running (merit_among parts c)
below_by_ahead Priority parts c ahead running left is class priority =
    ap (λ (k : ℕ). nat_lt running.class k || (nat_eq running.class k && true && nat_lt running.priority left.priority)) (class ∙ is.class)
    ∙ ap (λ (p : ℕ). nat_lt running.class m.class || (nat_eq running.class m.class && true && nat_lt running.priority p)) (priority ∙ is.priority refl)
  where
    m : Merit
    m = merit_among parts c
below_by_ahead Ratio parts c ahead running left is class priority =
    ap (λ (k : ℕ). test k left.priority) (class ∙ is.class) ∙ by_class (nat_eq m.class 0) refl
  where
    m : Merit
    m = merit_among parts c

    test : ℕ → ℕ → Bool
    test k p = nat_lt running.class k || (nat_eq running.class k && not (nat_eq running.class 0 && nat_eq k 0) && nat_lt running.priority p)

    zero_of : (k : ℕ) → nat_eq k 0 ≡ true → k ≡ 0
    zero_of k h = grind (arith, nat_tests)

    flat : (a t x y : Bool) → (a || (t && not (t && true) && x)) ≡ (a || (t && not (t && true) && y))
    flat a true x y = refl
    flat a false x y = refl

    by_class : (t : Bool) → nat_eq m.class 0 ≡ t → test m.class left.priority ≡ test m.class m.priority
    by_class false h = ap (test m.class) (priority ∙ is.priority (ap (λ (t : Bool). t && t) h))
    by_class true h =
        let none : m.class ≡ 0 = zero_of m.class h in
        ap (λ (k : ℕ). test k left.priority) none
        ∙ flat (nat_lt running.class 0) (nat_eq running.class 0) (nat_lt running.priority left.priority) (nat_lt running.priority m.priority)
        ∙ sym (ap (λ (k : ℕ). test k m.priority) none)
