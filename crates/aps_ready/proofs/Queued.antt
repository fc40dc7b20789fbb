use Rattle.std.proofs.Common.{◌≡◌, ◌≢◌, ◌⊎◌, inl, inr, ℕ, zero, suc, ◌+◌, ◌-◌, ◌%◌, ◌<◌, ◌≤◌, Bool, true, false, cond, nat_lt, List, ◌∷◌, length, map, get_or, set, replicate, Option, Some, None, All, refl, sym, ◌∙◌, ap, subst, arith, length-set, get_or-set_same, get_or-set_other}
use Rattle.std.specs.Option.{option_map}
use Rattle.std.proofs.lemmas.Bool.{cases_eq}
use Rattle.std.proofs.lemmas.Bool.Decides.{nat_tests}
use Rattle.std.proofs.lemmas.List.{map-set, get_or-map, get_or-replicate, get_or_past, length-replicate, length-map}
use Rattle.aps_model.specs.declared.state.Facts.{Facts}
use Rattle.aps_model.specs.declared.merit.Contender.{Contender}
use Rattle.aps_model.specs.Limits.{greatest_priority, last_partition, last_thread, most_partitions}
use Rattle.aps_ready.specs.declared.entrant.Entrant.{Entrant}
use Rattle.aps_ready.specs.Ready.{IsStampFree, entrant_contender, entrant_seat, with_facts, HasThreads, IsQueued}
use Rattle.aps_ready.specs.Entrant.{entrant_at, entrant_of, group_of, vacant}
use Rattle.aps_ready.specs.Group.{group_count}

-- who may be set at a place
pub record IsWelcome (row : List Entrant) (x : ℕ) (e : Entrant) : Type 0 where
  pub level : e.level ≤ greatest_priority
  pub thread : e.thread ≡ x
  pub stamp : (y : ℕ) → y < length row → y ≢ x → (entrant_at row y).group < group_count → (entrant_at row y).stamp ≢ e.stamp

pub queued_set : (row : List Entrant) (x : ℕ) (e : Entrant) → IsQueued row → x < length row → (e.group < group_count → IsWelcome row x e) → IsQueued (set row x e)
queued_set row x e queued within welcome =
    let here : entrant_at (set row x e) x ≡ e = get_or-set_same row x e vacant within in
    let there : (y : ℕ) → y ≢ x → entrant_at (set row x e) y ≡ entrant_at row y = λ y ne. get_or-set_other row x y e vacant ne in
    let inside : (y : ℕ) → y < length (set row x e) → y < length row = λ y below. omega (arith, below, length-set row x e) in
    record {
      levels = λ y below. elim (cases_eq y x) [
        | inl same ↦ subst (λ (j : ℕ). (entrant_at (set row x e) j).group < group_count → (entrant_at (set row x e) j).level ≤ greatest_priority) (sym same) (rw here (λ g. (welcome g).level))
        | inr ne ↦ rw (there y ne) (queued.levels y (inside y below))
      ];
      threads = λ y below. elim (cases_eq y x) [
        | inl same ↦ subst (λ (j : ℕ). (entrant_at (set row x e) j).group < group_count → (entrant_at (set row x e) j).thread ≡ j) (sym same) (rw here (λ g. (welcome g).thread))
        | inr ne ↦ rw (there y ne) (queued.threads y (inside y below))
      ];
      stamps = λ y z y_below z_below. elim (cases_eq y x) [
        | inl y_same ↦ elim (cases_eq z x) [
          | inl z_same ↦ λ _ _ _. y_same ∙ sym z_same
          | inr z_other ↦ subst (λ (j : ℕ). (entrant_at (set row x e) j).group < group_count → (entrant_at (set row x e) z).group < group_count → (entrant_at (set row x e) j).stamp ≡ (entrant_at (set row x e) z).stamp → j ≡ z) (sym y_same)
              (rw (here, there z z_other) (λ g h same. absurd ((welcome g).stamp z (inside z z_below) z_other h (sym same))))
        ]
        | inr y_other ↦ elim (cases_eq z x) [
          | inl z_same ↦ subst (λ (j : ℕ). (entrant_at (set row x e) y).group < group_count → (entrant_at (set row x e) j).group < group_count → (entrant_at (set row x e) y).stamp ≡ (entrant_at (set row x e) j).stamp → y ≡ j) (sym z_same)
              (rw (here, there y y_other) (λ g h same. absurd ((welcome h).stamp y (inside y y_below) y_other g same)))
          | inr z_other ↦ rw (there y y_other, there z z_other) (queued.stamps y z (inside y y_below) (inside z z_below))
        ]
      ];
    }

pub threads_set : (row : List Entrant) (x : ℕ) (e : Entrant) → HasThreads row → x < length row → (e.group < group_count → x ≤ last_thread)
    → HasThreads (set row x e)
threads_set row x e few within small y there = elim (cases_eq y x) [
  | inl same ↦
      let at : entrant_at (set row x e) y ≡ e = ap (entrant_at (set row x e)) same ∙ get_or-set_same row x e vacant within in
      omega (arith, same, small (subst (λ (f : Entrant). f.group < group_count) at there))
  | inr other ↦ few y (subst (λ (f : Entrant). f.group < group_count) (get_or-set_other row x y e vacant other) there)
]

pub threads_replicate : (n : ℕ) → HasThreads (replicate n vacant)
threads_replicate n x there = elim (below_or_not x n) [
  | inl low ↦ absurd (omega (arith, there, ap (λ (f : Entrant). f.group) (get_or-replicate n x vacant vacant low)))
  | inr past ↦
      absurd (omega (arith, there, ap (λ (f : Entrant). f.group) (get_or_past (replicate n vacant) x vacant (omega (arith, past, length-replicate n vacant)))))
]
  where
    below_or_not : (a b : ℕ) → (a < b) ⊎ (b ≤ a)
    below_or_not a b = search arith

pub queued_replicate : (n : ℕ) → IsQueued (replicate n vacant)
queued_replicate n =
    let read : (x : ℕ) → x < length (replicate n vacant) → entrant_at (replicate n vacant) x ≡ vacant = λ x below. get_or-replicate n x vacant vacant (omega (arith, below, length-replicate n vacant)) in
    record {
      levels = λ x below g. absurd (none (entrant_at (replicate n vacant) x) (read x below) g);
      threads = λ x below g. absurd (none (entrant_at (replicate n vacant) x) (read x below) g);
      stamps = λ x y x_below y_below g. absurd (none (entrant_at (replicate n vacant) x) (read x x_below) g);
    }
  where
    none : (e : Entrant) → e ≡ vacant → e.group < group_count → ⊥
    none e is g = omega (arith, ap (λ (f : Entrant). f.group) is, g)

-- ---- the row that contracts see

pub seats_set : (row : List Entrant) (seats : List (Option Contender)) (new : List Entrant) (x i : ℕ) (e : Entrant) (seat : Option Contender)
    → map entrant_seat row ≡ seats → new ≡ set row i e → i ≡ x → entrant_seat e ≡ seat → map entrant_seat new ≡ set seats x seat
seats_set row seats new x i e seat view is same seen =
    ap (map entrant_seat) is ∙ map-set entrant_seat row i e ∙ ap (λ (l : List (Option Contender)). set l i (entrant_seat e)) view
    ∙ ap (λ (j : ℕ). set seats j (entrant_seat e)) same ∙ ap (set seats x) seen

seen_group : (p : ℕ) (critical : Bool) → p ≤ last_partition
    → (nat_lt (cond critical (p + most_partitions) p) group_count ≡ true) × (cond critical (p + most_partitions) p % most_partitions ≡ p)
    × (nat_lt last_partition (cond critical (p + most_partitions) p) ≡ critical)
seen_group p true small = (grind (arith, nat_tests), omega (arith, small), grind (arith, nat_tests))
seen_group p false small = (grind (arith, nat_tests), omega (arith, small), grind (arith, nat_tests))

pub seen : (x : ℕ) (facts : Facts) (stamp : ℕ) → facts.partition ≤ last_partition → facts.priority ≤ greatest_priority
    → entrant_seat (entrant_of x facts stamp) ≡ Some (record { thread = x; facts = facts; stamp = stamp })
seen x facts stamp partition priority =
    let group = seen_group facts.partition facts.critical partition in
    let level : greatest_priority - (greatest_priority - facts.priority) ≡ facts.priority = omega (arith, priority) in
    rw (group.0, group.1, group.2, level) refl

pub in_group : (facts : Facts) → facts.partition ≤ last_partition → group_of facts < group_count
in_group facts small = by_mark facts.critical
  where
    by_mark : (b : Bool) → cond b (facts.partition + most_partitions) facts.partition < group_count
    by_mark true = omega (arith, small)
    by_mark false = omega (arith, small)

pub replicate_seats : (n : ℕ) → map entrant_seat (replicate n vacant) ≡ replicate n None
replicate_seats zero = refl
replicate_seats (suc n) = ap (λ (rest : List (Option Contender)). None ∷ rest) (replicate_seats n)

pub seat_in : (e : Entrant) → e.group < group_count → entrant_seat e ≡ Some (entrant_contender e)
seat_in e g = grind (arith, nat_tests)

pub seat_at : (row : List Entrant) (x : ℕ) → x < length row → get_or (map entrant_seat row) x None ≡ entrant_seat (entrant_at row x)
seat_at row x within = get_or-map entrant_seat row x vacant None within

-- nobody who is in has a stamp that is free
pub free_stamp : (row : List Entrant) (seats : List (Option Contender)) (stamp y : ℕ) → map entrant_seat row ≡ seats → All (IsStampFree stamp) seats → y < length row → (entrant_at row y).group < group_count
    → (entrant_at row y).stamp ≢ stamp
free_stamp row seats stamp y view free within g =
    let at : IsStampFree stamp (get_or (map entrant_seat row) y None) = rw view (free y None (omega (arith, within, length-map row entrant_seat, ap length view))) in
    subst (IsStampFree stamp) (seat_at row y within ∙ seat_in (entrant_at row y) g) at

-- who is seen is in
pub is_in : (e : Entrant) → (entrant_seat e ≡ None → ⊥) → e.group < group_count
is_in e some = by_test (nat_lt e.group group_count) refl
  where
    by_test : (t : Bool) → nat_lt e.group group_count ≡ t → e.group < group_count
    by_test true h = grind (arith, nat_tests)
    by_test false h = absurd (some (ap (λ b. cond b (Some (entrant_contender e)) None) h))

-- who isn't seen is out
pub is_out : (e : Entrant) → entrant_seat e ≡ None → group_count ≤ e.group
is_out e none = by_test (nat_lt e.group group_count) refl
  where
    by_test : (t : Bool) → nat_lt e.group group_count ≡ t → group_count ≤ e.group
    by_test false h = grind (arith, nat_tests)
    by_test true h = absurd (some_none (entrant_contender e) (sym (ap (λ b. cond b (Some (entrant_contender e)) None) h) ∙ none))
      where
        some_none : (c : Contender) → Some c ≡ None → ⊥
        some_none c p = cc

-- the stamp of somebody who is taken out is free
pub free_without : (row : List Entrant) (x stamp : ℕ) → IsQueued row → x < length row → (entrant_at row x).group < group_count
    → stamp ≡ (entrant_at row x).stamp → All (IsStampFree stamp) (set (map entrant_seat row) x None)
free_without row x stamp queued within there is k d below = elim (cases_eq k x) [
  | inl same ↦
      subst (IsStampFree stamp) (sym (ap (λ (i : ℕ). get_or (set (map entrant_seat row) x None) i d) same
      ∙ get_or-set_same (map entrant_seat row) x None d (omega (arith, within, length-map row entrant_seat)))) tt
  | inr other ↦
      subst (IsStampFree stamp) (sym (get_or-set_other (map entrant_seat row) x k None d other ∙ get_or-map entrant_seat row k vacant d inside))
      (by_test (nat_lt (entrant_at row k).group group_count) refl other)
]
  where
    inside : k < length row
    inside = omega (arith, below, length-set (map entrant_seat row) x None, length-map row entrant_seat)

    by_test : (t : Bool) → nat_lt (entrant_at row k).group group_count ≡ t → k ≢ x
        → IsStampFree stamp (cond t (Some (entrant_contender (entrant_at row k))) None)
    by_test true h other =
        let g : (entrant_at row k).group < group_count = grind (arith, nat_tests) in
        λ same. other (queued.stamps k x inside within g there (same ∙ is))
    by_test false h other = tt

pub changed_seat : (e : Entrant) (x : ℕ) (facts : Facts) → e.group < group_count → e.thread ≡ x
    → Some (record { thread = x; facts = facts; stamp = e.stamp }) ≡ option_map (with_facts facts) (entrant_seat e)
changed_seat e x facts g same = rw (seat_in e g, same) refl

pub place_in_row : (row : List Entrant) (seats : List (Option Contender)) (x i : ℕ) → map entrant_seat row ≡ seats → x < length seats → i ≡ x → i < length row
place_in_row row seats x i view within same = omega (arith, within, same, length-map row entrant_seat, ap length view)

-- what is seen at a place
pub seen_at : (row : List Entrant) (seats : List (Option Contender)) (x i : ℕ) → map entrant_seat row ≡ seats → x < length seats → i ≡ x → entrant_seat (entrant_at row i) ≡ get_or seats x None
seen_at row seats x i view within same =
    sym (seat_at row i (place_in_row row seats x i view within same)) ∙ ap (λ (l : List (Option Contender)). get_or l i None) view ∙ ap (λ (j : ℕ). get_or seats j None) same
