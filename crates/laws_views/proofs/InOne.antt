-- Each moment lies in one segment.
use Rattle.std.proofs.Common.{◌≡◌, ℕ, ◌<◌, ◌≤◌, List, [], ◌∷◌, ◌++◌, refl, sym, ap, subst, ◌∙◌, inl, inr, arith}
use Rattle.std.proofs.lemmas.Bool.{cases_lt}
use Rattle.view_lives.specs.declared.doing.Doing.{Doing}
use Rattle.view_lives.specs.declared.life.Segment.{Segment}
use Rattle.view_lives.specs.Whole.{SegmentsTell, IsWholeLife, SegmentsTile}
use Rattle.laws_views.specs.Billed.{LiesIn, LiesInOne}

head_same : (s t : Segment) (life other : List Segment) → ◌≡◌ {A = List Segment} (s ∷ life) (t ∷ other) → s ≡ t
head_same s t life other same = cc

tail_same : (s t : Segment) (life other : List Segment) → ◌≡◌ {A = List Segment} (s ∷ life) (t ∷ other) → life ≡ other
tail_same s t life other same = cc

-- later ones begin later
later_from : (a b : ℕ) (front back : List Segment) (s : Segment) → SegmentsTile a b (front ++ s ∷ back) → a ≤ s.from
later_from a b [] back s tiles = let from : s.from ≡ a = tiles.0 in omega (arith, from)
later_from a b (t ∷ front) back s tiles =
    let from : t.from ≡ a = tiles.0 in
    let lasts : t.from < t.to = tiles.1 in
    let rest = later_from t.to b front back s tiles.2 in
    omega (arith, from, lasts, rest)

-- ---- in no other

-- whoever stands behind the first that has it begins later
not_behind : (b m : ℕ) (s t u : Segment) (back front other : List Segment) → SegmentsTile s.to b back → ◌≡◌ {A = List Segment} (s ∷ back) (t ∷ (front ++ u ∷ other)) → LiesIn m s → LiesIn m u → ⊥
not_behind b m s t u back front other tiles same one two =
    let rest : back ≡ front ++ u ∷ other = tail_same s t back (front ++ u ∷ other) same in
    let late = later_from s.to b front other u (subst (SegmentsTile s.to b) rest tiles) in
    let ends = one.to in
    let begins = two.from in
    omega (arith, late, ends, begins)

only_one : (a b m : ℕ) (front back front' back' : List Segment) (s s' : Segment) → SegmentsTile a b (front ++ s ∷ back) → front ++ s ∷ back ≡ front' ++ s' ∷ back' → LiesIn m s → LiesIn m s' → front' ≡ front
only_one a b m [] back [] back' s s' tiles same one two = refl
only_one a b m [] back (t ∷ front') back' s s' tiles same one two = absurd (not_behind b m s t s' back front' back' tiles.2 same one two)
only_one a b m (t ∷ front) back [] back' s s' tiles same one two =
    let head : t ≡ s' = head_same t s' (front ++ s ∷ back) back' same in
    let late = later_from t.to b front back s tiles.2 in
    let ends : m < t.to = subst (λ (u : Segment). m < u.to) (sym head) two.to in
    let begins = one.from in
    absurd (omega (arith, late, ends, begins))
only_one a b m (t ∷ front) back (u ∷ front') back' s s' tiles same one two =
    let head : t ≡ u = head_same t u (front ++ s ∷ back) (front' ++ s' ∷ back') same in
    let rest = only_one t.to b m front back front' back' s s' tiles.2 (tail_same t u (front ++ s ∷ back) (front' ++ s' ∷ back') same) one two in
    ap (λ x. x ∷ front') (sym head) ∙ ap (λ l. t ∷ l) rest

-- ---- in one

record Found (at : ℕ → Doing) (life : List Segment) (m : ℕ) : Type 0 where
  front : List Segment
  back : List Segment
  segment : Segment
  same : life ≡ front ++ segment ∷ back
  lies : LiesIn m segment
  told : at m ≡ segment.doing

find : (at : ℕ → Doing) (a b m : ℕ) (life : List Segment) → SegmentsTile a b life → SegmentsTell at life → a ≤ m → m < b → Found at life m
find at a b m [] tiles told from to = let end : a ≡ b = tiles in absurd (omega (arith, end, from, to))
find at a b m (s ∷ life) tiles told from to =
    let begins : s.from ≡ a = tiles.0 in
    let low : s.from ≤ m = omega (arith, begins, from) in
    elim (cases_lt m s.to) [
      | inl early ↦ record { front = []; back = life; segment = s; same = refl; lies = record { from = low; to = early }; told = told.0 m low early }
      | inr late ↦ behind s life (find at s.to b m life tiles.2 told.1 late to)
    ]
  where
    behind : (s : Segment) (life : List Segment) → Found at life m → Found at (s ∷ life) m
    behind s life rest = record {
      front = s ∷ rest.front;
      back = rest.back;
      segment = rest.segment;
      same = ap (λ l. s ∷ l) rest.same;
      lies = rest.lies;
      told = rest.told;
    }

pub in_one : (at : ℕ → Doing) (a b m : ℕ) (life : List Segment) → IsWholeLife at a b life → a ≤ m → m < b → LiesInOne at life m
in_one at a b m life whole from to =
    let found = find at a b m life whole.tiles whole.told from to in
    record {
      front = found.front;
      back = found.back;
      segment = found.segment;
      same = found.same;
      lies = found.lies;
      told = found.told;
      only = λ front' back' segment' same lies.
          only_one a b m found.front found.back front' back' found.segment segment' (subst (SegmentsTile a b) found.same whole.tiles) (sym found.same ∙ same) found.lies lies;
    }

-- what a segment tells of one of its moments
pub told_in : (at : ℕ → Doing) (front back : List Segment) (s : Segment) (m : ℕ) → SegmentsTell at (front ++ s ∷ back) → LiesIn m s → at m ≡ s.doing
told_in at [] back s m told lies = told.0 m lies.from lies.to
told_in at (t ∷ front) back s m told lies = told_in at front back s m told.1 lies
