-- Segments that tell what is done at each moment.
use Rattle.std.proofs.Common.{◌≡◌, ◌≢◌, ℕ, ◌+◌, ◌-◌, ◌<◌, ◌≤◌, List, [], ◌∷◌, ◌++◌, length, ◌⊎◌, false, slice_set, refl, sym, ap, subst, ◌∙◌, inl, inr, arith}
use Rattle.std.proofs.lemmas.Bool.{cases_Bool, cases_lt, cases_order, lt-ltb, le-ltb}
use Rattle.std.proofs.lemmas.List.{get_or_push, length_push, set_at}
use Rattle.view_lives.specs.declared.doing.Doing.{Doing}
use Rattle.view_lives.specs.declared.life.Segment.{Segment}
use Rattle.view_lives.specs.Doing.{is_same_doing}
use Rattle.view_lives.specs.Life.{joined_segment, last_of, lengthened, no_segment, with_piece}
use Rattle.view_lives.specs.Whole.{SegmentsTell, IsWholeLife, NeighboursDiffer, SegmentsTile}
use Rattle.view_lives.proofs.Sames.{same_false, same_true}

-- ---- how segments follow each other

pub tiles_up : (a b : ℕ) (life : List Segment) → SegmentsTile a b life → a ≤ b
tiles_up a b [] tiles = omega (arith, tiles)
tiles_up a b (s ∷ life) tiles = omega (arith, tiles.0, tiles.1, tiles_up s.to b life tiles.2)

tiles_push : (a b : ℕ) (life : List Segment) (piece : Segment) → SegmentsTile a b life → piece.from ≡ b → piece.from < piece.to → SegmentsTile a piece.to (life ++ piece ∷ [])
tiles_push a b [] piece tiles from lasts = (from ∙ sym tiles, lasts, refl)
tiles_push a b (s ∷ life) piece tiles from lasts = (tiles.0, tiles.1, tiles_push s.to b life piece tiles.2 from lasts)

-- the last segment, up to a later moment
abbrev pub longer : Segment → ℕ → Segment
longer s c = record s { to = c }

tiles_longer : (a b c : ℕ) (front : List Segment) (s : Segment) → SegmentsTile a b (front ++ s ∷ []) → b ≤ c → SegmentsTile a c (front ++ longer s c ∷ [])
tiles_longer a b c [] s tiles later = let end : s.to ≡ b = tiles.2 in (tiles.0, omega (arith, tiles.1, end, later), refl)
tiles_longer a b c (t ∷ front) s tiles later = (tiles.0, tiles.1, tiles_longer t.to b c front s tiles.2 later)

-- the last one ends where all end
last_to : (a b : ℕ) (front : List Segment) (s : Segment) → SegmentsTile a b (front ++ s ∷ []) → s.to ≡ b
last_to a b [] s tiles = tiles.2
last_to a b (t ∷ front) s tiles = last_to t.to b front s tiles.2

-- ---- neighbours

differ_push : (front : List Segment) (s piece : Segment) → NeighboursDiffer (front ++ s ∷ []) → s.doing ≢ piece.doing → NeighboursDiffer ((front ++ s ∷ []) ++ piece ∷ [])
differ_push [] s piece differ other = (other, tt)
differ_push (t ∷ []) s piece differ other = (differ.0, (other, tt))
differ_push (t ∷ u ∷ front) s piece differ other = (differ.0, differ_push (u ∷ front) s piece differ.1 other)

differ_longer : (front : List Segment) (s : Segment) (c : ℕ) → NeighboursDiffer (front ++ s ∷ []) → NeighboursDiffer (front ++ longer s c ∷ [])
differ_longer [] s c differ = tt
differ_longer (t ∷ []) s c differ = (differ.0, tt)
differ_longer (t ∷ u ∷ front) s c differ = (differ.0, differ_longer (u ∷ front) s c differ.1)

-- ---- what is told

-- at each moment before one, both tell the same
abbrev pub AgreeBefore : ℕ → (ℕ → Doing) → (ℕ → Doing) → Type 0
AgreeBefore b at now = (m : ℕ) → m < b → now m ≡ at m

told_same : (at now : ℕ → Doing) (a b : ℕ) (life : List Segment) → SegmentsTile a b life → AgreeBefore b at now → SegmentsTell at life → SegmentsTell now life
told_same at now a b [] tiles agree told = tt
told_same at now a b (s ∷ life) tiles agree told =
    let up = tiles_up s.to b life tiles.2 in
    (λ m from to. agree m (omega (arith, to, up)) ∙ told.0 m from to, told_same at now s.to b life tiles.2 agree told.1)

told_push : (now : ℕ → Doing) (life : List Segment) (piece : Segment) → SegmentsTell now life → ((m : ℕ) → piece.from ≤ m → m < piece.to → now m ≡ piece.doing) → SegmentsTell now (life ++ piece ∷ [])
told_push now [] piece told here = (here, tt)
told_push now (s ∷ life) piece told here = (told.0, told_push now life piece told.1 here)

told_longer : (now : ℕ → Doing) (front : List Segment) (s : Segment) (c : ℕ) → SegmentsTell now (front ++ s ∷ []) → ((m : ℕ) → s.to ≤ m → m < c → now m ≡ s.doing) → SegmentsTell now (front ++ longer s c ∷ [])
told_longer now [] s c told here = (λ m from to. elim (cases_lt m s.to) [ inl before ↦ told.0 m from before | inr after ↦ here m after to ], tt)
told_longer now (t ∷ front) s c told here = (told.0, told_longer now front s c told.1 here)

-- ---- a piece more

pub snoc : (life : List Segment) → (life ≡ []) ⊎ ((front : List Segment) × (s : Segment) × (life ≡ front ++ s ∷ []))
snoc [] = inl refl
snoc (t ∷ life) =
    elim (snoc life) [
      | inl none ↦ inr ([], t, ap (λ l. t ∷ l) none)
      | inr some ↦ inr (t ∷ some.0, some.1, ap (λ l. t ∷ l) some.2)
    ]

last_place : (front : List Segment) (s : Segment) → length front ≡ length (front ++ s ∷ []) - 1
last_place front s = let long = length_push front s in omega (arith, long)

pub last_is : (front : List Segment) (s : Segment) → last_of (front ++ s ∷ []) ≡ s
last_is front s = get_or_push front s no_segment (length (front ++ s ∷ []) - 1) (last_place front s)

pub lengthened_is : (front : List Segment) (s : Segment) (c : ℕ) → lengthened (front ++ s ∷ []) c ≡ front ++ longer s c ∷ []
lengthened_is front s c =
    ap (λ (t : Segment). slice_set (front ++ s ∷ []) (length (front ++ s ∷ []) - 1) (longer t c)) (last_is front s)
    ∙ set_at front s [] (longer s c) (length (front ++ s ∷ []) - 1) (last_place front s)

module _ (at now : ℕ → Doing) (a b c : ℕ) (doing : Doing) (lasts : b < c) (agree : AgreeBefore b at now) (new : (m : ℕ) → b ≤ m → m < c → now m ≡ doing) where
  abbrev piece : Segment
  piece = record { from = b; to = c; doing = doing }

  pushed : (life : List Segment) → IsWholeLife at a b life → NeighboursDiffer (life ++ piece ∷ []) → IsWholeLife now a c (life ++ piece ∷ [])
  pushed life whole differ = record {
    tiles = tiles_push a b life piece whole.tiles refl lasts;
    differ = differ;
    told = told_push now life piece (told_same at now a b life whole.tiles agree whole.told) new;
  }

  grown : (front : List Segment) (s : Segment) → IsWholeLife at a b (front ++ s ∷ []) → s.doing ≡ doing → IsWholeLife now a c (front ++ longer s c ∷ [])
  grown front s whole same =
      let end = last_to a b front s whole.tiles in
      record {
        tiles = tiles_longer a b c front s whole.tiles (omega (arith, lasts));
        differ = differ_longer front s c whole.differ;
        told = told_longer now front s c (told_same at now a b (front ++ s ∷ []) whole.tiles agree whole.told) (λ m from to. new m (omega (arith, from, end)) to ∙ sym same);
      }

  joined_front : (front : List Segment) (s : Segment) → IsWholeLife at a b (front ++ s ∷ []) → IsWholeLife now a c (joined_segment (front ++ s ∷ []) piece)
  joined_front front s whole =
      let some : length (front ++ s ∷ []) ≡ length front + 1 = length_push front s in
      let is_long = lt-ltb 0 (length (front ++ s ∷ [])) (omega (arith, some)) in
      elim (cases_Bool (is_same_doing (last_of (front ++ s ∷ [])).doing doing)) [
        | inl on ↦
            let same : s.doing ≡ doing = ap (λ (t : Segment). t.doing) (sym (last_is front s)) ∙ same_true _ doing on in
            rw (is_long, on, lengthened_is front s c) (grown front s whole same)
        | inr off ↦
            let other = same_false s.doing doing (subst (λ (t : Segment). is_same_doing t.doing doing ≡ false) (last_is front s) off) in
            rw (is_long, off) (pushed (front ++ s ∷ []) whole (differ_push front s piece whole.differ other))
      ]

  joined_whole : (life : List Segment) → IsWholeLife at a b life → IsWholeLife now a c (joined_segment life piece)
  joined_whole life whole =
      elim (snoc life) [
        | inl none ↦ subst (λ l. IsWholeLife now a c (joined_segment l piece)) (sym none) (pushed [] (subst (IsWholeLife at a b) none whole) tt)
        | inr some ↦ subst (λ l. IsWholeLife now a c (joined_segment l piece)) (sym some.2) (joined_front some.0 some.1 (subst (IsWholeLife at a b) some.2 whole))
      ]

-- segments that are told go on to be with a piece more
pub whole_more : (at now : ℕ → Doing) (a b c : ℕ) (doing : Doing) (life : List Segment) → IsWholeLife at a b life → b ≤ c → AgreeBefore b at now → ((m : ℕ) → b ≤ m → m < c → now m ≡ doing)
    → IsWholeLife now a c (with_piece life (record { from = b; to = c; doing = doing }))
whole_more at now a b c doing life whole later agree new =
    elim (cases_lt b c) [
      | inl lasts ↦ rw (lt-ltb b c lasts) (piece_joined lasts)
      | inr none ↦
          let same : b ≡ c = omega (arith, none, later) in
          rw (le-ltb b c none) (subst (λ d. IsWholeLife now a d life) same (record { tiles = whole.tiles; differ = whole.differ; told = told_same at now a b life whole.tiles agree whole.told }))
    ]
  where
    piece_joined : b < c → IsWholeLife now a c (joined_segment life (record { from = b; to = c; doing = doing }))
    piece_joined lasts = joined_whole at now a b c doing lasts agree new life whole

-- ---- and there are no others

heads_end : (at : ℕ → Doing) (a b : ℕ) (s t : Segment) (life other : List Segment) → IsWholeLife at a b (s ∷ life) → IsWholeLife at a b (t ∷ other) → s.to < t.to → ⊥
heads_end at a b s t [] other one two less =
    let end : s.to ≡ b = one.tiles.2 in
    let up = tiles_up t.to b other two.tiles.2 in
    omega (arith, end, up, less)
heads_end at a b s t (u ∷ life) other one two less =
    let next : u.from ≡ s.to = one.tiles.2.0 in
    let lasts = one.tiles.2.1 in
    let from : s.from ≡ a = one.tiles.0 in
    let from' : t.from ≡ a = two.tiles.0 in
    let here = one.told.0 s.from (omega arith) one.tiles.1 in
    let there = two.told.0 s.from (omega (arith, from, from')) (omega (arith, less, one.tiles.1)) in
    let later = one.told.1.0 u.from (omega arith) lasts in
    let inside = two.told.0 u.from (omega (arith, next, from, from', one.tiles.1)) (omega (arith, next, less)) in
    one.differ.0 (sym here ∙ there ∙ sym inside ∙ later)

rest : (at : ℕ → Doing) (a b : ℕ) (s : Segment) (life : List Segment) → IsWholeLife at a b (s ∷ life) → IsWholeLife at s.to b life
rest at a b s life whole = record { tiles = whole.tiles.2; differ = tail life whole.differ; told = whole.told.1 }
  where
    tail : (l : List Segment) → NeighboursDiffer (s ∷ l) → NeighboursDiffer l
    tail [] d = tt
    tail (t ∷ l) d = d.1

same_segment : (s t : Segment) → s.from ≡ t.from → s.to ≡ t.to → s.doing ≡ t.doing → s ≡ t
same_segment s t from to doing =
    let made : ℕ → ℕ → Doing → Segment = λ f u d. record { from = f; to = u; doing = d } in
    ap (λ f. made f s.to s.doing) from ∙ ap (λ u. made t.from u s.doing) to ∙ ap (λ d. made t.from t.to d) doing

pub one_whole : (at : ℕ → Doing) (a b : ℕ) (life other : List Segment) → IsWholeLife at a b life → IsWholeLife at a b other → life ≡ other
one_whole at a b [] [] one two = refl
one_whole at a b [] (t ∷ other) one two = absurd (omega (arith, one.tiles, two.tiles.0, two.tiles.1, tiles_up t.to b other two.tiles.2))
one_whole at a b (s ∷ life) [] one two = absurd (omega (arith, two.tiles, one.tiles.0, one.tiles.1, tiles_up s.to b life one.tiles.2))
one_whole at a b (s ∷ life) (t ∷ other) one two =
    let to : s.to ≡ t.to = same_end (cases_order s.to t.to) in
    let from : s.from ≡ t.from = one.tiles.0 ∙ sym two.tiles.0 in
    let doing : s.doing ≡ t.doing = sym (one.told.0 s.from (omega arith) one.tiles.1) ∙ two.told.0 s.from (omega (arith, from)) (omega (arith, to, one.tiles.1)) in
    ap (λ x. x ∷ life) (same_segment s t from to doing)
    ∙ ap (λ l. t ∷ l) (one_whole at t.to b life other (subst (λ m. IsWholeLife at m b life) to (rest at a b s life one)) (rest at a b t other two))
  where
    same_end : (s.to ≡ t.to) ⊎ ((s.to < t.to) ⊎ (t.to < s.to)) → s.to ≡ t.to
    same_end (inl same) = same
    same_end (inr (inl less)) = absurd (heads_end at a b s t life other one two less)
    same_end (inr (inr less)) = absurd (heads_end at a b t s other life two one less)
