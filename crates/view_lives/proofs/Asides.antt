-- Lives told with what stands aside.
use Rattle.std.proofs.Common.{◌≡◌, ℕ, ◌+◌, ◌<◌, ◌≤◌, List, [], ◌∷◌, ◌++◌, length, get_or, replicate, set, true, false, refl, sym, ap, subst, ◌∙◌, inl, inr, arith}
use Rattle.std.proofs.lemmas.Bool.{and_parts, cases_Bool, cases_eq, cases_lt, eqb-true, leb-true, le-ltb, lt-ltb}
use Rattle.std.proofs.lemmas.List.{get_or_default, get_or-replicate, get_or-set_other, get_or-set_same, length_push, length-replicate, same_lists}
use Rattle.std.proofs.lemmas.List.FromFn.{get_or-map-range_with_len, length-map-range_with_len}
use Rattle.aps_model.specs.SchedulerState.{SchedulerState}
use Rattle.view_lives.specs.declared.doing.Doing.{Doing}
use Rattle.view_lives.specs.declared.growing.Aside.{Aside}
use Rattle.view_lives.specs.declared.life.Segment.{Segment}
use Rattle.view_lives.specs.Doing.{doing_of, is_same_doing}
use Rattle.view_lives.specs.Growing.{LifeGoesOnWith, all_told, keeps_on, nothing_aside, told_life, told_of}
use Rattle.view_lives.specs.Life.{AreLonger, joined_segment, last_of, piece_of, with_piece}
use Rattle.view_lives.proofs.Sames.{same_refl, same_true}
use Rattle.view_lives.proofs.Wholes.{last_is, lengthened_is, longer, snoc}

-- ---- a piece in two parts

joined_on : (front : List Segment) (s piece : Segment) → is_same_doing s.doing piece.doing ≡ true → joined_segment (front ++ s ∷ []) piece ≡ front ++ longer s piece.to ∷ []
joined_on front s piece same =
    let some : length (front ++ s ∷ []) ≡ length front + 1 = length_push front s in
    let is_long = lt-ltb 0 (length (front ++ s ∷ [])) (omega (arith, some)) in
    let on : is_same_doing (last_of (front ++ s ∷ [])).doing piece.doing ≡ true = ap (λ (t : Segment). is_same_doing t.doing piece.doing) (last_is front s) ∙ same in
    rw (is_long, on, lengthened_is front s piece.to) refl

joined_off : (front : List Segment) (s piece : Segment) → is_same_doing s.doing piece.doing ≡ false → joined_segment (front ++ s ∷ []) piece ≡ (front ++ s ∷ []) ++ piece ∷ []
joined_off front s piece other =
    let some : length (front ++ s ∷ []) ≡ length front + 1 = length_push front s in
    let is_long = lt-ltb 0 (length (front ++ s ∷ [])) (omega (arith, some)) in
    let off : is_same_doing (last_of (front ++ s ∷ [])).doing piece.doing ≡ false = ap (λ (t : Segment). is_same_doing t.doing piece.doing) (last_is front s) ∙ other in
    rw (is_long, off) refl

module _ (f u t : ℕ) (doing : Doing) where
  abbrev early : Segment
  early = record { from = f; to = u; doing = doing }

  abbrev late : Segment
  late = record { from = u; to = t; doing = doing }

  abbrev whole : Segment
  whole = record { from = f; to = t; doing = doing }

  front_twice : (front : List Segment) (s : Segment) → joined_segment (joined_segment (front ++ s ∷ []) early) late ≡ joined_segment (front ++ s ∷ []) whole
  front_twice front s =
      elim (cases_Bool (is_same_doing s.doing doing)) [
        | inl on ↦ ap (λ l. joined_segment l late) (joined_on front s early on) ∙ joined_on front (longer s u) late on ∙ sym (joined_on front s whole on)
        | inr off ↦ ap (λ l. joined_segment l late) (joined_off front s early off) ∙ joined_on (front ++ s ∷ []) early late (same_refl doing) ∙ sym (joined_off front s whole off)
      ]

  joined_twice : (life : List Segment) → joined_segment (joined_segment life early) late ≡ joined_segment life whole
  joined_twice life =
      elim (snoc life) [
        | inl none ↦ ap (λ l. joined_segment (joined_segment l early) late) none ∙ joined_on [] early late (same_refl doing) ∙ sym (ap (λ l. joined_segment l whole) none)
        | inr some ↦ ap (λ l. joined_segment (joined_segment l early) late) some.2 ∙ front_twice some.0 some.1 ∙ sym (ap (λ l. joined_segment l whole) some.2)
      ]

-- what stands aside goes on with the same
told_on : (life : List Segment) (aside : Aside) (until to : ℕ) → aside.from ≤ until → until < to
    → told_life to life aside ≡ with_piece (told_life until life aside) (record { from = until; to = to; doing = aside.doing })
told_on life aside until to before after =
    elim (cases_lt aside.from until) [
      | inl less ↦ rw (lt-ltb aside.from until less, lt-ltb aside.from to (omega (arith, before, after)), lt-ltb until to after) (sym (joined_twice aside.from until to aside.doing life))
      | inr none ↦
          let same : aside.from ≡ until = omega (arith, before, none) in
          rw (le-ltb aside.from until none, lt-ltb aside.from to (omega (arith, before, after)), lt-ltb until to after)
          (ap (λ f. joined_segment life (record { from = f; to = to; doing = aside.doing })) same)
    ]

pub passed_on : (until from : ℕ) (doing : Doing) (life : List Segment) (aside : Aside) → keeps_on until from aside doing ≡ true → LifeGoesOnWith until from doing life aside life aside
passed_on until from doing life aside keeps = λ to after.
    let parts = and_parts _ _ keeps in
    let left = and_parts _ _ parts.0 in
    let same : until ≡ from = eqb-true until from left.0 in
    let past : aside.from ≤ from = leb-true aside.from from left.1 in
    told_on life aside from to past after
    ∙ ap (λ u. with_piece (told_life u life aside) (record { from = from; to = to; doing = aside.doing })) (sym same)
    ∙ ap (λ d. with_piece (told_life until life aside) (record { from = from; to = to; doing = d })) (same_true aside.doing doing parts.1)

-- as are all threads up to one, where those from another on stand as they stood, and go on with the same
pub passed_more : (s : SchedulerState) (until from i j : ℕ) (start later : List (List Segment)) (start_aside later_aside : List Aside)
    → ((k : ℕ) → k < i → LifeGoesOnWith until from (doing_of s k) (get_or start k []) (get_or start_aside k nothing_aside) (get_or later k []) (get_or later_aside k nothing_aside))
    → ((k : ℕ) → i ≤ k → get_or later k [] ≡ get_or start k []) → ((k : ℕ) → i ≤ k → get_or later_aside k nothing_aside ≡ get_or start_aside k nothing_aside)
    → ((k : ℕ) → i ≤ k → k < j → keeps_on until from (get_or later_aside k nothing_aside) (doing_of s k) ≡ true)
    → (k : ℕ) → k < j → LifeGoesOnWith until from (doing_of s k) (get_or start k []) (get_or start_aside k nothing_aside) (get_or later k []) (get_or later_aside k nothing_aside)
passed_more s until from i j start later start_aside later_aside done same same_aside kept k less =
    let life = get_or start k [] in
    let aside = get_or start_aside k nothing_aside in
    let Passed : List Segment → Aside → Type 0 = λ l a. LifeGoesOnWith until from (doing_of s k) life aside l a in
    elim (cases_lt k i) [
      | inl before ↦ done k before
      | inr past ↦
          let keeps : keeps_on until from aside (doing_of s k) ≡ true = subst (λ a. keeps_on until from a (doing_of s k) ≡ true) (same_aside k past) (kept k past less) in
          subst (λ l. Passed l (get_or later_aside k nothing_aside)) (sym (same k past))
          (subst (λ a. Passed life a) (sym (same_aside k past)) (passed_on until from (doing_of s k) life aside keeps))
    ]

-- ---- all lives

told_at : (until : ℕ) (lives : List (List Segment)) (aside : List Aside) (x : ℕ) (d : List Segment) → x < length lives → get_or (all_told until lives aside) x d ≡ told_of until lives aside x
told_at until lives aside x d less = get_or-map-range_with_len (told_of until lives aside) 0 (length lives) x x d less (omega arith)

pub told_count : (until : ℕ) (lives : List (List Segment)) (aside : List Aside) → length (all_told until lives aside) ≡ length lives
told_count until lives aside = length-map-range_with_len (told_of until lives aside) 0 (length lives)

pub none_told : (count : ℕ) → all_told 0 (replicate count []) (replicate count nothing_aside) ≡ replicate count []
none_told count =
    let lives : List (List Segment) = replicate count [] in
    let long : length lives ≡ count = length-replicate count [] in
    same_lists (all_told 0 lives (replicate count nothing_aside)) lives (told_count 0 lives (replicate count nothing_aside))
    (λ k d less.
    let there : k < length lives = let counted = told_count 0 lives (replicate count nothing_aside) in omega (arith, less, counted) in
    let here : k < count = omega (arith, there, long) in
    told_at 0 lives (replicate count nothing_aside) k d there
    ∙ ap (λ l. told_life 0 l (get_or (replicate count nothing_aside) k nothing_aside)) (get_or-replicate count k [] [] here)
    ∙ ap (λ a. told_life 0 [] a) (get_or-replicate count k nothing_aside nothing_aside here)
    ∙ sym (get_or-replicate count k [] d here))

pub all_longer : (s : SchedulerState) (until from to : ℕ) (lives later : List (List Segment)) (aside later_aside : List Aside) → from < to → length later ≡ length lives
    → ((x : ℕ) → x < length lives → LifeGoesOnWith until from (doing_of s x) (get_or lives x []) (get_or aside x nothing_aside) (get_or later x []) (get_or later_aside x nothing_aside))
    → AreLonger s from to (all_told until lives aside) (all_told to later later_aside)
all_longer s until from to lives later aside later_aside after count passed =
    let before = told_count until lives aside in
    record {
      count = told_count to later later_aside ∙ count ∙ sym before;
      each = λ x less.
          let here : x < length lives = omega (arith, less, before) in
          told_at to later later_aside x [] (omega (arith, here, count)) ∙ passed x here to after
          ∙ ap (λ l. with_piece l (piece_of s x from to)) (sym (told_at until lives aside x [] here));
    }

pub all_closed : (until : ℕ) (lives closed : List (List Segment)) (aside : List Aside) → length closed ≡ length lives
    → ((x : ℕ) → x < length lives → get_or closed x [] ≡ told_of until lives aside x) → closed ≡ all_told until lives aside
all_closed until lives closed aside count each =
    same_lists closed (all_told until lives aside) (count ∙ sym (told_count until lives aside))
    (λ k d less.
    let here : k < length lives = omega (arith, less, count) in
    get_or_default closed k d [] less ∙ each k here ∙ sym (told_at until lives aside k d here))

-- ---- one thread more of a loop

pub both_more : {A B : Type 0} (P : ℕ → A → B → Type 0) (a : A) (b : B) (xs : List A) (ys : List B) (i : ℕ) (x : A) (y : B) → i < length xs → length ys ≡ length xs
    → ((k : ℕ) → k < i → P k (get_or xs k a) (get_or ys k b)) → P i x y → (k : ℕ) → k < i + 1 → P k (get_or (set xs i x) k a) (get_or (set ys i y) k b)
both_more P a b xs ys i x y inside same done here k less =
    elim (cases_eq k i) [
      | inl is ↦ rw (is, get_or-set_same xs i x a inside, get_or-set_same ys i y b (omega (arith, inside, same))) here
      | inr other ↦ rw (get_or-set_other xs i k x a other, get_or-set_other ys i k y b other) (done k (omega (arith, less, other)))
    ]
