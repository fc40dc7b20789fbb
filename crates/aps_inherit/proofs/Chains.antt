-- Links that stand for a list, as a number comes into it and as one goes.
use Rattle.std.proofs.Common.{◌≡◌, ◌≢◌, ℕ, zero, suc, ◌+◌, ◌<◌, ◌≤◌, List, [], ◌∷◌, length, sym, ◌∙◌, ap, refl, Bool, true, false, cond, nat_eq, ◌||◌, ◌⊎◌, arith, inl, inr, Option, Some, None, is_some, replicate, slice_set, length-set}
use Rattle.std.specs.List.{count_by}
use Rattle.std.proofs.lemmas.List.{get_or-set_same, get_or-set_other, get_or-replicate, get_or_past, length-replicate, set_past}
use Rattle.std.proofs.lemmas.List.Sums.{sum_by-set, count_by-le-length}
use Rattle.std.proofs.lemmas.List.Folds.{sum_by-replicate}
use Rattle.std.proofs.lemmas.Bool.{cases_eq, cases_lt}
use Rattle.aps_model.specs.Limits.{last_thread, most_threads}
use Rattle.aps_inherit.specs.declared.order.Link.{Link}
use Rattle.aps_inherit.specs.Order.{AreApart, after_in, first_of, has, order_without}
use Rattle.aps_inherit.specs.Links.{LinksStandFor, after_link, chain, next_first, order_link_at, link_in, listed, put_after, put_before, order_with_after, order_with_before}
use Rattle.aps_inherit.proofs.Ordering.{AreApart-without, has_not-without, has-here, has-past, has_ne, head_ne, length-without, tail_has_not, test_eq, test_ne, without-here, without-past}

some_same : {A : Type 0} (a b : A) → Some a ≡ Some b → a ≡ b
some_same a b e = cc

-- ---- one link written

link_at-set : (links : List (Option Link)) (x y : ℕ) (v : Option Link) → x < length links
    → order_link_at (slice_set links x v) y ≡ cond (nat_eq x y) v (order_link_at links y)
link_at-set links x y v inside = elim (cases_eq x y) [
  | inl e ↦
      ap (λ n. order_link_at (slice_set links x v) n) (sym e)
      ∙ get_or-set_same links x v None inside
      ∙ sym (ap (λ b. cond b v (order_link_at links y)) (test_eq x y e))
  | inr ne ↦
      get_or-set_other links x y v None (λ e. ne (sym e))
      ∙ sym (ap (λ b. cond b v (order_link_at links y)) (test_ne x y ne))
]

-- a link that is there stands in the row
inside : (links : List (Option Link)) (x : ℕ) (link : Link) → order_link_at links x ≡ Some link → x < length links
inside links x link e = elim (cases_lt x (length links)) [
  | inl lt ↦ lt
  | inr past ↦ absurd (nothing (order_link_at links x) link e (get_or_past links x None past))
]
  where
    nothing : (o : Option Link) (l : Link) → o ≡ Some l → o ≡ None → ⊥
    nothing o l p q = cc

count-set : (links : List (Option Link)) (x : ℕ) (v : Option Link) → x < length links
    → count_by is_some (slice_set links x v) + cond (is_some (order_link_at links x)) 1 0 ≡ count_by is_some links + cond (is_some v) 1 0
count-set links x v lt = sum_by-set (λ (o : Option Link). cond (is_some o) 1 0) links x v None lt

-- ---- the list that links stand for

chain-linked : (most : ℕ) (links : List (Option Link)) (before : Option ℕ) (xs : List ℕ)
    → ((y : ℕ) → has xs y ≡ true → order_link_at links y ≡ link_in before xs y) → AreApart xs → length xs ≤ most
    → chain most links (first_of xs) ≡ xs
chain-linked zero links before [] places apart few = refl
chain-linked (suc most) links before [] places apart few = refl
chain-linked zero links before (x ∷ xs) places apart few = absurd (omega arith)
chain-linked (suc most) links before (x ∷ xs) places apart few =
    ap (λ (o : Option ℕ). x ∷ chain most links o) here ∙ ap (λ l. x ∷ l) (chain-linked most links (Some x) xs later apart.1 (omega arith))
  where
    here : after_link (order_link_at links x) ≡ first_of xs
    here = ap after_link (places x (has-here x x xs refl) ∙ ap
        (λ b. cond b (Some (record { before = before; after = first_of xs })) (link_in (Some x) xs x)) (test_eq x x refl))

    later : (y : ℕ) → has xs y ≡ true → order_link_at links y ≡ link_in (Some x) xs y
    later y there =
        let ne : x ≢ y = λ e. has_ne xs y x there apart.0 (sym e) in
        places y (has-past x y xs ne ∙ there)
        ∙ ap (λ b. cond b (Some (record { before = before; after = first_of xs })) (link_in (Some x) xs y)) (test_ne x y ne)

pub listed-linked : (links : List (Option Link)) (first : Option ℕ) (xs : List ℕ) → LinksStandFor links first xs → listed links first ≡ xs
listed-linked links first xs h =
    ap (λ (o : Option ℕ). listed links o) h.begins
    ∙ chain-linked (length links) links None xs (λ y _. h.places y) h.apart
    (omega (arith, h.count, count_by-le-length {X = Option Link} is_some links))

pub IsLinked-listed : (links : List (Option Link)) (first : Option ℕ) (xs : List ℕ) → LinksStandFor links first xs
    → LinksStandFor links first (listed links first)
IsLinked-listed links first xs h = rw (listed-linked links first xs h) h

-- ---- neighbours in a list

link_in-here : (before : Option ℕ) (x y : ℕ) (xs : List ℕ) → x ≡ y
    → link_in before (x ∷ xs) y ≡ Some (record { before = before; after = first_of xs })
link_in-here before x y xs e =
    ap (λ b. cond b (Some (record { before = before; after = first_of xs })) (link_in (Some x) xs y)) (test_eq x y e)

link_in-past : (before : Option ℕ) (x y : ℕ) (xs : List ℕ) → x ≢ y → link_in before (x ∷ xs) y ≡ link_in (Some x) xs y
link_in-past before x y xs ne =
    ap (λ b. cond b (Some (record { before = before; after = first_of xs })) (link_in (Some x) xs y)) (test_ne x y ne)

-- what isn't there has no neighbours
link_in-absent : (before : Option ℕ) (xs : List ℕ) (y : ℕ) → has xs y ≡ false → link_in before xs y ≡ None
link_in-absent before [] y h = refl
link_in-absent before (x ∷ xs) y h =
    link_in-past before x y xs (head_ne x y xs h) ∙ link_in-absent (Some x) xs y (tail_has_not x y xs h)

-- what has neighbours is there
has-linked : (before : Option ℕ) (xs : List ℕ) (y : ℕ) (link : Link) → link_in before xs y ≡ Some link → has xs y ≡ true
has-linked before [] y link e = cc
has-linked before (x ∷ xs) y link e = elim (cases_eq x y) [
  | inl is ↦ has-here x y xs is
  | inr ne ↦ has-past x y xs ne ∙ has-linked (Some x) xs y link (sym (link_in-past before x y xs ne) ∙ e)
]

abbrev is_at : Option ℕ → ℕ → Bool
is_at None y = false
is_at (Some x) y = nat_eq x y

-- the neighbours of a number in the list whose first is this one
first_is : (xs : List ℕ) (a : ℕ) → first_of xs ≡ Some a → has xs a ≡ true
first_is [] a e = cc
first_is (x ∷ xs) a e = has-here x a xs (some_same x a e)

after_is : (before : Option ℕ) (xs : List ℕ) (y a : ℕ) (link : Link) → link_in before xs y ≡ Some link → link.after ≡ Some a
    → has xs a ≡ true
after_is before [] y a link e n = cc
after_is before (x ∷ xs) y a link e n = elim (cases_eq x y) [
  | inl is ↦
      let link_is : link ≡ record { before = before; after = first_of xs } =
      some_same link (record { before = before; after = first_of xs }) (sym e ∙ link_in-here before x y xs is) in
      more (first_is xs a (sym (ap (λ (l : Link). l.after) link_is) ∙ n))
  | inr ne ↦ more (after_is (Some x) xs y a link (sym (link_in-past before x y xs ne) ∙ e) n)
]
  where
    either : (s t : Bool) → t ≡ true → (s || t) ≡ true
    either true t h = refl
    either false t h = h

    more : has xs a ≡ true → has (x ∷ xs) a ≡ true
    more h = either (nat_eq x a) (has xs a) h

-- what stands before a number that isn't the first is there
before_is : (first : ℕ) (xs : List ℕ) (y b : ℕ) (link : Link) → link_in (Some first) xs y ≡ Some link → link.before ≡ Some b
    → has (first ∷ xs) b ≡ true
before_is first [] y b link e n = cc
before_is first (x ∷ xs) y b link e n = elim (cases_eq x y) [
  | inl is ↦
      let link_is : link ≡ record { before = Some first; after = first_of xs } =
      some_same link (record { before = Some first; after = first_of xs }) (sym e ∙ link_in-here (Some first) x y xs is) in
      has-here first b (x ∷ xs) (some_same first b (sym (ap (λ (l : Link). l.before) link_is) ∙ n))
  | inr ne ↦ either (nat_eq first b) (has (x ∷ xs) b) (before_is x xs y b link (sym (link_in-past (Some first) x y xs ne) ∙ e) n)
]
  where
    either : (s t : Bool) → t ≡ true → (s || t) ≡ true
    either true t h = refl
    either false t h = h

-- ---- a link rewritten in its place

link_at-write : (links : List (Option Link)) (put : Option Link → Option Link) → put None ≡ None → (x y : ℕ)
    → order_link_at (slice_set links x (put (order_link_at links x))) y ≡ cond (nat_eq x y) (put (order_link_at links y)) (order_link_at links y)
link_at-write links put none x y = elim (cases_lt x (length links)) [
  | inl lt ↦ link_at-set links x y (put (order_link_at links x)) lt ∙ same (cases_eq x y)
  | inr past ↦ ap (λ l. order_link_at l y) (set_past links x (put (order_link_at links x)) past) ∙ outside past (cases_eq x y)
]
  where
    same : ((x ≡ y) ⊎ (x ≢ y)) → cond (nat_eq x y) (put (order_link_at links x)) (order_link_at links y)
        ≡ cond (nat_eq x y) (put (order_link_at links y)) (order_link_at links y)
    same (inl e) = ap (λ n. cond (nat_eq x y) (put (order_link_at links n)) (order_link_at links y)) e
    same (inr ne) = ap (λ b. cond b (put (order_link_at links x)) (order_link_at links y)) (test_ne x y ne)
        ∙ sym (ap (λ b. cond b (put (order_link_at links y)) (order_link_at links y)) (test_ne x y ne))

    outside : length links ≤ x → ((x ≡ y) ⊎ (x ≢ y)) → order_link_at links y ≡ cond (nat_eq x y) (put (order_link_at links y)) (order_link_at links y)
    outside past (inl e) =
        let gone : order_link_at links y ≡ None = ap (order_link_at links) (sym e) ∙ get_or_past links x None past in
        gone ∙ sym none ∙ ap put (sym gone) ∙ sym (ap (λ b. cond b (put (order_link_at links y)) (order_link_at links y)) (test_eq x y e))
    outside past (inr ne) = sym (ap (λ b. cond b (put (order_link_at links y)) (order_link_at links y)) (test_ne x y ne))

count-write : (links : List (Option Link)) (put : Option Link → Option Link) → ((o : Option Link) → is_some (put o) ≡ is_some o)
    → (x : ℕ) → count_by is_some (slice_set links x (put (order_link_at links x))) ≡ count_by is_some links
count-write links put keeps x = elim (cases_lt x (length links)) [
  | inl lt ↦
      let one : Bool → ℕ = λ b. cond b 1 0 in
      cancelled (count_by is_some (slice_set links x (put (order_link_at links x)))) (count_by is_some links)
      (one (is_some (order_link_at links x))) (one (is_some (put (order_link_at links x))))
      (count-set links x (put (order_link_at links x)) lt) (ap one (keeps (order_link_at links x)))
  | inr past ↦ ap (λ l. count_by is_some l) (set_past links x (put (order_link_at links x)) past)
]
  where
    cancelled : (a b m n : ℕ) → a + m ≡ b + n → n ≡ m → a ≡ b
    cancelled a b m n e same = omega arith

put_before-there : (before : Option ℕ) (o : Option Link) → is_some (put_before o before) ≡ is_some o
put_before-there before None = refl
put_before-there before (Some link) = refl

put_after-there : (after : Option ℕ) (o : Option Link) → is_some (put_after o after) ≡ is_some o
put_after-there after None = refl
put_after-there after (Some link) = refl

-- what with_before and with_after leave
at-with_before : (links : List (Option Link)) (x before : Option ℕ) (y : ℕ)
    → order_link_at (order_with_before links x before) y ≡ cond (is_at x y) (put_before (order_link_at links y) before) (order_link_at links y)
at-with_before links None before y = refl
at-with_before links (Some x) before y = link_at-write links (λ o. put_before o before) refl x y

at-with_after : (links : List (Option Link)) (x after : Option ℕ) (y : ℕ)
    → order_link_at (order_with_after links x after) y ≡ cond (is_at x y) (put_after (order_link_at links y) after) (order_link_at links y)
at-with_after links None after y = refl
at-with_after links (Some x) after y = link_at-write links (λ o. put_after o after) refl x y

count-with_before : (links : List (Option Link)) (x before : Option ℕ)
    → count_by is_some (order_with_before links x before) ≡ count_by is_some links
count-with_before links None before = refl
count-with_before links (Some x) before = count-write links (λ o. put_before o before) (put_before-there before) x

count-with_after : (links : List (Option Link)) (x after : Option ℕ) → count_by is_some (order_with_after links x after) ≡ count_by is_some links
count-with_after links None after = refl
count-with_after links (Some x) after = count-write links (λ o. put_after o after) (put_after-there after) x

length-with_before : (links : List (Option Link)) (x before : Option ℕ) → length (order_with_before links x before) ≡ length links
length-with_before links None before = refl
length-with_before links (Some x) before = length-set links x (put_before (order_link_at links x) before)

length-with_after : (links : List (Option Link)) (x after : Option ℕ) → length (order_with_after links x after) ≡ length links
length-with_after links None after = refl
length-with_after links (Some x) after = length-set links x (put_after (order_link_at links x) after)

-- ---- a number comes first

second_is : (x : ℕ) (xs : List ℕ) (y : ℕ)
    → cond (is_at (first_of xs) y) (put_before (link_in None xs y) (Some x)) (link_in None xs y) ≡ link_in (Some x) xs y
second_is x [] y = refl
second_is x (z ∷ zs) y = by (nat_eq z y)
  where
    by : (b : Bool) → cond b
        (put_before (cond b (Some (record { before = None; after = first_of zs })) (link_in (Some z) zs y)) (Some x))
        (cond b (Some (record { before = None; after = first_of zs })) (link_in (Some z) zs y))
        ≡ cond b (Some (record { before = Some x; after = first_of zs })) (link_in (Some z) zs y)
    by true = refl
    by false = refl

pub IsLinked-first : (links : List (Option Link)) (first : Option ℕ) (xs : List ℕ) (x : ℕ)
    → LinksStandFor links first xs → has xs x ≡ false → x < most_threads
    → LinksStandFor (slice_set (order_with_before links first (Some x)) x (Some (record { before = None; after = first }))) (Some x) (x ∷ xs)
IsLinked-first links first xs x h new lt = record {
  begins = refl;
  places = λ y.
      link_at-set moved x y link inside_moved
      ∙ ap (λ o. cond (nat_eq x y) link o) (before_at y)
      ∙ ap (λ (o : Option ℕ). cond (nat_eq x y) (Some (record { before = None; after = o })) (link_in (Some x) xs y)) h.begins;
  apart = (new, h.apart);
  count =
      added (count_by is_some (slice_set moved x link)) (count_by is_some moved) (length xs) (one (is_some (order_link_at moved x)))
      counted was_none (count-with_before links first (Some x) ∙ sym h.count);
  size = length-set moved x link ∙ length-with_before links first (Some x) ∙ h.size;
}
  where
    moved : List (Option Link)
    moved = order_with_before links first (Some x)

    link : Option Link
    link = Some (record { before = None; after = first })

    inside_moved : x < length moved
    inside_moved = omega (arith, length-with_before links first (Some x), h.size)

    before_at : (y : ℕ) → order_link_at moved y ≡ link_in (Some x) xs y
    before_at y =
        at-with_before links first (Some x) y
        ∙ ap (λ o. cond (is_at first y) (put_before o (Some x)) o) (h.places y)
        ∙ ap (λ o. cond (is_at o y) (put_before (link_in None xs y) (Some x)) (link_in None xs y)) h.begins
        ∙ second_is x xs y

    absent : order_link_at moved x ≡ None
    absent = before_at x ∙ link_in-absent (Some x) xs x new

    one : Bool → ℕ
    one b = cond b 1 0

    was_none : one (is_some (order_link_at moved x)) ≡ one false
    was_none = ap (λ (o : Option Link). one (is_some o)) absent

    added : (a b k n : ℕ) → a + n ≡ b + 1 → n ≡ 0 → b ≡ k → suc k ≡ a
    added a b k n e none same = omega arith

    counted : count_by is_some (slice_set moved x link) + cond (is_some (order_link_at moved x)) 1 0
        ≡ count_by is_some moved + cond (is_some link) 1 0
    counted = count-set moved x link inside_moved

-- ---- a number goes

-- the neighbours of y once the number with these neighbours has gone
abbrev mended : Link → ℕ → Option Link → Option Link
mended p y o =
    cond (is_at p.before y)
    (put_after (cond (is_at p.after y) (put_before o p.before) o) p.after)
    (cond (is_at p.after y) (put_before o p.before) o)

mended-none : (p : Link) (y : ℕ) → mended p y None ≡ None
mended-none p y = by (is_at p.before y) (is_at p.after y)
  where
    by : (s t : Bool) → cond s (put_after (cond t (put_before None p.before) None) p.after) (cond t (put_before None p.before) None) ≡ None
    by true true = refl
    by true false = refl
    by false true = refl
    by false false = refl

mended-tests : (p : Link) (y : ℕ) (o : Option Link) (s t : Bool) → is_at p.before y ≡ s → is_at p.after y ≡ t
    → mended p y o ≡ cond s (put_after (cond t (put_before o p.before) o) p.after) (cond t (put_before o p.before) o)
mended-tests p y o s t e f =
    ap (λ b. cond b (put_after (cond (is_at p.after y) (put_before o p.before) o) p.after)
    (cond (is_at p.after y) (put_before o p.before) o)) e
    ∙ ap (λ b. cond s (put_after (cond b (put_before o p.before) o) p.after) (cond b (put_before o p.before) o)) f

mended-there : (p : Link) (y : ℕ) (o : Option Link) → is_some (mended p y o) ≡ is_some o
mended-there p y o = by (is_at p.before y) (is_at p.after y) o
  where
    by : (s t : Bool) (o : Option Link)
        → is_some (cond s (put_after (cond t (put_before o p.before) o) p.after) (cond t (put_before o p.before) o)) ≡ is_some o
    by true true None = refl
    by true false None = refl
    by false true None = refl
    by false false None = refl
    by true true (Some l) = refl
    by true false (Some l) = refl
    by false true (Some l) = refl
    by false false (Some l) = refl

is_not_at : (o : Option ℕ) (y : ℕ) → ((a : ℕ) → o ≡ Some a → a ≢ y) → is_at o y ≡ false
is_not_at None y h = refl
is_not_at (Some a) y h = test_ne a y (h a refl)

-- the first of the list goes
first_goes : (before : Option ℕ) (z : ℕ) (zs : List ℕ) (y : ℕ) → ((b : ℕ) → before ≡ Some b → has zs b ≡ false)
    → link_in before zs y ≡ mended (record { before = before; after = first_of zs }) y (link_in (Some z) zs y)
first_goes before z [] y free = sym (mended-none (record { before = before; after = None }) y)
first_goes before z (u ∷ us) y free = elim (cases_eq u y) [
  | inl is ↦
      link_in-here before u y us is
      ∙ sym (mended-tests q y (Some (record { before = Some z; after = first_of us })) false true
      (is_not_at before y (λ b e f. has_ne (u ∷ us) u b (has-here u u us refl) (free b e) (is ∙ sym f))) (test_eq u y is))
      ∙ ap (λ o. mended q y o) (sym (link_in-here (Some z) u y us is))
  | inr ne ↦
      link_in-past before u y us ne
      ∙ beyond before refl (test_ne u y ne)
      ∙ ap (λ o. mended q y o) (sym (link_in-past (Some z) u y us ne))
]
  where
    q : Link
    q = record { before = before; after = Some u }

    unmended : (o : Option Link) (s : Bool) → s ≡ false → is_at before y ≡ s → nat_eq u y ≡ false → o ≡ mended q y o
    unmended o s no_s e f = sym (mended-tests q y o false false (e ∙ no_s) f)

    beyond : (b : Option ℕ) → b ≡ before → nat_eq u y ≡ false → link_in (Some u) us y ≡ mended q y (link_in (Some u) us y)
    beyond None e f = unmended (link_in (Some u) us y) false refl (ap (λ o. is_at o y) (sym e)) f
    beyond (Some b) e f = elim (cases_eq b y) [
      | inl is ↦
          let gone : link_in (Some u) us y ≡ None =
          link_in-absent (Some u) us y (ap (has us) (sym is) ∙ tail_has_not u b us (free b (sym e))) in
          gone ∙ sym (mended-none q y) ∙ ap (λ o. mended q y o) (sym gone)
      | inr ne ↦ unmended (link_in (Some u) us y) false refl (ap (λ o. is_at o y) (sym e) ∙ test_ne b y ne) f
    ]

-- one behind the first goes
later_goes : (before : Option ℕ) (z : ℕ) (zs : List ℕ) (x : ℕ) (p : Link) → has zs z ≡ false → link_in (Some z) zs x ≡ Some p
    → let o : Option Link = Some (record { before = before; after = first_of (order_without zs x) }) in o
    ≡ mended p z (Some (record { before = before; after = first_of zs }))
later_goes before z [] x p new e = cc
later_goes before z (u ∷ us) x p new e = elim (cases_eq u x) [
  | inl is ↦
      let p_is : p ≡ record { before = Some z; after = first_of us } =
      some_same p (record { before = Some z; after = first_of us }) (sym e ∙ link_in-here (Some z) u x us is) in
      let at_z : is_at p.before z ≡ true = ap (λ (l : Link). is_at l.before z) p_is ∙ test_eq z z refl in
      ap (λ l. Some (record { before = before; after = first_of l })) (without-here u x us is)
      ∙ ap (λ (l : Link). Some (record { before = before; after = l.after })) (sym p_is)
      ∙ sym (mended-tests p z (Some (record { before = before; after = Some u })) true false at_z after_off)
  | inr ne ↦
      let behind : link_in (Some u) us x ≡ Some p = sym (link_in-past (Some z) u x us ne) ∙ e in
      let before_off : is_at p.before z ≡ false = is_not_at p.before z (λ b f. has_ne (u ∷ us) b z (before_is u us x b p behind f) new) in
      ap (λ l. Some (record { before = before; after = first_of l })) (without-past u x us ne)
      ∙ sym (mended-tests p z (Some (record { before = before; after = Some u })) false false before_off after_off)
]
  where
    after_off : is_at p.after z ≡ false
    after_off = is_not_at p.after z (λ a f. has_ne (u ∷ us) a z (after_is (Some z) (u ∷ us) x a p e f) new)

link_in-without : (before : Option ℕ) (xs : List ℕ) (x : ℕ) (p : Link) → AreApart xs → ((b : ℕ) → before ≡ Some b → has xs b ≡ false)
    → link_in before xs x ≡ Some p → (y : ℕ) → x ≢ y → link_in before (order_without xs x) y ≡ mended p y (link_in before xs y)
link_in-without before [] x p apart free e y ne = cc
link_in-without before (z ∷ zs) x p apart free e y ne = elim (cases_eq z x) [
  | inl is ↦
      let p_is : p ≡ record { before = before; after = first_of zs } =
      some_same p (record { before = before; after = first_of zs }) (sym e ∙ link_in-here before z x zs is) in
      ap (λ l. link_in before l y) (without-here z x zs is)
      ∙ first_goes before z zs y (λ b f. tail_has_not z b zs (free b f))
      ∙ ap (λ (q : Link). mended q y (link_in (Some z) zs y)) (sym p_is)
      ∙ ap (λ o. mended p y o) (sym (link_in-past before z y zs (λ f. ne (sym is ∙ f))))
  | inr past ↦
      let behind : link_in (Some z) zs x ≡ Some p = sym (link_in-past before z x zs past) ∙ e in
      let later = link_in-without (Some z) zs x p apart.1 (λ b f. ap (has zs) (sym (some_same z b f)) ∙ apart.0) behind y ne in
      ap (λ l. link_in before l y) (without-past z x zs past) ∙ at_y behind later (cases_eq z y)
]
  where
    at_y : link_in (Some z) zs x ≡ Some p → link_in (Some z) (order_without zs x) y ≡ mended p y (link_in (Some z) zs y) → ((z ≡ y) ⊎ (z ≢ y))
        → link_in before (z ∷ order_without zs x) y ≡ mended p y (link_in before (z ∷ zs) y)
    at_y behind later (inl here) =
        link_in-here before z y (order_without zs x) here
        ∙ later_goes before z zs x p apart.0 behind
        ∙ ap (λ n. mended p n (Some (record { before = before; after = first_of zs }))) here
        ∙ ap (λ o. mended p y o) (sym (link_in-here before z y zs here))
    at_y behind later (inr off) =
        link_in-past before z y (order_without zs x) off
        ∙ later
        ∙ ap (λ o. mended p y o) (sym (link_in-past before z y zs off))

before_some : (first : ℕ) (xs : List ℕ) (y : ℕ) (link : Link) → link_in (Some first) xs y ≡ Some link → is_some link.before ≡ true
before_some first [] y link e = cc
before_some first (x ∷ xs) y link e = elim (cases_eq x y) [
  | inl is ↦ ap (λ (l : Link). is_some l.before)
      (some_same link (record { before = Some first; after = first_of xs }) (sym e ∙ link_in-here (Some first) x y xs is))
  | inr ne ↦ before_some x xs y link (sym (link_in-past (Some first) x y xs ne) ∙ e)
]

next_first-without : (xs : List ℕ) (x : ℕ) (p : Link) → link_in None xs x ≡ Some p → next_first (first_of xs) p ≡ first_of (order_without xs x)
next_first-without [] x p e = cc
next_first-without (z ∷ zs) x p e = elim (cases_eq z x) [
  | inl is ↦
      let p_is : p ≡ record { before = None; after = first_of zs } =
      some_same p (record { before = None; after = first_of zs }) (sym e ∙ link_in-here None z x zs is) in
      ap (next_first (Some z)) p_is ∙ ap first_of (sym (without-here z x zs is))
  | inr past ↦
      ap (λ b. cond b (Some z) p.after) (before_some z zs x p (sym (link_in-past None z x zs past) ∙ e))
      ∙ ap first_of (sym (without-past z x zs past))
]

pub IsLinked-without : (links : List (Option Link)) (first : Option ℕ) (xs : List ℕ) (x : ℕ) (p : Link)
    → LinksStandFor links first xs → order_link_at links x ≡ Some p
    → LinksStandFor (slice_set (order_with_after (order_with_before links p.after p.before) p.before p.after) x None) (next_first first p) (order_without xs x)
IsLinked-without links first xs x p h e = record {
  begins = ap (λ (o : Option ℕ). next_first o p) h.begins ∙ next_first-without xs x p linked;
  places = λ y. link_at-set moved x y None inside_moved ∙ by y (cases_eq x y);
  apart = AreApart-without xs x h.apart;
  count =
      gone (count_by is_some (slice_set moved x None)) (count_by is_some moved) (length xs) (length (order_without xs x))
      (one (is_some (order_link_at moved x)))
      (count-set moved x None inside_moved) was_there (kept_count ∙ sym h.count) (length-without xs x (has-linked None xs x p linked));
  size = length-set moved x None ∙ kept_length ∙ h.size;
}
  where
    linked : link_in None xs x ≡ Some p
    linked = sym (h.places x) ∙ e

    begun : List (Option Link)
    begun = order_with_before links p.after p.before

    moved : List (Option Link)
    moved = order_with_after begun p.before p.after

    kept_length : length moved ≡ length links
    kept_length = length-with_after begun p.before p.after ∙ length-with_before links p.after p.before

    kept_count : count_by is_some moved ≡ count_by is_some links
    kept_count = count-with_after begun p.before p.after ∙ count-with_before links p.after p.before

    inside_moved : x < length moved
    inside_moved = omega (arith, kept_length, inside links x p e)

    at_moved : (y : ℕ) → order_link_at moved y ≡ mended p y (order_link_at links y)
    at_moved y =
        at-with_after begun p.before p.after y
        ∙ ap (λ o. cond (is_at p.before y) (put_after o p.after) o) (at-with_before links p.after p.before y)

    by : (y : ℕ) → ((x ≡ y) ⊎ (x ≢ y)) → cond (nat_eq x y) None (order_link_at moved y) ≡ link_in None (order_without xs x) y
    by y (inl is) =
        ap (λ b. cond b None (order_link_at moved y)) (test_eq x y is)
        ∙ sym (link_in-absent None (order_without xs x) y (ap (has (order_without xs x)) (sym is) ∙ has_not-without xs x h.apart))
    by y (inr ne) =
        ap (λ b. cond b None (order_link_at moved y)) (test_ne x y ne)
        ∙ at_moved y
        ∙ ap (λ o. mended p y o) (h.places y)
        ∙ sym (link_in-without None xs x p h.apart (λ b f. cc) linked y ne)

    one : Bool → ℕ
    one b = cond b 1 0

    was_there : one (is_some (order_link_at moved x)) ≡ one true
    was_there = ap one (ap is_some (at_moved x) ∙ mended-there p x (order_link_at links x) ∙ ap is_some e)

    gone : (a b n m k : ℕ) → a + k ≡ b + 0 → k ≡ 1 → b ≡ n → m + 1 ≡ n → m ≡ a
    gone a b n m k e1 e2 e3 e4 = omega arith

-- ---- what stands after a number

pub after_in-link : (before : Option ℕ) (xs : List ℕ) (y : ℕ) → after_link (link_in before xs y) ≡ after_in xs y
after_in-link before [] y = refl
after_in-link before (x ∷ xs) y = by (nat_eq x y) ∙ ap (λ (o : Option ℕ). cond (nat_eq x y) (first_of xs) o) (after_in-link (Some x) xs y)
  where
    by : (b : Bool) → after_link (cond b (Some (record { before = before; after = first_of xs })) (link_in (Some x) xs y))
        ≡ cond b (first_of xs) (after_link (link_in (Some x) xs y))
    by true = refl
    by false = refl

-- ---- no links

pub IsLinked-none : (links : List (Option Link)) (n : ℕ) → links ≡ replicate n None → n ≡ most_threads → LinksStandFor links None []
IsLinked-none links n e few = record {
  begins = refl;
  places = λ y. nothing y (cases_lt y n);
  apart = tt;
  count = sym (ap (λ l. count_by is_some l) e ∙ sum_by-replicate (λ (o : Option Link). cond (is_some o) 1 0) n None ∙ omega arith);
  size = ap length e ∙ length-replicate n None ∙ few;
}
  where
    nothing : (y : ℕ) → ((y < n) ⊎ (n ≤ y)) → order_link_at links y ≡ None
    nothing y (inl lt) = ap (λ l. order_link_at l y) e ∙ get_or-replicate n y None None lt
    nothing y (inr past) = ap (λ l. order_link_at l y) e ∙ get_or_past (replicate n None) y None
        (omega (arith, length-replicate {A = Option Link} n None))

-- ---- what the calls leave, from what their callees say

pub put_first_linked : (links moved : List (Option Link)) (first : Option ℕ) (xs : List ℕ) (x place : ℕ)
    → LinksStandFor links first (listed links first) → listed links first ≡ xs → has xs x ≡ false → place ≡ x → place ≤ last_thread
    → moved ≡ order_with_before links first (Some x)
    → LinksStandFor (slice_set moved place (Some (record { before = None; after = first }))) (Some x) (x ∷ xs)
put_first_linked links moved first xs x place linked is new at_x small e =
    rw (e, at_x) (IsLinked-first links first xs x (rw is at linked) new (omega arith))

pub take_out_linked : (links begun moved : List (Option Link)) (first next : Option ℕ) (xs : List ℕ) (x place : ℕ) (p : Link)
    → LinksStandFor links first (listed links first) → listed links first ≡ xs → link_in None xs x ≡ Some p → place ≡ x
    → begun ≡ order_with_before links p.after p.before → moved ≡ order_with_after begun p.before p.after → next ≡ next_first first p
    → LinksStandFor (slice_set moved place None) next (order_without xs x)
take_out_linked links begun moved first next xs x place p linked is found at_x e1 e2 e3 =
    let here : LinksStandFor links first xs = rw is at linked in
    rw (e2, e1, e3, at_x) (IsLinked-without links first xs x p here (here.places x ∙ found))

-- what isn't there leaves the list as it is
pub without-absent : (before : Option ℕ) (xs : List ℕ) (x : ℕ) → link_in before xs x ≡ None → xs ≡ order_without xs x
without-absent before [] x e = refl
without-absent before (z ∷ zs) x e = elim (cases_eq z x) [
  | inl is ↦ absurd (nothing (record { before = before; after = first_of zs }) (sym (link_in-here before z x zs is) ∙ e))
  | inr ne ↦ ap (λ l. z ∷ l) (without-absent (Some z) zs x (sym (link_in-past before z x zs ne) ∙ e)) ∙ sym (without-past z x zs ne)
]
  where
    nothing : (l : Link) → Some l ≡ None → ⊥
    nothing l e = cc
