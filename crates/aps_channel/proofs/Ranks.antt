-- All lines after one of them changed.
use Rattle.std.proofs.Common.{◌≡◌, ◌≢◌, ℕ, ◌+◌, ◌<◌, ◌≤◌, List, [], ◌∷◌, ◌++◌, length, map, refl, sym, ◌∙◌, ap, subst, Bool, true, false, cond, nat_eq, Option, Some, None, IfSome, slice_set, get_or, replicate, zero, suc, arith, inl, inr}
use Rattle.std.proofs.Math.ListN.{length-set}
use Rattle.std.proofs.lemmas.List.{get_or-map, get_or-replicate, get_or-set_same, get_or-set_other, get_or_past, get_or_read, length-map, length-replicate, same_lists}
use Rattle.std.proofs.lemmas.Bool.{cases_eq, cases_lt}
use Rattle.laws_runs.specs.Waits.{one_if, times}
use Rattle.laws_runs.proofs.WaitFacts.{test_eq, test_ne}
use Rattle.laws_runs.proofs.WaitMoves.{times-append}
use Rattle.aps_channel.specs.declared.links.Ends.{Ends}
use Rattle.aps_channel.specs.declared.links.Link.{Link}
use Rattle.aps_channel.specs.Lines.{AreLinesApart, IsInNone, Lines, first_of, queue_line_at, with_line, without}
use Rattle.aps_channel.specs.Links.{AreLines, IsLinkedLine, IsLinkedFrom, end_removed, ends_at, ends_pushed, ends_removed, is_this_number, last_or, line_along_links, lines_of, link_at, links_pushed, links_removed, no_ends, no_link, one_or, walk}
use Rattle.aps_channel.proofs.Chains.{IsPushed, IsUnlinked, first_without, last-pushed, last_in, last_without, linked_pushed, linked_same, linked_without, unlinked, walk_linked}
use Rattle.aps_channel.proofs.Counts.{few_distinct, times-without, zero_test}
use Rattle.aps_channel.proofs.Writes.{HasLink, length-pushed, length-removed, pushed, removed}

pub length-lines : (links : List Link) (ends : List Ends) → length (lines_of links ends) ≡ length ends
length-lines links ends = length-map ends (line_along_links links)

-- a line is what its ends and links say
walk_line : (links : List Link) (e : Ends) (xs : List ℕ) → IsLinkedLine links e xs → line_along_links links e ≡ xs
walk_line links e xs is =
    ap (walk links (length links)) is.first ∙ walk_linked links None xs (length links) (few_distinct (length links) xs is.within is.once) is.linked

line_there : (links : List Link) (ends : List Ends) (q : ℕ) → q < length ends → queue_line_at (lines_of links ends) q ≡ line_along_links links (ends_at ends q)
line_there links ends q lt = get_or-map (line_along_links links) ends q no_ends [] lt

none_past : (links : List Link) (ends : List Ends) (q x : ℕ) → length ends ≤ q → times x (queue_line_at (lines_of links ends) q) ≡ 0
none_past links ends q x past = ap (times x) (get_or_past (lines_of links ends) q [] (omega (arith, past, length-lines links ends)))

-- a change of one line, which leaves the links of all others
pub record IsMoved (links links' : List Link) (ends : List Ends) (q : ℕ) (e : Ends) (xs : List ℕ) : Type 0 where
  pub lt : q < length ends
  pub size : length links' ≡ length links
  pub line : IsLinkedLine links' e xs
  pub same : (r y : ℕ) → r < length ends → r ≢ q → 1 ≤ times y (queue_line_at (lines_of links ends) r) → link_at links' y ≡ link_at links y
  pub apart : (r y : ℕ) → r < length ends → r ≢ q → 1 ≤ times y xs → times y (queue_line_at (lines_of links ends) r) ≡ 0

other_line : (links links' : List Link) (ends : List Ends) (q r : ℕ) (e : Ends) (xs : List ℕ) → AreLines links ends → IsMoved links links' ends q e xs → r < length ends → r ≢ q
    → IsLinkedLine links' (ends_at ends r) (queue_line_at (lines_of links ends) r)
other_line links links' ends q r e xs are m lt ne =
    let old = are.each r lt in
    record {
      first = old.first;
      last = old.last;
      linked = linked_same links links' None (queue_line_at (lines_of links ends) r) (λ y l. m.same r y lt ne l) old.linked;
      within = λ x l. subst (λ n. x < n) (sym m.size) (old.within x l);
      once = old.once;
    }

pub lines_moved : (links links' : List Link) (ends : List Ends) (q : ℕ) (e : Ends) (xs : List ℕ) → AreLines links ends → IsMoved links links' ends q e xs
    → lines_of links' (slice_set ends q e) ≡ slice_set (lines_of links ends) q xs
lines_moved links links' ends q e xs are m =
    same_lists (lines_of links' (slice_set ends q e)) (slice_set (lines_of links ends) q xs)
    (length-lines links' (slice_set ends q e) ∙ length-set ends q e ∙ sym (length-set (lines_of links ends) q xs ∙ length-lines links ends))
    (λ k d lt. each k d (subst (λ n. k < n) (length-lines links' (slice_set ends q e) ∙ length-set ends q e) lt))
  where
    each : (k : ℕ) (d : List ℕ) → k < length ends → get_or (lines_of links' (slice_set ends q e)) k d ≡ get_or (slice_set (lines_of links ends) q xs) k d
    each k d lt = elim (cases_eq k q) [
      | inl is ↦
          subst (λ j. get_or (lines_of links' (slice_set ends q e)) j d ≡ get_or (slice_set (lines_of links ends) q xs) j d) (sym is)
          (get_or-map (line_along_links links') (slice_set ends q e) q no_ends d (subst (λ n. q < n) (sym (length-set ends q e)) m.lt)
          ∙ ap (line_along_links links') (get_or-set_same ends q e no_ends m.lt)
          ∙ walk_line links' e xs m.line
          ∙ sym (get_or-set_same (lines_of links ends) q xs d (subst (λ n. q < n) (sym (length-lines links ends)) m.lt)))
      | inr ne ↦
          get_or-map (line_along_links links') (slice_set ends q e) k no_ends d (subst (λ n. k < n) (sym (length-set ends q e)) lt)
          ∙ ap (line_along_links links') (get_or-set_other ends q k e no_ends ne)
          ∙ walk_line links' (ends_at ends k) (queue_line_at (lines_of links ends) k) (other_line links links' ends q k e xs are m lt ne)
          ∙ line_there links ends k lt
          ∙ sym (get_or-set_other (lines_of links ends) q k xs d ne ∙ get_or-map (line_along_links links) ends k no_ends d lt)
    ]

pub are_moved : (links links' : List Link) (ends : List Ends) (q : ℕ) (e : Ends) (xs : List ℕ) → AreLines links ends → IsMoved links links' ends q e xs
    → AreLines links' (slice_set ends q e)
are_moved links links' ends q e xs are m = record {
  each = λ r lt. each r (subst (λ n. r < n) (length-set ends q e) lt);
  apart = λ r t x ltr ltt ne l. apart r t x (subst (λ n. r < n) (length-set ends q e) ltr) (subst (λ n. t < n) (length-set ends q e) ltt) ne l;
}
  where
    old : List (List ℕ)
    old = lines_of links ends

    here : queue_line_at (lines_of links' (slice_set ends q e)) q ≡ xs
    here =
        ap (λ ls. queue_line_at ls q) (lines_moved links links' ends q e xs are m)
        ∙ get_or-set_same (lines_of links ends) q xs [] (subst (λ n. q < n) (sym (length-lines links ends)) m.lt)

    there : (r : ℕ) → r ≢ q → queue_line_at (lines_of links' (slice_set ends q e)) r ≡ queue_line_at (lines_of links ends) r
    there r ne =
        ap (λ ls. queue_line_at ls r) (lines_moved links links' ends q e xs are m) ∙ get_or-set_other (lines_of links ends) q r xs [] ne

    each : (r : ℕ) → r < length ends → IsLinkedLine links' (ends_at (slice_set ends q e) r) (queue_line_at (lines_of links' (slice_set ends q e)) r)
    each r lt = elim (cases_eq r q) [
      | inl is ↦
          subst (λ j. IsLinkedLine links' (ends_at (slice_set ends q e) j) (queue_line_at (lines_of links' (slice_set ends q e)) j)) (sym is)
          (subst (λ f. IsLinkedLine links' f (queue_line_at (lines_of links' (slice_set ends q e)) q)) (sym (get_or-set_same ends q e no_ends m.lt))
          (subst (IsLinkedLine links' e) (sym here) m.line))
      | inr ne ↦
          subst (λ f. IsLinkedLine links' f (queue_line_at (lines_of links' (slice_set ends q e)) r)) (sym (get_or-set_other ends q r e no_ends ne))
          (subst (IsLinkedLine links' (ends_at ends r)) (sym (there r ne)) (other_line links links' ends q r e xs are m lt ne))
    ]

    apart : (r t x : ℕ) → r < length ends → t < length ends → r ≢ t → 1 ≤ times x (queue_line_at (lines_of links' (slice_set ends q e)) r)
        → times x (queue_line_at (lines_of links' (slice_set ends q e)) t) ≡ 0
    apart r t x ltr ltt ne l = elim (cases_eq r q) [
      | inl is ↦
          let tq : t ≢ q = λ same. ne (is ∙ sym same) in
          let at_q : 1 ≤ times x xs = subst (λ ys. 1 ≤ times x ys) here (subst (λ j. 1 ≤ times x (queue_line_at (lines_of links' (slice_set ends q e)) j)) is l) in
          ap (times x) (there t tq) ∙ m.apart t x ltt tq at_q
      | inr rq ↦
          let at_r : 1 ≤ times x (queue_line_at (lines_of links ends) r) = subst (λ ys. 1 ≤ times x ys) (there r rq) l in
          elim (cases_eq t q) [
            | inl is ↦
                subst (λ j. times x (queue_line_at (lines_of links' (slice_set ends q e)) j) ≡ 0) (sym is) (ap (times x) here ∙ not_both (times x xs) (λ some. m.apart r x ltr rq some) at_r)
            | inr tq ↦ ap (times x) (there t tq) ∙ are.apart r t x ltr ltt ne at_r
          ]
    ]
      where
        not_both : (n : ℕ) → (1 ≤ n → times x (queue_line_at (lines_of links ends) r) ≡ 0) → 1 ≤ times x (queue_line_at (lines_of links ends) r) → n ≡ 0
        not_both n f k = elim (cases_eq n 0) [
          | inl z ↦ z
          | inr nz ↦ absurd (let z = f (omega (arith, nz)) in omega (arith, z, k))
        ]

-- ---- a number joins a line

last_within : (links : List Link) (e : Ends) (xs : List ℕ) → IsLinkedLine links e xs → (w : ℕ) → e.last ≡ Some w → 1 ≤ times w xs
last_within links e xs is w at = by_list xs (sym is.last ∙ at)
  where
    by_list : (ys : List ℕ) → last_or None ys ≡ Some w → 1 ≤ times w ys
    by_list [] n = absurd cc
    by_list (y ∷ ys) n = last_in y ys w n

not_last : (o : Option ℕ) (x : ℕ) (xs : List ℕ) → ((w : ℕ) → o ≡ Some w → 1 ≤ times w xs) → times x xs ≡ 0 → is_this_number o x ≡ false
not_last None x xs f none = refl
not_last (Some w) x xs f none = elim (cases_eq w x) [
  | inl e ↦ absurd (let l = subst (λ k. 1 ≤ times k xs) e (f w refl) in omega (arith, l, none))
  | inr ne ↦ test_ne w x ne
]

first-pushed : (xs : List ℕ) (x : ℕ) → one_or (first_of xs) (Some x) ≡ first_of (xs ++ x ∷ [])
first-pushed [] x = refl
first-pushed (y ∷ ys) x = refl

pub moved_by_push : (links : List Link) (ends : List Ends) (q x : ℕ) → AreLines links ends → q < length ends → x < length links
    → ((r : ℕ) → times x (queue_line_at (lines_of links ends) r) ≡ 0)
    → IsMoved links (links_pushed links (ends_at ends q).last x) ends q (ends_pushed (ends_at ends q) x) (queue_line_at (lines_of links ends) q ++ x ∷ [])
moved_by_push links ends q x are lt ltx none =
    let e = ends_at ends q in
    let xs = queue_line_at (lines_of links ends) q in
    let is = are.each q lt in
    let has : HasLink e.last (length links) = λ w at. is.within w (last_within links e xs is w at) in
    let links' = links_pushed links e.last x in
    let p : IsPushed links links' e.last x = pushed links e.last x ltx has (not_last e.last x xs (last_within links e xs is) (none q)) in
    record {
      lt = lt;
      size = length-pushed links e.last x;
      line = record {
        first = ap (λ o. one_or o (Some x)) is.first ∙ first-pushed xs x;
        last = sym (last-pushed None xs x);
        linked = linked_pushed links links' x None xs (subst (λ o. IsPushed links links' o x) is.last p) is.linked (none q) is.once;
        within = λ y l. within_pushed xs y is.within l;
        once = λ y. once_pushed xs y (none q) (is.once y);
      };
      same = λ r y ltr ne l. p.others y (λ same. not_here r y l same) (λ at. let z = are.apart q r y lt ltr (λ s. ne (sym s)) (last_within links e xs is y at) in omega (arith, z, l));
      apart = λ r y ltr ne l. elim (cases_eq x y) [
        | inl s ↦ subst (λ k. times k (queue_line_at (lines_of links ends) r) ≡ 0) s (none r)
        | inr d ↦ are.apart q r y lt ltr (λ s. ne (sym s)) (let a = times-append y x xs in omega (arith, l, a, ap one_if (test_ne x y d)))
      ];
    }
  where
    not_here : (r y : ℕ) → 1 ≤ times y (queue_line_at (lines_of links ends) r) → y ≡ x → ⊥
    not_here r y l same = let z = subst (λ k. 1 ≤ times k (queue_line_at (lines_of links ends) r)) same l in omega (arith, z, none r)

    within_pushed : (xs : List ℕ) (y : ℕ) → ((w : ℕ) → 1 ≤ times w xs → w < length links) → 1 ≤ times y (xs ++ x ∷ []) → y < length (links_pushed links (ends_at ends q).last x)
    within_pushed xs y f l = subst (λ n. y < n) (sym (length-pushed links (ends_at ends q).last x)) (elim (cases_eq x y) [
      | inl s ↦ subst (λ k. k < length links) s ltx
      | inr d ↦ f y (let a = times-append y x xs in omega (arith, l, a, ap one_if (test_ne x y d)))
    ])

    once_pushed : (xs : List ℕ) (y : ℕ) → times x xs ≡ 0 → times y xs ≤ 1 → times y (xs ++ x ∷ []) ≤ 1
    once_pushed xs y z o = elim (cases_eq x y) [
      | inl s ↦ subst (λ k. times k (xs ++ x ∷ []) ≤ 1) s (let a = times-append x x xs in omega (arith, z, a, ap one_if (test_eq x x refl)))
      | inr d ↦ let a = times-append y x xs in omega (arith, o, a, ap one_if (test_ne x y d))
    ]

-- ---- a number leaves its line

before_in : (links : List Link) (x w : ℕ) (before : Option ℕ) (xs : List ℕ) → IsLinkedFrom links before xs → 1 ≤ times x xs → (link_at links x).before ≡ Some w
    → ((v : ℕ) → before ≡ Some v → v ≡ w → ⊥) → 1 ≤ times w xs
before_in links x w before [] h some at outer = absurd (omega (arith, some))
before_in links x w before (y ∷ ys) h some at outer = elim (cases_eq y x) [
  | inl e ↦
      let b : before ≡ Some w = sym (ap (λ (l : Link). l.before) (subst (λ k. link_at links k ≡ record { before = before; after = first_of ys }) e h.0)) ∙ at in
      absurd (outer w b refl)
  | inr ne ↦ elim (cases_eq y w) [
    | inl s ↦ omega (arith, ap one_if (test_eq y w s))
    | inr d ↦ let rest = before_in links x w (Some y) ys h.1 (omega (arith, some, ap one_if (test_ne y x ne))) at (λ v b s. d (some_same y v b ∙ s)) in omega (arith, rest)
  ]
]
  where
    some_same : (a b : ℕ) → Some a ≡ Some b → a ≡ b
    some_same a b e = cc

after_in : (links : List Link) (x w : ℕ) (before : Option ℕ) (xs : List ℕ) → IsLinkedFrom links before xs → 1 ≤ times x xs → (link_at links x).after ≡ Some w → 1 ≤ times w xs
after_in links x w before [] h some at = absurd (omega (arith, some))
after_in links x w before (y ∷ ys) h some at = elim (cases_eq y x) [
  | inl e ↦
      let b : first_of ys ≡ Some w = sym (ap (λ (l : Link). l.after) (subst (λ k. link_at links k ≡ record { before = before; after = first_of ys }) e h.0)) ∙ at in
      let l = in_list ys b in omega (arith, l)
  | inr ne ↦ let rest = after_in links x w (Some y) ys h.1 (omega (arith, some, ap one_if (test_ne y x ne))) at in omega (arith, rest)
]
  where
    some_same : (a b : ℕ) → Some a ≡ Some b → a ≡ b
    some_same a b e = cc

    in_list : (ys : List ℕ) → first_of ys ≡ Some w → 1 ≤ times w ys
    in_list [] b = absurd cc
    in_list (z ∷ zs) b = omega (arith, ap one_if (test_eq z w (some_same z w b)))

pub moved_by_removal : (links : List Link) (ends : List Ends) (q x : ℕ) → AreLines links ends → q < length ends → 1 ≤ times x (queue_line_at (lines_of links ends) q)
    → IsMoved links (links_removed links (link_at links x)) ends q (ends_removed (ends_at ends q) (link_at links x)) (without x (queue_line_at (lines_of links ends) q))
moved_by_removal links ends q x are lt some =
    let e = ends_at ends q in
    let xs = queue_line_at (lines_of links ends) q in
    let l = link_at links x in
    let is = are.each q lt in
    let in_before : (w : ℕ) → l.before ≡ Some w → 1 ≤ times w xs = λ w at. before_in links x w None xs is.linked some at (λ v b s. cc) in
    let in_after : (w : ℕ) → l.after ≡ Some w → 1 ≤ times w xs = λ w at. after_in links x w None xs is.linked some at in
    let links' = links_removed links l in
    let u : IsUnlinked links links' x = removed links x (λ w at. is.within w (in_before w at)) (λ w at. is.within w (in_after w at)) in
    record {
      lt = lt;
      size = length-removed links l;
      line = record {
        first = ap (λ o. end_removed l.before o l.after) is.first ∙ sym (first_without links x xs is.linked some is.once);
        last = ap (λ o. end_removed l.after o l.before) is.last ∙ sym (last_without links x None xs is.linked some is.once);
        linked = linked_without links links' x None xs u is.linked some is.once (λ w k. refl);
        within = λ y k. subst (λ n. y < n) (sym (length-removed links l)) (is.within y (let a = times-without y x xs some in omega (arith, a, k)));
        once = λ y. let a = times-without y x xs some in let o = is.once y in omega (arith, a, o);
      };
      same = λ r y ltr ne k.
          let foreign : times y xs ≡ 0 = are_zero (times y xs) (λ more. are.apart q r y lt ltr (λ s. ne (sym s)) more) k in
          u.at y ∙ kept (is_this_number l.after y) (is_this_number l.before y) l (link_at links y) (not_last l.after y xs in_after foreign) (not_last l.before y xs in_before foreign);
      apart = λ r y ltr ne k. are.apart q r y lt ltr (λ s. ne (sym s)) (let a = times-without y x xs some in omega (arith, a, k));
    }
  where
    are_zero : {m : ℕ} (n : ℕ) → (1 ≤ n → m ≡ 0) → 1 ≤ m → n ≡ 0
    are_zero {m} n f k = elim (cases_eq n 0) [
      | inl z ↦ z
      | inr nz ↦ absurd (let z = f (omega (arith, nz)) in omega (arith, z, k))
    ]

    kept : (a b : Bool) (l k : Link) → a ≡ false → b ≡ false → unlinked a b l k ≡ k
    kept true b l k p q = absurd cc
    kept false true l k p q = absurd cc
    kept false false l k p q = refl

-- ---- what the calls leave

pub record AreLeft (links : List Link) (ends : List Ends) (expected : List (List ℕ)) (room : ℕ) : Type 0 where
  pub are : AreLines links ends
  pub lines : lines_of links ends ≡ expected
  pub numbers : length links ≡ room

pub left_by_push : (links links' : List Link) (ends : List Ends) (e e' : Ends) (q x : ℕ) → AreLines links ends → q < length ends → x < length links
    → ((r : ℕ) → times x (queue_line_at (lines_of links ends) r) ≡ 0) → e ≡ ends_at ends q → links' ≡ links_pushed links e.last x → e' ≡ ends_pushed e x
    → AreLeft links' (slice_set ends q e') (slice_set (lines_of links ends) q (queue_line_at (lines_of links ends) q ++ x ∷ [])) (length links)
left_by_push links links' ends e e' q x are lt ltx none is l f =
    let old = ends_at ends q in
    let xs = queue_line_at (lines_of links ends) q ++ x ∷ [] in
    let m = moved_by_push links ends q x are lt ltx none in
    let l' : links' ≡ links_pushed links old.last x = l ∙ ap (λ (g : Ends). links_pushed links g.last x) is in
    let f' : e' ≡ ends_pushed old x = f ∙ ap (λ (g : Ends). ends_pushed g x) is in
    subst (λ ls. AreLeft ls (slice_set ends q e') (slice_set (lines_of links ends) q xs) (length links)) (sym l')
    (subst (λ g. AreLeft (links_pushed links old.last x) (slice_set ends q g) (slice_set (lines_of links ends) q xs) (length links)) (sym f')
    (record { are = are_moved links (links_pushed links old.last x) ends q (ends_pushed old x) xs are m; lines = lines_moved links (links_pushed links old.last x) ends q (ends_pushed old x) xs are m; numbers = m.size }))

pub left_by_removal : (links links' : List Link) (ends : List Ends) (e e' : Ends) (l : Link) (q x : ℕ) → AreLines links ends → q < length ends
    → 1 ≤ times x (queue_line_at (lines_of links ends) q) → e ≡ ends_at ends q → l ≡ link_at links x → links' ≡ links_removed links l → e' ≡ ends_removed e l
    → AreLeft links' (slice_set ends q e') (slice_set (lines_of links ends) q (without x (queue_line_at (lines_of links ends) q))) (length links)
left_by_removal links links' ends e e' l q x are lt some is isl w f =
    let old = ends_at ends q in
    let k = link_at links x in
    let xs = without x (queue_line_at (lines_of links ends) q) in
    let m = moved_by_removal links ends q x are lt some in
    let l' : links' ≡ links_removed links k = w ∙ ap (links_removed links) isl in
    let f' : e' ≡ ends_removed old k = f ∙ ap (λ (g : Ends). ends_removed g l) is ∙ ap (ends_removed old) isl in
    subst (λ ls. AreLeft ls (slice_set ends q e') (slice_set (lines_of links ends) q xs) (length links)) (sym l')
    (subst (λ g. AreLeft (links_removed links k) (slice_set ends q g) (slice_set (lines_of links ends) q xs) (length links)) (sym f')
    (record { are = are_moved links (links_removed links k) ends q (ends_removed old k) xs are m; lines = lines_moved links (links_removed links k) ends q (ends_removed old k) xs are m; numbers = m.size }))

-- who is before and after a number that stands in a line has a link too
pub ends_within : (links : List Link) (ends : List Ends) (q : ℕ) → AreLines links ends → q < length ends → HasLink (ends_at ends q).last (length links)
ends_within links ends q are lt w at =
    let is = are.each q lt in
    is.within w (last_within links (ends_at ends q) (queue_line_at (lines_of links ends) q) is w at)

pub before_within : (links : List Link) (ends : List Ends) (q x : ℕ) → AreLines links ends → q < length ends → 1 ≤ times x (queue_line_at (lines_of links ends) q)
    → HasLink (link_at links x).before (length links)
before_within links ends q x are lt some w at =
    let is = are.each q lt in
    is.within w (before_in links x w None (queue_line_at (lines_of links ends) q) is.linked some at (λ v b s. cc))

pub after_within : (links : List Link) (ends : List Ends) (q x : ℕ) → AreLines links ends → q < length ends → 1 ≤ times x (queue_line_at (lines_of links ends) q)
    → HasLink (link_at links x).after (length links)
after_within links ends q x are lt some w at =
    let is = are.each q lt in
    is.within w (after_in links x w None (queue_line_at (lines_of links ends) q) is.linked some at)

pub if_some : (o : Option ℕ) (n : ℕ) → HasLink o n → IfSome o (λ x. x < n)
if_some None n has = tt
if_some (Some x) n has = has x refl

-- ---- at the opening

walk_none : (links : List Link) (n : ℕ) → walk links n None ≡ []
walk_none links zero = refl
walk_none links (suc n) = refl

pub left_at_opening : (links : List Link) (lines : ℕ) → AreLeft links (replicate lines no_ends) (replicate lines []) (length links)
left_at_opening links lines = record {
  are = record { each = each; apart = λ q r x ltq ltr ne l. ap (times x) (empty r (subst (λ n. r < n) (length-replicate lines no_ends) ltr)) };
  lines =
      same_lists (lines_of links (replicate lines no_ends)) (replicate lines [])
      (length-lines links (replicate lines no_ends) ∙ length-replicate lines no_ends ∙ sym (length-replicate lines []))
      (λ k d lt. let below : k < lines = subst (λ n. k < n) (length-lines links (replicate lines no_ends) ∙ length-replicate lines no_ends) lt in read k d below ∙ sym (get_or-replicate lines k [] d below));
  numbers = refl;
}
  where
    read : (k : ℕ) (d : List ℕ) → k < lines → get_or (lines_of links (replicate lines no_ends)) k d ≡ []
    read k d lt =
        get_or-map (line_along_links links) (replicate lines no_ends) k no_ends d (subst (λ n. k < n) (sym (length-replicate lines no_ends)) lt)
        ∙ ap (line_along_links links) (get_or-replicate lines k no_ends no_ends lt)
        ∙ walk_none links (length links)

    empty : (k : ℕ) → k < lines → queue_line_at (lines_of links (replicate lines no_ends)) k ≡ []
    empty k lt = read k [] lt

    each : (q : ℕ) → q < length (replicate lines no_ends) → IsLinkedLine links (ends_at (replicate lines no_ends) q) (queue_line_at (lines_of links (replicate lines no_ends)) q)
    each q ltq =
        let lt : q < lines = subst (λ n. q < n) (length-replicate lines no_ends) ltq in
        subst (λ e. IsLinkedLine links e (queue_line_at (lines_of links (replicate lines no_ends)) q)) (sym (get_or-replicate lines q no_ends no_ends lt))
        (subst (IsLinkedLine links no_ends) (sym (empty q lt))
        (record { first = refl; last = refl; linked = tt; within = λ x l. absurd (omega (arith, l)); once = λ x. omega arith }))

pub same_lines : {ls ls' : List (List ℕ)} {n n' : ℕ} → ls ≡ ls' → n ≡ n' → ◌≡◌ {A = Lines} (record { lines = ls; numbers = n }) (record { lines = ls'; numbers = n' })
same_lines {ls} {ls'} {n} {n'} e f = cc

pub stands_within : (links : List Link) (ends : List Ends) (q x : ℕ) → AreLines links ends → q < length ends → 1 ≤ times x (queue_line_at (lines_of links ends) q) → x < length links
stands_within links ends q x are lt some = (are.each q lt).within x some

-- ---- the same of what contracts see

abbrev pub seen : List Link → List Ends → Lines
seen links ends = record { lines = lines_of links ends; numbers = length links }

pub line_below : (links : List Link) (ends : List Ends) (s : Lines) (q : ℕ) → seen links ends ≡ s → q < length s.lines → q < length ends
line_below links ends s q is lt = subst (λ n. q < n) (length-lines links ends) (subst (λ (t : Lines). q < length t.lines) (sym is) lt)

pub number_below : (links : List Link) (ends : List Ends) (s : Lines) (x : ℕ) → seen links ends ≡ s → x < s.numbers → x < length links
number_below links ends s x is lt = subst (λ (t : Lines). x < t.numbers) (sym is) lt

pub stands_seen : (links : List Link) (ends : List Ends) (s : Lines) (q x : ℕ) → seen links ends ≡ s → 1 ≤ times x (queue_line_at s.lines q) → 1 ≤ times x (queue_line_at (lines_of links ends) q)
stands_seen links ends s q x is some = subst (λ (t : Lines). 1 ≤ times x (queue_line_at t.lines q)) (sym is) some

-- what is kept, and what is seen
pub record AreSeen (links : List Link) (ends : List Ends) (s : Lines) : Type 0 where
  pub are : AreLines links ends
  pub same : seen links ends ≡ s

pub seen_pushed : (links links' : List Link) (ends : List Ends) (e e' : Ends) (q x : ℕ) (s : Lines) → AreLines links ends → seen links ends ≡ s → q < length s.lines → x < s.numbers
    → IsInNone s x → e ≡ get_or ends q e → links' ≡ links_pushed links e.last x → e' ≡ ends_pushed e x
    → AreSeen links' (slice_set ends q e') (with_line s q (queue_line_at s.lines q ++ x ∷ []))
seen_pushed links links' ends e e' q x s are is lt ltx none read l f =
    let lt' = line_below links ends s q is lt in
    let left =
    left_by_push links links' ends e e' q x are lt' (number_below links ends s x is ltx) (subst (λ (t : Lines). (r : ℕ) → times x (queue_line_at t.lines r) ≡ 0) (sym is) none)
    (get_or_read ends q e lt' read no_ends) l f in
    record { are = left.are; same = subst (λ (t : Lines). seen links' (slice_set ends q e') ≡ with_line t q (queue_line_at t.lines q ++ x ∷ [])) is (same_lines left.lines left.numbers) }

pub seen_removed : (links links' : List Link) (ends : List Ends) (e e' : Ends) (l : Link) (q x : ℕ) (s : Lines) → AreLines links ends → seen links ends ≡ s → q < length s.lines
    → 1 ≤ times x (queue_line_at s.lines q) → e ≡ get_or ends q e → l ≡ get_or links x l → links' ≡ links_removed links l → e' ≡ ends_removed e l
    → AreSeen links' (slice_set ends q e') (with_line s q (without x (queue_line_at s.lines q)))
seen_removed links links' ends e e' l q x s are is lt some read readl w f =
    let lt' = line_below links ends s q is lt in
    let some' = stands_seen links ends s q x is some in
    let left =
    left_by_removal links links' ends e e' l q x are lt' some' (get_or_read ends q e lt' read no_ends)
    (get_or_read links x l (stands_within links ends q x are lt' some') readl no_link) w f in
    record { are = left.are; same = subst (λ (t : Lines). seen links' (slice_set ends q e') ≡ with_line t q (without x (queue_line_at t.lines q))) is (same_lines left.lines left.numbers) }

pub last_has_link : (links : List Link) (ends : List Ends) (e : Ends) (q : ℕ) (s : Lines) → AreLines links ends → seen links ends ≡ s → q < length s.lines → e ≡ get_or ends q e
    → IfSome e.last (λ x. x < length links)
last_has_link links ends e q s are is lt read =
    let lt' = line_below links ends s q is lt in
    if_some e.last (length links) (λ w at. ends_within links ends q are lt' w (ap (λ (g : Ends). g.last) (sym (get_or_read ends q e lt' read no_ends)) ∙ at))

pub record AreBesideLinked (l : Link) (n : ℕ) : Type 0 where
  pub before : IfSome l.before (λ x. x < n)
  pub after : IfSome l.after (λ x. x < n)

pub sides_have_links : (links : List Link) (ends : List Ends) (l : Link) (q x : ℕ) (s : Lines) → AreLines links ends → seen links ends ≡ s → q < length s.lines
    → 1 ≤ times x (queue_line_at s.lines q) → l ≡ get_or links x l → AreBesideLinked l (length links)
sides_have_links links ends l q x s are is lt some read =
    let lt' = line_below links ends s q is lt in
    let some' = stands_seen links ends s q x is some in
    let at_x = get_or_read links x l (stands_within links ends q x are lt' some') read no_link in
    record {
      before = if_some l.before (length links) (λ w at. before_within links ends q x are lt' some' w (ap (λ (g : Link). g.before) (sym at_x) ∙ at));
      after = if_some l.after (length links) (λ w at. after_within links ends q x are lt' some' w (ap (λ (g : Link). g.after) (sym at_x) ∙ at));
    }

first_within : (links : List Link) (ends : List Ends) (q : ℕ) → AreLines links ends → q < length ends → HasLink (ends_at ends q).first (length links)
first_within links ends q are lt w at =
    let is = are.each q lt in
    is.within w (in_list (queue_line_at (lines_of links ends) q) (sym is.first ∙ at))
  where
    some_same : (a b : ℕ) → Some a ≡ Some b → a ≡ b
    some_same a b e = cc

    in_list : (ys : List ℕ) → first_of ys ≡ Some w → 1 ≤ times w ys
    in_list [] b = absurd cc
    in_list (z ∷ zs) b = omega (arith, ap one_if (test_eq z w (some_same z w b)))

pub first_below : (links : List Link) (ends : List Ends) (e : Ends) (q : ℕ) (s : Lines) → AreLines links ends → seen links ends ≡ s → q < length s.lines → e ≡ get_or ends q e
    → IfSome e.first (λ x. x < s.numbers)
first_below links ends e q s are is lt read =
    let lt' = line_below links ends s q is lt in
    subst (λ (t : Lines). IfSome e.first (λ x. x < t.numbers)) is
    (if_some e.first (length links) (λ w at. first_within links ends q are lt' w (ap (λ (g : Ends). g.first) (sym (get_or_read ends q e lt' read no_ends)) ∙ at)))

pub apart_seen : (links : List Link) (ends : List Ends) (s : Lines) → AreLines links ends → seen links ends ≡ s → AreLinesApart s.lines
apart_seen links ends s are is = subst (λ (t : Lines). AreLinesApart t.lines) is (record { once = once; apart = apart })
  where
    once : (q x : ℕ) → times x (queue_line_at (lines_of links ends) q) ≤ 1
    once q x = elim (cases_lt q (length ends)) [
      | inl lt ↦ (are.each q lt).once x
      | inr ge ↦ omega (arith, none_past links ends q x ge)
    ]

    apart : (q r x : ℕ) → q ≢ r → 1 ≤ times x (queue_line_at (lines_of links ends) q) → times x (queue_line_at (lines_of links ends) r) ≡ 0
    apart q r x ne l = elim (cases_lt r (length ends)) [
      | inl ltr ↦ elim (cases_lt q (length ends)) [
        | inl ltq ↦ are.apart q r x ltq ltr ne l
        | inr ge ↦ absurd (let z = none_past links ends q x ge in omega (arith, z, l))
      ]
      | inr ge ↦ none_past links ends r x ge
    ]
