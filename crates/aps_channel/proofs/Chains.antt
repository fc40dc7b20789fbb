-- What writes to links leave of a chain.
use Rattle.std.proofs.Common.{◌≡◌, ◌≢◌, ℕ, zero, suc, ◌+◌, ◌<◌, ◌≤◌, List, [], ◌∷◌, ◌++◌, length, refl, sym, ◌∙◌, ap, subst, Bool, true, false, cond, nat_eq, Option, Some, None, is_some, arith, inl, inr}
use Rattle.std.proofs.lemmas.Bool.{cases_eq}
use Rattle.laws_runs.specs.Waits.{one_if, times}
use Rattle.laws_runs.proofs.WaitFacts.{test_eq, test_ne}
use Rattle.aps_channel.specs.declared.links.Link.{Link}
use Rattle.aps_channel.specs.Lines.{first_of, without}
use Rattle.aps_channel.specs.Links.{IsLinkedFrom, end_removed, is_this_number, last_or, link_at, walk}
use Rattle.aps_channel.proofs.Counts.{first_ne, ne_from_none, one_here, zero_test}

some_same : (a b : ℕ) → Some a ≡ Some b → a ≡ b
some_same a b e = cc

pub linked_same : (links links' : List Link) (before : Option ℕ) (xs : List ℕ) → ((y : ℕ) → 1 ≤ times y xs → link_at links' y ≡ link_at links y)
    → IsLinkedFrom links before xs → IsLinkedFrom links' before xs
linked_same links links' before [] same h = tt
linked_same links links' before (x ∷ xs) same h =
    (same x (one_here x xs) ∙ h.0, linked_same links links' (Some x) xs (λ y l. same y (omega (arith, l))) h.1)

pub walk_linked : (links : List Link) (before : Option ℕ) (xs : List ℕ) (n : ℕ) → length xs ≤ n → IsLinkedFrom links before xs → walk links n (first_of xs) ≡ xs
walk_linked links before [] zero few h = refl
walk_linked links before [] (suc n) few h = refl
walk_linked links before (x ∷ xs) zero few h = absurd (omega (arith, few))
walk_linked links before (x ∷ xs) (suc n) few h =
    ap (λ ys. x ∷ ys) (ap (λ (k : Link). walk links n k.after) h.0 ∙ walk_linked links (Some x) xs n (omega (arith, few)) h.1)

-- ---- one more behind the last

pub record IsPushed (links links' : List Link) (last : Option ℕ) (x : ℕ) : Type 0 where
  pub here : link_at links' x ≡ record { before = last; after = None }
  pub joint : (y : ℕ) → last ≡ Some y → link_at links' y ≡ record (link_at links y) { after = Some x }
  pub others : (y : ℕ) → y ≢ x → last ≢ Some y → link_at links' y ≡ link_at links y

pub last_in : (z : ℕ) (zs : List ℕ) (w : ℕ) → last_or (Some z) zs ≡ Some w → 1 ≤ times w (z ∷ zs)
last_in z [] w e = omega (arith, ap one_if (test_eq z w (some_same z w e)))
last_in z (a ∷ zs) w e = let rest = last_in a zs w e in omega (arith, rest)

pub linked_pushed : (links links' : List Link) (x : ℕ) (before : Option ℕ) (xs : List ℕ) → IsPushed links links' (last_or before xs) x → IsLinkedFrom links before xs
    → times x xs ≡ 0 → ((y : ℕ) → times y xs ≤ 1) → IsLinkedFrom links' before (xs ++ x ∷ [])
linked_pushed links links' x before [] p h none once = (p.here, tt)
linked_pushed links links' x before (y ∷ []) p h none once =
    (p.joint y refl ∙ ap (λ (k : Link). let l : Link = record k { after = Some x } in l) h.0, (p.here, tt))
linked_pushed links links' x before (y ∷ z ∷ zs) p h none once =
    let not_last : last_or (Some z) zs ≢ Some y =
    λ e. let more = last_in z zs y e in let one = once y in omega (arith, more, one, ap one_if (test_eq y y refl)) in
    (p.others y (ne_from_none x y (z ∷ zs) none) not_last ∙ h.0, linked_pushed links links' x (Some y) (z ∷ zs) p h.1 (omega (arith, none)) (λ w. let one = once w in omega (arith, one)))

pub last-pushed : (before : Option ℕ) (xs : List ℕ) (x : ℕ) → last_or before (xs ++ x ∷ []) ≡ Some x
last-pushed before [] x = refl
last-pushed before (y ∷ ys) x = last-pushed (Some y) ys x

-- ---- one gone

abbrev pub unlinked : Bool → Bool → Link → Link → Link
unlinked is_after is_before l k = record { before = cond is_after l.before k.before; after = cond is_before l.after k.after }

pub record IsUnlinked (links links' : List Link) (x : ℕ) : Type 0 where
  pub at : (y : ℕ) → link_at links' y ≡ unlinked (is_this_number (link_at links x).after y) (is_this_number (link_at links x).before y) (link_at links x) (link_at links y)

unlinked_by : {a a' b b' : Bool} {l l' k k' : Link} → a ≡ a' → b ≡ b' → l ≡ l' → k ≡ k' → unlinked a b l k ≡ unlinked a' b' l' k'
unlinked_by {a} {a'} {b} {b'} {l} {l'} {k} {k'} p q r s = cc

near_after : (links : List Link) (x w : ℕ) (before : Option ℕ) (xs : List ℕ) → IsLinkedFrom links before xs → 1 ≤ times x xs → times w xs ≡ 0
    → is_this_number (link_at links x).after w ≡ false
near_after links x w before [] h some none = absurd (omega (arith, some))
near_after links x w before (y ∷ ys) h some none = elim (cases_eq y x) [
  | inl e ↦ subst (λ k. is_this_number (link_at links k).after w ≡ false) e (ap (λ (l : Link). is_this_number l.after w) h.0 ∙ not_first ys (omega (arith, none)))
  | inr ne ↦ near_after links x w (Some y) ys h.1 (omega (arith, some, ap one_if (test_ne y x ne))) (omega (arith, none))
]
  where
    not_first : (ys : List ℕ) → times w ys ≡ 0 → is_this_number (first_of ys) w ≡ false
    not_first [] n = refl
    not_first (z ∷ zs) n = first_ne w z zs n

near_before : (links : List Link) (x w : ℕ) (before : Option ℕ) (xs : List ℕ) → IsLinkedFrom links before xs → 1 ≤ times x xs → is_this_number before w ≡ false → times w xs ≡ 0
    → is_this_number (link_at links x).before w ≡ false
near_before links x w before [] h some not none = absurd (omega (arith, some))
near_before links x w before (y ∷ ys) h some not none = elim (cases_eq y x) [
  | inl e ↦ subst (λ k. is_this_number (link_at links k).before w ≡ false) e (ap (λ (l : Link). is_this_number l.before w) h.0 ∙ not)
  | inr ne ↦ near_before links x w (Some y) ys h.1 (omega (arith, some, ap one_if (test_ne y x ne))) (first_ne w y ys none) (omega (arith, none))
]

-- the chain that begins behind the number that is gone
linked_behind : (links links' : List Link) (x : ℕ) (before : Option ℕ) (ys : List ℕ) → IsUnlinked links links' x → IsLinkedFrom links before (x ∷ ys)
    → ((y : ℕ) → times y (x ∷ ys) ≤ 1) → ((w : ℕ) → 1 ≤ times w (x ∷ ys) → is_this_number before w ≡ false) → IsLinkedFrom links' before ys
linked_behind links links' x before [] u h once outer = tt
linked_behind links links' x before (z ∷ zs) u h once outer =
    let after : is_this_number (link_at links x).after z ≡ true = ap (λ (l : Link). is_this_number l.after z) h.0 ∙ test_eq z z refl in
    let not_before : is_this_number (link_at links x).before z ≡ false =
    ap (λ (l : Link). is_this_number l.before z) h.0 ∙ outer z (let a = one_here z zs in omega (arith, a)) in
    (u.at z ∙ unlinked_by after not_before h.0 h.1.0, linked_same links links' (Some z) zs rest h.1.1)
  where
    rest : (y : ℕ) → 1 ≤ times y zs → link_at links' y ≡ link_at links y
    rest y l =
        let after : is_this_number (link_at links x).after y ≡ false =
        ap (λ (k : Link). is_this_number k.after y) h.0 ∙ zero_test (nat_eq z y) (let o = once y in omega (arith, o, l)) in
        let not_before : is_this_number (link_at links x).before y ≡ false =
        ap (λ (k : Link). is_this_number k.before y) h.0 ∙ outer y (omega (arith, l)) in
        u.at y ∙ unlinked_by after not_before refl refl

-- a number stands behind y, which stays: y's own link leads past it
link_kept : (links links' : List Link) (x y : ℕ) (before : Option ℕ) (ys : List ℕ) → IsUnlinked links links' x → IsLinkedFrom links before (y ∷ ys)
    → 1 ≤ times x ys → ((w : ℕ) → times w (y ∷ ys) ≤ 1) → link_at links' y ≡ record { before = before; after = first_of (without x ys) }
link_kept links links' x y before [] u h some once = absurd (omega (arith, some))
link_kept links links' x y before (z ∷ zs) u h some once = elim (cases_eq z x) [
  | inl e ↦ subst (λ t. link_at links' y ≡ record { before = before; after = first_of (cond t zs (z ∷ without x zs)) }) (sym (test_eq z x e)) (next e)
  | inr ne ↦ subst (λ t. link_at links' y ≡ record { before = before; after = first_of (cond t zs (z ∷ without x zs)) }) (sym (test_ne z x ne)) (further ne)
]
  where
    none : times y (z ∷ zs) ≡ 0
    none = let o = once y in omega (arith, o, ap one_if (test_eq y y refl))

    not_first : (bs : List ℕ) → times y bs ≡ 0 → is_this_number (first_of bs) y ≡ false
    not_first [] n = refl
    not_first (b ∷ bs) n = first_ne y b bs n

    next : z ≡ x → link_at links' y ≡ record { before = before; after = first_of zs }
    next e =
        let link : link_at links x ≡ record { before = Some y; after = first_of zs } =
        subst (λ k. link_at links k ≡ record { before = Some y; after = first_of zs }) e h.1.0 in
        let after : is_this_number (link_at links x).after y ≡ false = ap (λ (l : Link). is_this_number l.after y) link ∙ not_first zs (omega (arith, none)) in
        let is_before : is_this_number (link_at links x).before y ≡ true = ap (λ (l : Link). is_this_number l.before y) link ∙ test_eq y y refl in
        u.at y ∙ unlinked_by after is_before link h.0

    further : z ≢ x → link_at links' y ≡ record { before = before; after = Some z }
    further ne =
        let in_rest : 1 ≤ times x zs = omega (arith, some, ap one_if (test_ne z x ne)) in
        let after = near_after links x y (Some y) (z ∷ zs) h.1 some none in
        let not_before = near_before links x y (Some z) zs h.1.1 in_rest (first_ne y z zs none) (omega (arith, none)) in
        u.at y ∙ unlinked_by after not_before refl h.0

pub linked_without : (links links' : List Link) (x : ℕ) (before : Option ℕ) (xs : List ℕ) → IsUnlinked links links' x → IsLinkedFrom links before xs
    → 1 ≤ times x xs → ((y : ℕ) → times y xs ≤ 1) → ((w : ℕ) → 1 ≤ times w xs → is_this_number before w ≡ false) → IsLinkedFrom links' before (without x xs)
linked_without links links' x before [] u h some once outer = tt
linked_without links links' x before (y ∷ ys) u h some once outer = elim (cases_eq y x) [
  | inl e ↦
      subst (λ t. IsLinkedFrom links' before (cond t ys (y ∷ without x ys))) (sym (test_eq y x e))
      (linked_behind links links' y before ys (subst (λ k. IsUnlinked links links' k) (sym e) u) h once outer)
  | inr ne ↦
      let in_rest : 1 ≤ times x ys = omega (arith, some, ap one_if (test_ne y x ne)) in
      subst (λ t. IsLinkedFrom links' before (cond t ys (y ∷ without x ys))) (sym (test_ne y x ne)) (
        link_kept links links' x y before ys u h in_rest once,
        linked_without links links' x (Some y) ys u h.1 in_rest (λ w. let o = once w in omega (arith, o)) (λ w l. zero_test (nat_eq y w) (let o = once w in omega (arith, o, l))),
      )
]

-- ---- the ends of the chain that is left

end_kept : (side end other : Option ℕ) → is_some side ≡ true → end_removed side end other ≡ end
end_kept None end other is = absurd cc
end_kept (Some x) end other is = refl

has_before : (links : List Link) (x : ℕ) (before : Option ℕ) (xs : List ℕ) → is_some before ≡ true → IsLinkedFrom links before xs → 1 ≤ times x xs
    → is_some (link_at links x).before ≡ true
has_before links x before [] is h some = absurd (omega (arith, some))
has_before links x before (y ∷ ys) is h some = elim (cases_eq y x) [
  | inl e ↦ subst (λ k. is_some (link_at links k).before ≡ true) e (ap (λ (l : Link). is_some l.before) h.0 ∙ is)
  | inr ne ↦ has_before links x (Some y) ys refl h.1 (omega (arith, some, ap one_if (test_ne y x ne)))
]

pub first_without : (links : List Link) (x : ℕ) (xs : List ℕ) → IsLinkedFrom links None xs → 1 ≤ times x xs → ((y : ℕ) → times y xs ≤ 1)
    → first_of (without x xs) ≡ end_removed (link_at links x).before (first_of xs) (link_at links x).after
first_without links x [] h some once = absurd (omega (arith, some))
first_without links x (y ∷ ys) h some once = elim (cases_eq y x) [
  | inl e ↦
      ap (λ t. first_of (cond t ys (y ∷ without x ys))) (test_eq y x e)
      ∙ sym (subst (λ k. end_removed (link_at links k).before (Some y) (link_at links k).after ≡ first_of ys) e (ap (λ (l : Link). end_removed l.before (Some y) l.after) h.0))
  | inr ne ↦
      ap (λ t. first_of (cond t ys (y ∷ without x ys))) (test_ne y x ne)
      ∙ sym (end_kept (link_at links x).before (Some y) (link_at links x).after (has_before links x (Some y) ys refl h.1 (omega (arith, some, ap one_if (test_ne y x ne)))))
]

-- the last is what it was, unless x was it
pub last_without : (links : List Link) (x : ℕ) (before : Option ℕ) (xs : List ℕ) → IsLinkedFrom links before xs → 1 ≤ times x xs → ((y : ℕ) → times y xs ≤ 1)
    → last_or before (without x xs) ≡ end_removed (link_at links x).after (last_or before xs) (link_at links x).before
last_without links x before [] h some once = absurd (omega (arith, some))
last_without links x before (y ∷ ys) h some once = elim (cases_eq y x) [
  | inl e ↦
      ap (λ t. last_or before (cond t ys (y ∷ without x ys))) (test_eq y x e) ∙ sym (here ys (subst (λ k. link_at links k ≡ record { before = before; after = first_of ys }) e h.0))
  | inr ne ↦
      ap (λ t. last_or before (cond t ys (y ∷ without x ys))) (test_ne y x ne)
      ∙ last_without links x (Some y) ys h.1 (omega (arith, some, ap one_if (test_ne y x ne))) (λ w. let o = once w in omega (arith, o))
]
  where
    here : (zs : List ℕ) → link_at links x ≡ record { before = before; after = first_of zs }
        → end_removed (link_at links x).after (last_or (Some y) zs) (link_at links x).before ≡ last_or before zs
    here [] e = ap (λ (l : Link). end_removed l.after (Some y) l.before) e
    here (z ∷ zs) e = ap (λ (l : Link). end_removed l.after (last_or (Some z) zs) l.before) e
