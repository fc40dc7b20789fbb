-- What is read of links after they were written.
use Rattle.std.proofs.Common.{◌≡◌, ◌≢◌, ℕ, ◌<◌, List, [], ◌∷◌, length, refl, sym, ◌∙◌, ap, subst, Bool, true, false, cond, nat_eq, Option, Some, None, slice_set, arith, inl, inr}
use Rattle.std.proofs.Math.ListN.{length-set}
use Rattle.std.proofs.lemmas.List.{get_or-set_same, get_or-set_other}
use Rattle.std.proofs.lemmas.Bool.{cases_eq}
use Rattle.laws_runs.proofs.WaitFacts.{test_eq, test_ne}
use Rattle.aps_channel.specs.declared.links.Link.{Link}
use Rattle.aps_channel.specs.Links.{is_this_number, link_at, links_pushed, links_removed, no_link, with_after, with_before}
use Rattle.aps_channel.proofs.Chains.{IsPushed, IsUnlinked, unlinked}

-- if a number is given, it has a link
abbrev pub HasLink : Option ℕ → ℕ → Type 0
HasLink o n = (x : ℕ) → o ≡ Some x → x < n

link_written : (links : List Link) (x y : ℕ) (l : Link) → x < length links → link_at (slice_set links x l) y ≡ cond (nat_eq x y) l (link_at links y)
link_written links x y l lt = elim (cases_eq x y) [
  | inl e ↦
      subst (λ k. link_at (slice_set links x l) k ≡ cond (nat_eq x k) l (link_at links k)) e
      (get_or-set_same links x l no_link lt ∙ sym (ap (λ t. cond t l (link_at links x)) (test_eq x x refl)))
  | inr ne ↦ get_or-set_other links x y l no_link (λ e. ne (sym e)) ∙ sym (ap (λ t. cond t l (link_at links y)) (test_ne x y ne))
]

abbrev after_set : Option ℕ → Link → Link
after_set after k = record k { after = after }

abbrev before_set : Option ℕ → Link → Link
before_set before k = record k { before = before }

after_written : (links : List Link) (o after : Option ℕ) (y : ℕ) → HasLink o (length links)
    → link_at (with_after links o after) y ≡ cond (is_this_number o y) (after_set after (link_at links y)) (link_at links y)
after_written links None after y has = refl
after_written links (Some x) after y has =
    link_written links x y (after_set after (link_at links x)) (has x refl) ∙ same
  where
    same : cond (nat_eq x y) (after_set after (link_at links x)) (link_at links y) ≡ cond (nat_eq x y) (after_set after (link_at links y)) (link_at links y)
    same = elim (cases_eq x y) [
      | inl e ↦ ap (λ k. cond (nat_eq x y) (after_set after (link_at links k)) (link_at links y)) e
      | inr ne ↦
          ap (λ t. cond t (after_set after (link_at links x)) (link_at links y)) (test_ne x y ne)
          ∙ sym (ap (λ t. cond t (after_set after (link_at links y)) (link_at links y)) (test_ne x y ne))
    ]

before_written : (links : List Link) (o before : Option ℕ) (y : ℕ) → HasLink o (length links)
    → link_at (with_before links o before) y ≡ cond (is_this_number o y) (before_set before (link_at links y)) (link_at links y)
before_written links None before y has = refl
before_written links (Some x) before y has =
    link_written links x y (before_set before (link_at links x)) (has x refl) ∙ same
  where
    same : cond (nat_eq x y) (before_set before (link_at links x)) (link_at links y) ≡ cond (nat_eq x y) (before_set before (link_at links y)) (link_at links y)
    same = elim (cases_eq x y) [
      | inl e ↦ ap (λ k. cond (nat_eq x y) (before_set before (link_at links k)) (link_at links y)) e
      | inr ne ↦
          ap (λ t. cond t (before_set before (link_at links x)) (link_at links y)) (test_ne x y ne)
          ∙ sym (ap (λ t. cond t (before_set before (link_at links y)) (link_at links y)) (test_ne x y ne))
    ]

pub length-with_after : (links : List Link) (o after : Option ℕ) → length (with_after links o after) ≡ length links
length-with_after links None after = refl
length-with_after links (Some x) after = length-set links x (after_set after (link_at links x))

pub length-with_before : (links : List Link) (o before : Option ℕ) → length (with_before links o before) ≡ length links
length-with_before links None before = refl
length-with_before links (Some x) before = length-set links x (before_set before (link_at links x))

pub length-pushed : (links : List Link) (last : Option ℕ) (x : ℕ) → length (links_pushed links last x) ≡ length links
length-pushed links last x =
    length-with_after (slice_set links x (record { before = last; after = None })) last (Some x) ∙ length-set links x (record { before = last; after = None })

pub length-removed : (links : List Link) (l : Link) → length (links_removed links l) ≡ length links
length-removed links l = length-with_before (with_after links l.before l.after) l.after l.before ∙ length-with_after links l.before l.after

pub pushed : (links : List Link) (last : Option ℕ) (x : ℕ) → x < length links → HasLink last (length links) → is_this_number last x ≡ false → IsPushed links (links_pushed links last x) last x
pushed links last x lt has other =
    let new : Link = record { before = last; after = None } in
    let put = slice_set links x new in
    let has' : HasLink last (length put) = λ y e. subst (λ n. y < n) (sym (length-set links x new)) (has y e) in
    let read = λ (y : ℕ). after_written put last (Some x) y has' in
    record {
      here = read x ∙ ap (λ t. cond t (after_set (Some x) (link_at put x)) (link_at put x)) other ∙ get_or-set_same links x new no_link lt;
      joint = λ y e.
          let ne : y ≢ x = λ same. differ x y (sym (ap (λ o. is_this_number o x) e) ∙ other) same in
          let at : is_this_number last y ≡ true = ap (λ o. is_this_number o y) e ∙ test_eq y y refl in
          read y ∙ ap (λ t. cond t (after_set (Some x) (link_at put y)) (link_at put y)) at
          ∙ ap (after_set (Some x)) (get_or-set_other links x y new no_link ne);
      others = λ y ne not.
          read y ∙ ap (λ t. cond t (after_set (Some x) (link_at put y)) (link_at put y)) (not_at last y not)
          ∙ get_or-set_other links x y new no_link ne;
    }
  where
    differ : (a b : ℕ) → nat_eq b a ≡ false → b ≡ a → ⊥
    differ a b f e = let t = test_eq b a e in cc

    not_at : (o : Option ℕ) (y : ℕ) → o ≢ Some y → is_this_number o y ≡ false
    not_at None y ne = refl
    not_at (Some z) y ne = test_ne z y (λ e. ne (ap (λ k. Some k) e))

pub removed : (links : List Link) (x : ℕ) → HasLink (link_at links x).before (length links) → HasLink (link_at links x).after (length links)
    → IsUnlinked links (links_removed links (link_at links x)) x
removed links x has_before has_after = record {
  at = λ y.
      let l = link_at links x in
      let mid = with_after links l.before l.after in
      let has' : HasLink l.after (length mid) = λ z e. subst (λ n. z < n) (sym (length-with_after links l.before l.after)) (has_after z e) in
      before_written mid l.after l.before y has'
      ∙ ap (λ (k : Link). cond (is_this_number l.after y) (before_set l.before k) k) (after_written links l.before l.after y has_before)
      ∙ both (is_this_number l.after y) (is_this_number l.before y) l (link_at links y);
}
  where
    both : (a b : Bool) (l k : Link) → cond a (before_set l.before (cond b (after_set l.after k) k)) (cond b (after_set l.after k) k) ≡ unlinked a b l k
    both true true l k = refl
    both true false l k = refl
    both false true l k = refl
    both false false l k = refl
