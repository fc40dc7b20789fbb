use Rattle.std.proofs.Common.{◌≡◌, ◌≢◌, ◌⊎◌, inl, inr, ℕ, ◌<◌, ◌≤◌, Bool, true, false, cond, nat_lt, List, length, set, sym, ◌∙◌, ap, subst, arith, length-set, get_or-set_same, get_or-set_other}
use Rattle.std.proofs.lemmas.Bool.{cases_eq}
use Rattle.std.proofs.lemmas.Bool.Decides.{nat_tests}
use Rattle.std.proofs.lemmas.List.{get_or_past}
use Rattle.aps_model.specs.Limits.{most_threads}
use Rattle.aps_ready.specs.declared.entrant.Entrant.{Entrant}
use Rattle.aps_ready.specs.Entrant.{entrant_at, vacant}
use Rattle.aps_ready.specs.Lists.{head_of, link, list_of, node_count, IsNode, IsLinked, AreLinked}
use Rattle.aps_ready.specs.Group.{group_count}

below_or_not : (a b : ℕ) → (a < b) ⊎ (b ≤ a)
below_or_not a b = search arith

less : (a b : ℕ) → a < b → nat_lt a b ≡ true
less a b h = grind (arith, nat_tests)

not_less : (a b : ℕ) → b ≤ a → nat_lt a b ≡ false
not_less a b h = grind (arith, nat_tests)

-- ---- nodes and their lists

-- whoever is in is at a place of the row
pub within_row : (row : List Entrant) (x : ℕ) → (entrant_at row x).group < group_count → x < length row
within_row row x there = elim (below_or_not x (length row)) [
  | inl within ↦ within
  | inr past ↦ absurd (omega (arith, there, ap (λ (e : Entrant). e.group) (get_or_past row x vacant past)))
]

pub list_of_thread : (row : List Entrant) (n : ℕ) → n < most_threads → list_of row n ≡ head_of (entrant_at row n).level (entrant_at row n).group
list_of_thread row n low =
    ap (λ (t : Bool). cond t (head_of (entrant_at row n).level (entrant_at row n).group) n) (less n most_threads low)

pub list_of_head : (row : List Entrant) (n : ℕ) → most_threads ≤ n → list_of row n ≡ n
list_of_head row n high =
    ap (λ (t : Bool). cond t (head_of (entrant_at row n).level (entrant_at row n).group) n) (not_less n most_threads high)

pub head_node : (row : List Entrant) (n : ℕ) → most_threads ≤ n → n < node_count → IsNode row n
head_node row n high below = record { below = below; there = λ low. absurd (omega (arith, low, high)) }

pub thread_node : (row : List Entrant) (x : ℕ) → x < most_threads → (entrant_at row x).group < group_count → IsNode row x
thread_node row x low there = record { below = omega (arith, low); there = λ _. there }

-- another node is as it was where one place of the row is set
pub node_still : (row new : List Entrant) (x n : ℕ) → ((y : ℕ) → y ≢ x → entrant_at new y ≡ entrant_at row y) → n ≢ x → IsNode row n → IsNode new n
node_still row new x n same ne node = record {
  below = node.below;
  there = λ low. subst (λ (e : Entrant). e.group < group_count) (sym (same n ne)) (node.there low);
}

list_still : (row new : List Entrant) (x n : ℕ) → ((y : ℕ) → y ≢ x → entrant_at new y ≡ entrant_at row y) → n ≢ x → list_of new n ≡ list_of row n
list_still row new x n same ne = ap (λ (e : Entrant). cond (nat_lt n most_threads) (head_of e.level e.group) n) (same n ne)

-- ---- one more in a list

-- somebody joins behind a node: what is known of the links one way
pub record IsJoining (row new : List Entrant) (forth back : List ℕ) (place next x : ℕ) : Type 0 where
  pub links : AreLinked row forth back
  pub forth_size : length forth ≡ node_count
  pub back_size : length back ≡ node_count
  pub others : (y : ℕ) → y ≢ x → entrant_at new y ≡ entrant_at row y
  pub thread : x < most_threads
  pub there : (entrant_at new x).group < group_count
  pub out : group_count ≤ (entrant_at row x).group
  pub node : IsNode row place
  pub to_next : link forth place ≡ next
  pub same : list_of row place ≡ list_of new x

pub joined : (row new : List Entrant) (forth back : List ℕ) (place next x : ℕ) → IsJoining row new forth back place next x
    → AreLinked new (set (set forth place x) x next) (set (set back next x) x place)
joined row new forth back place next x j n node = elim (cases_eq n x) [
  | inl is ↦
      subst (λ (m : ℕ). IsLinked new forth_new back_new m) (sym is) (record {
        node = subst (IsNode new) (sym forth_x) (node_still row new x next j.others next_other next_node);
        same = ap (list_of new) forth_x ∙ list_still row new x next j.others next_other ∙ next_list ∙ j.same;
        returns = ap (link back_new) forth_x ∙ back_next;
      })
  | inr other ↦
      let old : IsNode row n = old_node other in
      elim (cases_eq n place) [
        | inl is ↦
            subst (λ (m : ℕ). IsLinked new forth_new back_new m) (sym is) (record {
              node = subst (IsNode new) (sym forth_place) (thread_node new x j.thread j.there);
              same = ap (list_of new) forth_place ∙ sym (list_still row new x place j.others place_other ∙ j.same);
              returns = ap (link back_new) forth_place ∙ back_x;
            })
        | inr away ↦
            let at : link forth_new n ≡ link forth n = forth_away other away in
            let q_other : link forth n ≢ x = not_out (link forth n) (j.links n old).node in
            let q_away : link forth n ≢ next = λ e. away (sym (j.links n old).returns ∙ ap (link back) (e ∙ sym j.to_next) ∙ (j.links place j.node).returns) in
            record {
              node = subst (IsNode new) (sym at) (node_still row new x (link forth n) j.others q_other (j.links n old).node);
              same = ap (list_of new) at ∙ list_still row new x (link forth n) j.others q_other ∙ (j.links n old).same
                  ∙ sym (list_still row new x n j.others other);
              returns = ap (link back_new) at ∙ back_away q_other q_away ∙ (j.links n old).returns;
            }
      ]
]
  where
    forth_new : List ℕ
    forth_new = set (set forth place x) x next

    back_new : List ℕ
    back_new = set (set back next x) x place

    not_out : (m : ℕ) → IsNode row m → m ≢ x
    not_out m is e = omega (arith, is.there (omega (arith, e, j.thread)), j.out, ap (λ (k : ℕ). (entrant_at row k).group) e)

    place_other : place ≢ x
    place_other = not_out place j.node

    next_node : IsNode row next
    next_node = subst (IsNode row) j.to_next (j.links place j.node).node

    next_other : next ≢ x
    next_other = not_out next next_node

    next_list : list_of row next ≡ list_of row place
    next_list = ap (list_of row) (sym j.to_next) ∙ (j.links place j.node).same

    forth_x : link forth_new x ≡ next
    forth_x = get_or-set_same (set forth place x) x next 0 (omega (arith, j.thread, j.forth_size, length-set forth place x))

    back_x : link back_new x ≡ place
    back_x = get_or-set_same (set back next x) x place 0 (omega (arith, j.thread, j.back_size, length-set back next x))

    forth_place : link forth_new place ≡ x
    forth_place = get_or-set_other (set forth place x) x place next 0 place_other ∙ get_or-set_same forth place x 0 (omega (arith, j.node.below, j.forth_size))

    back_next : link back_new next ≡ x
    back_next = get_or-set_other (set back next x) x next place 0 next_other ∙ get_or-set_same back next x 0 (omega (arith, next_node.below, j.back_size))

    forth_away : n ≢ x → n ≢ place → link forth_new n ≡ link forth n
    forth_away other away = get_or-set_other (set forth place x) x n next 0 other ∙ get_or-set_other forth place n x 0 away

    back_away : link forth n ≢ x → link forth n ≢ next → link back_new (link forth n) ≡ link back (link forth n)
    back_away other away = get_or-set_other (set back next x) x (link forth n) place 0 other ∙ get_or-set_other back next (link forth n) x 0 away

    old_node : n ≢ x → IsNode row n
    old_node other = node_still new row x n (λ y ne. sym (j.others y ne)) other node

-- ---- one less in a list

-- somebody leaves: what is known of the links one way
pub record IsLeaving (row new : List Entrant) (forth back : List ℕ) (last next x : ℕ) : Type 0 where
  pub links : AreLinked row forth back
  pub links_back : AreLinked row back forth
  pub forth_size : length forth ≡ node_count
  pub back_size : length back ≡ node_count
  pub others : (y : ℕ) → y ≢ x → entrant_at new y ≡ entrant_at row y
  pub thread : x < most_threads
  pub there : (entrant_at row x).group < group_count
  pub out : group_count ≤ (entrant_at new x).group
  pub to_next : link forth x ≡ next
  pub to_last : link back x ≡ last
  pub next_other : next ≢ x
  pub last_other : last ≢ x

pub left_out : (row new : List Entrant) (forth back : List ℕ) (last next x : ℕ) → IsLeaving row new forth back last next x
    → AreLinked new (set forth last next) (set back next last)
left_out row new forth back last next x l n node = elim (cases_eq n last) [
  | inl is ↦
      subst (λ (m : ℕ). IsLinked new forth_new back_new m) (sym is) (record {
        node = subst (IsNode new) (sym forth_last) (node_still row new x next l.others l.next_other next_node);
        same = ap (list_of new) forth_last ∙ list_still row new x next l.others l.next_other ∙ next_list ∙ sym last_list
            ∙ sym (list_still row new x last l.others l.last_other);
        returns = ap (link back_new) forth_last ∙ back_next;
      })
  | inr away ↦
      let old : IsLinked row forth back n = l.links n old_node in
      let at : link forth_new n ≡ link forth n = get_or-set_other forth last n next 0 away in
      let q_other : link forth n ≢ x = λ e. away (sym old.returns ∙ ap (link back) e ∙ l.to_last) in
      let q_away : link forth n ≢ next = λ e. other (sym old.returns ∙ ap (link back) (e ∙ sym l.to_next) ∙ (l.links x x_node).returns) in
      record {
        node = subst (IsNode new) (sym at) (node_still row new x (link forth n) l.others q_other old.node);
        same = ap (list_of new) at ∙ list_still row new x (link forth n) l.others q_other ∙ old.same ∙ sym (list_still row new x n l.others other);
        returns = ap (link back_new) at ∙ get_or-set_other back next (link forth n) last 0 q_away ∙ old.returns;
      }
]
  where
    forth_new : List ℕ
    forth_new = set forth last next

    back_new : List ℕ
    back_new = set back next last

    x_node : IsNode row x
    x_node = thread_node row x l.thread l.there

    other : n ≢ x
    other e = omega (arith, node.there (omega (arith, e, l.thread)), l.out, ap (λ (k : ℕ). (entrant_at new k).group) e)

    old_node : IsNode row n
    old_node = node_still new row x n (λ y ne. sym (l.others y ne)) other node

    next_node : IsNode row next
    next_node = subst (IsNode row) l.to_next (l.links x x_node).node

    last_node : IsNode row last
    last_node = subst (IsNode row) l.to_last (l.links_back x x_node).node

    next_list : list_of row next ≡ list_of row x
    next_list = ap (list_of row) (sym l.to_next) ∙ (l.links x x_node).same

    last_list : list_of row last ≡ list_of row x
    last_list = ap (list_of row) (sym l.to_last) ∙ (l.links_back x x_node).same

    forth_last : link forth_new last ≡ next
    forth_last = get_or-set_same forth last next 0 (omega (arith, last_node.below, l.forth_size))

    back_next : link back_new next ≡ last
    back_next = get_or-set_same back next last 0 (omega (arith, next_node.below, l.back_size))
