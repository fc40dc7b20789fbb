use Rattle.std.proofs.Common.{◌≡◌, ◌≢◌, ◌⊎◌, inl, inr, ℕ, zero, suc, ◌<◌, ◌≤◌, Bool, true, false, not, ◌&&◌, ◌||◌, nat_eq, List, length, set, replicate, refl, sym, ◌∙◌, ap, subst, arith, length-set, get_or-set_same, get_or-set_other}
use Rattle.std.proofs.lemmas.Bool.{cases_eq}
use Rattle.std.proofs.lemmas.Bool.Decides.{nat_tests}
use Rattle.std.proofs.lemmas.List.{get_or-replicate, length-replicate, get_or_past}
use Rattle.aps_model.specs.Limits.{greatest_priority, last_thread, most_threads}
use Rattle.aps_levels.specs.declared.bits.Bits64.{Bits64}
use Rattle.aps_levels.specs.Bits.{set_has}
use Rattle.aps_levels.specs.Levels.{level_count}
use Rattle.aps_ready.specs.declared.entrant.Entrant.{Entrant}
use Rattle.aps_ready.specs.Entrant.{entrant_at, vacant}
use Rattle.aps_ready.specs.Lists.{head_of, link, list_of, node_count, IsNode, IsLinked, AreRings, IsPlace, AreLists}
use Rattle.aps_ready.specs.Ready.{IsQueued}
use Rattle.aps_ready.specs.Table.{bits_at}
use Rattle.aps_ready.proofs.Queued.{queued_set, queued_replicate, threads_set}
use Rattle.aps_ready.proofs.Rings.{within_row, list_of_thread, list_of_head, thread_node, node_still, joined, left_out}
use Rattle.aps_ready.specs.Group.{group_count}

below_or_not : (a b : ℕ) → (a < b) ⊎ (b ≤ a)
below_or_not a b = search arith

-- a head is one of one level and one group
pub same_head : (l g k h : ℕ) → g < group_count → h < group_count → head_of l g ≡ head_of k h → (l ≡ k) × (g ≡ h)
same_head l g k h g_below h_below same = (omega (arith, g_below, h_below, same), omega (arith, g_below, h_below, same))

pub head_low : (l g : ℕ) → l < level_count → g < group_count → head_of l g < node_count
head_low l g l_below g_below = omega (arith, l_below, g_below)

-- ---- somebody comes

pub rings_entered : (row : List Entrant) (after before : List ℕ) (x place : ℕ) (e : Entrant) → AreRings row after before → x < length row
    → e.group < group_count → e.level ≤ greatest_priority → group_count ≤ (entrant_at row x).group → IsPlace row after (head_of e.level e.group) e.stamp place
    → x ≤ last_thread → AreRings (set row x e) (set (set after place x) x (link after place)) (set (set before (link after place) x) x place)
rings_entered row after before x place e rings within there level out is_place small = record {
  few = threads_set row x e rings.few within (λ _. small);
  levels = λ y y_there. elim (cases_eq y x) [
    | inl same ↦ subst (λ (f : Entrant). f.level ≤ greatest_priority) (sym (ap (entrant_at new) same ∙ here)) level
    | inr ne ↦ subst (λ (f : Entrant). f.level ≤ greatest_priority) (sym (others y ne)) (rings.levels y (subst (λ (f : Entrant). f.group < group_count) (others y ne) y_there))
  ];
  after_size = length-set (set after place x) x next ∙ length-set after place x ∙ rings.after_size;
  before_size = length-set (set before next x) x place ∙ length-set before next x ∙ rings.before_size;
  forth = joined row new after before place next x (record {
    links = rings.forth;
    forth_size = rings.after_size;
    back_size = rings.before_size;
    others = others;
    thread = low;
    there = new_there;
    out = out;
    node = is_place.node;
    to_next = refl;
    same = is_place.same ∙ sym x_list;
  });
  back = joined row new before after next place x (record {
    links = rings.back;
    forth_size = rings.before_size;
    back_size = rings.after_size;
    others = others;
    thread = low;
    there = new_there;
    out = out;
    node = next_linked.node;
    to_next = next_linked.returns;
    same = next_linked.same ∙ is_place.same ∙ sym x_list;
  });
  rising = λ n node n_low link_low. elim (cases_eq n x) [
    | inl is ↦
        let to : link after_new n ≡ next = ap (link after_new) is ∙ after_x in
        omega (
          arith,
          is_place.under (omega (arith, to, link_low)),
          ap (λ (f : Entrant). f.stamp) (ap (entrant_at new) is ∙ here),
          ap (λ (f : Entrant). f.stamp) (ap (entrant_at new) to ∙ others next next_other),
        )
    | inr other ↦ elim (cases_eq n place) [
      | inl is ↦
          let to : link after_new n ≡ x = ap (link after_new) is ∙ after_place in
          omega (
            arith,
            is_place.over (omega (arith, is, n_low)),
            ap (λ (f : Entrant). f.stamp) (ap (entrant_at new) is ∙ others place place_other),
            ap (λ (f : Entrant). f.stamp) (ap (entrant_at new) to ∙ here),
          )
      | inr away ↦
          let to : link after_new n ≡ link after n =
          get_or-set_other (set after place x) x n next 0 other ∙ get_or-set_other after place n x 0 away in
          let old : IsNode row n = node_still new row x n (λ y ne. sym (others y ne)) other node in
          omega (
            arith,
            rings.rising n old n_low (omega (arith, to, link_low)),
            ap (λ (f : Entrant). f.stamp) (others n other),
            ap (λ (f : Entrant). f.stamp) (ap (entrant_at new) to ∙ others (link after n) (not_out (link after n) (rings.forth n old).node)),
          )
    ]
  ];
}
  where
    new : List Entrant
    new = set row x e

    next : ℕ
    next = link after place

    after_new : List ℕ
    after_new = set (set after place x) x next

    low : x < most_threads
    low = omega (arith, small)

    here : entrant_at new x ≡ e
    here = get_or-set_same row x e vacant within

    others : (y : ℕ) → y ≢ x → entrant_at new y ≡ entrant_at row y
    others y ne = get_or-set_other row x y e vacant ne

    new_there : (entrant_at new x).group < group_count
    new_there = subst (λ (f : Entrant). f.group < group_count) (sym here) there

    x_list : list_of new x ≡ head_of e.level e.group
    x_list = list_of_thread new x low ∙ ap (λ (f : Entrant). head_of f.level f.group) here

    next_linked : IsLinked row after before place
    next_linked = rings.forth place is_place.node

    not_out : (m : ℕ) → IsNode row m → m ≢ x
    not_out m is same = omega (arith, is.there (omega (arith, same, low)), out, ap (λ (k : ℕ). (entrant_at row k).group) same)

    next_other : next ≢ x
    next_other = not_out next next_linked.node

    place_other : place ≢ x
    place_other = not_out place is_place.node

    after_x : link after_new x ≡ next
    after_x = get_or-set_same (set after place x) x next 0 (omega (arith, low, rings.after_size, length-set after place x))

    after_place : link after_new place ≡ x
    after_place = get_or-set_other (set after place x) x place next 0 place_other
        ∙ get_or-set_same after place x 0 (omega (arith, is_place.node.below, rings.after_size))

-- ---- somebody goes

-- nobody is next to itself
pub next_is_other : (row : List Entrant) (after before : List ℕ) (x : ℕ) → AreRings row after before → (entrant_at row x).group < group_count
    → (link after x ≢ x) × (link before x ≢ x)
next_is_other row after before x rings there =
    (not_next, λ same. not_next (ap (link after) (sym same) ∙ (rings.back x node).returns))
  where
    low : x < most_threads
    low = omega (arith, rings.few x there)

    node : IsNode row x
    node = thread_node row x low there

    not_next : link after x ≢ x
    not_next same =
        omega (arith, rings.rising x node low (omega (arith, same, low)), ap (λ (k : ℕ). (entrant_at row k).stamp) same)

pub rings_left : (row : List Entrant) (after before : List ℕ) (x : ℕ) → AreRings row after before → (entrant_at row x).group < group_count
    → AreRings (set row x vacant) (set after (link before x) (link after x)) (set before (link after x) (link before x))
rings_left row after before x rings there = record {
  few = threads_set row x vacant rings.few (within_row row x there) (λ g. absurd (omega (arith, g)));
  levels = λ y y_there.
      let ne : y ≢ x = not_gone y y_there in
      subst (λ (f : Entrant). f.level ≤ greatest_priority) (sym (others y ne)) (rings.levels y (subst (λ (f : Entrant). f.group < group_count) (others y ne) y_there));
  after_size = length-set after last next ∙ rings.after_size;
  before_size = length-set before next last ∙ rings.before_size;
  forth = left_out row new after before last next x (record {
    links = rings.forth;
    links_back = rings.back;
    forth_size = rings.after_size;
    back_size = rings.before_size;
    others = others;
    thread = low;
    there = there;
    out = gone;
    to_next = refl;
    to_last = refl;
    next_other = apart.0;
    last_other = apart.1;
  });
  back = left_out row new before after next last x (record {
    links = rings.back;
    links_back = rings.forth;
    forth_size = rings.before_size;
    back_size = rings.after_size;
    others = others;
    thread = low;
    there = there;
    out = gone;
    to_next = refl;
    to_last = refl;
    next_other = apart.1;
    last_other = apart.0;
  });
  rising = λ n n_node n_low link_low.
      let other : n ≢ x = not_gone n (n_node.there n_low) in
      let old : IsNode row n = node_still new row x n (λ y ne. sym (others y ne)) other n_node in
      elim (cases_eq n last) [
        | inl is ↦
            let to : link after_new n ≡ next = ap (link after_new) is ∙ get_or-set_same after last next 0 (omega (arith, is, old.below, rings.after_size)) in
            let back : link after n ≡ x = ap (link after) is ∙ (rings.back x node).returns in
            omega (
              arith,
              rings.rising n old n_low (omega (arith, back, low)),
              rings.rising x node low (omega (arith, to, link_low)),
              ap (λ (k : ℕ). (entrant_at row k).stamp) back,
              ap (λ (f : Entrant). f.stamp) (others n other),
              ap (λ (f : Entrant). f.stamp) (ap (entrant_at new) to ∙ others next apart.0),
            )
        | inr away ↦
            let to : link after_new n ≡ link after n = get_or-set_other after last n next 0 away in
            let q_other : link after n ≢ x = λ same. away (sym (rings.forth n old).returns ∙ ap (link before) same) in
            omega (
              arith,
              rings.rising n old n_low (omega (arith, to, link_low)),
              ap (λ (f : Entrant). f.stamp) (others n other),
              ap (λ (f : Entrant). f.stamp) (ap (entrant_at new) to ∙ others (link after n) q_other),
            )
      ];
}
  where
    new : List Entrant
    new = set row x vacant

    next : ℕ
    next = link after x

    last : ℕ
    last = link before x

    after_new : List ℕ
    after_new = set after last next

    within : x < length row
    within = within_row row x there

    low : x < most_threads
    low = omega (arith, rings.few x there)

    node : IsNode row x
    node = thread_node row x low there

    here : entrant_at new x ≡ vacant
    here = get_or-set_same row x vacant vacant within

    gone : group_count ≤ (entrant_at new x).group
    gone = subst (λ (f : Entrant). group_count ≤ f.group) (sym here) (omega arith)

    not_gone : (y : ℕ) → (entrant_at new y).group < group_count → y ≢ x
    not_gone y y_there same = omega (arith, y_there, gone, ap (λ (k : ℕ). (entrant_at new k).group) same)

    others : (y : ℕ) → y ≢ x → entrant_at new y ≡ entrant_at row y
    others y ne = get_or-set_other row x y vacant vacant ne

    apart : (next ≢ x) × (last ≢ x)
    apart = next_is_other row after before x rings there

-- ---- the first of a list

-- behind the head of somebody's list stands a thread, whose stamp is no greater
pub record IsHeaded (row : List Entrant) (after : List ℕ) (x : ℕ) : Type 0 where
  pub thread : link after (list_of row x) < most_threads
  pub first : (entrant_at row (link after (list_of row x))).stamp ≤ (entrant_at row x).stamp

headed_by : (fuel : ℕ) (row : List Entrant) (after before : List ℕ) (x : ℕ) → AreRings row after before → (entrant_at row x).group < group_count
    → (entrant_at row x).stamp < fuel → IsHeaded row after x
headed_by zero row after before x rings there small = absurd (omega (arith, small))
headed_by (suc fuel) row after before x rings there small = by_side (headed_by fuel row after before last rings) (below_or_not last most_threads)
  where
    low : x < most_threads
    low = omega (arith, rings.few x there)

    node : IsNode row x
    node = thread_node row x low there

    last : ℕ
    last = link before x

    is : IsLinked row before after x
    is = rings.back x node

    by_side : ((entrant_at row last).group < group_count → (entrant_at row last).stamp < fuel → IsHeaded row after last) → (last < most_threads) ⊎ (most_threads ≤ last)
        → IsHeaded row after x
    by_side before_it (inr head) =
        let at : link after (list_of row x) ≡ x = ap (link after) (sym is.same ∙ list_of_head row last head) ∙ is.returns in
        record {
          thread = omega (arith, at, low);
          first = omega (arith, ap (λ (k : ℕ). (entrant_at row k).stamp) at);
        }
    by_side before_it (inl thread) =
        let rise : (entrant_at row last).stamp < (entrant_at row x).stamp =
        subst (λ (k : ℕ). (entrant_at row last).stamp < (entrant_at row k).stamp) is.returns
        (rings.rising last is.node thread (omega (arith, is.returns, low))) in
        let more : IsHeaded row after last = before_it (is.node.there thread) (omega (arith, rise, small)) in
        record {
          thread = subst (λ (h : ℕ). link after h < most_threads) is.same more.thread;
          first = omega (arith, subst (λ (h : ℕ). (entrant_at row (link after h)).stamp ≤ (entrant_at row last).stamp) is.same more.first, rise);
        }

pub headed : (row : List Entrant) (after before : List ℕ) (x : ℕ) → AreRings row after before → (entrant_at row x).group < group_count → IsHeaded row after x
headed row after before x rings there = headed_by (suc (entrant_at row x).stamp) row after before x rings there (omega arith)

-- ---- the lists, with the levels where they are known not to be empty

both : (a b : Bool) → (a && b) ≡ true → (a ≡ true) × (b ≡ true)
both true b h = (refl, h)
both false b h = absurd cc

right_is : (a b : Bool) → b ≡ true → (a || b) ≡ true
right_is true b h = refl
right_is false b h = h

either : (a b : Bool) → (a || b) ≡ true → (a ≡ true) ⊎ (b ≡ true)
either true b h = inl refl
either false b h = inr h

is_same : (a b : ℕ) → nat_eq a b ≡ true → a ≡ b
is_same a b h = grind (arith, nat_tests)

equal_self : (g : ℕ) → nat_eq g g ≡ true
equal_self g = grind (arith, nat_tests)

clash : (t : Bool) → t ≡ true → t ≡ false → ⊥
clash t p q = cc

pub lists_entered : (row : List Entrant) (after before : List ℕ) (at_level new_levels : List Bits64) (x place : ℕ) (e : Entrant)
    → AreLists row after before at_level → x < length row → x ≤ last_thread → e.group < group_count → e.level ≤ greatest_priority → e.thread ≡ x → group_count ≤ (entrant_at row x).group
    → ((y : ℕ) → (entrant_at row y).group < group_count → (entrant_at row y).stamp ≢ e.stamp)
    → IsPlace row after (head_of e.level e.group) e.stamp place
    → ((l g : ℕ) → l < level_count → set_has (bits_at new_levels l) g ≡ ((nat_eq l e.level && nat_eq g e.group) || set_has (bits_at at_level l) g))
    → AreLists (set row x e) (set (set after place x) x (link after place)) (set (set before (link after place) x) x place) new_levels
lists_entered row after before at_level new_levels x place e lists within small there level thread out fresh is_place at = record {
  queued = queued_set row x e lists.queued within (λ _. record {
    level = level;
    thread = thread;
    stamp = λ y y_in ne y_there. fresh y y_there;
  });
  rings = rings_entered row after before x place e lists.rings within there level out is_place small;
  used = λ y y_there. elim (cases_eq y x) [
    | inl same ↦
        subst (λ (f : Entrant). set_has (bits_at new_levels f.level) f.group ≡ true) (sym (ap (entrant_at new) same ∙ here))
        (at e.level e.group (omega (arith, level)) ∙ ap (λ (t : Bool). (t && nat_eq e.group e.group) || set_has (bits_at at_level e.level) e.group) (equal_self e.level)
        ∙ ap (λ (t : Bool). t || set_has (bits_at at_level e.level) e.group) (equal_self e.group))
    | inr ne ↦
        let was : (entrant_at row y).group < group_count = subst (λ (f : Entrant). f.group < group_count) (others y ne) y_there in
        subst (λ (f : Entrant). set_has (bits_at new_levels f.level) f.group ≡ true) (sym (others y ne))
        (at (entrant_at row y).level (entrant_at row y).group (omega (arith, lists.rings.levels y was))
        ∙ right_is (nat_eq (entrant_at row y).level e.level && nat_eq (entrant_at row y).group e.group)
        (set_has (bits_at at_level (entrant_at row y).level) (entrant_at row y).group) (lists.used y was))
  ];
  some = λ l g l_below g_below h same.
      let head : most_threads ≤ head_of l g = omega arith in
      elim (cases_eq (head_of l g) place) [
        | inl is ↦
            omega (arith, low, head, same, ap (link after_new) is, after_place)
        | inr away ↦
            let to : link after_new (head_of l g) ≡ link after (head_of l g) =
            get_or-set_other (set after place x) x (head_of l g) (link after place) 0 (λ s. omega (arith, s, head, low))
            ∙ get_or-set_other after place (head_of l g) x 0 away in
            elim (either (nat_eq l e.level && nat_eq g e.group) (set_has (bits_at at_level l) g) (sym (at l g l_below) ∙ h)) [
              | inr old ↦ lists.some l g l_below g_below old (sym to ∙ same)
              | inl this ↦
                  let parts = both (nat_eq l e.level) (nat_eq g e.group) this in
                  let list : list_of row place ≡ head_of l g =
                  is_place.same ∙ ap (λ (k : ℕ). head_of k e.group) (sym (is_same l e.level parts.0)) ∙ ap (head_of l) (sym (is_same g e.group parts.1)) in
                  elim (below_or_not place most_threads) [
                    | inr is_head ↦ away (sym list ∙ list_of_head row place is_head)
                    | inl is_thread ↦
                        let more = headed row after before place lists.rings (is_place.node.there is_thread) in
                        omega (arith, more.thread, ap (link after) list, to, same, head)
                  ]
            ]
      ];
}
  where
    new : List Entrant
    new = set row x e

    after_new : List ℕ
    after_new = set (set after place x) x (link after place)

    low : x < most_threads
    low = omega (arith, small)

    here : entrant_at new x ≡ e
    here = get_or-set_same row x e vacant within

    others : (y : ℕ) → y ≢ x → entrant_at new y ≡ entrant_at row y
    others y ne = get_or-set_other row x y e vacant ne

    place_other : place ≢ x
    place_other same = omega (arith, is_place.node.there (omega (arith, same, low)), out, ap (λ (k : ℕ). (entrant_at row k).group) same)

    after_place : link after_new place ≡ x
    after_place = get_or-set_other (set after place x) x place (link after place) 0 place_other
        ∙ get_or-set_same after place x 0 (omega (arith, is_place.node.below, lists.rings.after_size))

-- what is known of somebody who goes
pub record IsGoing (row : List Entrant) (after before : List ℕ) (at_level : List Bits64) (x l g : ℕ) : Type 0 where
  pub lists : AreLists row after before at_level
  pub there : (entrant_at row x).group < group_count
  pub level : (entrant_at row x).level ≡ l
  pub group : (entrant_at row x).group ≡ g

-- the links behind each node, after somebody went
abbrev pub after_left : List ℕ → List ℕ → ℕ → List ℕ
after_left after before x = set after (link before x) (link after x)

abbrev pub before_left : List ℕ → List ℕ → ℕ → List ℕ
before_left after before x = set before (link after x) (link before x)

queued_left : (row : List Entrant) (x : ℕ) → IsQueued row → (entrant_at row x).group < group_count → IsQueued (set row x vacant)
queued_left row x queued there = queued_set row x vacant queued (within_row row x there) (λ g. absurd (omega (arith, g)))

left_there : (row : List Entrant) (x y : ℕ) → (entrant_at row x).group < group_count → (entrant_at (set row x vacant) y).group < group_count → y ≢ x
left_there row x y there y_there same =
    omega (arith, y_there, ap (λ (f : Entrant). f.group) (ap (entrant_at (set row x vacant)) same ∙ get_or-set_same row x vacant vacant (within_row row x there)))

-- a head before whom somebody stood is the head of its list
left_head : (row : List Entrant) (after before : List ℕ) (at_level : List Bits64) (x l g k h : ℕ) → IsGoing row after before at_level x l g
    → head_of k h ≡ link before x → head_of k h ≡ head_of l g
left_head row after before at_level x l g k h going is =
    let low : x < most_threads = omega (arith, going.lists.rings.few x going.there) in
    let head : most_threads ≤ link before x = omega (arith, is) in
    is ∙ sym (list_of_head row (link before x) head) ∙ (going.lists.rings.back x (thread_node row x low going.there)).same
    ∙ list_of_thread row x low ∙ ap (λ (j : ℕ). head_of j (entrant_at row x).group) going.level ∙ ap (head_of l) going.group

-- its list isn't empty afterwards
pub lists_left : (row : List Entrant) (after before : List ℕ) (at_level : List Bits64) (x l g : ℕ) → IsGoing row after before at_level x l g
    → link (after_left after before x) (head_of l g) ≢ head_of l g
    → AreLists (set row x vacant) (after_left after before x) (before_left after before x) at_level
lists_left row after before at_level x l g going some = record {
  queued = queued_left row x going.lists.queued going.there;
  rings = rings_left row after before x going.lists.rings going.there;
  used = λ y y_there.
      let same : entrant_at (set row x vacant) y ≡ entrant_at row y = get_or-set_other row x y vacant vacant (left_there row x y going.there y_there) in
      subst (λ (f : Entrant). set_has (bits_at at_level f.level) f.group ≡ true) (sym same)
      (going.lists.used y (subst (λ (f : Entrant). f.group < group_count) same y_there));
  some = λ k h k_below h_below here same. elim (cases_eq (head_of k h) (link before x)) [
    | inl is ↦
        let own : head_of k h ≡ head_of l g = left_head row after before at_level x l g k h going is in
        some (ap (link (after_left after before x)) (sym own) ∙ same ∙ own)
    | inr away ↦
        going.lists.some k h k_below h_below here (sym (get_or-set_other after (link before x) (head_of k h) (link after x) 0 away) ∙ same)
  ];
}

-- its list is empty afterwards
pub lists_emptied : (row : List Entrant) (after before : List ℕ) (at_level new_levels : List Bits64) (x l g : ℕ) → IsGoing row after before at_level x l g
    → link (after_left after before x) (head_of l g) ≡ head_of l g
    → ((k h : ℕ) → k < level_count → set_has (bits_at new_levels k) h ≡ (not (nat_eq k l && nat_eq h g) && set_has (bits_at at_level k) h))
    → AreLists (set row x vacant) (after_left after before x) (before_left after before x) new_levels
lists_emptied row after before at_level new_levels x l g going none at = record {
  queued = queued_left row x going.lists.queued going.there;
  rings = rings;
  used = used;
  some = λ k h k_below h_below here same.
      let parts = both (not (nat_eq k l && nat_eq h g)) (set_has (bits_at at_level k) h) (sym (at k h k_below) ∙ here) in
      elim (cases_eq (head_of k h) (link before x)) [
        | inl is ↦
            let own = same_head k h l g h_below (omega (arith, going.there, going.group)) (left_head row after before at_level x l g k h going is) in
            clash (not (nat_eq k l && nat_eq h g)) parts.0
            (ap (λ (j : ℕ). not (nat_eq j l && nat_eq h g)) own.0 ∙ ap (λ (j : ℕ). not (nat_eq l l && nat_eq j g)) own.1
            ∙ ap (λ (t : Bool). not (t && nat_eq g g)) (equal_self l) ∙ ap (λ (t : Bool). not t) (equal_self g))
        | inr away ↦
            going.lists.some k h k_below h_below parts.1 (sym (get_or-set_other after (link before x) (head_of k h) (link after x) 0 away) ∙ same)
      ];
}
  where
    new : List Entrant
    new = set row x vacant

    rings : AreRings new (after_left after before x) (before_left after before x)
    rings = rings_left row after before x going.lists.rings going.there

    -- nobody is left in the list
    apart : (y : ℕ) → (entrant_at new y).group < group_count → (nat_eq (entrant_at new y).level l && nat_eq (entrant_at new y).group g) ≡ true → ⊥
    apart y y_there h =
        let parts = both (nat_eq (entrant_at new y).level l) (nat_eq (entrant_at new y).group g) h in
        let low : y < most_threads = omega (arith, rings.few y y_there) in
        let list : list_of new y ≡ head_of l g =
        list_of_thread new y low ∙ ap (λ (j : ℕ). head_of j (entrant_at new y).group) (is_same (entrant_at new y).level l parts.0)
        ∙ ap (head_of l) (is_same (entrant_at new y).group g parts.1) in
        omega (arith, (headed new (after_left after before x) (before_left after before x) y rings y_there).thread, ap (link (after_left after before x)) list, none)

    by_test : (k h : ℕ) (t : Bool) → (nat_eq k l && nat_eq h g) ≡ t → (t ≡ true → ⊥) → set_has (bits_at at_level k) h ≡ true
        → (not (nat_eq k l && nat_eq h g) && set_has (bits_at at_level k) h) ≡ true
    by_test k h true is never here = absurd (never refl)
    by_test k h false is never here = ap (λ (t : Bool). not t && set_has (bits_at at_level k) h) is ∙ here

    used : (y : ℕ) → (entrant_at new y).group < group_count → set_has (bits_at new_levels (entrant_at new y).level) (entrant_at new y).group ≡ true
    used y y_there =
        let same : entrant_at new y ≡ entrant_at row y = get_or-set_other row x y vacant vacant (left_there row x y going.there y_there) in
        let k = (entrant_at new y).level in
        let h = (entrant_at new y).group in
        at k h (omega (arith, rings.levels y y_there))
        ∙ by_test k h (nat_eq k l && nat_eq h g) refl (apart y y_there)
        (subst (λ (f : Entrant). set_has (bits_at at_level f.level) f.group ≡ true) (sym same)
        (going.lists.used y (subst (λ (f : Entrant). f.group < group_count) same y_there)))

-- ---- nobody is in

pub lists_empty : (threads : ℕ) (after before : List ℕ) (at_level : List Bits64) → length after ≡ node_count → length before ≡ node_count
    → ((n : ℕ) → n < node_count → link after n ≡ n) → ((n : ℕ) → n < node_count → link before n ≡ n)
    → ((l g : ℕ) → set_has (bits_at at_level l) g ≡ false) → AreLists (replicate threads vacant) after before at_level
lists_empty threads after before at_level after_size before_size after_own before_own nowhere = record {
  queued = queued_replicate threads;
  rings = record {
    few = λ x there. absurd (none x there);
    levels = λ x there. absurd (none x there);
    after_size = after_size;
    before_size = before_size;
    forth = λ n node. own after before n node (after_own n node.below) (before_own n node.below);
    back = λ n node. own before after n node (before_own n node.below) (after_own n node.below);
    rising = λ n node low _. absurd (none n (node.there low));
  };
  used = λ x there. absurd (none x there);
  some = λ l g l_below g_below h. absurd (clash (set_has (bits_at at_level l) g) h (nowhere l g));
}
  where
    row : List Entrant
    row = replicate threads vacant

    read : (x : ℕ) → (x < threads) ⊎ (threads ≤ x) → entrant_at row x ≡ vacant
    read x (inl low) = get_or-replicate threads x vacant vacant low
    read x (inr past) = get_or_past row x vacant (omega (arith, past, length-replicate threads vacant))

    none : (x : ℕ) → (entrant_at row x).group < group_count → ⊥
    none x there = omega (arith, there, ap (λ (f : Entrant). f.group) (read x (below_or_not x threads)))

    own : (forth back : List ℕ) (n : ℕ) → IsNode row n → link forth n ≡ n → link back n ≡ n → IsLinked row forth back n
    own forth back n node at at_back = record {
      node = subst (IsNode row) (sym at) node;
      same = ap (list_of row) at;
      returns = ap (link back) at ∙ at_back;
    }
