use Rattle.std.proofs.Common.{◌≡◌, ℕ, ◌<◌, ◌∙◌, ap, sym, subst, set, arith, length, List}
use Rattle.std.proofs.lemmas.List.{get_or_read}
use Rattle.aps_levels.specs.Levels.{level_count}
use Rattle.aps_levels.specs.declared.bits.Bits64.{Bits64}
use Rattle.aps_ready.specs.declared.entrant.Entrant.{Entrant}
use Rattle.aps_ready.specs.Entrant.{entrant_at, vacant}
use Rattle.aps_ready.specs.Lists.{head_of, link, AreLists}
use Rattle.aps_ready.proofs.ListLaws.{IsGoing, after_left, head_low, rings_left, lists_left, lists_emptied}
use Rattle.aps_ready.proofs.lists.Lists.leave.Goals as goal
use Rattle.aps_ready.specs.Group.{group_count}

-- the link that was read behind the head
read_head : (row : List Entrant) (after before new_after : List ℕ) (at_level : List Bits64) (x l g head r : ℕ) → IsGoing row after before at_level x l g
    → new_after ≡ after_left after before x → head ≡ head_of l g → l < level_count → g < group_count → r ≡ link new_after head
    → r ≡ link (after_left after before x) (head_of l g)
read_head row after before new_after at_level x l g head r going new head_is l_below g_below read =
    read ∙ ap (λ (links : List ℕ). link links head) new ∙ ap (link (after_left after before x)) head_is

pub invariant_of-self : goal.invariant_of-self
invariant_of-self c =
    let s = c.self.inside in
    let x = c.args.x in
    let one = c.index-one.result.now in
    let within : x < length s.row.items = omega (arith, c.requires.inside, ap length c.self.view_is) in
    let read : one ≡ entrant_at s.row.items x = get_or_read s.row.items x one within c.index-one.ensures vacant in
    let there : (entrant_at s.row.items x).group < group_count =
    subst (λ (row : List Entrant). (entrant_at row x).group < group_count) (sym c.self.view_is) c.requires.there in
    let going : IsGoing s.row.items s.after.items s.before.items s.table x one.level one.group = record {
      lists = c.self.invariant;
      there = there;
      level = ap (λ (e : Entrant). e.level) (sym read);
      group = ap (λ (e : Entrant). e.group) (sym read);
    } in
    let level : one.level < level_count = omega (arith, c.self.invariant.rings.levels x there, ap (λ (e : Entrant). e.level) read) in
    let group : one.group < group_count = omega (arith, there, ap (λ (e : Entrant). e.group) read) in
    let low : c.head_of-head.result < length c.unlink.new.after.items =
    omega (
      arith,
      c.head_of-head.ensures,
      head_low one.level one.group level group,
      ap length c.unlink.ensures.after,
      (rings_left s.row.items s.after.items s.before.items x c.self.invariant.rings there).after_size,
    ) in
    let at = read_head s.row.items s.after.items s.before.items c.unlink.new.after.items s.table x one.level one.group c.head_of-head.result c.index.result.now
    going c.unlink.ensures.after c.head_of-head.ensures level group
    (get_or_read c.unlink.new.after.items c.head_of-head.result c.index.result.now low c.index.ensures 0) in
    subst (λ (e : Entrant). AreLists (set s.row.items x e) c.unlink.new.after.items c.unlink.new.before.items s.table) (sym c.vacant.ensures)
    (subst (λ (after : List ℕ). AreLists (set s.row.items x vacant) after c.unlink.new.before.items s.table) (sym c.unlink.ensures.after)
    (subst (λ (before : List ℕ). AreLists (set s.row.items x vacant) (after_left s.after.items s.before.items x) before s.table) (sym c.unlink.ensures.before)
    (lists_left s.row.items s.after.items s.before.items s.table x one.level one.group going
    (λ same. c.if-index-head.true (at ∙ same ∙ sym c.head_of-head.ensures)))))

pub invariant_of-self-2 : goal.invariant_of-self-2
invariant_of-self-2 c =
    let s = c.self.inside in
    let x = c.args.x in
    let one = c.index-one.result.now in
    let within : x < length s.row.items = omega (arith, c.requires.inside, ap length c.self.view_is) in
    let read : one ≡ entrant_at s.row.items x = get_or_read s.row.items x one within c.index-one.ensures vacant in
    let there : (entrant_at s.row.items x).group < group_count =
    subst (λ (row : List Entrant). (entrant_at row x).group < group_count) (sym c.self.view_is) c.requires.there in
    let going : IsGoing s.row.items s.after.items s.before.items s.table x one.level one.group = record {
      lists = c.self.invariant;
      there = there;
      level = ap (λ (e : Entrant). e.level) (sym read);
      group = ap (λ (e : Entrant). e.group) (sym read);
    } in
    let level : one.level < level_count = omega (arith, c.self.invariant.rings.levels x there, ap (λ (e : Entrant). e.level) read) in
    let group : one.group < group_count = omega (arith, there, ap (λ (e : Entrant). e.group) read) in
    let low : c.head_of-head.result < length c.unlink.new.after.items =
    omega (
      arith,
      c.head_of-head.ensures,
      head_low one.level one.group level group,
      ap length c.unlink.ensures.after,
      (rings_left s.row.items s.after.items s.before.items x c.self.invariant.rings there).after_size,
    ) in
    let at = read_head s.row.items s.after.items s.before.items c.unlink.new.after.items s.table x one.level one.group c.head_of-head.result c.index.result.now
    going c.unlink.ensures.after c.head_of-head.ensures level group
    (get_or_read c.unlink.new.after.items c.head_of-head.result c.index.result.now low c.index.ensures 0) in
    subst (λ (e : Entrant). AreLists (set s.row.items x e) c.unlink.new.after.items c.unlink.new.before.items c.leave.new.self) (sym c.vacant.ensures)
    (subst (λ (after : List ℕ). AreLists (set s.row.items x vacant) after c.unlink.new.before.items c.leave.new.self) (sym c.unlink.ensures.after)
    (subst (λ (before : List ℕ). AreLists (set s.row.items x vacant) (after_left s.after.items s.before.items x) before c.leave.new.self) (sym c.unlink.ensures.before)
    (lists_emptied s.row.items s.after.items s.before.items s.table c.leave.new.self x one.level one.group going
    (sym at ∙ c.if-index-head.false ∙ c.head_of-head.ensures) c.leave.ensures)))
