use Rattle.std.proofs.Common.{◌≡◌, ℕ, ◌<◌, ◌∙◌, ap, arith, length, List}
use Rattle.std.proofs.lemmas.List.{get_or_read}
use Rattle.aps_levels.specs.Levels.{level_count}
use Rattle.aps_ready.specs.declared.entrant.Entrant.{Entrant}
use Rattle.aps_ready.specs.Entrant.{entrant_at, vacant}
use Rattle.aps_ready.specs.Firsts.{firsts_of, level_of}
use Rattle.aps_ready.specs.Lists.{head_of, link, node_count}
use Rattle.aps_ready.proofs.ListLaws.{head_low}
use Rattle.aps_ready.proofs.Looks.{IsFirstOf, first_is}
use Rattle.aps_ready.proofs.lists.Lists.first.Goals as goal
use Rattle.aps_ready.specs.Group.{group_count}

-- the node that was read is that of the first
read_first : (row seen : List Entrant) (after before : List ℕ) (l g head r : ℕ) → row ≡ seen → head ≡ head_of l g
    → length after ≡ node_count → l < level_count → g < group_count → r ≡ link after head → IsFirstOf row after l g
    → (r < length row) × (entrant_at row r ≡ entrant_at (firsts_of seen) g)
read_first row seen after before l g head r view head_is size l_below g_below read first =
    let at : r ≡ link after (head_of l g) = read ∙ ap (link after) head_is in
    (omega (arith, at, first.within), ap (entrant_at row) at ∙ first.is ∙ ap (λ (f : List Entrant). entrant_at (firsts_of f) g) view)

pub index-requires-2 : goal.index-requires-2
index-requires-2 c =
    let s = c.self.inside in
    let level : level_of (firsts_of s.row.items) c.args.group ≡ c.args.level =
    ap (λ (row : List Entrant). level_of (firsts_of row) c.args.group) c.self.view_is ∙ c.requires.level in
    let low : c.head_of.result < length s.after.items =
    omega (arith, c.head_of.ensures, head_low c.args.level c.args.group c.requires.below c.requires.group, c.self.invariant.rings.after_size) in
    let first = read_first s.row.items c.args.self.now s.after.items s.before.items c.args.level c.args.group c.head_of.result c.index.result.now c.self.view_is
    c.head_of.ensures c.self.invariant.rings.after_size c.requires.below c.requires.group
    (get_or_read s.after.items c.head_of.result c.index.result.now low c.index.ensures 0)
    (first_is s.row.items s.after.items s.before.items s.table c.args.level c.args.group c.self.invariant c.requires.below c.requires.group level) in
    omega (arith, first.0, s.row.ok)

pub returns : goal.returns
returns c =
    let s = c.self.inside in
    let level : level_of (firsts_of s.row.items) c.args.group ≡ c.args.level =
    ap (λ (row : List Entrant). level_of (firsts_of row) c.args.group) c.self.view_is ∙ c.requires.level in
    let low : c.head_of.result < length s.after.items =
    omega (arith, c.head_of.ensures, head_low c.args.level c.args.group c.requires.below c.requires.group, c.self.invariant.rings.after_size) in
    let first = read_first s.row.items c.args.self.now s.after.items s.before.items c.args.level c.args.group c.head_of.result c.index.result.now c.self.view_is
    c.head_of.ensures c.self.invariant.rings.after_size c.requires.below c.requires.group
    (get_or_read s.after.items c.head_of.result c.index.result.now low c.index.ensures 0)
    (first_is s.row.items s.after.items s.before.items s.table c.args.level c.args.group c.self.invariant c.requires.below c.requires.group level) in
    get_or_read s.row.items c.index.result.now c.index-2.result.now first.0 c.index-2.ensures vacant ∙ first.1
