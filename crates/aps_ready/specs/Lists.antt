-- Lists of threads: one for each level and group, as links between nodes, which are the threads and the heads of the lists.
use Rattle.std.specs.Prelude.{◌≡◌, ◌≢◌, ℕ, ◌+◌, ◌*◌, ◌<◌, ◌≤◌, true, nat_lt, if◌then◌else◌, List, length, slice_index_or}
use Rattle.aps_levels.specs.declared.bits.Bits64.{Bits64}
use Rattle.aps_levels.specs.Bits.{set_has}
use Rattle.aps_ready.specs.declared.entrant.Entrant.{Entrant}
use Rattle.aps_ready.specs.Entrant.{entrant_at}
use Rattle.aps_ready.specs.Ready.{HasThreads, IsQueued}
use Rattle.aps_ready.specs.Table.{bits_at}
use Rattle.aps_model.specs.Limits.{greatest_priority, most_threads}
use Rattle.aps_levels.specs.Levels.{level_count}
use Rattle.aps_ready.specs.Group.{group_count}

-- how many nodes there are: each thread, and a head for each level and group
abbrev pub node_count : ℕ
node_count = 17408

-- the node that is the head of the list of a level and a group
abbrev pub head_of : ℕ → ℕ → ℕ
head_of level group = most_threads + group_count * level + group

-- the node to which a link leads from a node
abbrev pub link : List ℕ → ℕ → ℕ
link links n = slice_index_or links n 0

-- the head of the list in which a node stands
abbrev pub list_of : List Entrant → ℕ → ℕ
list_of row n = if nat_lt n most_threads then head_of (entrant_at row n).level (entrant_at row n).group else n

-- a thread that is in, or the head of a list
pub record IsNode (row : List Entrant) (n : ℕ) : Type 0 where
  pub below : n < node_count
  pub there : n < most_threads → (entrant_at row n).group < group_count

-- the link of a node leads to a node of its list, whose link back leads to this one
pub record IsLinked (row : List Entrant) (forth back : List ℕ) (n : ℕ) : Type 0 where
  pub node : IsNode row (link forth n)
  pub same : list_of row (link forth n) ≡ list_of row n
  pub returns : link back (link forth n) ≡ n

abbrev pub AreLinked : List Entrant → List ℕ → List ℕ → Type 0
AreLinked row forth back = (n : ℕ) → IsNode row n → IsLinked row forth back n

-- from one thread to the next stamps rise
abbrev pub AreRising : List Entrant → List ℕ → Type 0
AreRising row after = (n : ℕ) → IsNode row n → n < most_threads → link after n < most_threads
    → (entrant_at row n).stamp < (entrant_at row (link after n)).stamp

-- each list is a ring: from its head through its threads, in order of their stamps, and back to its head
pub record AreRings (row : List Entrant) (after before : List ℕ) : Type 0 where
  pub few : HasThreads row
  pub levels : (x : ℕ) → (entrant_at row x).group < group_count → (entrant_at row x).level ≤ greatest_priority
  pub after_size : length after ≡ node_count
  pub before_size : length before ≡ node_count
  pub forth : AreLinked row after before
  pub back : AreLinked row before after
  pub rising : AreRising row after

-- where somebody with this stamp belongs in a list: behind this node
pub record IsPlace (row : List Entrant) (after : List ℕ) (head stamp place : ℕ) : Type 0 where
  pub node : IsNode row place
  pub same : list_of row place ≡ head
  pub over : place < most_threads → (entrant_at row place).stamp < stamp
  pub under : link after place < most_threads → stamp < (entrant_at row (link after place)).stamp

-- each thread that is in stands in the list of its level and group, and the lists that aren't empty are known
pub record AreLists (row : List Entrant) (after before : List ℕ) (at_level : List Bits64) : Type 0 where
  pub queued : IsQueued row
  pub rings : AreRings row after before
  pub used : (x : ℕ) → (entrant_at row x).group < group_count
      → set_has (bits_at at_level (entrant_at row x).level) (entrant_at row x).group ≡ true
  pub some : (l g : ℕ) → l < level_count → g < group_count → set_has (bits_at at_level l) g ≡ true → link after (head_of l g) ≢ head_of l g
