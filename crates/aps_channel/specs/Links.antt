-- Lines of numbers as links from each to the next and back.
use Rattle.std.specs.Prelude.{◌≡◌, ◌≢◌, ℕ, zero, suc, ◌<◌, ◌≤◌, Bool, true, false, nat_eq, if◌then◌else◌, List, [], ◌∷◌, length, map, slice_index_or, slice_set, Option, Some, None}
use Rattle.laws_runs.specs.Waits.{times}
use Rattle.aps_channel.specs.Lines.{first_of, queue_line_at}
use Rattle.aps_channel.specs.declared.links.Link.{Link}
use Rattle.aps_channel.specs.declared.links.Ends.{Ends}

abbrev pub no_link : Link
no_link = record { before = None; after = None }

abbrev pub no_ends : Ends
no_ends = record { first = None; last = None }

abbrev pub link_at : List Link → ℕ → Link
link_at links x = slice_index_or links x no_link

abbrev pub ends_at : List Ends → ℕ → Ends
ends_at ends q = slice_index_or ends q no_ends

-- so many steps along the links, from this number on
abbrev pub walk : List Link → ℕ → Option ℕ → List ℕ
walk links zero at = []
walk links (suc n) None = []
walk links (suc n) (Some x) = x ∷ walk links n (link_at links x).after

-- a line from its first on, which has no more numbers than there are links
abbrev pub line_along_links : List Link → Ends → List ℕ
line_along_links links e = walk links (length links) e.first

abbrev pub lines_of : List Link → List Ends → List (List ℕ)
lines_of links ends = map (line_along_links links) ends

-- the last of these, or what stands before them where there are none
abbrev pub last_or : Option ℕ → List ℕ → Option ℕ
last_or before [] = before
last_or before (x ∷ xs) = last_or (Some x) xs

-- it is this number
abbrev pub is_this_number : Option ℕ → ℕ → Bool
is_this_number None y = false
is_this_number (Some x) y = nat_eq x y

abbrev pub with_after : List Link → Option ℕ → Option ℕ → List Link
with_after links None after = links
with_after links (Some x) after = slice_set links x (record (link_at links x) { after = after })

abbrev pub with_before : List Link → Option ℕ → Option ℕ → List Link
with_before links None before = links
with_before links (Some x) before = slice_set links x (record (link_at links x) { before = before })

-- one number more behind the last
abbrev pub links_pushed : List Link → Option ℕ → ℕ → List Link
links_pushed links last x = with_after (slice_set links x (record { before = last; after = None })) last (Some x)

-- the one, or where there is none the other
abbrev pub one_or : Option ℕ → Option ℕ → Option ℕ
one_or None y = y
one_or (Some x) y = Some x

abbrev pub ends_pushed : Ends → ℕ → Ends
ends_pushed e x = record { first = one_or e.first (Some x); last = Some x }

-- a number with this link is gone
abbrev pub links_removed : List Link → Link → List Link
links_removed links l = with_before (with_after links l.before l.after) l.after l.before

-- the end of a line without that number, which stands there if nobody is on that side of it
abbrev pub end_removed : Option ℕ → Option ℕ → Option ℕ → Option ℕ
end_removed None end other = other
end_removed (Some x) end other = end

abbrev pub ends_removed : Ends → Link → Ends
ends_removed e l = record { first = end_removed l.before e.first l.after; last = end_removed l.after e.last l.before }

-- the chain begins behind this number, if one is given, and each link leads on and back
abbrev pub IsLinkedFrom : List Link → Option ℕ → List ℕ → Type 0
IsLinkedFrom links before [] = Unit {0}
IsLinkedFrom links before (x ∷ xs) = (link_at links x ≡ record { before = before; after = first_of xs }) × IsLinkedFrom links (Some x) xs

-- the ends and links of one line
pub record IsLinkedLine (links : List Link) (e : Ends) (xs : List ℕ) : Type 0 where
  pub first : e.first ≡ first_of xs
  pub last : e.last ≡ last_or None xs
  pub linked : IsLinkedFrom links None xs
  pub within : (x : ℕ) → 1 ≤ times x xs → x < length links
  pub once : (x : ℕ) → times x xs ≤ 1

-- no number stands in two lines
pub record AreLines (links : List Link) (ends : List Ends) : Type 0 where
  pub each : (q : ℕ) → q < length ends → IsLinkedLine links (ends_at ends q) (queue_line_at (lines_of links ends) q)
  pub apart : (q r x : ℕ) → q < length ends → r < length ends → q ≢ r → 1 ≤ times x (queue_line_at (lines_of links ends) q)
      → times x (queue_line_at (lines_of links ends) r) ≡ 0
