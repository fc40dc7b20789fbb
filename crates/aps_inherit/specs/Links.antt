-- An order as links from each of its numbers to the one before and the one after it.
use Rattle.std.specs.Prelude.{◌≡◌, ℕ, zero, suc, List, [], ◌∷◌, length, nat_eq, if◌then◌else◌, Option, Some, None, is_some, slice_index_or, slice_set}
use Rattle.std.specs.List.{count_by}
use Rattle.aps_inherit.specs.declared.order.Link.{Link}
use Rattle.aps_inherit.specs.Order.{AreApart, first_of}
use Rattle.aps_model.specs.Limits.{most_threads}

abbrev pub order_link_at : List (Option Link) → ℕ → Option Link
order_link_at links x = slice_index_or links x None

abbrev pub after_link : Option Link → Option ℕ
after_link None = None
after_link (Some link) = link.after

-- at most so many numbers, from this one on
abbrev pub chain : ℕ → List (Option Link) → Option ℕ → List ℕ
chain zero links at = []
chain (suc most) links None = []
chain (suc most) links (Some x) = x ∷ chain most links (after_link (order_link_at links x))

-- the order for which the links stand
abbrev pub listed : List (Option Link) → Option ℕ → List ℕ
listed links first = chain (length links) links first

-- the neighbours of y in a list that comes after this number
abbrev pub link_in : Option ℕ → List ℕ → ℕ → Option Link
link_in before [] y = None
link_in before (x ∷ xs) y =
    if nat_eq x y then Some (record { before = before; after = first_of xs }) else link_in (Some x) xs y

-- the links stand for this list
pub record LinksStandFor (links : List (Option Link)) (first : Option ℕ) (xs : List ℕ) : Type 0 where
  pub begins : first ≡ first_of xs
  pub places : (y : ℕ) → order_link_at links y ≡ link_in None xs y
  pub apart : AreApart xs
  pub count : length xs ≡ count_by is_some links
  pub size : length links ≡ most_threads

abbrev pub put_before : Option Link → Option ℕ → Option Link
put_before None before = None
put_before (Some link) before = Some (record link { before = before })

abbrev pub put_after : Option Link → Option ℕ → Option Link
put_after None after = None
put_after (Some link) after = Some (record link { after = after })

-- with this number before x, if x has a place
abbrev pub order_with_before : List (Option Link) → Option ℕ → Option ℕ → List (Option Link)
order_with_before links None before = links
order_with_before links (Some x) before = slice_set links x (put_before (order_link_at links x) before)

-- with this number after x, if x has a place
abbrev pub order_with_after : List (Option Link) → Option ℕ → Option ℕ → List (Option Link)
order_with_after links None after = links
order_with_after links (Some x) after = slice_set links x (put_after (order_link_at links x) after)

-- what is first once the first one, or a later one, with this link has gone
abbrev pub next_first : Option ℕ → Link → Option ℕ
next_first first link = if is_some link.before then first else link.after
