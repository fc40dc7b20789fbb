-- The usage of a window that slides.
use Rattle.std.proofs.Common.{◌≡◌, ℕ, ◌+◌, ◌^◌, ◌<◌, ◌≤◌, List, length, take, get_or, replicate, All, slice_index, sym, ◌∙◌, ap, arith}
use Rattle.std.specs.List.{sum_by}
use Rattle.std.proofs.lemmas.List.{get_or-replicate}
use Rattle.std.proofs.lemmas.List.Sums.{sum_by_more_le}
use Rattle.aps_model.specs.declared.entry.Entry.{Entry}
use Rattle.aps_model.specs.History.{IsEntry}
use Rattle.aps_model.specs.Limits.{greatest_u32, most_partitions}
use Rattle.aps_model.specs.Usage.{billed_by, critical_by, overlap}
use Rattle.aps_bound.specs.declared.cursor.Cursor.{Cursor}
use Rattle.aps_bound.specs.declared.window.Window.{Window}
use Rattle.aps_model.specs.declared.usage.Usage.{Usage}
use Rattle.aps_bound.specs.Cursor.{HasAllOf, IsCursor}
use Rattle.aps_model.specs.Sums.{IsAtMost, IsUsage}
use Rattle.aps_bound.specs.Usage.{HasBilled, HasUsed, IsMore}
use Rattle.aps_bound.specs.Window.{IsUsageWindow}
use Rattle.aps_bound.proofs.Overlaps.{critical_few, critical_none, critical_split, used_few, used_none, used_split}

pub usage_few : (tick a b : ℕ) (h : List Entry) (usage : Usage) → All IsEntry h → length h ≤ greatest_u32 → IsUsage tick a b h usage → IsAtMost (2 ^ 62) usage
usage_few tick a b h usage entries few is = record {
  used = λ p inside. let most = used_few tick h p a b entries in let here = is.used p inside in omega arith;
  critical = λ p inside. let most = critical_few tick h p a b entries in let here = is.critical p inside in omega arith;
}

-- what the next entry bills is still a part
part_left : (f : Entry → ℕ) (h : List Entry) (n all left : ℕ) (e : Entry) → n < length h → e ≡ get_or h n e → all ≡ left + sum_by f (take n h) → sum_by f h ≤ all → f e ≤ left
part_left f h n all left e inside is split whole =
    let more = sum_by_more_le f h n e inside in
    let here = ap f is in
    omega arith

pub billed_left : (tick a b n ns : ℕ) (h : List Entry) (left all : Usage) (e : Entry) → n < length h → e ≡ get_or h n e → ns ≡ overlap tick a b e.from e.to
    → HasUsed tick a b h all → IsMore tick a b (take n h) left all → HasBilled e ns left
billed_left tick a b n ns h left all e inside is same whole split = rw same record {
  used = λ p below. part_left (billed_by tick p a b) h n (slice_index all.used p) (slice_index left.used p) e inside is (split.used p below) (whole.used p below);
  critical = λ p below. part_left (critical_by tick p a b) h n (slice_index all.critical p) (slice_index left.critical p) e inside is (split.critical p below) (whole.critical p below);
}

-- no ticks at all
pub empty_usage : (tick a : ℕ) (h : List Entry) → IsUsage tick a a h (record { used = replicate most_partitions 0; critical = replicate most_partitions 0 })
empty_usage tick a h = record {
  used = λ p below. get_or-replicate most_partitions p 0 0 below ∙ sym (used_none tick h p a);
  critical = λ p below. get_or-replicate most_partitions p 0 0 below ∙ sym (critical_none tick h p a);
}

-- with the tick after the window
pub entered : (tick : ℕ) (h entering : List Entry) (window : Window) (end : Cursor) (more : Usage) → IsUsageWindow tick h window → end.tick ≡ window.end.tick + 1 → IsCursor tick h end
    → HasAllOf tick window.end.tick h entering → IsMore tick window.end.tick (window.end.tick + 1) entering window.usage more
    → IsUsageWindow tick h (record { first = window.first; end = end; usage = more })
entered tick h entering window end more was end' at_end all added =
    let a = window.first.tick in
    let b = window.end.tick in
    record {
      forward = omega (arith, was.forward);
      usage = rw end' (record {
        used = λ p below. omega (arith, used_split tick h p a b (b + 1) was.forward (omega arith), was.usage.used p below, all.used p, added.used p below);
        critical = λ p below. omega (arith, critical_split tick h p a b (b + 1) was.forward (omega arith), was.usage.critical p below, all.critical p, added.critical p below);
      });
      first = was.first;
      end = at_end;
    }

-- the first tick is a part
pub can_leave : (tick : ℕ) (h leaving : List Entry) (window : Window) → IsUsageWindow tick h window → window.first.tick < window.end.tick → HasAllOf tick window.first.tick h leaving
    → HasUsed tick window.first.tick (window.first.tick + 1) leaving window.usage
can_leave tick h leaving window was some all =
    let a = window.first.tick in
    let b = window.end.tick in
    record {
      used = λ p below. omega (arith, used_split tick h p a (a + 1) b (omega arith) (omega arith), was.usage.used p below, all.used p);
      critical = λ p below. omega (arith, critical_split tick h p a (a + 1) b (omega arith) (omega arith), was.usage.critical p below, all.critical p);
    }

-- without it
pub left : (tick : ℕ) (h leaving : List Entry) (window : Window) (first : Cursor) (next : Usage) → IsUsageWindow tick h window → window.first.tick < window.end.tick
    → first.tick ≡ window.first.tick + 1 → IsCursor tick h first → HasAllOf tick window.first.tick h leaving → IsMore tick window.first.tick (window.first.tick + 1) leaving next window.usage
    → IsUsageWindow tick h (record { first = first; end = window.end; usage = next })
left tick h leaving window first next was some first' at_first all less =
    let a = window.first.tick in
    let b = window.end.tick in
    record {
      forward = omega arith;
      usage = rw first' (record {
        used = λ p below. omega (arith, used_split tick h p a (a + 1) b (omega arith) (omega arith), was.usage.used p below, all.used p, less.used p below);
        critical = λ p below. omega (arith, critical_split tick h p a (a + 1) b (omega arith) (omega arith), was.usage.critical p below, all.critical p, less.critical p below);
      });
      first = at_first;
      end = was.end;
    }
