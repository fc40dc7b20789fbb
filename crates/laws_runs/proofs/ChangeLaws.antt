-- The changes of a legal history: they grow in order of tick, and there are few.
use Rattle.std.proofs.Common.{◌≡◌, ℕ, ◌+◌, ◌-◌, ◌*◌, ◌/◌, ◌<◌, ◌≤◌, List, [], ◌∷◌, ◌++◌, length, All, refl, sym, ◌∙◌, ap, subst, append_assoc, Bool, true, false, cond, nat_eq, nat_lt, Option, Some, None, unwrap_or, slice_set, arith, inl, inr, length-append}
use Rattle.std.specs.List.{AllPairs}
use Rattle.std.proofs.lemmas.Bool.{cases_lt, eqb-false, lt-ltb}
use Rattle.std.proofs.lemmas.List.{append-nil, get_or_past, set_past}
use Rattle.std.proofs.lemmas.List.Elements.{All-push, All-weaker}
use Rattle.std.proofs.lemmas.List.Quantifiers.{all_pairs_push}
use Rattle.std.proofs.lemmas.List.Sums.{count_by-le-length, sum_by-cons, sum_by-set, sum_by_push}
use Rattle.aps_model.specs.declared.command.Change.{Change}
use Rattle.aps_model.specs.declared.command.ChangeKind.{ChangeKind}
use Rattle.aps_model.specs.declared.command.ChangeKind.TheVariants.{Cancelled}
use Rattle.aps_model.specs.declared.command.CommandRow.{CommandRow}
use Rattle.aps_model.specs.declared.command.Reply.{Reply}
use Rattle.aps_model.specs.declared.entry.Entry.{Entry}
use Rattle.aps_model.specs.declared.entry.Order.{Order}
use Rattle.aps_model.specs.declared.partition.PartitionRow.{PartitionRow}
use Rattle.aps_model.specs.declared.shape.Shape.{Shape}
use Rattle.aps_model.specs.Limits.{last_partition, most_partitions}
use Rattle.laws_runs.specs.Changes.{AreInTicks, HasRoomForChanges, OnlyGrow, open_rows}
use Rattle.laws_runs.specs.Grown.{AllAt}
use Rattle.laws_runs.specs.Moments.{moment}
use Rattle.laws_runs.proofs.BoundaryLaws.{div_rises}
use Rattle.laws_runs.proofs.Books.{KeepsBooks, OfBooks, entry_books}
use Rattle.laws_runs.proofs.MomentLaws.{moment-append}
use Rattle.laws_runs.proofs.Performed.{performed_by}
use Rattle.laws_runs.proofs.Prefixes.{by_entries, by_more}
use Rattle.laws_runs.proofs.ReplyLaws.{few_answered}
use Rattle.laws_runs.proofs.Sound.{next_law}
use Rattle.laws_runs.proofs.StepGrown.{change_or_same}
use Rattle.aps_model.specs.After.{after, state_after}
use Rattle.aps_model.specs.Command.{Performed, perform}
use Rattle.aps_model.specs.Legal.{IsLegal}
use Rattle.aps_model.specs.Partition.{no_row, row_or_none}
use Rattle.aps_model.specs.Scenario.{Scenario}
use Rattle.aps_model.specs.SchedulerState.{SchedulerState, row_at}
use Rattle.aps_model.specs.TickWork.{changes_with, view_of}
use Rattle.aps_model.specs.Tree.{row_modified, rows_cancelled, rows_created, rows_modified}
use Rattle.aps_model.specs.Valid.{IsCommand, IsScenario}

-- ---- they only grow

abbrev AreLonger : List Reply → List Change → List PartitionRow → Shape → List Reply → List Change → Type 0
AreLonger old_replies old_changes rows shape replies changes = ((more : List Reply) × (replies ≡ old_replies ++ more)) × ((more : List Change) × (changes ≡ old_changes ++ more))

one_longer : {X : Type 0} (old now : List X) (x : X) → (more : List X) × (now ≡ old ++ more) → (more : List X) × (now ++ x ∷ [] ≡ old ++ more)
one_longer old now x m = (m.0 ++ x ∷ [], ap (λ l. l ++ x ∷ []) m.1 ∙ append_assoc old m.0 (x ∷ []))

change_longer : (old now : List Change) (j : ℕ) (o : Option ChangeKind) → (more : List Change) × (now ≡ old ++ more) → (more : List Change) × (changes_with now j o ≡ old ++ more)
change_longer old now j None m = m
change_longer old now j (Some kind) m = one_longer old now (record { tick = j; kind = kind }) m

keeps_longer : (C : CommandRow → Type 0) (replies : List Reply) (changes : List Change) → KeepsBooks C (AreLonger replies changes)
keeps_longer C replies changes = record {
  commands = λ h j t (place, row) fits m. (one_longer replies t.replies _ m.0, change_longer changes t.changes j _ m.1);
  cancels = λ t j p m. (m.0, by_test (nat_eq (row_at t p).critical 0) t j p m.1);
}
  where
    by_test : (test : Bool) (t : SchedulerState) (j p : ℕ) → (more : List Change) × (t.changes ≡ changes ++ more) → (more : List Change) × (cond test t.changes (t.changes ++ (record { tick = j; kind = Cancelled p }) ∷ []) ≡ changes ++ more)
    by_test true t j p m = m
    by_test false t j p m = one_longer changes t.changes (record { tick = j; kind = Cancelled p }) m

pub only_grow : (scenario : Scenario) (order : Order) (h later : List Entry) → IsScenario scenario → IsLegal scenario order (h ++ later) → OnlyGrow (state_after scenario h) (state_after scenario (h ++ later))
only_grow scenario order h later r legal =
    let s = state_after scenario h in
    let C = IsCommand scenario.shape.parts scenario.shape.ticks (length scenario.threads) in
    let m = by_more scenario order (λ g. OfBooks (AreLonger s.replies s.changes) (state_after scenario g))
    (λ g e l q. entry_books C (AreLonger s.replies s.changes) (keeps_longer C s.replies s.changes) scenario order g e r r.commands l q)
    h later legal (([], sym (append-nil s.replies)), ([], sym (append-nil s.changes))) in
    record { replies = m.0; changes = m.1 }

-- ---- in order of tick

record AreBy (j : ℕ) (changes : List Change) : Type 0 where
  rising : AllPairs (λ (a b : Change). a.tick ≤ b.tick) changes
  past : All (λ (change : Change). change.tick ≤ j) changes

by_added : (j : ℕ) (changes more : List Change) → AreBy j changes → AllAt j more → AreBy j (changes ++ more)
by_added j changes [] m at = subst (AreBy j) (sym (append-nil changes)) m
by_added j changes (x ∷ more) m at =
    let tick = at.0 in
    let next : AreBy j (changes ++ x ∷ []) = record {
      rising = all_pairs_push (λ (a b : Change). a.tick ≤ b.tick) changes x m.rising (λ k d below. let l = m.past k d below in omega (arith, l, tick));
      past = All-push (λ (change : Change). change.tick ≤ j) changes x m.past (omega (arith, tick));
    } in
    subst (AreBy j) (append_assoc changes (x ∷ []) more) (by_added j (changes ++ x ∷ []) more next at.1)

pub in_ticks : (scenario : Scenario) (order : Order) (h : List Entry) → IsScenario scenario → IsLegal scenario order h → AreInTicks scenario.shape.tick h (state_after scenario h).changes
unfolding after
in_ticks scenario order h r legal =
    let t = scenario.shape.tick in
    let pos : 0 < t = let l = r.shape.tick_long in omega (arith, l) in
    let m = by_entries scenario order (λ g. AreBy (moment g / t) (state_after scenario g).changes)
    (λ g e l q.
    let grown = change_or_same scenario order g e r l in
    let rises = div_rises t (moment g) e.to pos (next_law scenario order g e r l).rises in
    let now : AreBy (e.to / t) (state_after scenario g).changes = record {
      rising = q.rising;
      past = All-weaker (λ (change : Change). change.tick ≤ moment g / t) (λ (change : Change). change.tick ≤ e.to / t) (λ change k. omega (arith, k, rises)) (state_after scenario g).changes q.past;
    } in
    subst (AreBy (moment (g ++ e ∷ []) / t)) (sym grown.is)
    (subst (λ n. AreBy (n / t) ((state_after scenario g).changes ++ grown.more)) (sym (moment-append g e)) (by_added (e.to / t) (state_after scenario g).changes grown.more now grown.ticks)))
    h legal (record { rising = λ i j d less below. absurd (omega (arith, below)); past = λ k d below. absurd (omega (arith, below)) }) in
    record { rising = m.rising; past = m.past }

-- ---- few

abbrev is_open : PartitionRow → ℕ
is_open row = cond (nat_lt 0 row.critical) 1 0

open_one : (row : PartitionRow) → is_open row ≤ 1
open_one row = by_test (nat_lt 0 row.critical)
  where
    by_test : (t : Bool) → cond t 1 0 ≤ 1
    by_test true = omega arith
    by_test false = omega arith

open_set : (rows : List PartitionRow) (p : ℕ) (row : PartitionRow) → p < length rows → open_rows (slice_set rows p row) + is_open (row_or_none rows p) ≡ open_rows rows + is_open row
open_set rows p row below = sum_by-set is_open rows p row no_row below

-- with the same critical budget in its place
open_same : (rows : List PartitionRow) (p : ℕ) (row : PartitionRow) → row.critical ≡ (row_or_none rows p).critical → open_rows (slice_set rows p row) ≡ open_rows rows
open_same rows p row same = elim (cases_lt p (length rows)) [
  | inl below ↦
      let set = open_set rows p row below in
      let like : is_open row ≡ is_open (row_or_none rows p) = ap (λ n. cond (nat_lt 0 n) 1 0) same in
      omega (arith, set, like)
  | inr past ↦ ap open_rows (set_past rows p row past)
]

open_more : (rows : List PartitionRow) (p : ℕ) (row : PartitionRow) → open_rows (slice_set rows p row) ≤ open_rows rows + 1
open_more rows p row = elim (cases_lt p (length rows)) [
  | inl below ↦ omega (arith, open_set rows p row below, open_one row)
  | inr past ↦ let same = ap open_rows (set_past rows p row past) in omega (arith, same)
]

open_created : (rows : List PartitionRow) (name : List ℕ) (parent budget critical max : ℕ) → open_rows (rows_created rows name parent budget critical max) ≤ open_rows rows + 1
open_created rows name parent budget critical max =
    let giver : PartitionRow = record (row_or_none rows parent) { budget = (row_or_none rows parent).budget - budget } in
    let row : PartitionRow = record { name = name; parent = parent; budget = budget; critical = critical; max = max } in
    omega (arith, sum_by_push is_open (slice_set rows parent giver) row, open_same rows parent giver refl, open_one row)

open_modified : (rows : List PartitionRow) (p : ℕ) (budget critical max : Option ℕ) → open_rows (rows_modified rows p budget critical max) ≤ open_rows rows + 1
open_modified rows p budget critical max =
    let row = row_or_none rows p in
    let giver : PartitionRow = record (row_or_none rows row.parent) { budget = (row_or_none rows row.parent).budget + row.budget - unwrap_or budget row.budget } in
    let same = open_same rows row.parent giver refl in
    let more = open_more (slice_set rows row.parent giver) p (row_modified row budget critical max) in
    omega (arith, same, more)

-- where a row had a critical budget, cancelling it leaves one fewer
open_cancelled : (rows : List PartitionRow) (p : ℕ) → open_rows (rows_cancelled rows p) + is_open (row_or_none rows p) ≡ open_rows rows
open_cancelled rows p = elim (cases_lt p (length rows)) [
  | inl below ↦ let set = open_set rows p (record (row_or_none rows p) { critical = 0 }) below in omega (arith, set)
  | inr past ↦
      let same = ap open_rows (set_past rows p (record (row_or_none rows p) { critical = 0 }) past) in
      let none : is_open (row_or_none rows p) ≡ 0 = ap is_open (get_or_past rows p no_row past) in
      omega (arith, same, none)
]

abbrev HasRoom : ℕ → List PartitionRow → Shape → List Reply → List Change → Type 0
HasRoom n rows shape replies changes = length changes + open_rows rows ≤ 2 * length replies + n

longer_by : {X : Type 0} (xs : List X) (x : X) → length (xs ++ x ∷ []) ≡ length xs + 1
longer_by xs x = length-append xs (x ∷ []) ∙ omega arith

some_open : (row : PartitionRow) → nat_eq row.critical 0 ≡ false → is_open row ≡ 1
some_open row ne = ap (λ b. cond b 1 0) (lt-ltb 0 row.critical (pos row.critical (λ none. eqb-false row.critical 0 ne none)))
  where
    pos : (k : ℕ) → (k ≡ 0 → ⊥) → 0 < k
    pos k ne = elim (cases_lt 0 k) [
      | inl l ↦ l
      | inr none ↦ absurd (ne (omega (arith, none)))
    ]

-- how many changes a command adds
abbrev added : Option ChangeKind → ℕ
added None = 0
added (Some kind) = 1

with_added : (changes : List Change) (j : ℕ) (o : Option ChangeKind) → length (changes_with changes j o) ≡ length changes + added o
with_added changes j None = omega arith
with_added changes j (Some kind) = longer_by changes (record { tick = j; kind = kind })

keeps_room : (parts ticks threads n : ℕ) → KeepsBooks (IsCommand parts ticks threads) (HasRoom n)
keeps_room parts ticks threads n = record {
  commands = λ h j t (place, row) fits m.
      let done = perform row.call t.rows t.shape (view_of t h j row.call) in
      let room : length t.changes + added done.change + open_rows done.rows ≤ 2 * (length t.replies + 1) + n =
      performed_by parts threads row.call t.rows t.shape (view_of t h j row.call) (λ (out : Performed). length t.changes + added out.change + open_rows out.rows ≤ 2 * (length t.replies + 1) + n) fits.call
      (record {
        same = λ answer mark. omega (arith, m);
        creates = λ name parent budget critical max named none. omega (arith, open_created t.rows name parent budget critical max, m);
        modifies = λ p budget critical max none. omega (arith, open_modified t.rows p budget critical max, m);
        sets = λ window free limit bankruptcy range. omega (arith, m);
      }) in
      omega (arith, longer_by t.replies (record { command = place; answer = done.answer }), with_added t.changes j done.change, room);
  cancels = λ t j p m. by_test (nat_eq (row_at t p).critical 0) t j p refl m;
}
  where
    by_test : (test : Bool) (t : SchedulerState) (j p : ℕ) → nat_eq (row_at t p).critical 0 ≡ test → length t.changes + open_rows t.rows ≤ 2 * length t.replies + n
        → length (cond test t.changes (t.changes ++ (record { tick = j; kind = Cancelled p }) ∷ [])) + open_rows (rows_cancelled t.rows p) ≤ 2 * length t.replies + n
    by_test true t j p is m = let fewer = open_cancelled t.rows p in omega (arith, fewer, m)
    by_test false t j p is m =
        let fewer = open_cancelled t.rows p in
        let one : is_open (row_at t p) ≡ 1 = some_open (row_at t p) is in
        omega (arith, longer_by t.changes (record { tick = j; kind = Cancelled p }), fewer, one, m)

pub room : (scenario : Scenario) (order : Order) (h : List Entry) → IsScenario scenario → IsLegal scenario order h → HasRoomForChanges scenario (state_after scenario h)
unfolding after
room scenario order h r legal =
    let C = IsCommand scenario.shape.parts scenario.shape.ticks (length scenario.threads) in
    let n = open_rows scenario.partitions in
    by_entries scenario order (λ g. OfBooks (HasRoom n) (state_after scenario g))
    (λ g e l q. entry_books C (HasRoom n) (keeps_room scenario.shape.parts scenario.shape.ticks (length scenario.threads) n) scenario order g e r r.commands l q)
    h legal (omega arith)

-- the root has no critical budget at the start
open_at_start : (rows : List PartitionRow) → (row_or_none rows 0).critical ≡ 0 → length rows ≤ most_partitions → open_rows rows ≤ last_partition
open_at_start [] none few = omega arith
open_at_start (row ∷ rows) none few =
    let first : is_open row ≡ 0 = ap (λ n. cond (nat_lt 0 n) 1 0) none in
    omega (arith, sum_by-cons is_open row rows, first, count_by-le-length (λ (r : PartitionRow). nat_lt 0 r.critical) rows, few)

pub few_changes : (scenario : Scenario) (order : Order) (h : List Entry) → IsScenario scenario → IsLegal scenario order h → length (state_after scenario h).changes ≤ 2079
few_changes scenario order h r legal =
    let m = room scenario order h r legal in
    let replies = few_answered scenario order h r legal in
    let commands = r.few_commands in
    let start = open_at_start scenario.partitions r.tree.root.critical r.tree.few in
    omega (arith, m, replies, commands, start)
