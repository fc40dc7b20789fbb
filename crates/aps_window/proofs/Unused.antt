-- The account with no bill, and the accounts that are not in use.
use Rattle.std.proofs.Common.{lit≤, ◌≡◌, ℕ, ◌+◌, ◌-◌, ◌<◌, ◌≤◌, ◌++◌, zero, suc, List, [], ◌∷◌, map, take, drop, replicate, set, sum_by, refl, sym, ap, ◌∙◌, subst, arith}
use Rattle.std.specs.List.{All}
use Rattle.std.proofs.lemmas.List.{drop-drop, drop-map, drop-set-lt, length-replicate, map-append, take-append-drop, take-replicate}
use Rattle.std.proofs.lemmas.List.Elements.{All-drop, All-head, All-replicate, All-tail}
use Rattle.std.proofs.lemmas.List.Folds.{sum_by-replicate}
use Rattle.aps_model.specs.Limits.{longest_window}
use Rattle.circular_buffer.specs.Buffer.{buffer}
use Rattle.aps_window.specs.declared.slot.Slot.{Slot}
use Rattle.aps_window.specs.declared.account.Account.{Account}
use Rattle.aps_window.specs.Account.{IsAccount, IsUnused, account_moved, account_of, account_resized, no_account}
use Rattle.aps_window.specs.Slots.{IsSlot, no_slot, no_slots, slots_moved, slots_rotated, slots_total}

no_total : (span : ℕ) → span ≤ longest_window → no_slot ≡ slots_total span no_slots
unfolding no_slots
no_total span few =
    let newest : take span (replicate longest_window no_slot) ≡ replicate span no_slot = take-replicate span longest_window no_slot few in
    let all : 0 ≡ sum_by (λ (s : Slot). s.billed) (take span (replicate longest_window no_slot)) =
    rw newest (omega (arith, sum_by-replicate (λ (s : Slot). s.billed) span no_slot)) in
    let part : 0 ≡ sum_by (λ (s : Slot). s.critical) (take span (replicate longest_window no_slot)) =
    rw newest (omega (arith, sum_by-replicate (λ (s : Slot). s.critical) span no_slot)) in
    λ i. record { billed = all i; critical = part i }

pub no_account_is : (span : ℕ) → span ≤ longest_window → IsAccount span no_account
unfolding no_slots
no_account_is span few = record {
  same = λ i. record { ring = buffer no_slots longest_window; total = no_total span few i };
  full = length-replicate longest_window no_slot;
  small = All-replicate IsSlot longest_window no_slot (record { small = lit≤ tt; within = lit≤ tt });
}

replicate_rotated : (n : ℕ) → slots_rotated (replicate n no_slot) ≡ replicate n no_slot
replicate_rotated n =
    ap (λ (m : ℕ). take m (replicate (suc n) no_slot)) (length-replicate n no_slot)
    ∙ take-replicate n (suc n) no_slot (omega arith)

replicate_moved : (ticks n : ℕ) → slots_moved ticks (replicate n no_slot) ≡ replicate n no_slot
replicate_moved zero n = refl
replicate_moved (suc ticks) n = ap slots_rotated (replicate_moved ticks n) ∙ replicate_rotated n

no_slots_moved : (ticks : ℕ) → slots_moved ticks no_slots ≡ no_slots
unfolding no_slots
no_slots_moved ticks = replicate_moved ticks longest_window

-- it has no bill where another number of slots counts
pub no_account_resized : (span : ℕ) → span ≤ longest_window → account_resized span no_account ≡ no_account
no_account_resized span few = λ i. record { ring = buffer no_slots longest_window; total = sym (no_total span few) i }

-- and none however many ticks later
pub no_account_moved : (ticks span : ℕ) → span ≤ longest_window → account_moved ticks span no_account ≡ no_account
no_account_moved ticks span few =
    ap (account_of span) (no_slots_moved ticks) ∙ no_account_resized span few

-- what leaves it as it is leaves all such accounts so
unchanged : (f : Account → Account) (accounts : List Account) → f no_account ≡ no_account → All IsUnused accounts
    → map f accounts ≡ accounts
unchanged f [] same unused = refl
unchanged f (account ∷ accounts) same unused =
    let empty : account ≡ no_account = All-head IsUnused account accounts unused in
    let here : f account ≡ account = ap f empty ∙ same ∙ sym empty in
    let rest = unchanged f accounts same (All-tail IsUnused account accounts unused) in
    λ i. here i ∷ rest i

-- the accounts in use, one after another: the others need nothing
pub all_done : (f : Account → Account) (xs ys : List Account) (i n : ℕ) → i ≡ n → f no_account ≡ no_account
    → All IsUnused (drop n xs) → ys ≡ map f (take i xs) ++ drop i xs → ys ≡ map f xs
all_done f xs ys i n done same unused e =
    e
    ∙ (λ j. map f (take (done j) xs) ++ drop (done j) xs)
    ∙ ap (λ (rest : List Account). map f (take n xs) ++ rest) (sym (unchanged f (drop n xs) same unused))
    ∙ sym (map-append f (take n xs) (drop n xs))
    ∙ ap (map f) (take-append-drop n xs)

-- and they stay as they are
pub unused_kept : (f : Account → Account) (xs ys : List Account) (n : ℕ) → f no_account ≡ no_account → ys ≡ map f xs
    → All IsUnused (drop n xs) → All IsUnused (drop n ys)
unused_kept f xs ys n same e unused =
    subst (All IsUnused)
    (sym (ap (drop n) e ∙ drop-map f n xs ∙ unchanged f (drop n xs) same unused)) unused

-- a bill takes a place into use
pub unused_rest : (xs : List Account) (n m q : ℕ) (next : Account) → n ≤ m → q < m → All IsUnused (drop n xs)
    → All IsUnused (drop m (set xs q next))
unused_rest xs n m q next more inside unused =
    let same : n + (m - n) ≡ m = omega arith in
    let here : drop m (set xs q next) ≡ drop (m - n) (drop n xs) =
    drop-set-lt m xs q next inside ∙ ap (λ (k : ℕ). drop k xs) (sym same) ∙ sym (drop-drop (m - n) n xs) in
    subst (All IsUnused) (sym here) (All-drop IsUnused (m - n) (drop n xs) unused)
