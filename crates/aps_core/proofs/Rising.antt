-- Entries end in order.
use Rattle.std.proofs.Common.{◌≡◌, ℕ, suc, ◌+◌, ◌<◌, ◌≤◌, List, [], ◌∷◌, ◌++◌, length, take, drop, get_or, sym, ◌∙◌, ap, subst, All, add-one, drop-cons, false, nat_eq, arith}
use Rattle.std.specs.List.{AllByRecursion, list_any}
use Rattle.std.proofs.Math.Seq.{take-suc}
use Rattle.std.proofs.lemmas.List.{take-append-drop}
use Rattle.std.proofs.lemmas.List.Folds.{list_any_none}
use Rattle.std.proofs.lemmas.List.Elements.{All-append, All-from_recursion}
use Rattle.aps_model.specs.declared.entry.Entry.{Entry}
use Rattle.aps_model.specs.declared.entry.Order.{Order}
use Rattle.aps_model.specs.Legal.{IsLegal}
use Rattle.aps_model.specs.Scenario.{Scenario}
use Rattle.aps_model.specs.Valid.{IsScenario}
use Rattle.laws_runs.specs.Moments.{moment}
use Rattle.laws_runs.proofs.BoundaryLaws.{latest}
use Rattle.laws_runs.proofs.Sound.{next_law}
use Rattle.laws_runs.proofs.WaitFacts.{test_ne}
use Rattle.laws_runs.proofs.Words.{prefix_legal, up_to}
use Rattle.aps_core.specs.Rising.{IsRising}

-- each of these has ended by a moment
abbrev pub ArePast : ℕ → List Entry → Type 0
ArePast moment h = All (λ (e : Entry). e.to ≤ moment) h

later_past : (m n : ℕ) (h : List Entry) → m ≤ n → ArePast m h → ArePast n h
later_past m n h le past = λ k d lt. let at = past k d lt in omega arith

past_more : (m : ℕ) (h : List Entry) (e : Entry) → ArePast m h → e.to ≤ m → ArePast m (h ++ e ∷ [])
past_more m h e past here =
    let last : AllByRecursion (λ (d : Entry). d.to ≤ m) (e ∷ []) = (here, tt) in
    All-append (λ (d : Entry). d.to ≤ m) h (e ∷ []) past (All-from_recursion (λ (d : Entry). d.to ≤ m) (e ∷ []) last)

-- where an entry has ended by a moment, all before it have
pub past_before : (h : List Entry) (left moment : ℕ) (d : Entry) → IsRising h → left < length h → (get_or h left d).to ≤ moment → ArePast moment (take (left + 1) h)
past_before h left moment d rising lt past =
    let here = get_or h left d in
    let split : h ≡ take left h ++ here ∷ drop (suc left) h =
    sym (take-append-drop left h) ∙ ap (λ g. take left h ++ g) (drop-cons h left d lt) in
    let before = rising (take left h) (drop (suc left) h) here split in
    let whole : take left h ++ here ∷ [] ≡ take (left + 1) h = sym (take-suc h left d lt) ∙ ap (λ n. take n h) (sym (add-one left)) in
    subst (ArePast moment) whole (past_more moment (take left h) here (later_past here.to moment (take left h) past before) past)

-- and so do those of a legal history
pub rising_law : (scenario : Scenario) (order : Order) → IsScenario scenario → (h : List Entry) → IsLegal scenario order h → IsRising h
rising_law scenario order valid h legal = λ before later e same.
    let front = up_to scenario order h before later e same legal in
    let first = prefix_legal scenario order before (e ∷ []) front in
    later_past (moment before) e.to before (next_law scenario order before e valid front).rises (latest scenario order before valid first)

-- where an entry ended before a moment, none up to it ended then
pub not_met : (h : List Entry) (left moment : ℕ) (d : Entry) → IsRising h → left < length h → (get_or h left d).to < moment → list_any (λ (e : Entry). nat_eq e.to moment) (take (left + 1) h) ≡ false
not_met h left moment d rising lt early =
    let past = past_before h left (get_or h left d).to d rising lt (omega arith) in
    list_any_none (λ (e : Entry). nat_eq e.to moment) (take (left + 1) h) (λ k e within. let at = past k e within in test_ne _ moment (λ same. omega (arith, at, same, early)))
