-- An operation that is printed reads as itself.
use Rattle.std.proofs.Common.{◌≡◌, ℕ, suc, ◌+◌, ◌-◌, ◌*◌, ◌/◌, ◌%◌, ◌^◌, ◌<◌, ◌≤◌, true, false, ◌||◌, List, [], ◌∷◌, ◌++◌, length, Some, Ok, refl, ap, sym, subst, ◌∙◌, inl, inr, arith, append_assoc, le-leb, eqb}
use Rattle.std.proofs.lemmas.Bool.{cases_Bool}
use Rattle.std.proofs.lemmas.Bool.Decides.{nat_tests}
use Rattle.std.proofs.lemmas.Fmt.{decimal_by_steps}
use Rattle.std.proofs.lemmas.List.{append-nil}
use Rattle.std.proofs.lemmas.List.Elements.{All-get_or}
use Rattle.std.proofs.lemmas.Slice.Eq.{bytes_eq-Decides}
use Rattle.std.specs.Char.{is_ascii_digit}
use Rattle.std.specs.Fmt.{decimal}
use Rattle.std.specs.Prelude.{All}
use Rattle.std.specs.List.{IsDistinct, list_any}
use Rattle.std.specs.Str.{bytes_eq}
use Rattle.aps_model.specs.declared.program.Op.{Op}
use Rattle.aps_model.specs.declared.program.Op.TheVariants.{Run, Forever, Sleep, Yield, Send, Receive, Reply, Join, Priority, CriticalOn, CriticalOff, Repeat, Exit}
use Rattle.aps_model.specs.Limits.{greatest_priority, last_moment}
use Rattle.aps_model.specs.Name.{IsName}
use Rattle.aps_model.specs.Program.{IsOp}
use Rattle.aps_scenario.specs.Channels.{is_name_among}
use Rattle.aps_scenario.specs.Operation.{number, number_after, operation_of, channel_named}
use Rattle.aps_scenario.specs.PrintedOperation.{operation_text, channel_name}
use Rattle.aps_scenario.proofs.PrintedNames.{position-named, map-same}
use Rattle.aps_scenario.proofs.PrintedValues.{is_name-true}

-- ---- numbers

digit-true : (d : ℕ) → d < 10 → is_ascii_digit (48 + d) ≡ true
digit-true d small = grind (arith, nat_tests)

first_digit : (most n : ℕ) (bytes : List ℕ) → n < 10 → 0 < n → n ≤ most → number most ((48 + n) ∷ bytes) ≡ number_after most n bytes
first_digit most n bytes small some within =
    let value : 48 + n - 48 ≡ n = omega arith in
    let other : eqb (48 + n) 48 ≡ false = grind (arith, nat_tests) in
    rw (digit-true n small, other, value, le-leb n most within) refl

last_digit : (most n : ℕ) (bytes : List ℕ) → n ≤ most → number_after most (n / 10) ((48 + n % 10) ∷ bytes) ≡ number_after most n bytes
last_digit most n bytes within =
    let value : n / 10 * 10 + (48 + n % 10 - 48) ≡ n = omega arith in
    rw (digit-true (n % 10) (omega arith), value, le-leb n most within) refl

pub number-decimal : (most n : ℕ) → most < 2 ^ 64 → 0 < n → n ≤ most → number most (decimal n) ≡ Some n
number-decimal most n fits some within =
    let Leads : ℕ → List ℕ → Type 0 = λ n ds. 0 < n → n ≤ most → (bytes : List ℕ) → number most (ds ++ bytes) ≡ number_after most n bytes in
    let read = decimal_by_steps Leads
    (λ n small some within bytes. first_digit most n bytes small some within)
    (λ n ds large so_far some within bytes.
    ap (number most) (append_assoc ds ((48 + n % 10) ∷ []) bytes)
    ∙ so_far (omega arith) (omega arith) ((48 + n % 10) ∷ bytes)
    ∙ last_digit most n bytes within)
    n (omega arith) some within [] in
    ap (number most) (sym (append-nil (decimal n))) ∙ read

-- ---- names

pub channel-found : (channels : List (List ℕ)) (c : ℕ) → c < length channels → IsDistinct bytes_eq channels → channel_named channels (channel_name channels c) ≡ Some c
channel-found channels c within distinct = position-named (λ x. x) channels c [] within (subst (IsDistinct bytes_eq) (sym (map-same channels)) distinct)

pub among-IsName : (name : List ℕ) (names : List (List ℕ)) → All IsName names → list_any (bytes_eq name) names ≡ true → IsName name
among-IsName name [] each among = absurd (cc)
among-IsName name (other ∷ names) each among =
    elim (cases_Bool (bytes_eq name other)) [
      | inl same ↦
          let is : name ≡ other = (bytes_eq-Decides name other).0 same in
          subst IsName (sym is) (All-get_or IsName (other ∷ names) 0 [] (omega arith) each)
      | inr different ↦
          let rest : list_any (bytes_eq name) names ≡ true = ap (λ b. b || list_any (bytes_eq name) names) (sym different) ∙ among in
          among-IsName name names (λ k d within. each (suc k) d (omega arith)) rest
    ]

-- ---- operations

pub operation-reads : (channels joinable : List (List ℕ)) (op : Op) → All IsName channels → IsDistinct bytes_eq channels → All IsName joinable
    → IsOp (length channels) joinable op → operation_of channels joinable (operation_text channels op) ≡ Ok op
operation-reads channels joinable (Run ns) named distinct names is = rw (number-decimal last_moment ns (omega arith) is.some is.short) refl
operation-reads channels joinable Forever named distinct names is = refl
operation-reads channels joinable (Sleep ns) named distinct names is = rw (number-decimal last_moment ns (omega arith) is.some is.short) refl
operation-reads channels joinable Yield named distinct names is = refl
operation-reads channels joinable (Send c) named distinct names is =
    rw (is_name-true (channel_name channels c) (All-get_or IsName channels c [] is named), channel-found channels c is distinct) refl
operation-reads channels joinable (Receive c) named distinct names is =
    rw (is_name-true (channel_name channels c) (All-get_or IsName channels c [] is named), channel-found channels c is distinct) refl
operation-reads channels joinable Reply named distinct names is = refl
operation-reads channels joinable (Join name) named distinct names is =
    let among : is_name_among joinable name ≡ true = is in
    rw (is_name-true name (among-IsName name joinable names among), among) refl
operation-reads channels joinable (Priority n) named distinct names is = rw (number-decimal greatest_priority n (omega arith) is.some is.few) refl
operation-reads channels joinable CriticalOn named distinct names is = refl
operation-reads channels joinable CriticalOff named distinct names is = refl
operation-reads channels joinable Repeat named distinct names is = refl
operation-reads channels joinable Exit named distinct names is = refl
