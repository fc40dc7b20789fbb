-- Operations by the words before them.
use lib.Chars.{codes}
use Rattle.std.proofs.Common.{◌≡◌, ℕ, ◌+◌, ◌-◌, ◌*◌, ◌==◌, ◌&&◌, ◌<◌, ◌≤◌, not, Bool, true, false, cond, List, [], ◌∷◌, length, drop, Option, Some, None, Result, Ok, Err, inl, inr, refl, ap, subst, arith, nat_le, drop-cons}
use Rattle.std.proofs.lemmas.Bool.{cases_Bool}
use Rattle.std.proofs.lemmas.Bool.Decides.{nat_tests}
use Rattle.std.proofs.lemmas.List.{nil_from_length}
use Rattle.std.proofs.lemmas.List.Quantifiers.{position-Some}
use Rattle.std.specs.Char.{is_ascii_digit}
use Rattle.std.specs.Str.{bytes_eq}
use Rattle.aps_model.specs.declared.program.Op.{Op}
use Rattle.aps_model.specs.declared.program.Op.TheVariants.{Run, Forever, Sleep, Yield, Send, Receive, Reply, Join, Priority, CriticalOn, CriticalOff, Repeat, Exit}
use Rattle.aps_model.specs.Limits.{greatest_priority, last_moment}
use Rattle.aps_model.specs.Program.{IsOp}
use Rattle.aps_scenario.specs.declared.operation.OperationFault.{OperationFault}
use Rattle.aps_scenario.specs.declared.operation.OperationFault.TheVariants.{Unknown, Bad}
use Rattle.aps_scenario.specs.Channels.{is_name_among}
use Rattle.aps_scenario.specs.Operation.{after_word, behind, either_way, number_after, number, or_bad, run_of_text, run_or_forever, sleep, priority, channel_named, channel_or_unknown, channel, op_on_channel, send, receive, join, constant, named_or_constant, operation_of}
use Rattle.aps_scenario.specs.Row.{is_name}
use Rattle.aps_scenario.proofs.Values.{cond-ok}

-- the text ends before the word
pub word_cut : (word rest : List ℕ) (i : ℕ) → i < length word → length rest < 1 → after_word (drop i word) rest ≡ None
word_cut word rest i more short =
    let nothing : rest ≡ [] = nil_from_length rest (omega arith) in
    rw (drop-cons word i 0 more, nothing) refl

module _ (word : List ℕ) (reads other : List ℕ → Result Op OperationFault) (text : List ℕ) where
  pub behind_some : (rest : List ℕ) → after_word word text ≡ Some rest → behind word reads other text ≡ reads rest
  behind_some rest e = ap (λ found. either_way found reads other text) e

  pub behind_none : after_word word text ≡ None → behind word reads other text ≡ other text
  behind_none e = ap (λ found. either_way found reads other text) e

-- ---- what is known of an operation that was read

either_way-keeps : (P : Type 0) (op : Op) (found : Option (List ℕ)) (reads other : List ℕ → Result Op OperationFault) (text : List ℕ)
    → ((rest : List ℕ) → reads rest ≡ Ok op → P) → (other text ≡ Ok op → P) → either_way found reads other text ≡ Ok op → P
either_way-keeps P op None reads other text first second e = second e
either_way-keeps P op (Some rest) reads other text first second e = first rest e

behind-keeps : (P : Type 0) (op : Op) (word : List ℕ) (reads other : List ℕ → Result Op OperationFault) (text : List ℕ)
    → ((rest : List ℕ) → reads rest ≡ Ok op → P) → (other text ≡ Ok op → P) → behind word reads other text ≡ Ok op → P
behind-keeps P op word reads other text first second e = either_way-keeps P op (after_word word text) reads other text first second e

-- a number in its range
record IsUpTo (most n : ℕ) : Type 0 where
  pub some : 1 ≤ n
  pub few : n ≤ most

number_after-ok : (most value : ℕ) (text : List ℕ) (n : ℕ) → IsUpTo most value → number_after most value text ≡ Some n → IsUpTo most n
number_after-ok most value [] n so_far e = let same : value ≡ n = cc in rw (← same) so_far
number_after-ok most value (c ∷ cs) n so_far e =
    elim (cases_Bool (is_ascii_digit c && nat_le (value * 10 + (c - 48)) most)) [
      | inl fits ↦
          let more : IsUpTo most (value * 10 + (c - 48)) = record { some = omega (arith, so_far.some); few = grind (arith, nat_tests, fits) } in
          number_after-ok most (value * 10 + (c - 48)) cs n more (rw fits at e)
      | inr other ↦ let none : None ≡ Some n = rw other at e in absurd (cc)
    ]

number-ok : (most : ℕ) (text : List ℕ) (n : ℕ) → number most text ≡ Some n → IsUpTo most n
number-ok most [] n e = absurd (cc)
number-ok most (c ∷ cs) n e =
    elim (cases_Bool ((is_ascii_digit c && not (c == 48)) && nat_le (c - 48) most)) [
      | inl fits ↦
          let first : IsUpTo most (c - 48) = record { some = grind (arith, nat_tests, fits); few = grind (arith, nat_tests, fits) } in
          number_after-ok most (c - 48) cs n first (rw fits at e)
      | inr other ↦ let none : None ≡ Some n = rw other at e in absurd (cc)
    ]

module _ (channels joinable : List (List ℕ)) (op : Op) where
  abbrev IsRead : Type 0
  IsRead = IsOp (length channels) joinable op

  numbered : (make : ℕ → Op) (most : ℕ) (o : Option ℕ) → ((n : ℕ) → o ≡ Some n → IsUpTo most n)
      → ((n : ℕ) → IsUpTo most n → IsOp (length channels) joinable (make n)) → or_bad make o ≡ Ok op → IsRead
  numbered make most None within valid e = absurd (cc)
  numbered make most (Some n) within valid e = subst (IsOp (length channels) joinable) (cc) (valid n (within n refl))

  run-ok : (text : List ℕ) → run_of_text text ≡ Ok op → IsRead
  run-ok text e = by_number (number last_moment text) (number-ok last_moment text) e
    where
      by_number : (o : Option ℕ) → ((n : ℕ) → o ≡ Some n → IsUpTo last_moment n) → run_or_forever o text ≡ Ok op → IsRead
      by_number (Some n) within e =
          let range = within n refl in
          subst (IsOp (length channels) joinable) {x = Run n} (cc) (record { some = range.some; short = range.few })
      by_number None within e =
          let q = cond-ok (bytes_eq text (codes "forever")) Forever op Bad e in
          subst (IsOp (length channels) joinable) q.1 tt

  sleep-ok : (text : List ℕ) → sleep text ≡ Ok op → IsRead
  sleep-ok text e =
      numbered Sleep last_moment (number last_moment text) (number-ok last_moment text) (λ n range. record { some = range.some; short = range.few }) e

  priority-ok : (text : List ℕ) → priority text ≡ Ok op → IsRead
  priority-ok text e = numbered Priority greatest_priority (number greatest_priority text) (number-ok greatest_priority text) (λ n range. record { some = range.some; few = range.few }) e

  channel-ok : (name : List ℕ) (c : ℕ) → channel channels name ≡ Ok c → c < length channels
  channel-ok name c e =
      elim (cases_Bool (is_name name)) [
        | inl named ↦ let p = position-Some _ channels c [] (known (channel_named channels name) (rw named at e)) in p.0
        | inr other ↦ let none : Err Bad ≡ Ok c = rw other at e in absurd (cc)
      ]
    where
      known : (o : Option ℕ) → channel_or_unknown o ≡ Ok c → o ≡ Some c
      known None e = absurd (cc)
      known (Some q) e = cc

  with_channel-ok : (make : ℕ → Op) (r : Result ℕ OperationFault) → ((c : ℕ) → r ≡ Ok c → c < length channels)
      → ((c : ℕ) → c < length channels → IsOp (length channels) joinable (make c)) → op_on_channel make r ≡ Ok op → IsRead
  with_channel-ok make (Ok c) within valid e = subst (IsOp (length channels) joinable) (cc) (valid c (within c refl))
  with_channel-ok make (Err fault) within valid e = absurd (cc)

  join-ok : (name : List ℕ) → join joinable name ≡ Ok op → IsRead
  join-ok name e =
      elim (cases_Bool (is_name name)) [
        | inl named ↦
            let q = cond-ok (is_name_among joinable name) (Join name) op Unknown (rw named at e) in
            subst (IsOp (length channels) joinable) q.1 q.0
        | inr other ↦ let none : Err Bad ≡ Ok op = rw other at e in absurd (cc)
      ]

  one_of-ok : (test : Bool) (first : Op) (rest : Result Op OperationFault) → IsOp (length channels) joinable first → (rest ≡ Ok op → IsRead)
      → cond test (Ok first) rest ≡ Ok op → IsRead
  one_of-ok true first rest valid other e = subst (IsOp (length channels) joinable) (cc) valid
  one_of-ok false first rest valid other e = other e

  constant-ok : (text : List ℕ) → constant text ≡ Ok op → IsRead
  constant-ok text =
      one_of-ok _ Yield _ tt (one_of-ok _ Reply _ tt (one_of-ok _ CriticalOn _ tt (one_of-ok _ CriticalOff _ tt
      (one_of-ok _ Repeat _ tt (one_of-ok _ Exit _ tt (λ (none : Err Bad ≡ Ok op). absurd (cc)))))))

  abbrev joins : List ℕ → Result Op OperationFault
  joins = behind (codes "join ") (join joinable) constant

  abbrev receives : List ℕ → Result Op OperationFault
  receives = behind (codes "receive ") (receive channels) joins

  named_or_constant-ok : (text : List ℕ) → named_or_constant channels joinable text ≡ Ok op → IsRead
  named_or_constant-ok text =
      behind-keeps IsRead op (codes "send ") (send channels) receives text
      (λ name. with_channel-ok Send (channel channels name) (channel-ok name) (λ c within. within))
      (behind-keeps IsRead op (codes "receive ") (receive channels) joins text
      (λ name. with_channel-ok Receive (channel channels name) (channel-ok name) (λ c within. within))
      (behind-keeps IsRead op (codes "join ") (join joinable) constant text join-ok (constant-ok text)))

  abbrev priorities : List ℕ → Result Op OperationFault
  priorities = behind (codes "priority ") priority (named_or_constant channels joinable)

  abbrev sleeps : List ℕ → Result Op OperationFault
  sleeps = behind (codes "sleep ") sleep priorities

  pub operation_of-ok : (text : List ℕ) → operation_of channels joinable text ≡ Ok op → IsRead
  operation_of-ok text =
      behind-keeps IsRead op (codes "run ") run_of_text sleeps text run-ok
      (behind-keeps IsRead op (codes "sleep ") sleep priorities text sleep-ok
      (behind-keeps IsRead op (codes "priority ") priority (named_or_constant channels joinable) text priority-ok (named_or_constant-ok text)))
