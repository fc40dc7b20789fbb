-- What is known of a value that was read.
use Rattle.std.proofs.Common.{◌≡◌, ℕ, ℤ, pos, negsuc, ◌≤◌, ◌%◌, ◌==◌, ◌&&◌, Bool, true, false, cond, List, Option, Some, None, Result, Ok, Err, ◌⊎◌, inl, inr, refl, arith, nat_le}
use Rattle.std.proofs.lemmas.Bool.Decides.{nat_tests}
use Rattle.toml.specs.Data.{Data, Members, get_member, as_integer, as_str}
use Rattle.aps_model.specs.Name.{IsName}
use Rattle.aps_scenario.specs.declared.key.Key.{Key}
use Rattle.aps_scenario.specs.declared.kind.Kind.{Kind}
use Rattle.aps_scenario.specs.declared.refusal.Finding.{Finding}
use Rattle.aps_scenario.specs.declared.refusal.Place.{Place}
use Rattle.aps_scenario.specs.Key.{key_text}
use Rattle.aps_scenario.specs.Row.{◌>>=◌, Row, row_integer, row_name, optional, some_of, value_of, at_key, given_or_default, or_default, in_range, integer_in, integer, or_wrong_kind, is_name, name, refuse_if}

-- a chain of tests that passes
pub bind-ok : {A B E : Type 0} (r : Result A E) (f : A → Result B E) (y : B) → r >>= f ≡ Ok y → (x : A) × (r ≡ Ok x) × (f x ≡ Ok y)
bind-ok (Ok x) f y e = (x, refl, e)
bind-ok (Err e) f y same = absurd (cc)

-- what is read without a finding is one value
pub ok-same : {A : Type 0} (x y : A) (r : Result A Finding) → r ≡ Ok x → r ≡ Ok y → x ≡ y
ok-same x y r e f = cc

pub cond-ok : {A E : Type 0} (test : Bool) (x y : A) (e : E) → cond test (Ok x) (Err e) ≡ Ok y → (test ≡ true) × (x ≡ y)
cond-ok true x y e same = (refl, cc)
cond-ok false x y e same = absurd (cc)

pub refuse_if-ok : (wrong : Bool) (kind : Kind) (place : Place) (key : Key) (u : Unit {0}) → refuse_if wrong kind place key ≡ Ok u → wrong ≡ false
refuse_if-ok false kind place key u e = refl
refuse_if-ok true kind place key u e = absurd (cc)

-- a value at a key is the default or what was read there
pub value_of-ok : {A : Type 0} (row : Row A) (place : Place) (t : Members) (x : A) → value_of row place t ≡ Ok x
    → (row.default ≡ Some x) ⊎ ((d : Data) × (row.reads d ≡ Ok x))
value_of-ok {A = A} row place t x e = by_given (get_member (key_text row.key) t) e
  where
    ok_at : (r : Result A Kind) → at_key place row.key r ≡ Ok x → r ≡ Ok x
    ok_at (Ok y) e = cc
    ok_at (Err kind) e = absurd (cc)

    by_default : (o : Option A) → or_default o ≡ Ok x → o ≡ Some x
    by_default None e = absurd (cc)
    by_default (Some y) e = cc

    by_given : (o : Option Data) → at_key place row.key (given_or_default row o) ≡ Ok x → (row.default ≡ Some x) ⊎ ((d : Data) × (row.reads d ≡ Ok x))
    by_given None e = inl (by_default row.default (ok_at (or_default row.default) e))
    by_given (Some d) e = inr (d, ok_at (row.reads d) e)

-- a number in its range
pub record InRange (low high step n : ℕ) : Type 0 where
  pub above : low ≤ n
  pub below : n ≤ high
  pub whole : n % step ≡ 0

pub in_range-ok : (low high step m n : ℕ) → in_range low high step m ≡ Ok n → InRange low high step n
in_range-ok low high step m n e =
    let p = cond-ok ((nat_le low m && nat_le m high) && (m % step == 0)) m n _ e in
    record { above = grind (arith, nat_tests, p.0, p.1); below = grind (arith, nat_tests, p.0, p.1); whole = grind (arith, nat_tests, p.0, p.1) }

pub integer-ok : (low high step : ℕ) (d : Data) (n : ℕ) → integer low high step d ≡ Ok n → InRange low high step n
integer-ok low high step d n e = by_integer (as_integer d) e
  where
    by_integer : (o : Option ℤ) → integer_in low high step o ≡ Ok n → InRange low high step n
    by_integer None e = absurd (cc)
    by_integer (Some (pos m)) e = in_range-ok low high step m n e
    by_integer (Some (negsuc m)) e = absurd (cc)

pub required-ok : (key : Key) (low high step : ℕ) (place : Place) (t : Members) (n : ℕ) → value_of (row_integer key low high step None) place t ≡ Ok n → InRange low high step n
required-ok key low high step place t n e =
    elim (value_of-ok (row_integer key low high step None) place t n e) [ inl none ↦ absurd (cc) | inr p ↦ integer-ok low high step p.0 n p.1 ]

pub defaulted-ok : (key : Key) (low high step default : ℕ) (place : Place) (t : Members) (n : ℕ) → InRange low high step default
    → value_of (row_integer key low high step (Some default)) place t ≡ Ok n → InRange low high step n
defaulted-ok key low high step default place t n range e =
    elim (value_of-ok (row_integer key low high step (Some default)) place t n e) [ inl same ↦ let s : default ≡ n = cc in rw (← s) range | inr p ↦ integer-ok low high step p.0 n p.1 ]

pub is_name-IsName : (text : List ℕ) → is_name text ≡ true → IsName text
is_name-IsName text e =
    record { some = grind (arith, nat_tests, e); few = grind (arith, nat_tests, e); bytes = grind (arith, nat_tests, e) }

pub name-ok : (d : Data) (text : List ℕ) → name d ≡ Ok text → IsName text
name-ok d text e =
    let p = bind-ok (or_wrong_kind (as_str d)) _ text e in
    let q = cond-ok (is_name p.0) p.0 text _ p.2 in
    rw (← q.1) (is_name-IsName p.0 q.0)

pub named-ok : (key : Key) (place : Place) (t : Members) (text : List ℕ) → value_of (row_name key None) place t ≡ Ok text → IsName text
named-ok key place t text e =
    elim (value_of-ok (row_name key None) place t text e) [ inl none ↦ absurd (cc) | inr p ↦ name-ok p.0 text p.1 ]

pub named_or-ok : (key : Key) (default : List ℕ) (place : Place) (t : Members) (text : List ℕ) → IsName default
    → value_of (row_name key (Some default)) place t ≡ Ok text → IsName text
named_or-ok key default place t text named e =
    elim (value_of-ok (row_name key (Some default)) place t text e) [ inl same ↦ let s : default ≡ text = cc in rw (← s) named | inr p ↦ name-ok p.0 text p.1 ]

-- a value that may be absent was read, where it is there
pub optional-ok : {A : Type 0} (row : Row A) (place : Place) (t : Members) (x : A) → value_of (optional row) place t ≡ Ok (Some x)
    → (d : Data) × (row.reads d ≡ Ok x)
optional-ok {A = A} row place t x e =
    elim (value_of-ok (optional row) place t (Some x) e) [ inl none ↦ absurd (cc) | inr p ↦ (p.0, read (row.reads p.0) p.1) ]
  where
    read : (r : Result A Kind) → some_of r ≡ Ok (Some x) → r ≡ Ok x
    read (Ok y) e = cc
    read (Err kind) e = absurd (cc)
