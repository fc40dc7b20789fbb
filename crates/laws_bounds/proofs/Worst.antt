-- The worst amount of an audit is the greatest, and the first that is.
use Rattle.std.proofs.Common.{◌≡◌, ℕ, zero, suc, ◌+◌, ◌<◌, ◌≤◌, ◌⊎◌, inl, inr, refl, sym, ◌∙◌, ap, subst, Bool, true, false, cond, nat_lt, Option, Some, None, arith}
use Rattle.std.specs.List.{Contains, fold, range_with_len}
use Rattle.std.proofs.lemmas.List.FromFn.{get_or-range_with_len, length-range_with_len}
use Rattle.std.proofs.lemmas.Bool.{cases_lt}
use Rattle.std.proofs.lemmas.Bool.Decides.{nat_tests}
use Rattle.aps_model.specs.declared.audit.Worst.{Worst}
use Rattle.aps_model.specs.Audit.{worse, worst_of}
use Rattle.laws_bounds.specs.Worst.{IsEarlier, IsWorst, TellsWorst}
use Rattle.laws_bounds.proofs.Audited.{in_range}

not_both : (a p b q : ℕ) → IsEarlier a p b q → IsEarlier b q a p → ⊥
not_both a p b q one other = elim one [
  | inl less ↦ elim other [
    | inl more ↦ absurd (omega (arith, less, more))
    | inr same ↦ absurd (omega (arith, less, same.0))
  ]
  | inr below ↦ elim other [
    | inl more ↦ absurd (omega (arith, below.0, more))
    | inr above ↦ absurd (omega (arith, below.1, above.1))
  ]
]

not_itself : (a p b q : ℕ) → a ≡ b → p ≡ q → IsEarlier a p b q → ⊥
not_itself a p b q at of earlier = elim earlier [
  | inl less ↦ absurd (omega (arith, less, at))
  | inr below ↦ absurd (omega (arith, below.1, of))
]

abbrev one_at : (ℕ → ℕ → ℕ) → ℕ → ℕ → Worst
one_at amount b q = record { amount = amount b q; partition = q; window = b }

-- the same places, told otherwise
same_places : (amount : ℕ → ℕ → ℕ) (here there : ℕ → ℕ → Type 0) (found : Option Worst)
    → ((a p : ℕ) → here a p → there a p) → ((a p : ℕ) → there a p → here a p)
    → TellsWorst amount here found → TellsWorst amount there found
same_places amount here there None to from tells = λ a p is. tells a p (from a p is)
same_places amount here there (Some w) to from tells = record {
  place = to w.window w.partition tells.place;
  attained = tells.attained;
  greatest = λ a p is. tells.greatest a p (from a p is);
  first = λ a p is earlier. tells.first a p (from a p is) earlier;
}

-- one place more, which stands after all so far
module _ (amount : ℕ → ℕ → ℕ) (past next : ℕ → ℕ → Type 0) (b q : ℕ) (kept : (a p : ℕ) → past a p → next a p) (added : next b q)
    (known : (a p : ℕ) → next a p → past a p ⊎ ((a ≡ b) × (p ≡ q))) (last : (a p : ℕ) → past a p → IsEarlier a p b q) where
  same_amount : (a p : ℕ) → a ≡ b → p ≡ q → amount a p ≡ amount b q
  same_amount a p at of = ap (λ x. amount x p) at ∙ ap (amount b) of

  begins : ((a p : ℕ) → past a p → ⊥) → IsWorst amount next (one_at amount b q)
  begins none = record {
    place = added;
    attained = refl;
    greatest = λ a p is. elim (known a p is) [
      | inl old ↦ absurd (none a p old)
      | inr same ↦ omega (arith, same_amount a p same.0 same.1)
    ];
    first = λ a p is earlier. elim (known a p is) [
      | inl old ↦ absurd (none a p old)
      | inr same ↦ absurd (not_itself a p b q same.0 same.1 earlier)
    ];
  }

  replaces : (best : Worst) → IsWorst amount past best → best.amount < amount b q → IsWorst amount next (one_at amount b q)
  replaces best worst less = record {
    place = added;
    attained = refl;
    greatest = λ a p is. elim (known a p is) [
      | inl old ↦ omega (arith, worst.greatest a p old, less)
      | inr same ↦ omega (arith, same_amount a p same.0 same.1)
    ];
    first = λ a p is earlier. elim (known a p is) [
      | inl old ↦ omega (arith, worst.greatest a p old, less)
      | inr same ↦ absurd (not_itself a p b q same.0 same.1 earlier)
    ];
  }

  stays : (best : Worst) → IsWorst amount past best → amount b q ≤ best.amount → IsWorst amount next best
  stays best worst more = record {
    place = kept best.window best.partition worst.place;
    attained = worst.attained;
    greatest = λ a p is. elim (known a p is) [
      | inl old ↦ worst.greatest a p old
      | inr same ↦ omega (arith, same_amount a p same.0 same.1, more)
    ];
    first = λ a p is earlier. elim (known a p is) [
      | inl old ↦ worst.first a p old earlier
      | inr same ↦ absurd (not_both b q best.window best.partition
          (subst (λ x. IsEarlier x q best.window best.partition) same.0 (subst (λ y. IsEarlier a y best.window best.partition) same.1 earlier))
          (last best.window best.partition worst.place))
    ];
  }

  one_more : (found : Option Worst) → TellsWorst amount past found → TellsWorst amount next (worse found (one_at amount b q))
  one_more None tells = begins tells
  one_more (Some best) tells = by_test (nat_lt best.amount (amount b q)) refl
    where
      by_test : (t : Bool) → nat_lt best.amount (amount b q) ≡ t → IsWorst amount next (cond t (one_at amount b q) best)
      by_test true is = replaces best tells (grind (arith, nat_tests))
      by_test false is = stays best tells (grind (arith, nat_tests))

-- the partitions of the windows from s on and before a, and the first i of the window a
abbrev Before : ℕ → ℕ → ℕ → ℕ → ℕ → ℕ → Type 0
Before s rows a i b p = (s ≤ b) × (p < rows) × ((b < a) ⊎ ((b ≡ a) × (p < i)))

-- the window a, from its partition i on
rows_tell : (amount : ℕ → ℕ → ℕ) (s rows a i n end : ℕ) (found : Option Worst) → s ≤ a → i + n ≡ end → end ≤ rows
    → TellsWorst amount (Before s rows a i) found
    → TellsWorst amount (Before s rows a end) (fold (λ best p. worse best (record { amount = amount a p; partition = p; window = a })) found (range_with_len i n))
rows_tell amount s rows a i zero end found from is inside tells =
    let there : i ≡ end = omega (arith, is) in subst (λ k. TellsWorst amount (Before s rows a k) found) there tells
rows_tell amount s rows a i (suc n) end found from is inside tells =
    rows_tell amount s rows a (i + 1) n end (worse found (one_at amount a i)) from (omega (arith, is)) inside
    (one_more amount (Before s rows a i) (Before s rows a (i + 1)) a i kept (from, omega (arith, is, inside), inr (refl, omega arith)) known (λ b p m. earlier b p m.2) found tells)
  where
    kept : (b p : ℕ) → Before s rows a i b p → Before s rows a (i + 1) b p
    kept b p m = (
      m.0,
      m.1,
      elim m.2 [
        | inl less ↦ inl less
        | inr below ↦ inr (below.0, omega (arith, below.1))
      ],
    )

    -- the new place is apart from those so far
    known : (b p : ℕ) → Before s rows a (i + 1) b p → Before s rows a i b p ⊎ ((b ≡ a) × (p ≡ i))
    known b p m = elim m.2 [
      | inl less ↦ inl (m.0, m.1, inl less)
      | inr below ↦ elim (cases_lt p i) [
        | inl under ↦ inl (m.0, m.1, inr (below.0, under))
        | inr over ↦ inr (below.0, omega (arith, below.1, over))
      ]
    ]

    earlier : (b p : ℕ) → ((b < a) ⊎ ((b ≡ a) × (p < i))) → IsEarlier b p a i
    earlier b p m = m

-- the windows from a on
windows_tell : (amount : ℕ → ℕ → ℕ) (s rows a n end : ℕ) (found : Option Worst) → s ≤ a → a + n ≡ end
    → TellsWorst amount (Before s rows a 0) found
    → TellsWorst amount (Before s rows end 0)
    (fold (λ found a. fold (λ best p. worse best (record { amount = amount a p; partition = p; window = a })) found (range_with_len 0 rows)) found (range_with_len a n))
windows_tell amount s rows a zero end found from is tells =
    let there : a ≡ end = omega (arith, is) in subst (λ k. TellsWorst amount (Before s rows k 0) found) there tells
windows_tell amount s rows a (suc n) end found from is tells =
    let row : Option Worst = fold (λ best p. worse best (record { amount = amount a p; partition = p; window = a })) found (range_with_len 0 rows) in
    windows_tell amount s rows (a + 1) n end row (omega (arith, from)) (omega (arith, is))
    (same_places amount (Before s rows a rows) (Before s rows (a + 1) 0) row over back (rows_tell amount s rows a 0 rows rows found from (omega arith) (omega arith) tells))
  where
    over : (b p : ℕ) → Before s rows a rows b p → Before s rows (a + 1) 0 b p
    over b p m = (
      m.0,
      m.1,
      elim m.2 [
        | inl less ↦ inl (omega (arith, less))
        | inr here ↦ inl (omega (arith, here.0))
      ],
    )

    back : (b p : ℕ) → Before s rows (a + 1) 0 b p → Before s rows a rows b p
    back b p m = (
      m.0,
      m.1,
      elim m.2 [
        | inl less ↦ elim (cases_lt b a) [
          | inl under ↦ inl under
          | inr above ↦ inr (omega (arith, less, above), m.1)
        ]
        | inr none ↦ absurd (omega (arith, none.1))
      ],
    )

-- over windows that follow one another
pub worst_told : (amount : ℕ → ℕ → ℕ) (s n rows : ℕ)
    → TellsWorst amount (λ a p. Contains (range_with_len s n) a × (p < rows)) (worst_of amount (range_with_len s n) rows)
worst_told amount s n rows =
    same_places amount (Before s rows (s + n) 0) (λ a p. Contains (range_with_len s n) a × (p < rows)) (worst_of amount (range_with_len s n) rows) to from
    (windows_tell amount s rows s n (s + n) None (omega arith) refl nothing)
  where
    nothing : (b p : ℕ) → Before s rows s 0 b p → ⊥
    nothing b p m = elim m.2 [
      | inl less ↦ absurd (omega (arith, m.0, less))
      | inr none ↦ absurd (omega (arith, none.1))
    ]

    to : (b p : ℕ) → Before s rows (s + n) 0 b p → Contains (range_with_len s n) b × (p < rows)
    to b p m = elim m.2 [
      | inl less ↦ (in_range s n b m.0 less, m.1)
      | inr none ↦ absurd (omega (arith, none.1))
    ]

    from : (b p : ℕ) → Contains (range_with_len s n) b × (p < rows) → Before s rows (s + n) 0 b p
    from b p m =
        let k : ℕ = m.0.0 in
        let below : k < n = rw (← length-range_with_len s n) m.0.1 in
        let at : s + k ≡ b = sym (get_or-range_with_len s n k b below) ∙ m.0.2 in
        (omega (arith, at), m.1, inl (omega (arith, at, below)))
