-- What comes after what a seat has seen.
use Rattle.std.proofs.Common.{◌≡◌, ℕ, ◌+◌, ◌-◌, ◌<◌, ◌≤◌, ◌⊎◌, nat_le, if◌then◌else◌, Bool, true, false, leb-true, leb-false, List, [], ◌∷◌, ◌++◌, length, sym, refl, ap, ◌∙◌, subst, ⊎_elim, inl, inr, arith, append_assoc, append-nil, lt_of_lt_of_le, le_trans}
use mathlib.Core.Logic.{dite}
use native.Mathlib.Decide.{dec_le}
use Rattle.aps_seats.specs.Log.{Log}
use Rattle.aps_seats.specs.Seen.{AreOfOthers, IsSeenIn, longer, with_one}

-- outside, or within
pub in_or_out : (first after cpu : ℕ) → ((cpu < first) ⊎ (after ≤ cpu)) ⊎ ((first ≤ cpu) × (cpu < after))
in_or_out first after cpu = dite (dec_le first cpu) (λ a. dite (dec_le after cpu) (λ b. inl (inr b)) (λ b. inr (a, omega arith))) (λ a. inl (inl (omega arith)))

-- the entries beyond the longer of two beginnings of one list
pub beyond : {E : Type 0} (xs ys p q : List E) → xs ++ p ≡ ys ++ q → length ys ≤ length xs → (between : List E) × (q ≡ between ++ p) × (ys ++ between ≡ xs)
beyond xs [] p q e le = (xs, sym e, refl)
beyond [] (y ∷ ys) p q e le = absurd (omega arith)
beyond (x ∷ xs) (y ∷ ys) p q e le =
    let heads : x ≡ y = cc in
    let tails : xs ++ p ≡ ys ++ q = cc in
    let r = beyond xs ys p q tails (omega arith) in
    (r.0, r.1, cc (heads, r.2))

-- outside both of two ranges, of which the second is empty or follows the first
outside_both : (first after low high cpu : ℕ) → ((high - low) ≡ 0) ⊎ (after ≡ low) → (cpu < first) ⊎ (after ≤ cpu) → (cpu < low) ⊎ (high ≤ cpu) → (cpu < first) ⊎ (after + (high - low) ≤ cpu)
outside_both first after low high cpu (inl none) (inl h) k = inl h
outside_both first after low high cpu (inl none) (inr h) k = inr (omega arith)
outside_both first after low high cpu (inr same) (inl h) k = inl h
outside_both first after low high cpu (inr same) (inr h) (inl k) = absurd (omega arith)
outside_both first after low high cpu (inr same) (inr h) (inr k) = inr (omega arith)

not_of_all : (cpus cpu : ℕ) → (cpu < 0) ⊎ (cpus ≤ cpu) → cpu < cpus → ⊥
not_of_all cpus cpu (inl a) b = omega arith
not_of_all cpus cpu (inr a) b = omega arith

module _ {Run : Type 0} (log : Log Run) where
  pub others_snoc : (first after cpus : ℕ) (es : List log.Entry) (e : log.Entry) → AreOfOthers log first after cpus es → (log.cpu_of e < first) ⊎ (after ≤ log.cpu_of e) → log.cpu_of e < cpus → AreOfOthers log first after cpus (es ++ e ∷ [])
  others_snoc first after cpus [] e h out is = (out, is, tt)
  others_snoc first after cpus (x ∷ es) e h out is = (h.0, h.1, others_snoc first after cpus es e h.2 out is)

  -- what has come is behind what was seen
  pub seen_list : (first after : ℕ) (c d : Run) (h : IsSeenIn log first after c d) → log.entries_of d ≡ log.entries_of c ++ h.0
  seen_list first after c d h = ap log.entries_of h.1 ∙ log.given_entries c (log.entries_of c ++ h.0)

  pub seen_cpus : (first after : ℕ) (c d : Run) → IsSeenIn log first after c d → log.cpus_of d ≡ log.cpus_of c
  seen_cpus first after c d h = ap log.cpus_of h.1 ∙ log.same_cpus c (log.entries_of c ++ h.0)

  pub seen_grows : (first after : ℕ) (c d : Run) (e : log.Entry) → IsSeenIn log first after c d → (log.cpu_of e < first) ⊎ (after ≤ log.cpu_of e) → log.cpu_of e < log.cpus_of c → IsSeenIn log first after c (with_one log d e)
  seen_grows first after c d e h out is = (
    h.0 ++ e ∷ [],
    ap (λ (x : Run). log.with_entries x (log.entries_of d ++ e ∷ [])) h.1
        ∙ log.last_entries c (log.entries_of c ++ h.0) (log.entries_of d ++ e ∷ [])
        ∙ ap (λ (es : List log.Entry). log.with_entries c (es ++ e ∷ [])) (seen_list first after c d h)
        ∙ ap (log.with_entries c) (append_assoc (log.entries_of c) h.0 (e ∷ [])),
    others_snoc first after (log.cpus_of c) h.0 e h.2 out is,
  )

  pub seen_self : (first after : ℕ) (c : Run) → IsSeenIn log first after c c
  seen_self first after c = ([], sym (ap (log.with_entries c) (append-nil (log.entries_of c)) ∙ log.same_entries c), tt)

  pub others_beyond : (first after cpus : ℕ) (xs ys : List log.Entry) → AreOfOthers log first after cpus (xs ++ ys) → AreOfOthers log first after cpus ys
  others_beyond first after cpus [] ys h = h
  others_beyond first after cpus (x ∷ xs) ys h = others_beyond first after cpus xs ys h.2

  pub others_both : (first after low high cpus : ℕ) (es : List log.Entry) → ((high - low) ≡ 0) ⊎ (after ≡ low) → AreOfOthers log first after cpus es → AreOfOthers log low high cpus es → AreOfOthers log first (after + (high - low)) cpus es
  others_both first after low high cpus [] near a b = tt
  others_both first after low high cpus (e ∷ es) near a b = (outside_both first after low high (log.cpu_of e) near a.0 b.0, a.1, others_both first after low high cpus es near a.2 b.2)

  -- nothing comes of no processor
  pub others_none : (cpus : ℕ) (es : List log.Entry) → AreOfOthers log 0 cpus cpus es → es ≡ []
  others_none cpus [] h = refl
  others_none cpus (e ∷ es) h = absurd (not_of_all cpus (log.cpu_of e) h.0 h.1)

  -- outside a range, so outside a part of it
  pub others_less : (first after low high cpus : ℕ) (es : List log.Entry) → first ≤ low → high ≤ after → AreOfOthers log first after cpus es → AreOfOthers log low high cpus es
  others_less first after low high cpus [] a b h = tt
  others_less first after low high cpus (e ∷ es) a b h = (⊎_elim (λ (x : log.cpu_of e < first). inl (lt_of_lt_of_le x a)) (λ (x : after ≤ log.cpu_of e). inr (le_trans b x)) h.0, h.1, others_less first after low high cpus es a b h.2)

  pub others_empty : (first after cpus : ℕ) (es : List log.Entry) → AreOfOthers log first after cpus es → AreOfOthers log 0 0 cpus es
  others_empty first after cpus [] h = tt
  others_empty first after cpus (e ∷ es) h = (inr (omega arith), h.1, others_empty first after cpus es h.2)

  pub others_front : (first after cpus : ℕ) (xs ys : List log.Entry) → AreOfOthers log first after cpus (xs ++ ys) → AreOfOthers log first after cpus xs
  others_front first after cpus [] ys h = tt
  others_front first after cpus (x ∷ xs) ys h = (h.0, h.1, others_front first after cpus xs ys h.2)

  -- the whole run has come where what comes is of no processor
  pub seen_whole : (a c : Run) → IsSeenIn log 0 (log.cpus_of a) a c → c ≡ a
  seen_whole a c p = p.1 ∙ ap (λ (es : List log.Entry). log.with_entries a (log.entries_of a ++ es)) (others_none (log.cpus_of a) p.0 p.2) ∙ ap (log.with_entries a) (append-nil (log.entries_of a)) ∙ log.same_entries a

  -- what has come after the longer of two cores, of whose run both are beginnings, is of neither's processors
  pub seen_both : (first after low high : ℕ) (a b c : Run) → ((high - low) ≡ 0) ⊎ (after ≡ low) → IsSeenIn log first after a c → IsSeenIn log low high b c → IsSeenIn log first (after + (high - low)) (longer log a b) c
  seen_both first after low high a b c near p q = by_length (nat_le (length (log.entries_of b)) (length (log.entries_of a))) refl
    where
      lists : log.entries_of a ++ p.0 ≡ log.entries_of b ++ q.0
      lists = sym (seen_list first after a c p) ∙ seen_list low high b c q

      one_count : log.cpus_of a ≡ log.cpus_of b
      one_count = sym (seen_cpus first after a c p) ∙ seen_cpus low high b c q

      by_length : (t : Bool) → nat_le (length (log.entries_of b)) (length (log.entries_of a)) ≡ t → IsSeenIn log first (after + (high - low)) (if t then a else b) c
      by_length true is =
          let le : length (log.entries_of b) ≤ length (log.entries_of a) = leb-true _ _ is in
          let more = beyond (log.entries_of a) (log.entries_of b) p.0 q.0 lists le in
          let theirs : AreOfOthers log low high (log.cpus_of b) (more.0 ++ p.0) = subst (AreOfOthers log low high (log.cpus_of b)) more.1 q.2 in
          (p.0, p.1, others_both first after low high (log.cpus_of a) p.0 near p.2 (subst (λ (n : ℕ). AreOfOthers log low high n p.0) (sym one_count) (others_beyond low high (log.cpus_of b) more.0 p.0 theirs)))
      by_length false is =
          let lt : length (log.entries_of a) < length (log.entries_of b) = leb-false _ _ is in
          let more = beyond (log.entries_of b) (log.entries_of a) q.0 p.0 (sym lists) (omega arith) in
          let mine : AreOfOthers log first after (log.cpus_of a) (more.0 ++ q.0) = subst (AreOfOthers log first after (log.cpus_of a)) more.1 p.2 in
          (q.0, q.1, others_both first after low high (log.cpus_of b) q.0 near (subst (λ (n : ℕ). AreOfOthers log first after n q.0) one_count (others_beyond first after (log.cpus_of a) more.0 q.0 mine)) q.2)

  -- the longer of two beginnings of one run is later than the other
  pub seen_longer : (first after low high : ℕ) (a b c : Run) → IsSeenIn log first after a c → IsSeenIn log low high b c → IsSeenIn log first after a (longer log a b) × IsSeenIn log low high b (longer log a b)
  seen_longer first after low high a b c p q = by_length (nat_le (length (log.entries_of b)) (length (log.entries_of a))) refl
    where
      lists : log.entries_of a ++ p.0 ≡ log.entries_of b ++ q.0
      lists = sym (seen_list first after a c p) ∙ seen_list low high b c q

      -- the two are of one run
      one_run : (es : List log.Entry) → log.with_entries a es ≡ log.with_entries b es
      one_run es = sym (log.last_entries a (log.entries_of a ++ p.0) es) ∙ ap (λ (x : Run). log.with_entries x es) (sym p.1 ∙ q.1) ∙ log.last_entries b (log.entries_of b ++ q.0) es

      by_length : (t : Bool) → nat_le (length (log.entries_of b)) (length (log.entries_of a)) ≡ t → IsSeenIn log first after a (if t then a else b) × IsSeenIn log low high b (if t then a else b)
      by_length true is =
          let more = beyond (log.entries_of a) (log.entries_of b) p.0 q.0 lists (leb-true _ _ is) in (
            seen_self first after a,
            (more.0, sym (log.same_entries a) ∙ one_run (log.entries_of a) ∙ ap (log.with_entries b) (sym more.2), others_front low high (log.cpus_of b) more.0 p.0 (subst (AreOfOthers log low high (log.cpus_of b)) more.1 q.2)),
          )
      by_length false is =
          let lt : length (log.entries_of a) < length (log.entries_of b) = leb-false _ _ is in
          let more = beyond (log.entries_of b) (log.entries_of a) q.0 p.0 (sym lists) (omega arith) in (
            (more.0, sym (log.same_entries b) ∙ sym (one_run (log.entries_of b)) ∙ ap (log.with_entries a) (sym more.2), others_front first after (log.cpus_of a) more.0 q.0 (subst (AreOfOthers log first after (log.cpus_of a)) more.1 p.2)),
            seen_self low high b,
          )
