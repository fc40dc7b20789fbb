use Rattle.std.proofs.Common.{◌≡◌, ◌≢◌, ℕ, max, List, [], ◌∷◌, sym, ◌∙◌, ap, cond, true, false, Some, None, nat_eq, arith, inl, inr, slice_index_or}
use Rattle.std.proofs.lemmas.Bool.Decides.{nat_tests}
use Rattle.std.proofs.lemmas.Bool.{cases_eq}
use Rattle.aps_model.specs.declared.state.Facts.{Facts}
use Rattle.aps_model.specs.SchedulerState.{Triple, no_facts}
use Rattle.aps_model.specs.Inherit.{Inheritance, follow, inherited, raised, top_at, triple_of, IsFree, IsMade}

-- ---- the steps of a chain

test_ne : (a b : ℕ) → a ≢ b → nat_eq a b ≡ false
test_ne a b ne = grind (arith, nat_tests)

test_eq : (a b : ℕ) → a ≡ b → nat_eq a b ≡ true
test_eq a b e = grind (arith, nat_tests)

raised_twice : (p q : ℕ) (facts : Facts) → raised p (raised q facts) ≡ raised (max p q) facts
raised_twice p q facts = ap (λ n. record facts { priority = n }) (omega arith)

-- what is raised before can be raised after
follow-raised : (i : Inheritance) (ts : List Triple) (x p : ℕ) → follow i ts x p ≡ raised p (follow i ts x 0)
follow-raised i [] x p =
    sym (raised_twice p 0 (slice_index_or i.own x no_facts)
    ∙ ap (λ n. raised n (slice_index_or i.own x no_facts)) (omega arith))
follow-raised i (t ∷ older) x p =
    elim (cases_eq t.server x) as (λ _. follow i (t ∷ older) x p ≡ raised p (follow i (t ∷ older) x 0)) [
      | inl e ↦
          let top = top_at i.tops t.channel in
          let here : (q : ℕ) → follow i (t ∷ older) x q ≡ follow i older t.client (max q top) =
          λ q. ap (λ b. follow i older (cond b t.client x) (cond b (max q top) q)) (test_eq t.server x e) in
          here p ∙ follow-raised i older t.client (max p top)
          ∙ ap (λ n. raised n (follow i older t.client 0)) (max_more p top)
          ∙ sym (raised_twice p (max 0 top) (follow i older t.client 0))
          ∙ ap (raised p) (sym (follow-raised i older t.client (max 0 top)) ∙ sym (here 0))
      | inr ne ↦
          let past : (q : ℕ) → follow i (t ∷ older) x q ≡ follow i older x q =
          λ q. ap (λ b. follow i older (cond b t.client x) (cond b (max q (top_at i.tops t.channel)) q)) (test_ne t.server x ne) in
          past p ∙ follow-raised i older x p ∙ ap (raised p) (sym (past 0))
    ]
  where
    max_more : (a b : ℕ) → max a b ≡ max a (max 0 b)
    max_more a b = omega arith

-- a triple of another server changes nothing
follow-past : (i : Inheritance) (t : Triple) (older : List Triple) (x : ℕ) → t.server ≢ x
    → follow i (t ∷ older) x 0 ≡ follow i older x 0
follow-past i t older x ne =
    ap (λ b. follow i older (cond b t.client x) (cond b (max 0 (top_at i.tops t.channel)) 0)) (test_ne t.server x ne)

-- a thread in no triple is no server's client
client_met : (ts : List Triple) (z x : ℕ) (t : Triple) → IsFree ts z → triple_of ts x ≡ Some t → z ≢ t.client
client_met [] z x t free h = cc
client_met (first ∷ older) z x t free h =
    elim (cases_eq first.server x) as (λ _. z ≢ t.client) [
      | inl e ↦
          let same : t ≡ first = some_same t first (sym h ∙ ap (λ b. cond b (Some first) (triple_of older x)) (test_eq first.server x e)) in
          λ zy. free.1 (zy ∙ ap (λ (u : Triple). u.client) same)
      | inr ne ↦ client_met older z x t free.2 (sym (ap (λ b. cond b (Some first) (triple_of older x)) (test_ne first.server x ne)) ∙ h)
    ]
  where
    some_same : (a b : Triple) → Some a ≡ Some b → a ≡ b
    some_same a b e = cc

follow-client : (i : Inheritance) (ts : List Triple) (x : ℕ) (t : Triple) → IsMade ts → triple_of ts x ≡ Some t
    → follow i ts x 0 ≡ raised (top_at i.tops t.channel) (follow i ts t.client 0)
follow-client i [] x t made h = cc
follow-client i (first ∷ older) x t made h =
    elim (cases_eq first.server x) as (λ _. follow i (first ∷ older) x 0 ≡ raised (top_at i.tops t.channel) (follow i (first ∷ older) t.client 0)) [
      | inl e ↦
          let same : t ≡ first = some_same t first (sym h ∙ ap (λ b. cond b (Some first) (triple_of older x)) (test_eq first.server x e)) in
          let top = top_at i.tops first.channel in
          let here : follow i (first ∷ older) x 0 ≡ follow i older first.client (max 0 top) =
          ap (λ b. follow i older (cond b first.client x) (cond b (max 0 top) 0)) (test_eq first.server x e) in
          here ∙ follow-raised i older first.client (max 0 top)
          ∙ ap (λ n. raised n (follow i older first.client 0)) (max_zero top)
          ∙ ap (raised top) (sym (follow-past i first older first.client made.1))
          ∙ ap (λ (u : Triple). raised (top_at i.tops u.channel) (follow i (first ∷ older) u.client 0)) (sym same)
      | inr ne ↦
          let later : triple_of older x ≡ Some t =
          sym (ap (λ b. cond b (Some first) (triple_of older x)) (test_ne first.server x ne)) ∙ h in
          let other : first.server ≢ t.client = client_met older first.server x t made.0 later in
          follow-past i first older x ne ∙ follow-client i older x t made.2 later
          ∙ ap (raised (top_at i.tops t.channel)) (sym (follow-past i first older t.client other))
    ]
  where
    some_same : (a b : Triple) → Some a ≡ Some b → a ≡ b
    some_same a b e = cc

    max_zero : (n : ℕ) → max 0 n ≡ n
    max_zero n = omega arith

-- ---- the laws

-- a server has its client's partition and mark, and the greatest of its client's priority and of what waits at
-- the channel of its triple
pub inherited-server : (i : Inheritance) (x : ℕ) (t : Triple) → IsMade i.triples → triple_of i.triples x ≡ Some t
    → inherited i x ≡ raised (top_at i.tops t.channel) (inherited i t.client)
inherited-server i x t made h = follow-client i i.triples x t made h

follow-own : (i : Inheritance) (ts : List Triple) (x : ℕ) → triple_of ts x ≡ None
    → follow i ts x 0 ≡ slice_index_or i.own x no_facts
follow-own i [] x h = ap (λ n. record (slice_index_or i.own x no_facts) { priority = n }) (omega arith)
follow-own i (t ∷ older) x h =
    elim (cases_eq t.server x) as (λ _. follow i (t ∷ older) x 0 ≡ slice_index_or i.own x no_facts) [
      | inl e ↦
          let found : Some t ≡ None =
          sym (ap (λ b. cond b (Some t) (triple_of older x)) (test_eq t.server x e)) ∙ h in
          cc
      | inr ne ↦
          follow-past i t older x ne
          ∙ follow-own i older x (sym (ap (λ b. cond b (Some t) (triple_of older x)) (test_ne t.server x ne)) ∙ h)
    ]

-- a thread that serves nobody has its own values
pub inherited-own : (i : Inheritance) (x : ℕ) → triple_of i.triples x ≡ None → inherited i x ≡ slice_index_or i.own x no_facts
inherited-own i x h = follow-own i i.triples x h
