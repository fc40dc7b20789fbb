-- Triples in chains: who is found by server and by client, as a triple comes and as one goes.
use Rattle.std.proofs.Common.{◌≡◌, ◌≢◌, ℕ, suc, ◌<◌, ◌≤◌, List, [], ◌∷◌, length, sym, ◌∙◌, ap, refl, Bool, true, false, cond, nat_eq, ◌||◌, ◌⊎◌, arith, inl, inr, Option, Some, None}
use Rattle.std.proofs.lemmas.Bool.{cases_eq}
use Rattle.aps_model.specs.SchedulerState.{Triple}
use Rattle.aps_model.specs.Inherit.{IsFree, IsMade, triple_of, without_server}
use Rattle.aps_inherit.specs.Order.{AreApart, has, order_without}
use Rattle.aps_inherit.specs.Serving.{AreChains, AreServedOnce, server_of, servers}
use Rattle.aps_inherit.proofs.Ordering.{test_eq, test_ne}

some_same : {A : Type 0} (a b : A) → Some a ≡ Some b → a ≡ b
some_same a b e = cc

none_some : {A : Type 0} (a : A) → None ≡ Some a → ⊥
none_some a e = cc

-- ---- the first of the list, and the others

pub triple_of-here : (t : Triple) (older : List Triple) (x : ℕ) → t.server ≡ x → triple_of (t ∷ older) x ≡ Some t
triple_of-here t older x e = ap (λ b. cond b (Some t) (triple_of older x)) (test_eq t.server x e)

pub triple_of-past : (t : Triple) (older : List Triple) (x : ℕ) → t.server ≢ x → triple_of (t ∷ older) x ≡ triple_of older x
triple_of-past t older x ne = ap (λ b. cond b (Some t) (triple_of older x)) (test_ne t.server x ne)

pub server_of-here : (t : Triple) (older : List Triple) (x : ℕ) → t.client ≡ x → server_of (t ∷ older) x ≡ Some t.server
server_of-here t older x e = ap (λ b. cond b (Some t.server) (server_of older x)) (test_eq t.client x e)

pub server_of-past : (t : Triple) (older : List Triple) (x : ℕ) → t.client ≢ x → server_of (t ∷ older) x ≡ server_of older x
server_of-past t older x ne = ap (λ b. cond b (Some t.server) (server_of older x)) (test_ne t.client x ne)

without_server-here : (t : Triple) (older : List Triple) (x : ℕ) → t.server ≡ x → without_server (t ∷ older) x ≡ older
without_server-here t older x e = ap (λ b. cond b older (t ∷ without_server older x)) (test_eq t.server x e)

without_server-past : (t : Triple) (older : List Triple) (x : ℕ) → t.server ≢ x → without_server (t ∷ older) x ≡ t ∷ without_server older x
without_server-past t older x ne = ap (λ b. cond b older (t ∷ without_server older x)) (test_ne t.server x ne)

-- ---- a thread in no triple

pub triple_of-free : (ts : List Triple) (z : ℕ) → IsFree ts z → triple_of ts z ≡ None
triple_of-free [] z free = refl
triple_of-free (t ∷ older) z free =
    triple_of-past t older z (λ e. free.0 (sym e)) ∙ triple_of-free older z free.2

pub server_of-free : (ts : List Triple) (z : ℕ) → IsFree ts z → server_of ts z ≡ None
server_of-free [] z free = refl
server_of-free (t ∷ older) z free =
    server_of-past t older z (λ e. free.1 (sym e)) ∙ server_of-free older z free.2

pub servers-free : (ts : List Triple) (z : ℕ) → IsFree ts z → has (servers ts) z ≡ false
servers-free [] z free = refl
servers-free (t ∷ older) z free =
    ap (λ b. b || has (servers older) z) (test_ne t.server z (λ e. free.0 (sym e))) ∙ servers-free older z free.2

-- a thread that serves nobody and that nobody serves is in no triple
pub IsFree-none : (ts : List Triple) (z : ℕ) → triple_of ts z ≡ None → server_of ts z ≡ None → IsFree ts z
IsFree-none [] z a b = tt
IsFree-none (t ∷ older) z a b =
    let no_server : t.server ≢ z = λ e. none_some t (sym a ∙ triple_of-here t older z e) in
    let no_client : t.client ≢ z = λ e. none_some t.server (sym b ∙ server_of-here t older z e) in (
      λ e. no_server (sym e),
      λ e. no_client (sym e),
      IsFree-none older z (sym (triple_of-past t older z no_server) ∙ a) (sym (server_of-past t older z no_client) ∙ b),
    )

-- it is no server's client
pub client_met : (ts : List Triple) (z x : ℕ) (t : Triple) → IsFree ts z → triple_of ts x ≡ Some t → z ≢ t.client
client_met [] z x t free h = absurd (none_some t h)
client_met (first ∷ older) z x t free h =
    elim (cases_eq first.server x) as (λ _. z ≢ t.client) [
      | inl e ↦ λ zy. free.1 (zy ∙ ap (λ (u : Triple). u.client) (some_same t first (sym h ∙ triple_of-here first older x e)))
      | inr ne ↦ client_met older z x t free.2 (sym (triple_of-past first older x ne) ∙ h)
    ]

pub AreApart-servers : (ts : List Triple) → IsMade ts → AreApart (servers ts)
AreApart-servers [] made = tt
AreApart-servers (t ∷ older) made = (servers-free older t.server made.0, AreApart-servers older made.2)

-- ---- servers and clients find one another

-- a thread is a server where the list of servers has it
pub triple_of-has : (ts : List Triple) (x : ℕ) → has (servers ts) x ≡ false → triple_of ts x ≡ None
triple_of-has [] x h = refl
triple_of-has (t ∷ older) x h = by (nat_eq t.server x) (has (servers older) x) h (triple_of-has older x)
  where
    by : (b c : Bool) → (b || c) ≡ false → (c ≡ false → triple_of older x ≡ None) → cond b (Some t) (triple_of older x) ≡ None
    by true c h more = absurd (both h)
      where
        both : true ≡ false → ⊥
        both e = cc
    by false c h more = more h

-- the server of a triple's client is the triple's
pub server_of-client : (ts : List Triple) (x : ℕ) (t : Triple) → AreServedOnce ts → triple_of ts x ≡ Some t → server_of ts t.client ≡ Some x
server_of-client [] x t once h = absurd (none_some t h)
server_of-client (first ∷ older) x t once h =
    elim (cases_eq first.server x) as (λ _. server_of (first ∷ older) t.client ≡ Some x) [
      | inl e ↦
          let same : t ≡ first = some_same t first (sym h ∙ triple_of-here first older x e) in
          server_of-here first older t.client (ap (λ (u : Triple). u.client) (sym same)) ∙ ap (λ n. Some n) e
      | inr ne ↦
          let later : triple_of older x ≡ Some t = sym (triple_of-past first older x ne) ∙ h in
          let found : server_of older t.client ≡ Some x = server_of-client older x t once.1 later in
          server_of-past first older t.client (λ e. none_some x (sym once.0 ∙ ap (server_of older) e ∙ found)) ∙ found
    ]

-- the triple of a client's server has that client
pub triple_of-server : (ts : List Triple) (y x : ℕ) → IsMade ts → server_of ts y ≡ Some x
    → (t : Triple) × (triple_of ts x ≡ Some t) × (t.client ≡ y)
triple_of-server [] y x made h = absurd (none_some x h)
triple_of-server (first ∷ older) y x made h =
    elim (cases_eq first.client y) as (λ _. (t : Triple) × (triple_of (first ∷ older) x ≡ Some t) × (t.client ≡ y)) [
      | inl e ↦ (first, triple_of-here first older x (some_same first.server x (sym (server_of-here first older y e) ∙ h)), e)
      | inr ne ↦
          let found = triple_of-server older y x made.2 (sym (server_of-past first older y ne) ∙ h) in
          let other : first.server ≢ x =
          λ e. none_some found.0 (sym (triple_of-free older first.server made.0) ∙ ap (triple_of older) e ∙ found.1) in
          (found.0, triple_of-past first older x other ∙ found.1, found.2)
    ]

-- ---- how far up a chain a thread stands

-- how many triples stand from the thread's own on, which are those made no later
abbrev pub height : List Triple → ℕ → ℕ
height [] x = 0
height (t ∷ older) x = cond (nat_eq t.server x) (suc (length older)) (height older x)

height-here : (t : Triple) (older : List Triple) (x : ℕ) → t.server ≡ x → height (t ∷ older) x ≡ suc (length older)
height-here t older x e = ap (λ b. cond b (suc (length older)) (height older x)) (test_eq t.server x e)

height-past : (t : Triple) (older : List Triple) (x : ℕ) → t.server ≢ x → height (t ∷ older) x ≡ height older x
height-past t older x ne = ap (λ b. cond b (suc (length older)) (height older x)) (test_ne t.server x ne)

pub height-le : (ts : List Triple) (x : ℕ) → height ts x ≤ length ts
height-le [] x = omega arith
height-le (t ∷ older) x = elim (cases_eq t.server x) as (λ _. height (t ∷ older) x ≤ suc (length older)) [
  | inl e ↦ omega (arith, height-here t older x e)
  | inr ne ↦ omega (arith, height-past t older x ne, height-le older x)
]

-- a server stands above its client
pub height-client : (ts : List Triple) (x : ℕ) (t : Triple) → IsMade ts → triple_of ts x ≡ Some t → height ts t.client < height ts x
height-client [] x t made h = absurd (none_some t h)
height-client (first ∷ older) x t made h =
    elim (cases_eq first.server x) as (λ _. height (first ∷ older) t.client < height (first ∷ older) x) [
      | inl e ↦
          let same : t ≡ first = some_same t first (sym h ∙ triple_of-here first older x e) in
          let other : first.server ≢ t.client = λ f. made.1 (f ∙ ap (λ (u : Triple). u.client) same) in
          omega (arith, height-here first older x e, height-past first older t.client other, height-le older t.client)
      | inr ne ↦
          let later : triple_of older x ≡ Some t = sym (triple_of-past first older x ne) ∙ h in
          let other : first.server ≢ t.client = client_met older first.server x t made.0 later in
          omega (arith, height-past first older x ne, height-past first older t.client other, height-client older x t made.2 later)
    ]

-- ---- a triple goes

IsFree-without : (ts : List Triple) (x z : ℕ) → IsFree ts z → IsFree (without_server ts x) z
IsFree-without [] x z free = tt
IsFree-without (t ∷ older) x z free = elim (cases_eq t.server x) as (λ _. IsFree (without_server (t ∷ older) x) z) [
  | inl e ↦ rw (without_server-here t older x e) free.2
  | inr ne ↦ rw (without_server-past t older x ne) (free.0, free.1, IsFree-without older x z free.2)
]

IsMade-without : (ts : List Triple) (x : ℕ) → IsMade ts → IsMade (without_server ts x)
IsMade-without [] x made = tt
IsMade-without (t ∷ older) x made = elim (cases_eq t.server x) as (λ _. IsMade (without_server (t ∷ older) x)) [
  | inl e ↦ rw (without_server-here t older x e) made.2
  | inr ne ↦ rw (without_server-past t older x ne) (IsFree-without older x t.server made.0, made.1, IsMade-without older x made.2)
]

server_of-without_none : (ts : List Triple) (x y : ℕ) → server_of ts y ≡ None → server_of (without_server ts x) y ≡ None
server_of-without_none [] x y h = refl
server_of-without_none (t ∷ older) x y h =
    let other : t.client ≢ y = λ e. none_some t.server (sym h ∙ server_of-here t older y e) in
    let later : server_of older y ≡ None = sym (server_of-past t older y other) ∙ h in
    elim (cases_eq t.server x) as (λ _. server_of (without_server (t ∷ older) x) y ≡ None) [
      | inl e ↦ ap (λ l. server_of l y) (without_server-here t older x e) ∙ later
      | inr ne ↦
          ap (λ l. server_of l y) (without_server-past t older x ne)
          ∙ server_of-past t (without_server older x) y other
          ∙ server_of-without_none older x y later
    ]

AreServedOnce-without : (ts : List Triple) (x : ℕ) → AreServedOnce ts → AreServedOnce (without_server ts x)
AreServedOnce-without [] x once = tt
AreServedOnce-without (t ∷ older) x once = elim (cases_eq t.server x) as (λ _. AreServedOnce (without_server (t ∷ older) x)) [
  | inl e ↦ rw (without_server-here t older x e) once.1
  | inr ne ↦ rw (without_server-past t older x ne) (server_of-without_none older x t.client once.0, AreServedOnce-without older x once.1)
]

pub AreChains-without : (ts : List Triple) (x : ℕ) → AreChains ts → AreChains (without_server ts x)
AreChains-without ts x h = record { made = IsMade-without ts x h.made; once = AreServedOnce-without ts x h.once }

pub triple_of-without_same : (ts : List Triple) (x : ℕ) → IsMade ts → triple_of (without_server ts x) x ≡ None
triple_of-without_same [] x made = refl
triple_of-without_same (t ∷ older) x made = elim (cases_eq t.server x) as (λ _. triple_of (without_server (t ∷ older) x) x ≡ None) [
  | inl e ↦ ap (λ l. triple_of l x) (without_server-here t older x e) ∙ ap (triple_of older) (sym e) ∙ triple_of-free older t.server made.0
  | inr ne ↦
      ap (λ l. triple_of l x) (without_server-past t older x ne)
      ∙ triple_of-past t (without_server older x) x ne
      ∙ triple_of-without_same older x made.2
]

pub triple_of-without_other : (ts : List Triple) (x y : ℕ) → x ≢ y → triple_of (without_server ts x) y ≡ triple_of ts y
triple_of-without_other [] x y ne = refl
triple_of-without_other (t ∷ older) x y ne = elim (cases_eq t.server x) as
    (λ _. triple_of (without_server (t ∷ older) x) y ≡ triple_of (t ∷ older) y) [
      | inl e ↦
          ap (λ l. triple_of l y) (without_server-here t older x e)
          ∙ sym (triple_of-past t older y (λ f. ne (sym e ∙ f)))
      | inr past ↦
          ap (λ l. triple_of l y) (without_server-past t older x past)
          ∙ ap (λ (o : Option Triple). cond (nat_eq t.server y) (Some t) o) (triple_of-without_other older x y ne)
    ]

-- the client of the triple that goes has no server then, and every other thread has its own
pub server_of-without : (ts : List Triple) (x y : ℕ) (t : Triple) → AreServedOnce ts → triple_of ts x ≡ Some t
    → server_of (without_server ts x) y ≡ cond (nat_eq t.client y) None (server_of ts y)
server_of-without [] x y t once h = absurd (none_some t h)
server_of-without (first ∷ older) x y t once h =
    elim (cases_eq first.server x) as
    (λ _. server_of (without_server (first ∷ older) x) y ≡ cond (nat_eq t.client y) None (server_of (first ∷ older) y)) [
      | inl e ↦
          let same : t ≡ first = some_same t first (sym h ∙ triple_of-here first older x e) in
          ap (λ l. server_of l y) (without_server-here first older x e)
          ∙ goes (cases_eq first.client y)
          ∙ ap (λ (u : Triple). cond (nat_eq u.client y) None (server_of (first ∷ older) y)) (sym same)
      | inr ne ↦
          let later : triple_of older x ≡ Some t = sym (triple_of-past first older x ne) ∙ h in
          let found : server_of older t.client ≡ Some x = server_of-client older x t once.1 later in
          let apart : first.client ≢ t.client = λ e. none_some x (sym once.0 ∙ ap (server_of older) e ∙ found) in
          ap (λ l. server_of l y) (without_server-past first older x ne)
          ∙ ap (λ (o : Option ℕ). cond (nat_eq first.client y) (Some first.server) o) (server_of-without older x y t once.1 later)
          ∙ swapped apart (cases_eq first.client y)
    ]
  where
    goes : ((first.client ≡ y) ⊎ (first.client ≢ y)) → server_of older y ≡ cond (nat_eq first.client y) None (server_of (first ∷ older) y)
    goes (inl e) = ap (server_of older) (sym e) ∙ once.0 ∙ sym
        (ap (λ b. cond b None (server_of (first ∷ older) y)) (test_eq first.client y e))
    goes (inr ne) = sym (server_of-past first older y ne) ∙ sym
        (ap (λ b. cond b None (server_of (first ∷ older) y)) (test_ne first.client y ne))

    swapped : first.client ≢ t.client → ((first.client ≡ y) ⊎ (first.client ≢ y))
        → cond (nat_eq first.client y) (Some first.server) (cond (nat_eq t.client y) None (server_of older y))
        ≡ cond (nat_eq t.client y) None (cond (nat_eq first.client y) (Some first.server) (server_of older y))
    swapped apart (inl e) =
        ap (λ b. cond b (Some first.server) (cond (nat_eq t.client y) None (server_of older y))) (test_eq first.client y e)
        ∙ sym (ap (λ b. cond b None (cond (nat_eq first.client y) (Some first.server) (server_of older y)))
        (test_ne t.client y (λ f. apart (e ∙ sym f)))
        ∙ ap (λ b. cond b (Some first.server) (server_of older y)) (test_eq first.client y e))
    swapped apart (inr ne) =
        ap (λ b. cond b (Some first.server) (cond (nat_eq t.client y) None (server_of older y))) (test_ne first.client y ne)
        ∙ sym (ap (λ b. cond (nat_eq t.client y) None (cond b (Some first.server) (server_of older y))) (test_ne first.client y ne))

pub servers-without : (ts : List Triple) (x : ℕ) → order_without (servers ts) x ≡ servers (without_server ts x)
servers-without [] x = refl
servers-without (t ∷ older) x = elim (cases_eq t.server x) as
    (λ _. order_without (servers (t ∷ older)) x ≡ servers (without_server (t ∷ older) x)) [
      | inl e ↦
          ap (λ b. cond b (servers older) (t.server ∷ order_without (servers older) x)) (test_eq t.server x e)
          ∙ ap servers (sym (without_server-here t older x e))
      | inr ne ↦
          ap (λ b. cond b (servers older) (t.server ∷ order_without (servers older) x)) (test_ne t.server x ne)
          ∙ ap (λ l. t.server ∷ l) (servers-without older x)
          ∙ ap servers (sym (without_server-past t older x ne))
    ]

pub without_server-absent : (ts : List Triple) (x : ℕ) → triple_of ts x ≡ None → ts ≡ without_server ts x
without_server-absent [] x h = refl
without_server-absent (t ∷ older) x h = elim (cases_eq t.server x) as (λ _. t ∷ older ≡ without_server (t ∷ older) x) [
  | inl e ↦ absurd (none_some t (sym h ∙ triple_of-here t older x e))
  | inr ne ↦
      ap (λ l. t ∷ l) (without_server-absent older x (sym (triple_of-past t older x ne) ∙ h))
      ∙ sym (without_server-past t older x ne)
]
