-- Kept values that are right are the inherited ones, and which become wrong as the rest changes.
use Rattle.std.proofs.Common.{◌≡◌, ◌≢◌, ℕ, zero, suc, ◌-◌, ◌<◌, List, [], ◌∷◌, length, sym, ◌∙◌, ap, refl, Bool, true, false, cond, nat_eq, ◌||◌, ◌&&◌, ◌⊎◌, arith, inl, inr, Option, Some, None, subst, unwrap_or, slice_index_or, slice_set}
use Rattle.std.proofs.lemmas.Bool.{cases_eq, or_parts}
use Rattle.std.proofs.lemmas.List.{get_or-set_same, get_or-set_other}
use Rattle.aps_model.specs.declared.state.Facts.{Facts}
use Rattle.aps_model.specs.SchedulerState.{Triple, no_facts}
use Rattle.aps_model.specs.Inherit.{Inheritance, IsMade, client_of, inherited, raised, top_at, triple_of, without_server}
use Rattle.aps_model.proofs.InheritLaws.{inherited-own, inherited-server}
use Rattle.aps_inherit.specs.Order.{IsThere, after_in, first_of, has, rest_of}
use Rattle.aps_inherit.specs.Serving.{AreChains, server_of, servers}
use Rattle.aps_inherit.specs.Values.{AreRightBut, is_by, kept_at, nobody, of_channel, or_at, serves_by, values_by, values_with}
use Rattle.aps_inherit.proofs.Ordering.{from_on-next, has-here, ne_from_test, rest_of-first, test_eq, test_ne}
use Rattle.aps_inherit.proofs.Serving.{AreApart-servers, height, height-client, height-le, server_of-client, triple_of-has, triple_of-past, triple_of-server, triple_of-without_other}

-- the client of a triple
abbrev pub client_in : Option Triple → Option ℕ
client_in None = None
client_in (Some t) = Some t.client

-- ---- right values are the inherited ones

by_triple : (i : Inheritance) (kept : List Facts) (x : ℕ) (o : Option Triple) → triple_of i.triples x ≡ o
    → values_by i kept x ≡ values_with i kept x o
by_triple i kept x o e = ap (values_with i kept x) e

kept_below : (i : Inheritance) (kept : List Facts) → IsMade i.triples → AreRightBut nobody i kept
    → (n x : ℕ) → height i.triples x < n → kept_at kept x ≡ inherited i x
kept_below i kept made right zero x low = absurd (omega arith)
kept_below i kept made right (suc n) x low =
    by (triple_of i.triples x) refl (λ z z_low. kept_below i kept made right n z z_low)
  where
    by : (o : Option Triple) → triple_of i.triples x ≡ o → ((z : ℕ) → height i.triples z < n → kept_at kept z ≡ inherited i z)
        → kept_at kept x ≡ inherited i x
    by None e more = right x refl ∙ by_triple i kept x None e ∙ sym (inherited-own i x e)
    by (Some t) e more =
        right x refl
        ∙ by_triple i kept x (Some t) e
        ∙ ap (raised (top_at i.tops t.channel)) (more t.client (omega (arith, height-client i.triples x t made e)))
        ∙ sym (inherited-server i x t made e)

pub kept_inherited : (i : Inheritance) (kept : List Facts) → IsMade i.triples → AreRightBut nobody i kept → (x : ℕ)
    → kept_at kept x ≡ inherited i x
kept_inherited i kept made right x = kept_below i kept made right (suc (height i.triples x)) x (omega arith)

-- ---- one thread's values are recomputed

-- the values of a thread that isn't a server of y are those by the other values
unaffected : (i : Inheritance) (kept : List Facts) (y : ℕ) (v : Facts) (x : ℕ) (o : Option Triple)
    → ((t : Triple) → o ≡ Some t → t.client ≢ y) → values_with i (slice_set kept y v) x o ≡ values_with i kept x o
unaffected i kept y v x None h = refl
unaffected i kept y v x (Some t) h =
    ap (raised (top_at i.tops t.channel)) (get_or-set_other kept y t.client v no_facts (h t refl))

-- once the values of y are recomputed, at most those of its server are wrong in addition
pub recomputed : (i : Inheritance) (kept : List Facts) (y : ℕ) (late : ℕ → Bool) → AreChains i.triples → y < length kept
    → AreRightBut (or_at late (Some y)) i kept
    → AreRightBut (or_at late (server_of i.triples y)) i (slice_set kept y (values_by i kept y))
recomputed i kept y late chains inside right x x_right = elim (cases_eq x y) [
  | inl e ↦
      ap (kept_at new) e
      ∙ get_or-set_same kept y v no_facts inside
      ∙ sym (unaffected i kept y v y (triple_of i.triples y) (λ t f g. own_server t f g))
      ∙ ap (values_by i new) (sym e)
  | inr ne ↦
      get_or-set_other kept y x v no_facts ne
      ∙ right x (beside (nat_eq y x) (late x) (test_ne y x (λ e. ne (sym e))) (first_part (server_of i.triples y) x_right))
      ∙ sym (unaffected i kept y v x (triple_of i.triples x) (λ t f g. no_server t f g (server_of i.triples y) refl x_right))
]
  where
    v : Facts
    v = values_by i kept y

    new : List Facts
    new = slice_set kept y v

    beside : (a b : Bool) → a ≡ false → b ≡ false → (a || b) ≡ false
    beside a b p q = ap (λ c. c || b) p ∙ q

    first_part : (o : Option ℕ) → or_at late o x ≡ false → late x ≡ false
    first_part None h = h
    first_part (Some z) h = (or_parts (nat_eq z x) (late x) h).1

    own_server : (t : Triple) → triple_of i.triples y ≡ Some t → t.client ≢ y
    own_server t f g = lower (height i.triples y) (height i.triples t.client) (height-client i.triples y t chains.made f)
        (ap (height i.triples) g)
      where
        lower : (a b : ℕ) → b < a → b ≡ a → ⊥
        lower a b lt e = omega arith

    no_server : (t : Triple) → triple_of i.triples x ≡ Some t → t.client ≡ y → (o : Option ℕ) → server_of i.triples y ≡ o
        → or_at late o x ≡ false → ⊥
    no_server t f g o e h = found o (sym e ∙ ap (server_of i.triples) (sym g) ∙ server_of-client i.triples x t chains.once f) h
      where
        found : (o : Option ℕ) → o ≡ Some x → or_at late o x ≡ false → ⊥
        found None e h = nothing e
          where
            nothing : None ≡ Some x → ⊥
            nothing e = cc
        found (Some z) e h = ne_from_test z x (or_parts (nat_eq z x) (late x) h).0 (same e)
          where
            same : Some z ≡ Some x → z ≡ x
            same e = cc

-- values that are the same once recomputed were right
pub unchanged : (i : Inheritance) (kept : List Facts) (y : ℕ) (late : ℕ → Bool) → y < length kept → values_by i kept y ≡ kept_at kept y
    → AreRightBut (or_at late (Some y)) i kept → AreRightBut late i (slice_set kept y (values_by i kept y))
unchanged i kept y late inside same right x x_right =
    written x ∙ by (cases_eq y x) ∙ sym (rest (triple_of i.triples x))
  where
    new : List Facts
    new = slice_set kept y (values_by i kept y)

    written : (z : ℕ) → kept_at new z ≡ kept_at kept z
    written z = elim (cases_eq z y) [
      | inl e ↦ ap (kept_at new) e ∙ get_or-set_same kept y (values_by i kept y) no_facts inside ∙ same ∙ ap (kept_at kept) (sym e)
      | inr ne ↦ get_or-set_other kept y z (values_by i kept y) no_facts ne
    ]

    rest : (o : Option Triple) → values_with i new x o ≡ values_with i kept x o
    rest None = refl
    rest (Some t) = ap (raised (top_at i.tops t.channel)) (written t.client)

    beside : (a b : Bool) → a ≡ false → b ≡ false → (a || b) ≡ false
    beside a b p q = ap (λ c. c || b) p ∙ q

    by : ((y ≡ x) ⊎ (y ≢ x)) → kept_at kept x ≡ values_by i kept x
    by (inl e) = ap (kept_at kept) (sym e) ∙ sym same ∙ ap (values_by i kept) e
    by (inr ne) = right x (beside (nat_eq y x) (late x) (test_ne y x ne) x_right)

-- ---- up the chain

-- how many servers may still be looked at, from this one up
abbrev pub steps_left : List Triple → Option ℕ → ℕ
steps_left ts None = 0
steps_left ts (Some x) = suc (length ts) - height ts x

pub steps_left-above : (ts : List Triple) (x : ℕ) → AreChains ts → steps_left ts (server_of ts x) < steps_left ts (Some x)
steps_left-above ts x chains = by (server_of ts x) refl
  where
    by : (o : Option ℕ) → server_of ts x ≡ o → steps_left ts o < steps_left ts (Some x)
    by None e = omega (arith, height-le ts x)
    by (Some y) e =
        let found = triple_of-server ts x y chains.made e in
        let higher : height ts x < height ts y =
        subst (λ z. height ts z < height ts y) found.2 (height-client ts y found.0 chains.made found.1) in
        omega (arith, height-le ts y)

-- after a step up, or where nothing changed and no step is taken
pub steps_left-next : (ts : List Triple) (x : ℕ) (same : Bool) (above next : Option ℕ) → AreChains ts → above ≡ server_of ts x
    → next ≡ cond same None above → steps_left ts next < steps_left ts (Some x)
steps_left-next ts x true above next chains e n = rw n (omega (arith, height-le ts x))
steps_left-next ts x false above next chains e n = rw (n, e) (steps_left-above ts x chains)

settled_by : (i : Inheritance) (kept : List Facts) (x : ℕ) (same : Bool) (late : ℕ → Bool) → AreChains i.triples → x < length kept
    → (same ≡ true → values_by i kept x ≡ kept_at kept x) → AreRightBut (or_at late (Some x)) i kept
    → AreRightBut (or_at late (cond same None (server_of i.triples x))) i (slice_set kept x (values_by i kept x))
settled_by i kept x true late chains inside equal right = unchanged i kept x late inside (equal refl) right
settled_by i kept x false late chains inside equal right = recomputed i kept x late chains inside right

-- a step of the walk up, from what its callees say
pub settled_step : (i : Inheritance) (kept kept' : List Facts) (x : ℕ) (values there : Facts) (same : Bool)
    (now above next : Option ℕ) (late : ℕ → Bool)
    → AreChains i.triples → now ≡ Some x → x < length kept → values ≡ values_by i kept x → there ≡ kept_at kept x
    → (same ≡ true → values ≡ there) → above ≡ server_of i.triples x → next ≡ cond same None above → kept' ≡ slice_set kept x values
    → AreRightBut (or_at late now) i kept → AreRightBut (or_at late next) i kept'
settled_step i kept kept' x values there same now above next late chains e1 inside e2 e3 equal e4 e5 e6 right =
    rw (e6, e5, e4, e2)
    (settled_by i kept x same late chains inside (λ e. sym e2 ∙ equal e ∙ e3)
    (let P : Option ℕ → Type 0 = λ o. AreRightBut (or_at late o) i kept in subst P e1 right))

-- ---- what stays right as the rest changes

-- a triple more: at most its server's values are wrong
pub right-add : (i : Inheritance) (kept : List Facts) (t : Triple) → AreRightBut nobody i kept
    → AreRightBut (or_at nobody (Some t.server)) (record i { triples = t ∷ i.triples }) kept
right-add i kept t right x x_right =
    let ne : t.server ≢ x = ne_from_test t.server x (or_parts (nat_eq t.server x) false x_right).0 in
    right x refl ∙ same (triple_of i.triples x) ∙ ap (values_with (record i { triples = t ∷ i.triples }) kept x)
    (sym (triple_of-past t i.triples x ne))
  where
    same : (o : Option Triple) → values_with i kept x o ≡ values_with (record i { triples = t ∷ i.triples }) kept x o
    same None = refl
    same (Some u) = refl

-- a triple less
pub right-without : (i : Inheritance) (kept : List Facts) (s : ℕ) → AreRightBut nobody i kept
    → AreRightBut (or_at nobody (Some s)) (record i { triples = without_server i.triples s }) kept
right-without i kept s right x x_right =
    let ne : s ≢ x = ne_from_test s x (or_parts (nat_eq s x) false x_right).0 in
    right x refl ∙ same (triple_of i.triples x) ∙ ap (values_with (record i { triples = without_server i.triples s }) kept x)
    (sym (triple_of-without_other i.triples s x ne))
  where
    same : (o : Option Triple) → values_with i kept x o ≡ values_with (record i { triples = without_server i.triples s }) kept x o
    same None = refl
    same (Some u) = refl

-- own values
pub right-own : (i : Inheritance) (kept : List Facts) (s : ℕ) (own : Facts) → AreRightBut nobody i kept
    → AreRightBut (or_at nobody (Some s)) (record i { own = slice_set i.own s own }) kept
right-own i kept s own right x x_right =
    let ne : s ≢ x = ne_from_test s x (or_parts (nat_eq s x) false x_right).0 in
    right x refl ∙ same ne (triple_of i.triples x)
  where
    same : s ≢ x → (o : Option Triple) → values_with i kept x o ≡ values_with (record i { own = slice_set i.own s own }) kept x o
    same ne None = sym (get_or-set_other i.own s x own no_facts (λ e. ne (sym e)))
    same ne (Some u) = refl

-- what waits at a channel: at most the values of its servers are wrong
pub right-top : (i : Inheritance) (kept : List Facts) (c : ℕ) (top : Option ℕ) → AreRightBut nobody i kept
    → let j : Inheritance = record i { tops = slice_set i.tops c top } in AreRightBut (serves_by j c) j kept
right-top i kept c top right x x_right = right x refl ∙ same (triple_of i.triples x) x_right
  where
    same : (o : Option Triple) → is_by o c ≡ false → values_with i kept x o
        ≡ values_with (record i { tops = slice_set i.tops c top }) kept x o
    same None h = refl
    same (Some u) h =
        ap (λ (o : Option ℕ). raised (unwrap_or o 0) (kept_at kept u.client))
        (sym (get_or-set_other i.tops c u.channel top None (ne_from_test u.channel c h)))

-- the same, from what the calls that change the rest say
pub served_right : (i j : Inheritance) (kept : List Facts) (t : Triple) (server : ℕ) → AreRightBut nobody i kept → t.server ≡ server
    → j ≡ record i { triples = t ∷ i.triples } → AreRightBut (or_at nobody (Some server)) j kept
served_right i j kept t server right at e =
    rw e (let P : ℕ → Type 0 = λ n. AreRightBut (or_at nobody (Some n)) (record i { triples = t ∷ i.triples }) kept in subst P at
    (right-add i kept t right))

pub ended_right : (i j : Inheritance) (kept : List Facts) (server : ℕ) → AreRightBut nobody i kept
    → j ≡ record i { triples = without_server i.triples server } → AreRightBut (or_at nobody (Some server)) j kept
ended_right i j kept server right e = rw e (right-without i kept server right)

pub own_right : (i j : Inheritance) (kept : List Facts) (x : ℕ) (own : Facts) → AreRightBut nobody i kept
    → j ≡ record i { own = slice_set i.own x own } → AreRightBut (or_at nobody (Some x)) j kept
own_right i j kept x own right e = rw e (right-own i kept x own right)

pub top_right : (i j : Inheritance) (kept : List Facts) (c : ℕ) (top : Option ℕ) → AreRightBut nobody i kept
    → j ≡ record i { tops = slice_set i.tops c top } → AreRightBut (serves_by j c) j kept
top_right i j kept c top right e = rw e (right-top i kept c top right)

-- ---- the servers by a channel

pub is_there-after : (xs : List ℕ) (y : ℕ) (next : Option ℕ) → next ≡ after_in xs y → IsThere xs next
is_there-after xs y next e = rw e (by xs)
  where
    more : (b c : Bool) → c ≡ true → (b || c) ≡ true
    more true c h = refl
    more false c h = h

    widened : (x : ℕ) (ys : List ℕ) (o : Option ℕ) → IsThere ys o → IsThere (x ∷ ys) o
    widened x ys None h = tt
    widened x ys (Some z) h = more (nat_eq x z) (has ys z) h

    firsts : (ys : List ℕ) → IsThere ys (first_of ys)
    firsts [] = tt
    firsts (z ∷ zs) = has-here z z zs refl

    either : (x : ℕ) (ys : List ℕ) (b : Bool) → IsThere ys (after_in ys y) → IsThere (x ∷ ys) (cond b (first_of ys) (after_in ys y))
    either x ys true h = widened x ys (first_of ys) (firsts ys)
    either x ys false h = widened x ys (after_in ys y) h

    by : (ys : List ℕ) → IsThere ys (after_in ys y)
    by [] = tt
    by (x ∷ ys) = either x ys (nat_eq x y) (by ys)

pub is_there-first : (xs : List ℕ) (first : Option ℕ) → first ≡ first_of xs → IsThere xs first
is_there-first [] first e = rw e tt
is_there-first (x ∷ xs) first e = rw e (has-here x x xs refl)

-- at the start of the pass over the servers, only those by the channel are perhaps wrong
pub channel_begins : (i : Inheritance) (kept : List Facts) (c : ℕ) (first : Option ℕ) → first ≡ first_of (servers i.triples)
    → AreRightBut (serves_by i c) i kept → AreRightBut (of_channel i c (has (rest_of (servers i.triples) first))) i kept
channel_begins i kept c first e right = rw (e, rest_of-first (servers i.triples)) (λ x h. right x (by x (has (servers i.triples) x) refl h))
  where
    by : (x : ℕ) (b : Bool) → has (servers i.triples) x ≡ b → (has (servers i.triples) x && serves_by i c x) ≡ false
        → serves_by i c x ≡ false
    by x true there h = sym (ap (λ b. b && serves_by i c x) there) ∙ h
    by x false gone h = ap (λ o. is_by o c) (triple_of-has i.triples x gone)

-- the rest of the servers from this one on begins with it
pub rest_now : (i : Inheritance) (server : ℕ) (now next : Option ℕ) → AreChains i.triples
    → now ≡ Some server → IsThere (servers i.triples) now → next ≡ after_in (servers i.triples) server
    → rest_of (servers i.triples) now ≡ server ∷ rest_of (servers i.triples) next
rest_now i server now next chains e1 there e2 =
    ap (λ (o : Option ℕ). rest_of (servers i.triples) o) e1
    ∙ from_on-next (servers i.triples) server (AreApart-servers i.triples chains.made)
    (let P : Option ℕ → Type 0 = λ o. IsThere (servers i.triples) o in subst P e1 there)
    ∙ ap (λ (o : Option ℕ). server ∷ rest_of (servers i.triples) o) (sym e2)

-- the server is done
pub channel_goes_on : (i : Inheritance) (kept kept' : List Facts) (c server : ℕ) (now next : Option ℕ) → AreChains i.triples
    → now ≡ Some server → IsThere (servers i.triples) now → next ≡ after_in (servers i.triples) server
    → ((late : ℕ → Bool) → AreRightBut (of_channel i c (or_at late (Some server))) i kept → AreRightBut (of_channel i c late) i kept')
    → AreRightBut (of_channel i c (has (rest_of (servers i.triples) now))) i kept
    → AreRightBut (of_channel i c (has (rest_of (servers i.triples) next))) i kept'
channel_goes_on i kept kept' c server now next chains e1 there e2 settles right =
    settles (has (rest_of (servers i.triples) next))
    (let P : List ℕ → Type 0 = λ l. AreRightBut (of_channel i c (has l)) i kept in
    subst P (rest_now i server now next chains e1 there e2) right)

pub rest_shrinks : (i : Inheritance) (server : ℕ) (now next : Option ℕ) → AreChains i.triples
    → now ≡ Some server → IsThere (servers i.triples) now → next ≡ after_in (servers i.triples) server
    → length (rest_of (servers i.triples) next) < length (rest_of (servers i.triples) now)
rest_shrinks i server now next chains e1 there e2 =
    let e = ap (λ (l : List ℕ). length l) (rest_now i server now next chains e1 there e2) in omega arith

-- a server that doesn't serve by the channel is right already
pub of_channel-other : (i : Inheritance) (kept : List Facts) (c server : ℕ) (late : ℕ → Bool) → serves_by i c server ≡ false
    → AreRightBut (of_channel i c (or_at late (Some server))) i kept → AreRightBut (of_channel i c late) i kept
of_channel-other i kept c server late other right x h = right x (by (cases_eq server x))
  where
    by : ((server ≡ x) ⊎ (server ≢ x)) → ((nat_eq server x || late x) && serves_by i c x) ≡ false
    by (inl e) = and_none (nat_eq server x || late x) (serves_by i c x) (ap (serves_by i c) (sym e) ∙ other)
      where
        and_none : (a b : Bool) → b ≡ false → (a && b) ≡ false
        and_none true b h = h
        and_none false b h = refl
    by (inr ne) = ap (λ b. (b || late x) && serves_by i c x) (test_ne server x ne) ∙ h

pub of_channel-settled : (i : Inheritance) (kept kept' : List Facts) (c server : ℕ) (late : ℕ → Bool)
    → ((some : ℕ → Bool) → AreRightBut (or_at some (Some server)) i kept → AreRightBut some i kept')
    → AreRightBut (of_channel i c (or_at late (Some server))) i kept → AreRightBut (of_channel i c late) i kept'
of_channel-settled i kept kept' c server late settles right = settles (of_channel i c late) (λ x h. right x (by x (cases_eq server x) h))
  where
    by : (x : ℕ) → ((server ≡ x) ⊎ (server ≢ x)) → (nat_eq server x || (late x && serves_by i c x)) ≡ false
        → ((nat_eq server x || late x) && serves_by i c x) ≡ false
    by x (inl e) h = absurd (both (sym (ap (λ b. b || (late x && serves_by i c x)) (test_eq server x e)) ∙ h))
      where
        both : true ≡ false → ⊥
        both e = cc
    by x (inr ne) h =
        ap (λ b. (b || late x) && serves_by i c x) (test_ne server x ne)
        ∙ sym (ap (λ b. b || (late x && serves_by i c x)) (test_ne server x ne))
        ∙ h

-- ---- the start

pub right-first : (i : Inheritance) (kept : List Facts) → i.triples ≡ []
    → ((x : ℕ) → kept_at kept x ≡ slice_index_or i.own x no_facts) → AreRightBut nobody i kept
right-first i kept none own x h = own x ∙ sym (by_triple i kept x None (ap (λ l. triple_of l x) none))

client_either : (t : Triple) (b : Bool) (p : Option ℕ) (q : Option Triple) → p ≡ client_in q
    → cond b (Some t.client) p ≡ client_in (cond b (Some t) q)
client_either t true p q e = refl
client_either t false p q e = e

-- the client of a thread's triple
pub client_of-triple : (ts : List Triple) (x : ℕ) (o : Option Triple) → triple_of ts x ≡ o → client_of ts x ≡ client_in o
client_of-triple [] x o e = ap client_in e
client_of-triple (t ∷ older) x o e =
    client_either t (nat_eq t.server x) (client_of older x) (triple_of older x) (client_of-triple older x (triple_of older x) refl)
    ∙ ap client_in e

-- ---- the ends of the walks

pub all_settled : (i : Inheritance) (kept : List Facts) (next : Option ℕ) (late : ℕ → Bool) → next ≡ None
    → AreRightBut (or_at late next) i kept → AreRightBut late i kept
all_settled i kept next late e right = let P : Option ℕ → Type 0 = λ o. AreRightBut (or_at late o) i kept in subst P e right

pub channel_settled : (i : Inheritance) (kept : List Facts) (c : ℕ) (next : Option ℕ) → next ≡ None
    → AreRightBut (of_channel i c (has (rest_of (servers i.triples) next))) i kept → AreRightBut nobody i kept
channel_settled i kept c next e right =
    let P : Option ℕ → Type 0 = λ o. AreRightBut (of_channel i c (has (rest_of (servers i.triples) o))) i kept in
    let done : AreRightBut (of_channel i c (has [])) i kept = subst P e right in
    λ x h. done x refl
