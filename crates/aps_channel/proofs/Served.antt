-- The triples of a line of servers.
use Rattle.std.proofs.Common.{◌≡◌, ◌≢◌, ℕ, ◌+◌, ◌<◌, ◌≤◌, List, [], ◌∷◌, ◌++◌, length, map, reverse, refl, sym, ◌∙◌, ap, subst, Bool, true, false, cond, nat_eq, Option, Some, None, IsSome, is_some, slice_set, get_or, replicate, arith, inl, inr}
use Rattle.std.proofs.Math.ListN.{length-set}
use Rattle.std.proofs.lemmas.List.{get_or-replicate, get_or-set_same, get_or-set_other, get_or_past, get_or_read, length-replicate, reverse-append}
use Rattle.std.proofs.lemmas.Bool.{cases_eq, cases_lt, false≢true}
use Rattle.laws_runs.specs.Waits.{one_if, times}
use Rattle.laws_runs.proofs.WaitFacts.{test_eq, test_ne}
use Rattle.laws_runs.proofs.WaitMoves.{times-append}
use Rattle.aps_model.specs.Inherit.{client_of, without_server}
use Rattle.aps_model.specs.Limits.{last_thread}
use Rattle.aps_model.specs.SchedulerState.{Triple}
use Rattle.aps_channel.specs.declared.serving.Held.{Held}
use Rattle.aps_channel.specs.Lines.{IsInNone, Lines, queue_line_at, with_line, without}
use Rattle.aps_channel.specs.Serving.{IsServing, Serving, client_in, channel_in, held_at, held_triple, triples_of}
use Rattle.aps_channel.proofs.Counts.{ne_from_none, times-without, zero_test}

-- ---- one list of servers

turned : (y : ℕ) (ys : List ℕ) → reverse (y ∷ ys) ≡ reverse ys ++ y ∷ []
turned y ys = reverse-append (y ∷ []) ys

times-reverse : (x : ℕ) (xs : List ℕ) → times x (reverse xs) ≡ times x xs
times-reverse x [] = refl
times-reverse x (y ∷ ys) = ap (times x) (turned y ys) ∙ omega (arith, times-append x y (reverse ys), times-reverse x ys)

client_there : (held : List (Option Held)) (x : ℕ) (xs : List ℕ) → 1 ≤ times x xs → client_of (map (held_triple held) xs) x ≡ Some (client_in (held_at held x))
client_there held x [] some = absurd (omega (arith, some))
client_there held x (y ∷ ys) some = elim (cases_eq y x) [
  | inl e ↦
      ap (λ t. cond t (Some (client_in (held_at held y))) (client_of (map (held_triple held) ys) x)) (test_eq y x e) ∙ ap (λ k. Some (client_in (held_at held k))) e
  | inr ne ↦
      ap (λ t. cond t (Some (client_in (held_at held y))) (client_of (map (held_triple held) ys) x)) (test_ne y x ne)
      ∙ client_there held x ys (omega (arith, some, ap one_if (test_ne y x ne)))
]

no_client : (held : List (Option Held)) (x : ℕ) (xs : List ℕ) → times x xs ≡ 0 → client_of (map (held_triple held) xs) x ≡ None
no_client held x [] none = refl
no_client held x (y ∷ ys) none =
    ap (λ t. cond t (Some (client_in (held_at held y))) (client_of (map (held_triple held) ys) x)) (test_ne y x (ne_from_none x y ys none))
    ∙ no_client held x ys (omega (arith, none))

triples_same : (held : List (Option Held)) (x : ℕ) (h : Option Held) (xs : List ℕ) → times x xs ≡ 0 → map (held_triple (slice_set held x h)) xs ≡ map (held_triple held) xs
triples_same held x h [] none = refl
triples_same held x h (y ∷ ys) none =
    let here : held_triple (slice_set held x h) y ≡ held_triple held y =
    ap (λ (o : Option Held). let t : Triple = record { server = y; client = client_in o; channel = channel_in o } in t) (get_or-set_other held x y h None (ne_from_none x y ys none)) in
    ap (λ (t : Triple). t ∷ map (held_triple (slice_set held x h)) ys) here ∙ ap (λ ts. held_triple held y ∷ ts) (triples_same held x h ys (omega (arith, none)))

triples_without : (held : List (Option Held)) (x : ℕ) (xs : List ℕ) → map (held_triple held) (without x xs) ≡ without_server (map (held_triple held) xs) x
triples_without held x [] = refl
triples_without held x (y ∷ ys) = by_test (nat_eq y x) (triples_without held x ys)
  where
    by_test : (t : Bool) → map (held_triple held) (without x ys) ≡ without_server (map (held_triple held) ys) x
        → map (held_triple held) (cond t ys (y ∷ without x ys)) ≡ cond t (map (held_triple held) ys) (held_triple held y ∷ without_server (map (held_triple held) ys) x)
    by_test true e = refl
    by_test false e = ap (λ ts. held_triple held y ∷ ts) e

without-append : (x : ℕ) (xs ys : List ℕ) → 1 ≤ times x xs → without x (xs ++ ys) ≡ without x xs ++ ys
without-append x [] ys some = absurd (omega (arith, some))
without-append x (z ∷ zs) ys some = elim (cases_eq z x) [
  | inl e ↦
      ap (λ t. cond t (zs ++ ys) (z ∷ without x (zs ++ ys))) (test_eq z x e) ∙ sym (ap (λ t. cond t zs (z ∷ without x zs) ++ ys) (test_eq z x e))
  | inr ne ↦
      ap (λ t. cond t (zs ++ ys) (z ∷ without x (zs ++ ys))) (test_ne z x ne)
      ∙ ap (λ ws. z ∷ ws) (without-append x zs ys (omega (arith, some, ap one_if (test_ne z x ne))))
      ∙ sym (ap (λ t. cond t zs (z ∷ without x zs) ++ ys) (test_ne z x ne))
]

without-last : (x : ℕ) (xs : List ℕ) → times x xs ≡ 0 → without x (xs ++ x ∷ []) ≡ xs
without-last x [] none = ap (λ t. cond t [] (x ∷ [])) (test_eq x x refl)
without-last x (z ∷ zs) none =
    ap (λ t. cond t (zs ++ x ∷ []) (z ∷ without x (zs ++ x ∷ []))) (test_ne z x (ne_from_none x z zs none)) ∙ ap (λ ws. z ∷ ws) (without-last x zs (omega (arith, none)))

without-reverse : (x : ℕ) (xs : List ℕ) → 1 ≤ times x xs → times x xs ≤ 1 → reverse (without x xs) ≡ without x (reverse xs)
without-reverse x [] some once = refl
without-reverse x (y ∷ ys) some once = elim (cases_eq y x) [
  | inl e ↦
      let none : times x ys ≡ 0 = omega (arith, once, ap one_if (test_eq y x e)) in
      ap (λ t. reverse (cond t ys (y ∷ without x ys))) (test_eq y x e)
      ∙ sym (ap (without x) (turned y ys) ∙ ap (λ k. without x (reverse ys ++ k ∷ [])) e ∙ without-last x (reverse ys) (times-reverse x ys ∙ none))
  | inr ne ↦
      let more : 1 ≤ times x ys = omega (arith, some, ap one_if (test_ne y x ne)) in
      ap (λ t. reverse (cond t ys (y ∷ without x ys))) (test_ne y x ne)
      ∙ turned y (without x ys)
      ∙ ap (λ zs. zs ++ y ∷ []) (without-reverse x ys more (omega (arith, once)))
      ∙ sym (ap (without x) (turned y ys) ∙ without-append x (reverse ys) (y ∷ []) (let e = times-reverse x ys in omega (arith, e, more)))
]

-- ---- what contracts see

abbrev pub served : Lines → List (Option Held) → Serving
served servers held = record { triples = triples_of held (queue_line_at servers.lines 0); threads = servers.numbers }

same_serving : {ts ts' : List Triple} {n n' : ℕ} → ts ≡ ts' → n ≡ n' → ◌≡◌ {A = Serving} (record { triples = ts; threads = n }) (record { triples = ts'; threads = n' })
same_serving {ts} {ts'} {n} {n'} e f = cc

pub record AreServed (servers : Lines) (held : List (Option Held)) (s : Serving) : Type 0 where
  pub are : IsServing servers held
  pub same : served servers held ≡ s

pub below_held : (servers : Lines) (held : List (Option Held)) (s : Serving) (x x' : ℕ) → IsServing servers held → served servers held ≡ s → x' ≡ x → x < s.threads → x' < length held
below_held servers held s x x' are is e lt = subst (λ k. k < length held) (sym e) (subst (λ n. x < n) (sym are.size) (subst (λ (t : Serving). x < t.threads) (sym is) lt))

pub client_read : (servers : Lines) (held : List (Option Held)) (s : Serving) (x x' : ℕ) (h : Option Held) → IsServing servers held → served servers held ≡ s → x' ≡ x → x < s.threads
    → h ≡ get_or held x' h → client_of s.triples x ≡ cond (is_some h) (Some (client_in h)) None
client_read servers held s x x' h are is e lt read =
    let at : h ≡ held_at held x' = get_or_read held x' h (below_held servers held s x x' are is e lt) read None in
    subst (λ k. client_of s.triples k ≡ cond (is_some h) (Some (client_in h)) None) e
    (subst (λ (t : Serving). client_of t.triples x' ≡ cond (is_some h) (Some (client_in h)) None) is
    (by_held h at))
  where
    by_held : (o : Option Held) → o ≡ held_at held x' → client_of (triples_of held (queue_line_at servers.lines 0)) x' ≡ cond (is_some o) (Some (client_in o)) None
    by_held None at =
        no_client held x' (reverse (queue_line_at servers.lines 0)) (times-reverse x' (queue_line_at servers.lines 0) ∙ are.each x' ∙ ap (λ o. one_if (is_some o)) (sym at))
    by_held (Some g) at =
        client_there held x' (reverse (queue_line_at servers.lines 0))
        (let t = times-reverse x' (queue_line_at servers.lines 0) in let a = are.each x' ∙ ap (λ o. one_if (is_some o)) (sym at) in omega (arith, t, a))
        ∙ ap (λ o. Some (client_in o)) (sym at)

-- who serves nobody stands in no line
pub serves_none : (servers : Lines) (held : List (Option Held)) (s : Serving) (x x' : ℕ) → IsServing servers held → served servers held ≡ s → x' ≡ x → client_of s.triples x ≡ None → IsInNone servers x'
serves_none servers held s x x' are is e none q = elim (cases_lt q 1) [
  | inl lt ↦ subst (λ k. times x' (queue_line_at servers.lines k) ≡ 0) (let z : 0 ≡ q = omega (arith, lt) in z) here
  | inr ge ↦ ap (times x') (get_or_past servers.lines q [] (omega (arith, ge, are.one)))
]
  where
    none' : client_of (triples_of held (queue_line_at servers.lines 0)) x' ≡ None
    none' = subst (λ k. client_of (triples_of held (queue_line_at servers.lines 0)) k ≡ None) (sym e) (subst (λ (t : Serving). client_of t.triples x ≡ None) (sym is) none)

    here : times x' (queue_line_at servers.lines 0) ≡ 0
    here = elim (cases_eq (times x' (queue_line_at servers.lines 0)) 0) [
      | inl z ↦ z
      | inr nz ↦ absurd (clash (sym (client_there held x' (reverse (queue_line_at servers.lines 0)) (let t = times-reverse x' (queue_line_at servers.lines 0) in omega (arith, t, nz)))
          ∙ subst (λ k. client_of (triples_of held (queue_line_at servers.lines 0)) k ≡ None) (sym e) (subst (λ (t : Serving). client_of t.triples x ≡ None) (sym is) none)))
    ]
      where
        clash : {n : ℕ} → Some n ≡ None → ⊥
        clash {n} p = cc

pub begun : (servers servers' : Lines) (held : List (Option Held)) (s : Serving) (x x' y y' c c' : ℕ) → IsServing servers held → served servers held ≡ s → x' ≡ x → y' ≡ y → c' ≡ c → y' ≤ last_thread
    → x < s.threads → client_of s.triples x ≡ None → servers' ≡ with_line servers 0 (queue_line_at servers.lines 0 ++ x' ∷ [])
    → AreServed servers' (slice_set held x' (Some (record { client = y'; channel = c' }))) (record s { triples = (record { server = x; client = y; channel = c }) ∷ s.triples })
begun servers servers' held s x x' y y' c c' are is ex ey ec few lt none moved =
    let h : Option Held = Some (record { client = y'; channel = c' }) in
    let held' = slice_set held x' h in
    let line = queue_line_at servers.lines 0 in
    let S : Lines = with_line servers 0 (line ++ x' ∷ []) in
    let ltx = below_held servers held s x x' are is ex lt in
    let free = serves_none servers held s x x' are is ex none 0 in
    let one : 0 < length servers.lines = omega (arith, are.one) in
    let at_x : held_at held' x' ≡ h = get_or-set_same held x' h None ltx in
    let line' : queue_line_at S.lines 0 ≡ line ++ x' ∷ [] = get_or-set_same servers.lines 0 (line ++ x' ∷ []) [] one in
    let first : held_triple held' x' ≡ record { server = x'; client = y'; channel = c' } =
    ap (λ (o : Option Held). let t : Triple = record { server = x'; client = client_in o; channel = channel_in o } in t) at_x in
    let triples : triples_of held' (queue_line_at S.lines 0) ≡ (record { server = x'; client = y'; channel = c' }) ∷ triples_of held line =
    ap (triples_of held') line' ∙ ap (map (held_triple held')) (reverse-append line (x' ∷ []))
    ∙ ap (λ (t : Triple). t ∷ map (held_triple held') (reverse line)) first
    ∙ ap (λ ts. (record { server = x'; client = y'; channel = c' }) ∷ ts) (triples_same held x' h (reverse line) (times-reverse x' line ∙ free)) in
    let named : ◌≡◌ {A = Triple} (record { server = x'; client = y'; channel = c' }) (record { server = x; client = y; channel = c }) = same_triple ex ey ec in
    subst (λ a. AreServed a held' (record s { triples = (record { server = x; client = y; channel = c }) ∷ s.triples })) (sym moved)
    (subst (λ (t : Serving). AreServed S held' (record t { triples = (record { server = x; client = y; channel = c }) ∷ t.triples })) is
    (record {
      are = record {
        one = length-set servers.lines 0 (line ++ x' ∷ []) ∙ are.one;
        size = length-set held x' h ∙ are.size;
        each = λ z. ap (times z) line' ∙ each z ltx free;
        small = λ z. small z ltx;
      };
      same = same_serving (triples ∙ ap (λ (t : Triple). t ∷ triples_of held line) named) refl;
    }))
  where
    same_triple : {a a' b b' d d' : ℕ} → a ≡ a' → b ≡ b' → d ≡ d' → ◌≡◌ {A = Triple} (record { server = a; client = b; channel = d }) (record { server = a'; client = b'; channel = d' })
    same_triple {a} {a'} {b} {b'} {d} {d'} p q r = cc

    each : (z : ℕ) → x' < length held → times x' (queue_line_at servers.lines 0) ≡ 0
        → times z (queue_line_at servers.lines 0 ++ x' ∷ []) ≡ one_if (is_some (held_at (slice_set held x' (Some (record { client = y'; channel = c' }))) z))
    each z ltx free = elim (cases_eq z x') [
      | inl e ↦
          subst (λ k. times k (queue_line_at servers.lines 0 ++ x' ∷ []) ≡ one_if (is_some (held_at (slice_set held x' (Some (record { client = y'; channel = c' }))) k))) (sym e)
          (times-append x' x' (queue_line_at servers.lines 0) ∙ omega (arith, free, ap one_if (test_eq x' x' refl))
          ∙ sym (ap (λ o. one_if (is_some o)) (get_or-set_same held x' (Some (record { client = y'; channel = c' })) None ltx)))
      | inr ne ↦
          times-append z x' (queue_line_at servers.lines 0) ∙ omega (arith, ap one_if (test_ne x' z (λ s. ne (sym s)))) ∙ are.each z
          ∙ sym (ap (λ o. one_if (is_some o)) (get_or-set_other held x' z (Some (record { client = y'; channel = c' })) None ne))
    ]

    small : (z : ℕ) → x' < length held → client_in (held_at (slice_set held x' (Some (record { client = y'; channel = c' }))) z) ≤ last_thread
    small z ltx = elim (cases_eq z x') [
      | inl e ↦
          subst (λ k. client_in (held_at (slice_set held x' (Some (record { client = y'; channel = c' }))) k) ≤ last_thread) (sym e)
          (subst (λ o. client_in o ≤ last_thread) (sym (get_or-set_same held x' (Some (record { client = y'; channel = c' })) None ltx)) few)
      | inr ne ↦ subst (λ o. client_in o ≤ last_thread) (sym (get_or-set_other held x' z (Some (record { client = y'; channel = c' })) None ne)) (are.small z)
    ]

-- a server stands in the line, once
pub serves_once : (servers : Lines) (held : List (Option Held)) (s : Serving) (x x' : ℕ) → IsServing servers held → served servers held ≡ s → x' ≡ x → IsSome (client_of s.triples x)
    → times x' (queue_line_at servers.lines 0) ≡ 1
serves_once servers held s x x' are is e some = by_held (held_at held x') refl
  where
    nobody : client_of s.triples x ≡ None → ⊥
    nobody n = false≢true (subst IsSome n some)

    by_held : (o : Option Held) → held_at held x' ≡ o → times x' (queue_line_at servers.lines 0) ≡ 1
    by_held None at =
        absurd (nobody (subst (λ k. client_of s.triples k ≡ None) e (subst (λ (t : Serving). client_of t.triples x' ≡ None) is
        (no_client held x' (reverse (queue_line_at servers.lines 0)) (times-reverse x' (queue_line_at servers.lines 0) ∙ are.each x' ∙ ap (λ o. one_if (is_some o)) at)))))
    by_held (Some h) at = are.each x' ∙ ap (λ o. one_if (is_some o)) at

pub ended : (servers servers' : Lines) (held : List (Option Held)) (s : Serving) (x x' : ℕ) → IsServing servers held → served servers held ≡ s → x' ≡ x
    → x < s.threads → IsSome (client_of s.triples x) → servers' ≡ with_line servers 0 (without x' (queue_line_at servers.lines 0))
    → AreServed servers' (slice_set held x' None) (record s { triples = without_server s.triples x })
ended servers servers' held s x x' are is ex lt some moved =
    let held' = slice_set held x' None in
    let line = queue_line_at servers.lines 0 in
    let S : Lines = with_line servers 0 (without x' line) in
    let ltx = below_held servers held s x x' are is ex lt in
    let once = serves_once servers held s x x' are is ex some in
    let one : 0 < length servers.lines = omega (arith, are.one) in
    let gone : times x' (without x' line) ≡ 0 = let a = times-without x' x' line (omega (arith, once)) in omega (arith, a, once, ap one_if (test_eq x' x' refl)) in
    let line' : queue_line_at S.lines 0 ≡ without x' line = get_or-set_same servers.lines 0 (without x' line) [] one in
    let triples : triples_of held' (queue_line_at S.lines 0) ≡ without_server (triples_of held line) x' =
    ap (triples_of held') line' ∙ triples_same held x' None (reverse (without x' line)) (times-reverse x' (without x' line) ∙ gone)
    ∙ ap (map (held_triple held)) (without-reverse x' line (omega (arith, once)) (omega (arith, once))) ∙ triples_without held x' (reverse line) in
    subst (λ a. AreServed a held' (record s { triples = without_server s.triples x })) (sym moved)
    (subst (λ k. AreServed S held' (record s { triples = without_server s.triples k })) ex
    (subst (λ (t : Serving). AreServed S held' (record t { triples = without_server t.triples x' })) is
    (record {
      are = record {
        one = length-set servers.lines 0 (without x' line) ∙ are.one;
        size = length-set held x' None ∙ are.size;
        each = λ z. ap (times z) line' ∙ each z ltx once;
        small = λ z. small z ltx;
      };
      same = same_serving triples refl;
    })))
  where
    each : (z : ℕ) → x' < length held → times x' (queue_line_at servers.lines 0) ≡ 1
        → times z (without x' (queue_line_at servers.lines 0)) ≡ one_if (is_some (held_at (slice_set held x' None) z))
    each z ltx once = elim (cases_eq z x') [
      | inl e ↦
          subst (λ k. times k (without x' (queue_line_at servers.lines 0)) ≡ one_if (is_some (held_at (slice_set held x' None) k))) (sym e)
          ((let a = times-without x' x' (queue_line_at servers.lines 0) (omega (arith, once)) in omega (arith, a, once, ap one_if (test_eq x' x' refl)))
          ∙ sym (ap (λ o. one_if (is_some o)) (get_or-set_same held x' None None ltx)))
      | inr ne ↦
          (let a = times-without z x' (queue_line_at servers.lines 0) (omega (arith, once)) in omega (arith, a, ap one_if (test_ne x' z (λ s. ne (sym s))))) ∙ are.each z
          ∙ sym (ap (λ o. one_if (is_some o)) (get_or-set_other held x' z None None ne))
    ]

    small : (z : ℕ) → x' < length held → client_in (held_at (slice_set held x' None) z) ≤ last_thread
    small z ltx = elim (cases_eq z x') [
      | inl e ↦
          subst (λ k. client_in (held_at (slice_set held x' None) k) ≤ last_thread) (sym e)
          (subst (λ o. client_in o ≤ last_thread) (sym (get_or-set_same held x' None None ltx)) (omega arith))
      | inr ne ↦ subst (λ o. client_in o ≤ last_thread) (sym (get_or-set_other held x' z None None ne)) (are.small z)
    ]

-- ---- at the opening

held_none : (n x : ℕ) → held_at (replicate n None) x ≡ None
held_none n x = elim (cases_lt x n) [
  | inl lt ↦ get_or-replicate n x None None lt
  | inr ge ↦ let nobody : Option Held = None in get_or_past (replicate n nobody) x nobody (omega (arith, ge, length-replicate n nobody))
]

pub served_at_opening : (servers : Lines) (held : List (Option Held)) (threads : ℕ) → servers ≡ record { lines = replicate 1 []; numbers = threads } → held ≡ replicate threads None
    → AreServed servers held (record { triples = []; threads = threads })
served_at_opening servers held threads es eh =
    let S : Lines = record { lines = replicate 1 []; numbers = threads } in
    let nobody : Option Held = None in
    subst (λ a. AreServed a held (record { triples = []; threads = threads })) (sym es)
    (subst (λ h. AreServed S h (record { triples = []; threads = threads })) (sym eh)
    (record {
      are = record {
        one = refl;
        size = length-replicate threads nobody;
        each = λ x. sym (ap (λ o. one_if (is_some o)) (held_none threads x));
        small = λ x. subst (λ o. client_in o ≤ last_thread) (sym (held_none threads x)) (omega arith);
      };
      same = refl;
    }))
