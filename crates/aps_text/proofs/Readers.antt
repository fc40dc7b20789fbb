-- What a reader reads: the texts of its kind, each of them, and as far as a text of the kind goes.
use Rattle.std.proofs.Common.{◌≡◌, ℕ, Bool, true, false, cond, eqb, List, [], ◌∷◌, ◌++◌, Result, Ok, Err, refl, sym, ap, subst, ◌∙◌, ◌⊎◌, inl, inr, append_assoc}
use Rattle.std.proofs.lemmas.Bool.{cases_Bool, cond-true, cond-false, eqb-true, eqb-false, eq-eqb, ne_eqb}
use Rattle.std.proofs.lemmas.List.{append-nil}
use Rattle.aps_text.specs.Reader.{◌>>=◌, ReadResult, word_at, whole_word, after_byte, nothing_at}

-- a text of the kind begins so
pub record IsBegun {A : Type 0} (Spells : List ℕ → A → Type 0) (front : List ℕ) : Type 0 where
  pub text : List ℕ
  pub value : A
  pub more : List ℕ
  pub spells : Spells text value
  pub parts : text ≡ front ++ more

-- the reader came this far: what it left begins with a byte that fits nothing, whatever follows it
pub record IsStuck {A : Type 0} (read : List ℕ → ReadResult A) (Spells : List ℕ → A → Type 0) (bytes rest : List ℕ) : Type 0 where
  pub front : List ℕ
  pub parts : bytes ≡ front ++ rest
  pub begun : (front ≡ []) ⊎ IsBegun Spells front
  pub local : (x : ℕ) (xs ys : List ℕ) → rest ≡ x ∷ xs → read (front ++ x ∷ ys) ≡ Err (x ∷ ys)

-- a text of the kind, and the value that it stands for, at the front
pub record IsFront {A : Type 0} (Spells : List ℕ → A → Type 0) (bytes : List ℕ) (value : A) (rest : List ℕ) : Type 0 where
  pub text : List ℕ
  pub spells : Spells text value
  pub parts : bytes ≡ text ++ rest

pub record IsReader {A : Type 0} (read : List ℕ → ReadResult A) (Spells : List ℕ → A → Type 0) : Type 0 where
  pub again : (text : List ℕ) (value : A) (rest : List ℕ) → Spells text value → read (text ++ rest) ≡ Ok (value, rest)
  pub takes : (bytes : List ℕ) (value : A) (rest : List ℕ) → read bytes ≡ Ok (value, rest) → IsFront Spells bytes value rest
  pub stuck : (bytes rest : List ℕ) → read bytes ≡ Err rest → IsStuck read Spells bytes rest

-- some text is of the kind
abbrev pub IsInhabited : {A : Type 0} → (List ℕ → A → Type 0) → Type 0
IsInhabited {A} Spells = (text : List ℕ) × (value : A) × Spells text value

-- ---- equal readers and equal kinds

pub IsReader-same : {A : Type 0} (read twin : List ℕ → ReadResult A) (Spells : List ℕ → A → Type 0) → ((bytes : List ℕ) → read bytes ≡ twin bytes) → IsReader read Spells → IsReader twin Spells
IsReader-same read twin Spells same r = record {
  again = λ text value rest h. sym (same (text ++ rest)) ∙ r.again text value rest h;
  takes = λ bytes value rest e. r.takes bytes value rest (same bytes ∙ e);
  stuck = λ bytes rest e.
      let s = r.stuck bytes rest (same bytes ∙ e) in
      record { front = s.front; parts = s.parts; begun = s.begun; local = λ x xs ys h. sym (same (s.front ++ x ∷ ys)) ∙ s.local x xs ys h };
}

IsBegun-restated : {A : Type 0} (Spells Says : List ℕ → A → Type 0) (front : List ℕ) → ((text : List ℕ) (value : A) → Spells text value → Says text value) → (front ≡ []) ⊎ IsBegun Spells front → (front ≡ []) ⊎ IsBegun Says front
IsBegun-restated Spells Says front to (inl e) = inl e
IsBegun-restated Spells Says front to (inr b) = inr (record { text = b.text; value = b.value; more = b.more; spells = to b.text b.value b.spells; parts = b.parts })

pub IsReader-restated : {A : Type 0} (read : List ℕ → ReadResult A) (Spells Says : List ℕ → A → Type 0) → ((text : List ℕ) (value : A) → Spells text value → Says text value) → ((text : List ℕ) (value : A) → Says text value → Spells text value)
    → IsReader read Spells → IsReader read Says
IsReader-restated read Spells Says to from r = record {
  again = λ text value rest h. r.again text value rest (from text value h);
  takes = λ bytes value rest e.
      let t = r.takes bytes value rest e in
      record { text = t.text; spells = to t.text value t.spells; parts = t.parts };
  stuck = λ bytes rest e.
      let s = r.stuck bytes rest e in
      record { front = s.front; parts = s.parts; begun = IsBegun-restated Spells Says s.front to s.begun; local = s.local };
}

-- ---- what an answer says

abbrev done : {A : Type 0} → A × List ℕ → ReadResult A
done x = Ok x

abbrev left : {A : Type 0} → List ℕ → Result A (List ℕ)
left rest = Err rest

pair_is : {A : Type 0} (x y : A × List ℕ) → x ≡ y → (x.0 ≡ y.0) × (x.1 ≡ y.1)
pair_is {A} x y e = (ap (λ (p : A × List ℕ). p.0) e, ap (λ (p : A × List ℕ). p.1) e)

ok_is : {A : Type 0} (x y : A × List ℕ) → done x ≡ done y → x ≡ y
ok_is x y e = cc

pub ok_parts : {A : Type 0} (v : A) (bytes : List ℕ) (value : A) (rest : List ℕ) → done (v, bytes) ≡ done (value, rest) → (v ≡ value) × (bytes ≡ rest)
ok_parts v bytes value rest e = pair_is (v, bytes) (value, rest) (ok_is (v, bytes) (value, rest) e)

-- the step that an error came from
pub bind_err : {A B : Type 0} (r : Result A (List ℕ)) (f : A → Result B (List ℕ)) (rest : List ℕ) → (r >>= f) ≡ left rest → (r ≡ left rest) ⊎ ((x : A) × (r ≡ Ok x) × (f x ≡ left rest))
bind_err (Ok x) f rest e = inr (x, refl, e)
bind_err (Err d) f rest e = inl cc

-- the value of a step that did not fail
pub bind_ok : {A B : Type 0} (r : Result A (List ℕ)) (f : A → Result B (List ℕ)) (y : B) → (r >>= f) ≡ Ok y → (x : A) × (r ≡ Ok x) × (f x ≡ Ok y)
bind_ok (Ok x) f y e = (x, refl, e)
bind_ok (Err d) f y e = absurd cc

pub cons_is : (c d : ℕ) (cs ds : List ℕ) → c ≡ d → cs ≡ ds → c ∷ cs ≡ d ∷ ds
cons_is c d cs ds e f = cc

nil_apart : (front : List ℕ) (x : ℕ) (xs : List ℕ) → [] ≡ front ++ x ∷ xs → ⊥
nil_apart [] x xs e = cc
nil_apart (f ∷ fs) x xs e = cc

-- ---- nothing, and a value that no byte stands for

pub IsReader-nothing : {A : Type 0} → IsReader (nothing_at {A = A}) (λ text value. ⊥)
IsReader-nothing {A} = record {
  again = λ text value rest h. absurd h;
  takes = λ bytes value rest e. absurd cc;
  stuck = λ bytes rest e. record { front = []; parts = cc; begun = inl refl; local = λ x xs ys h. refl };
}

abbrev pub SpellsNothing : {A : Type 0} → A → List ℕ → A → Type 0
SpellsNothing v text value = (text ≡ []) × (value ≡ v)

pub IsReader-value : {A : Type 0} (v : A) → IsReader (λ (rest : List ℕ). Ok (v, rest)) (SpellsNothing v)
IsReader-value v = record {
  again = λ text value rest h. rw (h.0, h.1) refl;
  takes = λ bytes value rest e.
      let same = ok_parts v bytes value rest e in
      record { text = []; spells = (refl, sym same.0); parts = same.1 };
  stuck = λ bytes rest e. absurd cc;
}

-- ---- a byte that tells two kinds apart

-- each text has a first byte, and it is another one
abbrev pub BeginsOther : {A : Type 0} → ℕ → (List ℕ → A → Type 0) → Type 0
BeginsOther {A} byte Spells = (text : List ℕ) (value : A) → Spells text value → (c : ℕ) × (cs : List ℕ) × (text ≡ c ∷ cs) × (c ≡ byte → ⊥)

-- the texts behind the byte, and those of the other kind
abbrev pub SpellsAfter : {A : Type 0} → ℕ → (List ℕ → A → Type 0) → (List ℕ → A → Type 0) → List ℕ → A → Type 0
SpellsAfter byte Spells Other text value = ((s : List ℕ) × (text ≡ byte ∷ s) × Spells s value) ⊎ Other text value

at_byte : {A : Type 0} (byte : ℕ) (read other : List ℕ → ReadResult A) (cs : List ℕ) → after_byte byte read other (byte ∷ cs) ≡ read cs
at_byte byte read other cs = cond-true (eqb byte byte) (read cs) (other (byte ∷ cs)) (eq-eqb byte byte refl)

at_other : {A : Type 0} (byte : ℕ) (read other : List ℕ → ReadResult A) (c : ℕ) (cs : List ℕ) → (c ≡ byte → ⊥) → after_byte byte read other (c ∷ cs) ≡ other (c ∷ cs)
at_other byte read other c cs ne = cond-false (eqb c byte) (read cs) (other (c ∷ cs)) (ne_eqb c byte ne)

again_after : {A : Type 0} (byte : ℕ) (read other : List ℕ → ReadResult A) (Spells Other : List ℕ → A → Type 0) → IsReader read Spells → IsReader other Other → BeginsOther byte Other
    → (text : List ℕ) (value : A) (rest : List ℕ) → SpellsAfter byte Spells Other text value → after_byte byte read other (text ++ rest) ≡ Ok (value, rest)
again_after byte read other Spells Other r q apart text value rest (inl h) =
    rw h.1 (at_byte byte read other (h.0 ++ rest) ∙ r.again h.0 value rest h.2)
again_after byte read other Spells Other r q apart text value rest (inr h) =
    let first = apart text value h in
    let e : text ++ rest ≡ first.0 ∷ (first.1 ++ rest) = ap (λ (t : List ℕ). t ++ rest) first.2 in
    ap (after_byte byte read other) e ∙ at_other byte read other first.0 (first.1 ++ rest) first.3 ∙ ap other (sym e) ∙ q.again text value rest h

takes_after : {A : Type 0} (byte : ℕ) (read other : List ℕ → ReadResult A) (Spells Other : List ℕ → A → Type 0) → IsReader read Spells → IsReader other Other
    → (bytes : List ℕ) (value : A) (rest : List ℕ) → after_byte byte read other bytes ≡ Ok (value, rest) → IsFront (SpellsAfter byte Spells Other) bytes value rest
takes_after byte read other Spells Other r q [] value rest e =
    let t = q.takes [] value rest e in
    record { text = t.text; spells = inr t.spells; parts = t.parts }
takes_after byte read other Spells Other r q (c ∷ cs) value rest e =
    elim (cases_Bool (eqb c byte)) [
      | inl here ↦
          let t = r.takes cs value rest (sym (cond-true (eqb c byte) (read cs) (other (c ∷ cs)) here) ∙ e) in
          record { text = byte ∷ t.text; spells = inl (t.text, refl, t.spells); parts = cons_is c byte cs (t.text ++ rest) (eqb-true c byte here) t.parts }
      | inr not_here ↦
          let t = q.takes (c ∷ cs) value rest (sym (cond-false (eqb c byte) (read cs) (other (c ∷ cs)) not_here) ∙ e) in
          record { text = t.text; spells = inr t.spells; parts = t.parts }
    ]

-- where the other reader is stuck, its front begins with another byte, or what it left does
stays_other : {A : Type 0} (byte : ℕ) (read other : List ℕ → ReadResult A) (c : ℕ) (cs front rest : List ℕ) → (c ≡ byte → ⊥) → c ∷ cs ≡ front ++ rest
    → (x : ℕ) (xs ys : List ℕ) → rest ≡ x ∷ xs → after_byte byte read other (front ++ x ∷ ys) ≡ other (front ++ x ∷ ys)
stays_other byte read other c cs [] rest ne e x xs ys h =
    let first : c ∷ cs ≡ x ∷ xs = e ∙ h in
    let same : c ≡ x = cc in
    at_other byte read other x ys (λ at. ne (same ∙ at))
stays_other byte read other c cs (f ∷ fs) rest ne e x xs ys h =
    let same : c ≡ f = cc in
    at_other byte read other f (fs ++ x ∷ ys) (λ at. ne (same ∙ at))

begun_after : {A : Type 0} (byte : ℕ) (Spells Other : List ℕ → A → Type 0) (front : List ℕ) → IsInhabited Spells → (front ≡ []) ⊎ IsBegun Spells front → IsBegun (SpellsAfter byte Spells Other) (byte ∷ front)
begun_after byte Spells Other front some (inl e) =
    record { text = byte ∷ some.0; value = some.1; more = some.0; spells = inl (some.0, refl, some.2); parts = rw e refl }
begun_after byte Spells Other front some (inr b) =
    record { text = byte ∷ b.text; value = b.value; more = b.more; spells = inl (b.text, refl, b.spells); parts = ap (λ (t : List ℕ). byte ∷ t) b.parts }

begun_other : {A : Type 0} (byte : ℕ) (Spells Other : List ℕ → A → Type 0) (front : List ℕ) → (front ≡ []) ⊎ IsBegun Other front → (front ≡ []) ⊎ IsBegun (SpellsAfter byte Spells Other) front
begun_other byte Spells Other front (inl e) = inl e
begun_other byte Spells Other front (inr b) = inr (record { text = b.text; value = b.value; more = b.more; spells = inr b.spells; parts = b.parts })

stuck_after : {A : Type 0} (byte : ℕ) (read other : List ℕ → ReadResult A) (Spells Other : List ℕ → A → Type 0) → IsReader read Spells → IsInhabited Spells → IsReader other Other
    → (bytes rest : List ℕ) → after_byte byte read other bytes ≡ Err rest → IsStuck (after_byte byte read other) (SpellsAfter byte Spells Other) bytes rest
stuck_after byte read other Spells Other r some q [] rest e =
    let s = q.stuck [] rest e in
    record { front = s.front; parts = s.parts; begun = begun_other byte Spells Other s.front s.begun; local = λ x xs ys h. absurd (nil_apart s.front x xs (s.parts ∙ ap (λ (t : List ℕ). s.front ++ t) h)) }
stuck_after byte read other Spells Other r some q (c ∷ cs) rest e =
    elim (cases_Bool (eqb c byte)) [
      | inl here ↦
          let s = r.stuck cs rest (sym (cond-true (eqb c byte) (read cs) (other (c ∷ cs)) here) ∙ e) in
          record {
            front = byte ∷ s.front;
            parts = cons_is c byte cs (s.front ++ rest) (eqb-true c byte here) s.parts;
            begun = inr (begun_after byte Spells Other s.front some s.begun);
            local = λ x xs ys h. at_byte byte read other (s.front ++ x ∷ ys) ∙ s.local x xs ys h;
          }
      | inr not_here ↦
          let s = q.stuck (c ∷ cs) rest (sym (cond-false (eqb c byte) (read cs) (other (c ∷ cs)) not_here) ∙ e) in
          record {
            front = s.front;
            parts = s.parts;
            begun = begun_other byte Spells Other s.front s.begun;
            local = λ x xs ys h. stays_other byte read other c cs s.front rest (eqb-false c byte not_here) s.parts x xs ys h ∙ s.local x xs ys h;
          }
    ]

pub IsReader-after : {A : Type 0} (byte : ℕ) (read other : List ℕ → ReadResult A) (Spells Other : List ℕ → A → Type 0) → IsReader read Spells → IsInhabited Spells → IsReader other Other → BeginsOther byte Other
    → IsReader (after_byte byte read other) (SpellsAfter byte Spells Other)
IsReader-after byte read other Spells Other r some q apart = record {
  again = again_after byte read other Spells Other r q apart;
  takes = takes_after byte read other Spells Other r q;
  stuck = stuck_after byte read other Spells Other r some q;
}

-- ---- a word, and what follows it

abbrev pub SpellsBehind : {A : Type 0} → List ℕ → (List ℕ → A → Type 0) → List ℕ → A → Type 0
SpellsBehind word Spells text value = (s : List ℕ) × (text ≡ word ++ s) × Spells s value

word_is : {A : Type 0} (w : ℕ) (word : List ℕ) (read : List ℕ → ReadResult A) (bytes : List ℕ) → after_byte w (λ rest. word_at word rest >>= read) nothing_at bytes ≡ (word_at (w ∷ word) bytes >>= read)
word_is w word read [] = refl
word_is w word read (c ∷ cs) = bound (eqb c w) (word_at word cs) read (c ∷ cs) where
  bound : {A : Type 0} (b : Bool) (r : Result (List ℕ) (List ℕ)) (f : List ℕ → ReadResult A) (bytes : List ℕ) → cond b (r >>= f) (Err bytes) ≡ (cond b r (Err bytes) >>= f)
  bound true r f bytes = refl
  bound false r f bytes = refl

behind_to : {A : Type 0} (w : ℕ) (word : List ℕ) (Spells : List ℕ → A → Type 0) (text : List ℕ) (value : A) → SpellsAfter w (SpellsBehind word Spells) (λ t v. ⊥) text value → SpellsBehind (w ∷ word) Spells text value
behind_to w word Spells text value (inl h) = (h.2.0, h.1 ∙ ap (λ (t : List ℕ). w ∷ t) h.2.1, h.2.2)
behind_to w word Spells text value (inr h) = absurd h

pub IsReader-behind : {A : Type 0} (word : List ℕ) (read : List ℕ → ReadResult A) (Spells : List ℕ → A → Type 0) → IsReader read Spells → IsInhabited Spells → IsReader (λ (bytes : List ℕ). word_at word bytes >>= read) (SpellsBehind word Spells)
IsReader-behind [] read Spells r some =
    IsReader-restated read Spells (SpellsBehind [] Spells) (λ text value h. (text, refl, h)) (λ text value h. subst (λ (t : List ℕ). Spells t value) (sym h.1) h.2) r
IsReader-behind {A} (w ∷ word) read Spells r some =
    let inner : IsReader (λ (bytes : List ℕ). word_at word bytes >>= read) (SpellsBehind word Spells) = IsReader-behind word read Spells r some in
    let alive : IsInhabited (SpellsBehind word Spells) = (word ++ some.0, some.1, (some.0, refl, some.2)) in
    let by_byte = IsReader-after w (λ (bytes : List ℕ). word_at word bytes >>= read) nothing_at (SpellsBehind word Spells) (λ t v. ⊥) inner alive IsReader-nothing (λ text value h. absurd h) in
    IsReader-same _ _ _ (word_is w word read)
    (IsReader-restated _ _ (SpellsBehind (w ∷ word) Spells) (behind_to w word Spells) (λ text value h. inl (word ++ h.0, h.1, (h.0, refl, h.2))) by_byte)

-- ---- a word that stands for a value

abbrev pub SpellsWord : {A : Type 0} → List ℕ → A → List ℕ → A → Type 0
SpellsWord word v text value = (text ≡ word) × (value ≡ v)

pub IsReader-word : {A : Type 0} (word : List ℕ) (v : A) → IsReader (whole_word word v) (SpellsWord word v)
IsReader-word word v =
    IsReader-restated (whole_word word v) (SpellsBehind word (SpellsNothing v)) (SpellsWord word v)
    (λ text value h. (h.1 ∙ ap (λ (t : List ℕ). word ++ t) h.2.0 ∙ append-nil word, h.2.1))
    (λ text value h. ([], h.0 ∙ sym (append-nil word), (refl, h.1)))
    (IsReader-behind word (λ (rest : List ℕ). Ok (v, rest)) (SpellsNothing v) (IsReader-value v) ([], v, (refl, refl)))

-- ---- one reader after the other

abbrev pub SpellsBoth : {A B : Type 0} → (List ℕ → A → Type 0) → (A → List ℕ → B → Type 0) → List ℕ → B → Type 0
SpellsBoth {A} {B} First Second text value = (s : List ℕ) × (u : List ℕ) × (a : A) × (text ≡ s ++ u) × First s a × Second a u value

takes_both : {A B : Type 0} (first : List ℕ → ReadResult A) (second : A × List ℕ → ReadResult B) (First : List ℕ → A → Type 0) (Second : A → List ℕ → B → Type 0) → IsReader first First → ((a : A) → IsReader (λ (bytes : List ℕ). second (a, bytes)) (Second a))
    → (bytes : List ℕ) (value : B) (rest : List ℕ) → (first bytes >>= second) ≡ Ok (value, rest) → IsFront (SpellsBoth First Second) bytes value rest
takes_both first second First Second r q bytes value rest e =
    let x = bind_ok (first bytes) second (value, rest) e in
    let t = r.takes bytes x.0.0 x.0.1 x.1 in
    let u = (q x.0.0).takes x.0.1 value rest x.2 in
    record {
      text = t.text ++ u.text;
      spells = (t.text, u.text, x.0.0, refl, t.spells, u.spells);
      parts = t.parts ∙ ap (λ (s : List ℕ). t.text ++ s) u.parts ∙ sym (append_assoc t.text u.text rest);
    }

again_both : {A B : Type 0} (first : List ℕ → ReadResult A) (second : A × List ℕ → ReadResult B) (First : List ℕ → A → Type 0) (Second : A → List ℕ → B → Type 0) → IsReader first First → ((a : A) → IsReader (λ (bytes : List ℕ). second (a, bytes)) (Second a))
    → (text : List ℕ) (value : B) (rest : List ℕ) → SpellsBoth First Second text value → (first (text ++ rest) >>= second) ≡ Ok (value, rest)
again_both {A = A} first second First Second r q text value rest (s, u, a, parts, h, k) =
    let e : text ++ rest ≡ s ++ (u ++ rest) = ap (λ (t : List ℕ). t ++ rest) parts ∙ append_assoc s u rest in
    ap (λ (t : List ℕ). first t >>= second) e ∙ ap (λ (x : ReadResult A). x >>= second) (r.again s a (u ++ rest) h) ∙ (q a).again u value rest k

begun_first : {A B : Type 0} (First : List ℕ → A → Type 0) (Second : A → List ℕ → B → Type 0) (front : List ℕ) → ((a : A) → IsInhabited (Second a)) → (front ≡ []) ⊎ IsBegun First front → (front ≡ []) ⊎ IsBegun (SpellsBoth First Second) front
begun_first First Second front some (inl e) = inl e
begun_first First Second front some (inr b) =
    let more = some b.value in
    inr (record {
      text = b.text ++ more.0;
      value = more.1;
      more = b.more ++ more.0;
      spells = (b.text, more.0, b.value, refl, b.spells, more.2);
      parts = ap (λ (t : List ℕ). t ++ more.0) b.parts ∙ append_assoc front b.more more.0;
    })

begun_second : {A B : Type 0} (First : List ℕ → A → Type 0) (Second : A → List ℕ → B → Type 0) (text front : List ℕ) (a : A) → First text a → IsInhabited (Second a) → (front ≡ []) ⊎ IsBegun (Second a) front → IsBegun (SpellsBoth First Second) (text ++ front)
begun_second First Second text front a h some (inl e) =
    record { text = text ++ some.0; value = some.1; more = some.0; spells = (text, some.0, a, refl, h, some.2); parts = rw e (rw append-nil refl) }
begun_second First Second text front a h some (inr b) =
    record { text = text ++ b.text; value = b.value; more = b.more; spells = (text, b.text, a, refl, h, b.spells); parts = ap (λ (t : List ℕ). text ++ t) b.parts ∙ sym (append_assoc text front b.more) }

stuck_both : {A B : Type 0} (first : List ℕ → ReadResult A) (second : A × List ℕ → ReadResult B) (First : List ℕ → A → Type 0) (Second : A → List ℕ → B → Type 0) → IsReader first First → ((a : A) → IsReader (λ (bytes : List ℕ). second (a, bytes)) (Second a)) → ((a : A) → IsInhabited (Second a))
    → (bytes rest : List ℕ) → (first bytes >>= second) ≡ Err rest → IsStuck (λ (bs : List ℕ). first bs >>= second) (SpellsBoth First Second) bytes rest
stuck_both {A = A} first second First Second r q some bytes rest e =
    elim (bind_err (first bytes) second rest e) [
      | inl here ↦
          let s = r.stuck bytes rest here in
          record {
            front = s.front;
            parts = s.parts;
            begun = begun_first First Second s.front some s.begun;
            local = λ x xs ys h. ap (λ (x : ReadResult A). x >>= second) (s.local x xs ys h);
          }
      | inr (x, here, there) ↦
          let t = r.takes bytes x.0 x.1 here in
          let s = (q x.0).stuck x.1 rest there in
          record {
            front = t.text ++ s.front;
            parts = t.parts ∙ ap (λ (u : List ℕ). t.text ++ u) s.parts ∙ sym (append_assoc t.text s.front rest);
            begun = inr (begun_second First Second t.text s.front x.0 t.spells (some x.0) s.begun);
            local = λ y xs ys h.
                let grouped : (t.text ++ s.front) ++ y ∷ ys ≡ t.text ++ (s.front ++ y ∷ ys) = append_assoc t.text s.front (y ∷ ys) in
                ap (λ (u : List ℕ). first u >>= second) grouped ∙ ap (λ (x : ReadResult A). x >>= second) (r.again t.text x.0 (s.front ++ y ∷ ys) t.spells) ∙ s.local y xs ys h;
          }
    ]

pub IsReader-both : {A B : Type 0} (first : List ℕ → ReadResult A) (second : A × List ℕ → ReadResult B) (First : List ℕ → A → Type 0) (Second : A → List ℕ → B → Type 0) → IsReader first First → ((a : A) → IsReader (λ (bytes : List ℕ). second (a, bytes)) (Second a)) → ((a : A) → IsInhabited (Second a))
    → IsReader (λ (bytes : List ℕ). first bytes >>= second) (SpellsBoth First Second)
IsReader-both first second First Second r q some = record {
  again = again_both first second First Second r q;
  takes = takes_both first second First Second r q;
  stuck = stuck_both first second First Second r q some;
}

-- a reader of a kind that has a text
pub record IsLive {A : Type 0} (read : List ℕ → ReadResult A) (Spells : List ℕ → A → Type 0) : Type 0 where
  pub reader : IsReader read Spells
  pub some : IsInhabited Spells

pub IsLive-value : {A : Type 0} (v : A) → IsLive (λ (rest : List ℕ). Ok (v, rest)) (SpellsNothing v)
IsLive-value v = record { reader = IsReader-value v; some = ([], v, (refl, refl)) }

pub IsLive-both : {A B : Type 0} (first : List ℕ → ReadResult A) (second : A × List ℕ → ReadResult B) (First : List ℕ → A → Type 0) (Second : A → List ℕ → B → Type 0) → IsLive first First → ((a : A) → IsLive (λ (bytes : List ℕ). second (a, bytes)) (Second a))
    → IsLive (λ (bytes : List ℕ). first bytes >>= second) (SpellsBoth First Second)
IsLive-both first second First Second r q =
    let next = q r.some.1 in
    record {
      reader = IsReader-both first second First Second r.reader (λ a. (q a).reader) (λ a. (q a).some);
      some = (r.some.0 ++ next.some.0, next.some.1, (r.some.0, next.some.0, r.some.1, refl, r.some.2, next.some.2));
    }

-- ---- a reader whose value is changed

abbrev pub SpellsMade : {A B : Type 0} → (A → B) → (List ℕ → A → Type 0) → List ℕ → B → Type 0
SpellsMade {A} {B} make Spells text value = (a : A) × Spells text a × (value ≡ make a)

pub IsReader-made : {A B : Type 0} (make : A → B) (read : List ℕ → ReadResult A) (Spells : List ℕ → A → Type 0) → IsReader read Spells → IsReader (λ (bytes : List ℕ). read bytes >>= λ x. Ok (make x.0, x.1)) (SpellsMade make Spells)
IsReader-made {A = A} {B = B} make read Spells r =
    let second : A × List ℕ → ReadResult B = λ x. Ok (make x.0, x.1) in
    let Second : A → List ℕ → B → Type 0 = λ a. SpellsNothing (make a) in
    IsReader-restated (λ (bytes : List ℕ). read bytes >>= second) (SpellsBoth Spells Second) (SpellsMade make Spells)
    (λ text value h. (h.2, subst (λ (t : List ℕ). Spells t h.2) (sym (h.3 ∙ ap (λ (u : List ℕ). h.0 ++ u) h.5.0 ∙ append-nil h.0)) h.4, h.5.1))
    (λ text value h. (text, [], h.0, sym (append-nil text), h.1, (refl, h.2)))
    (IsReader-both read second Spells Second r (λ a. IsReader-value (make a)) (λ a. ([], make a, (refl, refl))))

-- ---- other first bytes

pub after_begins_other : {A : Type 0} (byte first : ℕ) (Spells Other : List ℕ → A → Type 0) → (first ≡ byte → ⊥) → BeginsOther byte Other → BeginsOther byte (SpellsAfter first Spells Other)
after_begins_other byte first Spells Other ne apart text value (inl h) = (first, h.0, h.1, ne)
after_begins_other byte first Spells Other ne apart text value (inr h) = apart text value h

pub word_begins_other : {A : Type 0} (byte c : ℕ) (cs : List ℕ) (v : A) → (c ≡ byte → ⊥) → BeginsOther byte (SpellsWord (c ∷ cs) v)
word_begins_other byte c cs v ne text value h = (c, cs, h.0, ne)

pub behind_begins_other : {A : Type 0} (byte c : ℕ) (cs : List ℕ) (Spells : List ℕ → A → Type 0) → (c ≡ byte → ⊥) → BeginsOther byte (SpellsBehind (c ∷ cs) Spells)
behind_begins_other byte c cs Spells ne text value h = (c, cs ++ h.0, h.1, ne)

pub nothing_begins_other : {A : Type 0} (byte : ℕ) → BeginsOther {A = A} byte (λ text value. ⊥)
nothing_begins_other byte text value h = absurd h

pub made_begins_other : {A B : Type 0} (byte : ℕ) (make : A → B) (Spells : List ℕ → A → Type 0) → BeginsOther byte Spells → BeginsOther byte (SpellsMade make Spells)
made_begins_other byte make Spells apart text value h = apart text h.0 h.1
