-- The records of waiting messages: there is room for one more, and what a message that comes or goes leaves of them.
use Rattle.std.proofs.Common.{◌≡◌, ◌≢◌, ℕ, suc, ◌+◌, ◌<◌, ◌≤◌, List, [], ◌∷◌, ◌++◌, length, map, refl, sym, ◌∙◌, ap, subst, Bool, true, false, nat_eq, Option, Some, None, is_some, count_by, slice_set, get_or, replicate, cond, arith, inl, inr}
use Rattle.std.proofs.lemmas.List.{get_or-set_same, get_or-set_other}
use Rattle.std.proofs.lemmas.List.Sums.{sum_by-cons}
use Rattle.std.proofs.lemmas.Bool.{cases_eq}
use Rattle.slab.specs.Slab.{HasRoomFor, Updates, get}
use Rattle.laws_runs.specs.Waits.{one_if, times, times_sent}
use Rattle.laws_runs.proofs.WaitFacts.{test_eq, test_ne}
use Rattle.laws_runs.proofs.WaitMoves.{times-append}
use Rattle.aps_channel.specs.declared.waiting.MessageRecord.{MessageRecord}
use Rattle.aps_channel.specs.Lines.{IsInNone, Lines, queue_line_at, with_line, without}
use Rattle.aps_channel.specs.Queues.{Records, message_in, message_of, sender_at}
use Rattle.aps_channel.specs.Records.{AreRecords, Stands, is_kept}
use Rattle.aps_channel.proofs.Counts.{few_distinct, one_same, times-without}
use Rattle.aps_channel.proofs.Queues.{line_none}

-- ---- the senders of all records

abbrev sender_in : Option MessageRecord → ℕ
sender_in o = (message_in o).sender

abbrev slot : List (Option MessageRecord) → ℕ → Option MessageRecord
slot os k = get_or os k None

abbrev senders_of : List (Option MessageRecord) → List ℕ
senders_of [] = []
senders_of (None ∷ rest) = senders_of rest
senders_of (Some r ∷ rest) = r.sender ∷ senders_of rest

length-senders : (os : List (Option MessageRecord)) → length (senders_of os) ≡ count_by is_some os
length-senders [] = refl
length-senders (None ∷ rest) = omega (arith, length-senders rest, sum_by-cons (λ (o : Option MessageRecord). cond (is_some o) 1 0) None rest)
length-senders (Some r ∷ rest) = omega (arith, length-senders rest, sum_by-cons (λ (o : Option MessageRecord). cond (is_some o) 1 0) (Some r) rest)

-- the record of a sender
pub record IsFrom (os : List (Option MessageRecord)) (y : ℕ) : Type 0 where
  pub key : ℕ
  pub there : is_some (slot os key) ≡ true
  pub from : sender_in (slot os key) ≡ y

sender_there : (os : List (Option MessageRecord)) (y : ℕ) → 1 ≤ times y (senders_of os) → IsFrom os y
sender_there [] y l = absurd (omega (arith, l))
sender_there (None ∷ rest) y l = let f = sender_there rest y l in record { key = suc f.key; there = f.there; from = f.from }
sender_there (Some r ∷ rest) y l = elim (cases_eq r.sender y) [
  | inl e ↦ record { key = 0; there = refl; from = e }
  | inr ne ↦
      let f = sender_there rest y (omega (arith, l, ap one_if (test_ne r.sender y ne))) in
      record { key = suc f.key; there = f.there; from = f.from }
]

-- each record is of another thread
abbrev AreOthers : List (Option MessageRecord) → Type 0
AreOthers os = (j k : ℕ) → is_some (slot os j) ≡ true → is_some (slot os k) ≡ true → sender_in (slot os j) ≡ sender_in (slot os k) → j ≡ k

others_behind : (o : Option MessageRecord) (os : List (Option MessageRecord)) → AreOthers (o ∷ os) → AreOthers os
others_behind o os others j k here there same = let e = others (suc j) (suc k) here there same in omega (arith, e)

sender_once : (os : List (Option MessageRecord)) (y : ℕ) → AreOthers os → times y (senders_of os) ≤ 1
sender_once [] y others = omega arith
sender_once (None ∷ rest) y others = sender_once rest y (others_behind None rest others)
sender_once (Some r ∷ rest) y others = elim (cases_eq r.sender y) [
  | inl e ↦ elim (cases_eq (times y (senders_of rest)) 0) [
    | inl none ↦ omega (arith, none, ap one_if (test_eq r.sender y e))
    | inr some ↦ absurd (let f = sender_there rest y (omega (arith, some)) in let z = others 0 (suc f.key) refl f.there (e ∙ sym f.from) in omega (arith, z))
  ]
  | inr ne ↦ let o = sender_once rest y (others_behind (Some r) rest others) in omega (arith, o, ap one_if (test_ne r.sender y ne))
]

-- ---- a thread of which no message waits

abbrev pub IsUnsent : Records → ℕ → Type 0
IsUnsent rs x = (k : ℕ) → is_kept rs k ≡ true → sender_at rs k ≢ x

sent_by_key : (rs : Records) (k : ℕ) (xs : List ℕ) → 1 ≤ times k xs → 1 ≤ times_sent (sender_at rs k) (map (message_of rs) xs)
sent_by_key rs k [] l = absurd (omega (arith, l))
sent_by_key rs k (y ∷ ys) l = elim (cases_eq y k) [
  | inl e ↦ omega (arith, ap one_if (test_eq (sender_at rs y) (sender_at rs k) (ap (sender_at rs) e)))
  | inr ne ↦ let rest = sent_by_key rs k ys (omega (arith, l, ap one_if (test_ne y k ne))) in omega (arith, rest)
]

pub unsent : (arrivals : Lines) (rs : Records) (threads x : ℕ) → AreRecords arrivals rs threads
    → ((d : ℕ) → times_sent x (map (message_of rs) (queue_line_at arrivals.lines d)) ≡ 0) → IsUnsent rs x
unsent arrivals rs threads x are free k is e =
    let at = are.stands k is in
    let some = sent_by_key rs k (queue_line_at arrivals.lines at.channel) at.there in
    let none = subst (λ y. times_sent y (map (message_of rs) (queue_line_at arrivals.lines at.channel)) ≡ 0) (sym e) (free at.channel) in
    omega (arith, some, none)

-- there is room for its message
pub room_for : (arrivals : Lines) (rs : Records) (threads x : ℕ) → AreRecords arrivals rs threads → x < threads → IsUnsent rs x → HasRoomFor rs 1
room_for arrivals rs threads x are lt new =
    let few = few_distinct threads (x ∷ senders_of rs.slots) within once in
    omega (arith, few, length-senders rs.slots, are.room)
  where
    within : (y : ℕ) → 1 ≤ times y (x ∷ senders_of rs.slots) → y < threads
    within y l = elim (cases_eq x y) [
      | inl e ↦ subst (λ k. k < threads) e lt
      | inr ne ↦
          let f = sender_there rs.slots y (omega (arith, l, ap one_if (test_ne x y ne))) in
          subst (λ k. k < threads) f.from (are.senders f.key f.there)
    ]

    once : (y : ℕ) → times y (x ∷ senders_of rs.slots) ≤ 1
    once y = elim (cases_eq x y) [
      | inl e ↦ elim (cases_eq (times y (senders_of rs.slots)) 0) [
        | inl none ↦ omega (arith, none, ap one_if (test_eq x y e))
        | inr some ↦ absurd (let f = sender_there rs.slots y (omega (arith, some)) in new f.key f.there (f.from ∙ sym e))
      ]
      | inr ne ↦ let o = sender_once rs.slots y are.apart in omega (arith, o, ap one_if (test_ne x y ne))
    ]

-- ---- keys

vacant_or_kept : {t : Bool} → t ≡ false → t ≡ true → ⊥
vacant_or_kept {t} p q = cc

-- a vacant key stands in no line
pub free_key : (arrivals : Lines) (rs : Records) (threads key : ℕ) → AreRecords arrivals rs threads → get rs key ≡ None → IsInNone arrivals key
free_key arrivals rs threads key are vacant q = elim (cases_eq (times key (queue_line_at arrivals.lines q)) 0) [
  | inl none ↦ none
  | inr some ↦ absurd (vacant_or_kept (ap is_some vacant) (are.kept q key (omega (arith, some))))
]

line_turned : (arrivals : Lines) (c d : ℕ) (line : List ℕ) → c < length arrivals.lines
    → queue_line_at (slice_set arrivals.lines c line) d ≡ cond (nat_eq d c) line (queue_line_at arrivals.lines d)
line_turned arrivals c d line lt = elim (cases_eq d c) [
  | inl e ↦
      ap (λ k. queue_line_at (slice_set arrivals.lines c line) k) e ∙ get_or-set_same arrivals.lines c line [] lt
      ∙ sym (ap (λ t. cond t line (queue_line_at arrivals.lines d)) (test_eq d c e))
  | inr ne ↦ get_or-set_other arrivals.lines c d line [] ne ∙ sym (ap (λ t. cond t line (queue_line_at arrivals.lines d)) (test_ne d c ne))
]

-- what is counted in a line, after another stands in its place
times_turned : (arrivals : Lines) (c d k : ℕ) (line : List ℕ) → c < length arrivals.lines
    → times k (queue_line_at (slice_set arrivals.lines c line) d) ≡ cond (nat_eq d c) (times k line) (times k (queue_line_at arrivals.lines d))
times_turned arrivals c d k line lt = ap (times k) (line_turned arrivals c d line lt) ∙ by_test (nat_eq d c)
  where
    by_test : (t : Bool) → times k (cond t line (queue_line_at arrivals.lines d)) ≡ cond t (times k line) (times k (queue_line_at arrivals.lines d))
    by_test true = refl
    by_test false = refl

-- ---- a message comes

pub records_more : (arrivals : Lines) (rs rs' : Records) (threads c x : ℕ) (r : MessageRecord) → AreRecords arrivals rs threads → c < length arrivals.lines
    → r.sender < threads → IsUnsent rs r.sender → Updates rs rs' x (Some r) → rs'.capacity ≡ rs.capacity
    → AreRecords (with_line arrivals c (queue_line_at arrivals.lines c ++ x ∷ [])) rs' threads
records_more arrivals rs rs' threads c x r are lt small new up room = record {
  room = subst (λ n. threads ≤ n) (sym room) are.room;
  keys = subst (λ n. n ≤ arrivals.numbers) (sym room) are.keys;
  few = are.few;
  senders = senders;
  apart = apart;
  stands = stands;
  kept = kept;
}
  where
    mine : (k : ℕ) → k ≡ x → get rs' k ≡ Some r
    mine k e = ap (get rs') e ∙ up.changed

    others : (k : ℕ) → k ≢ x → is_kept rs' k ≡ true → is_kept rs k ≡ true
    others k ne is = ap is_some (sym (up.others k ne)) ∙ is

    sender_other : (k : ℕ) → k ≢ x → sender_at rs' k ≡ sender_at rs k
    sender_other k ne = ap sender_in (up.others k ne)

    senders : (k : ℕ) → is_kept rs' k ≡ true → sender_at rs' k < threads
    senders k is = elim (cases_eq k x) [
      | inl e ↦ subst (λ o. sender_in o < threads) (sym (mine k e)) small
      | inr ne ↦ subst (λ n. n < threads) (sym (sender_other k ne)) (are.senders k (others k ne is))
    ]

    apart : (j k : ℕ) → is_kept rs' j ≡ true → is_kept rs' k ≡ true → sender_at rs' j ≡ sender_at rs' k → j ≡ k
    apart j k isj isk same = elim (cases_eq j x) [
      | inl ej ↦ elim (cases_eq k x) [
        | inl ek ↦ ej ∙ sym ek
        | inr nk ↦ absurd (new k (others k nk isk) (sym (sender_other k nk) ∙ sym same ∙ ap sender_in (mine j ej)))
      ]
      | inr nj ↦ elim (cases_eq k x) [
        | inl ek ↦ absurd (new j (others j nj isj) (sym (sender_other j nj) ∙ same ∙ ap sender_in (mine k ek)))
        | inr nk ↦ are.apart j k (others j nj isj) (others k nk isk) (sym (sender_other j nj) ∙ same ∙ sender_other k nk)
      ]
    ]

    line' : (d k : ℕ) → times k (queue_line_at (slice_set arrivals.lines c (queue_line_at arrivals.lines c ++ x ∷ [])) d)
        ≡ cond (nat_eq d c) (times k (queue_line_at arrivals.lines c) + one_if (nat_eq x k)) (times k (queue_line_at arrivals.lines d))
    line' d k =
        times_turned arrivals c d k (queue_line_at arrivals.lines c ++ x ∷ []) lt
        ∙ ap (λ n. cond (nat_eq d c) n (times k (queue_line_at arrivals.lines d))) (times-append k x (queue_line_at arrivals.lines c))

    stands : (k : ℕ) → is_kept rs' k ≡ true → Stands (with_line arrivals c (queue_line_at arrivals.lines c ++ x ∷ [])) k
    stands k is = elim (cases_eq k x) [
      | inl e ↦ record {
        channel = c;
        there = let l = line' c k ∙ ap (λ t. cond t (times k (queue_line_at arrivals.lines c) + one_if (nat_eq x k)) (times k (queue_line_at arrivals.lines c))) (test_eq c c refl) in
            omega (arith, l, ap one_if (test_eq x k (sym e)));
      }
      | inr ne ↦ let at = are.stands k (others k ne is) in record { channel = at.channel; there = longer at.channel k at.there }
    ]
      where
        longer : (d k : ℕ) → 1 ≤ times k (queue_line_at arrivals.lines d) → 1 ≤ times k (queue_line_at (slice_set arrivals.lines c (queue_line_at arrivals.lines c ++ x ∷ [])) d)
        longer d k l = elim (cases_eq d c) [
          | inl e ↦
              let a = line' d k ∙ ap (λ t. cond t (times k (queue_line_at arrivals.lines c) + one_if (nat_eq x k)) (times k (queue_line_at arrivals.lines d))) (test_eq d c e) in
              let b = ap (λ q. times k (queue_line_at arrivals.lines q)) e in
              omega (arith, a, b, l)
          | inr ne ↦
              let a = line' d k ∙ ap (λ t. cond t (times k (queue_line_at arrivals.lines c) + one_if (nat_eq x k)) (times k (queue_line_at arrivals.lines d))) (test_ne d c ne) in
              omega (arith, a, l)
        ]

    kept : (d k : ℕ) → 1 ≤ times k (queue_line_at (slice_set arrivals.lines c (queue_line_at arrivals.lines c ++ x ∷ [])) d) → is_kept rs' k ≡ true
    kept d k l = elim (cases_eq k x) [
      | inl e ↦ ap is_some (mine k e)
      | inr ne ↦ ap is_some (up.others k ne) ∙ elim (cases_eq d c) [
        | inl e ↦
            let a = line' d k ∙ ap (λ t. cond t (times k (queue_line_at arrivals.lines c) + one_if (nat_eq x k)) (times k (queue_line_at arrivals.lines d))) (test_eq d c e) in
            are.kept c k (omega (arith, a, l, ap one_if (test_ne x k (λ s. ne (sym s)))))
        | inr nd ↦
            let a = line' d k ∙ ap (λ t. cond t (times k (queue_line_at arrivals.lines c) + one_if (nat_eq x k)) (times k (queue_line_at arrivals.lines d))) (test_ne d c nd) in
            are.kept d k (omega (arith, a, l))
      ]
    ]

-- ---- it goes

pub records_less : (arrivals : Lines) (rs rs' : Records) (threads c x : ℕ) → AreRecords arrivals rs threads → c < length arrivals.lines
    → times x (queue_line_at arrivals.lines c) ≡ 1 → ((d : ℕ) → d ≢ c → times x (queue_line_at arrivals.lines d) ≡ 0) → Updates rs rs' x None → rs'.capacity ≡ rs.capacity
    → AreRecords (with_line arrivals c (without x (queue_line_at arrivals.lines c))) rs' threads
records_less arrivals rs rs' threads c x are lt once elsewhere up room = record {
  room = subst (λ n. threads ≤ n) (sym room) are.room;
  keys = subst (λ n. n ≤ arrivals.numbers) (sym room) are.keys;
  few = are.few;
  senders = λ k is. subst (λ n. n < threads) (sym (sender_other k (not_gone k is))) (are.senders k (others k is));
  apart = λ j k isj isk same.
      are.apart j k (others j isj) (others k isk) (sym (sender_other j (not_gone j isj)) ∙ same ∙ sender_other k (not_gone k isk));
  stands = λ k is. let at = are.stands k (others k is) in record { channel = at.channel; there = still at.channel k (not_gone k is) at.there };
  kept = kept;
}
  where
    not_gone : (k : ℕ) → is_kept rs' k ≡ true → k ≢ x
    not_gone k is e = vacant_or_kept (ap is_some (ap (get rs') e ∙ up.changed)) is

    others : (k : ℕ) → is_kept rs' k ≡ true → is_kept rs k ≡ true
    others k is = ap is_some (sym (up.others k (not_gone k is))) ∙ is

    sender_other : (k : ℕ) → k ≢ x → sender_at rs' k ≡ sender_at rs k
    sender_other k ne = ap sender_in (up.others k ne)

    line' : (d k : ℕ) → times k (queue_line_at (slice_set arrivals.lines c (without x (queue_line_at arrivals.lines c))) d)
        ≡ cond (nat_eq d c) (times k (without x (queue_line_at arrivals.lines c))) (times k (queue_line_at arrivals.lines d))
    line' d k = times_turned arrivals c d k (without x (queue_line_at arrivals.lines c)) lt

    one_less : (k : ℕ) → k ≢ x → times k (without x (queue_line_at arrivals.lines c)) ≡ times k (queue_line_at arrivals.lines c)
    one_less k ne = let a = times-without k x (queue_line_at arrivals.lines c) (omega (arith, once)) in omega (arith, a, ap one_if (test_ne x k (λ s. ne (sym s))))

    gone : times x (without x (queue_line_at arrivals.lines c)) ≡ 0
    gone = let a = times-without x x (queue_line_at arrivals.lines c) (omega (arith, once)) in omega (arith, a, once, one_same x)

    still : (d k : ℕ) → k ≢ x → 1 ≤ times k (queue_line_at arrivals.lines d) → 1 ≤ times k (queue_line_at (slice_set arrivals.lines c (without x (queue_line_at arrivals.lines c))) d)
    still d k ne l = elim (cases_eq d c) [
      | inl e ↦
          let a = line' d k ∙ ap (λ t. cond t (times k (without x (queue_line_at arrivals.lines c))) (times k (queue_line_at arrivals.lines d))) (test_eq d c e) in
          let b = ap (λ q. times k (queue_line_at arrivals.lines q)) e in
          let o = one_less k ne in
          omega (arith, a, b, o, l)
      | inr nd ↦
          let a = line' d k ∙ ap (λ t. cond t (times k (without x (queue_line_at arrivals.lines c))) (times k (queue_line_at arrivals.lines d))) (test_ne d c nd) in
          omega (arith, a, l)
    ]

    kept : (d k : ℕ) → 1 ≤ times k (queue_line_at (slice_set arrivals.lines c (without x (queue_line_at arrivals.lines c))) d) → is_kept rs' k ≡ true
    kept d k l = elim (cases_eq d c) [
      | inl e ↦
          let a = line' d k ∙ ap (λ t. cond t (times k (without x (queue_line_at arrivals.lines c))) (times k (queue_line_at arrivals.lines d))) (test_eq d c e) in
          elim (cases_eq k x) [
            | inl s ↦ absurd (let z = subst (λ j. times j (without x (queue_line_at arrivals.lines c)) ≡ 0) (sym s) gone in omega (arith, a, z, l))
            | inr ne ↦ ap is_some (up.others k ne) ∙ are.kept c k (let o = one_less k ne in omega (arith, a, o, l))
          ]
      | inr nd ↦
          let a = line' d k ∙ ap (λ t. cond t (times k (without x (queue_line_at arrivals.lines c))) (times k (queue_line_at arrivals.lines d))) (test_ne d c nd) in
          elim (cases_eq k x) [
            | inl s ↦ absurd (let z = subst (λ j. times j (queue_line_at arrivals.lines d) ≡ 0) (sym s) (elsewhere d nd) in omega (arith, a, z, l))
            | inr ne ↦ ap is_some (up.others k ne) ∙ are.kept d k (omega (arith, a, l))
          ]
    ]

-- ---- at the opening

pub records_at_opening : (arrivals : Lines) (rs : Records) (channels threads keys : ℕ) → arrivals ≡ record { lines = replicate channels []; numbers = keys } → rs.slots ≡ []
    → threads ≤ rs.capacity → keys ≡ rs.capacity → keys < 65536 → AreRecords arrivals rs threads
records_at_opening arrivals rs channels threads keys ea none room e few = record {
  room = room;
  keys = let n = ap (λ (a : Lines). a.numbers) ea in omega (arith, n, e);
  few = let n = ap (λ (a : Lines). a.numbers) ea in omega (arith, n, few);
  senders = λ k is. absurd (vacant_or_kept (vacant k) is);
  apart = λ j k isj isk same. absurd (vacant_or_kept (vacant j) isj);
  stands = λ k is. absurd (vacant_or_kept (vacant k) is);
  kept = λ c k l. absurd (let z = nobody c k in omega (arith, z, l));
}
  where
    vacant : (k : ℕ) → is_kept rs k ≡ false
    vacant k = ap (λ os. is_some (slot os k)) none

    nobody : (c k : ℕ) → times k (queue_line_at arrivals.lines c) ≡ 0
    nobody c k = ap (λ (a : Lines). times k (queue_line_at a.lines c)) ea ∙ ap (times k) (line_none channels c)
