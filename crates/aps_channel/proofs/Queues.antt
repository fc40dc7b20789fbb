-- What a message that comes or goes leaves of the queues.
use Rattle.std.proofs.Common.{◌≡◌, ◌≢◌, ℕ, ◌+◌, ◌*◌, ◌/◌, ◌%◌, ◌<◌, ◌≤◌, List, [], ◌∷◌, ◌++◌, length, map, refl, sym, ◌∙◌, ap, subst, Bool, true, false, cond, nat_eq, not, ◌||◌, Some, None, is_some, slice_set, get_or, replicate, arith, inl, inr}
use Rattle.std.specs.List.{filter}
use Rattle.std.proofs.Math.ListN.{length-set}
use Rattle.std.proofs.lemmas.List.{append-nil, get_or-map, get_or-replicate, get_or-set_same, get_or-set_other, get_or_past, get_or_read, length-map, length-replicate, map-append, same_lists}
use Rattle.std.proofs.lemmas.List.Elements.{filter-append}
use Rattle.std.proofs.lemmas.Bool.{cases_eq, cases_lt}
use Rattle.aps_model.specs.Limits.{greatest_priority}
use Rattle.laws_runs.specs.Waits.{one_if, times}
use Rattle.laws_runs.proofs.WaitFacts.{test_eq, test_ne}
use Rattle.aps_levels.specs.declared.levels.Levels.{Levels}
use Rattle.aps_levels.specs.Levels.{has_level, level_count}
use Rattle.aps_model.specs.Messages.{without_sender}
use Rattle.aps_model.specs.SchedulerState.{Message}
use Rattle.aps_channel.specs.Lines.{IsInNone, Lines, first_of, queue_line_at, with_line, without}
use Rattle.aps_channel.specs.Queues.{AreQueues, Records, is_level, level_of_priority, message_in, message_of, messages_of, line_of_level, priority_at, sender_at}
use Rattle.aps_channel.specs.declared.waiting.MessageRecord.{MessageRecord}
use Rattle.aps_channel.proofs.Counts.{ne_from_none, one_here, one_same, times-without}
use Rattle.slab.specs.Slab.{Updates, get}

-- ---- who is counted

pub line_none : (n q : ℕ) → queue_line_at (replicate n []) q ≡ []
line_none n q = elim (cases_lt q n) [
  | inl lt ↦ get_or-replicate n q [] [] lt
  | inr ge ↦ let none : List ℕ = [] in get_or_past (replicate n none) q [] (omega (arith, ge, length-replicate n none))
]

pub times_filter : (test : ℕ → Bool) (x : ℕ) (xs : List ℕ) → times x (filter test xs) ≤ times x xs
times_filter test x [] = omega arith
times_filter test x (y ∷ ys) = by_test (test y) (times_filter test x ys)
  where
    by_test : (t : Bool) → times x (filter test ys) ≤ times x ys → times x (cond t (y ∷ filter test ys) (filter test ys)) ≤ one_if (nat_eq y x) + times x ys
    by_test true h = omega (arith, h)
    by_test false h = omega (arith, h)

pub times_filtered : (test : ℕ → Bool) (x : ℕ) (xs : List ℕ) → test x ≡ true → times x (filter test xs) ≡ times x xs
times_filtered test x [] is = refl
times_filtered test x (y ∷ ys) is = by_test (test y) refl (times_filtered test x ys is)
  where
    by_test : (t : Bool) → test y ≡ t → times x (filter test ys) ≡ times x ys → times x (cond t (y ∷ filter test ys) (filter test ys)) ≡ one_if (nat_eq y x) + times x ys
    by_test true e h = ap (λ n. one_if (nat_eq y x) + n) h
    by_test false e h = omega (arith, h, ap one_if (test_ne y x (λ same. differ (subst (λ k. test k ≡ true) (sym same) is) e)))
      where
        differ : {t : Bool} → t ≡ true → t ≡ false → ⊥
        differ {t} p q = cc

-- every line of levels belongs to a level of a channel
nowhere_by_level : (levels : Lines) (n x : ℕ) → length levels.lines ≡ level_count * n → ((c k : ℕ) → c < n → k < level_count → times x (queue_line_at levels.lines (line_of_level c k)) ≡ 0) → IsInNone levels x
nowhere_by_level levels n x size each q = elim (cases_lt q (level_count * n)) [
  | inl lt ↦
      subst (λ r. times x (queue_line_at levels.lines r) ≡ 0) (let e : line_of_level (q / level_count) (q % level_count) ≡ q = omega arith in e)
      (each (q / level_count) (q % level_count) (omega (arith, lt)) (omega arith))
  | inr ge ↦ ap (times x) (get_or_past levels.lines q [] (omega (arith, ge, size)))
]

pub free_of_levels : (arrivals levels : Lines) (in_use : List Levels) (rs : Records) (x : ℕ) → AreQueues arrivals levels in_use rs → IsInNone arrivals x → IsInNone levels x
free_of_levels arrivals levels in_use rs x are free =
    nowhere_by_level levels (length arrivals.lines) x are.channels (λ c k lt ltk.
    let f = times_filter (is_level rs k) x (queue_line_at arrivals.lines c) in
    let e = ap (times x) (are.queued c k lt ltk) in
    let z = free c in
    omega (arith, f, e, z))

pub place_below : (arrivals levels : Lines) (in_use : List Levels) (rs : Records) (c k : ℕ) → AreQueues arrivals levels in_use rs → c < length arrivals.lines → k < level_count
    → line_of_level c k < length levels.lines
place_below arrivals levels in_use rs c k are lt ltk = omega (arith, lt, ltk, are.channels)

-- two places are one only where channel and level are
place_differs : (c d k l : ℕ) → k < level_count → l < level_count → d ≢ c → line_of_level d l ≢ line_of_level c k
place_differs c d k l ltk ltl ne e = omega (arith, ltk, ltl, ne, e)

-- ---- another record under one key

-- every other key has what it had
abbrev pub IsSameBeside : Records → Records → ℕ → Type 0
IsSameBeside rs rs' x = (y : ℕ) → y ≢ x → get rs' y ≡ get rs y

priority_other : (rs rs' : Records) (x y : ℕ) → IsSameBeside rs rs' x → y ≢ x → priority_at rs' y ≡ priority_at rs y
priority_other rs rs' x y beside ne = ap (λ o. (message_in o).priority) (beside y ne)

filter_same : (rs rs' : Records) (x k : ℕ) (xs : List ℕ) → IsSameBeside rs rs' x → times x xs ≡ 0 → filter (is_level rs' k) xs ≡ filter (is_level rs k) xs
filter_same rs rs' x k [] beside none = refl
filter_same rs rs' x k (y ∷ ys) beside none =
    let test : is_level rs' k y ≡ is_level rs k y = ap (λ n. nat_eq (level_of_priority n) k) (priority_other rs rs' x y beside (ne_from_none x y ys none)) in
    ap (λ t. cond t (y ∷ filter (is_level rs' k) ys) (filter (is_level rs' k) ys)) test
    ∙ ap (λ zs. cond (is_level rs k y) (y ∷ zs) zs) (filter_same rs rs' x k ys beside (omega (arith, none)))

messages_same : (rs rs' : Records) (x : ℕ) (xs : List ℕ) → IsSameBeside rs rs' x → times x xs ≡ 0 → map (message_of rs') xs ≡ map (message_of rs) xs
messages_same rs rs' x [] beside none = refl
messages_same rs rs' x (y ∷ ys) beside none =
    ap (λ o. message_in o ∷ map (message_of rs') ys) (beside y (ne_from_none x y ys none))
    ∙ ap (λ ms. message_of rs y ∷ ms) (messages_same rs rs' x ys beside (omega (arith, none)))

-- ---- all messages, after one line changed

pub length-messages : (rs : Records) (lines : List (List ℕ)) → length (messages_of rs lines) ≡ length lines
length-messages rs lines = length-map lines (map (message_of rs))

pub messages_there : (rs : Records) (lines : List (List ℕ)) (c : ℕ) → c < length lines → get_or (messages_of rs lines) c [] ≡ map (message_of rs) (queue_line_at lines c)
messages_there rs lines c lt = get_or-map (map (message_of rs)) lines c [] [] lt

pub record AreQueued (arrivals levels : Lines) (in_use : List Levels) (rs : Records) (messages : List (List Message)) : Type 0 where
  pub are : AreQueues arrivals levels in_use rs
  pub same : messages_of rs arrivals.lines ≡ messages

-- one channel's senders change, and at one level alone
pub record IsTurned (arrivals : Lines) (rs rs' : Records) (old new : Levels) (c level : ℕ) (line queue : List ℕ) (messages : List Message) : Type 0 where
  pub channel : c < length arrivals.lines
  pub below : level < level_count
  pub small : (y : ℕ) → priority_at rs' y ≤ greatest_priority
  pub elsewhere : (d k : ℕ) → d ≢ c → filter (is_level rs' k) (queue_line_at arrivals.lines d) ≡ filter (is_level rs k) (queue_line_at arrivals.lines d)
  pub at_level : filter (is_level rs' level) line ≡ queue
  pub beside : (k : ℕ) → k ≢ level → filter (is_level rs' k) line ≡ filter (is_level rs k) (queue_line_at arrivals.lines c)
  pub used_at : has_level new level ≡ is_some (first_of queue)
  pub used_beside : (k : ℕ) → k ≢ level → has_level new k ≡ has_level old k
  pub messages_here : map (message_of rs') line ≡ messages
  pub messages_there : (d : ℕ) → d ≢ c → map (message_of rs') (queue_line_at arrivals.lines d) ≡ map (message_of rs) (queue_line_at arrivals.lines d)

pub queues_turned : (arrivals levels : Lines) (in_use : List Levels) (rs rs' : Records) (old new : Levels) (c level : ℕ) (line queue : List ℕ) (messages : List Message)
    → AreQueues arrivals levels in_use rs → ((d : Levels) → old ≡ get_or in_use c d) → IsTurned arrivals rs rs' old new c level line queue messages
    → AreQueued (with_line arrivals c line) (with_line levels (line_of_level c level) queue) (slice_set in_use c new) rs' (slice_set (messages_of rs arrivals.lines) c messages)
queues_turned arrivals levels in_use rs rs' old new c level line queue messages are read t = record {
  are = record {
    channels = length-set levels.lines (line_of_level c level) queue ∙ are.channels ∙ sym (ap (λ n. level_count * n) size);
    keys = are.keys;
    sets = length-set in_use c new ∙ are.sets ∙ sym size;
    small = t.small;
    queued = λ d k ltd ltk. queued d k (subst (λ n. d < n) size ltd) ltk;
    used = λ d k l ltd ltk. used d k l (subst (λ n. d < n) size ltd) ltk;
  };
  same = same;
}
  where
    size : length (slice_set arrivals.lines c line) ≡ length arrivals.lines
    size = length-set arrivals.lines c line

    queue_here : queue_line_at (slice_set levels.lines (line_of_level c level) queue) (line_of_level c level) ≡ queue
    queue_here = get_or-set_same levels.lines (line_of_level c level) queue [] (place_below arrivals levels in_use rs c level are t.channel t.below)

    queue_there : (q : ℕ) → q ≢ line_of_level c level → queue_line_at (slice_set levels.lines (line_of_level c level) queue) q ≡ queue_line_at levels.lines q
    queue_there q ne = get_or-set_other levels.lines (line_of_level c level) q queue [] ne

    line_here : queue_line_at (slice_set arrivals.lines c line) c ≡ line
    line_here = get_or-set_same arrivals.lines c line [] t.channel

    line_there : (d : ℕ) → d ≢ c → queue_line_at (slice_set arrivals.lines c line) d ≡ queue_line_at arrivals.lines d
    line_there d ne = get_or-set_other arrivals.lines c d line [] ne

    set_here : (l : Levels) → get_or (slice_set in_use c new) c l ≡ new
    set_here l = get_or-set_same in_use c new l (subst (λ n. c < n) (sym are.sets) t.channel)

    queued_here : (k : ℕ) → k < level_count
        → queue_line_at (slice_set levels.lines (line_of_level c level) queue) (line_of_level c k) ≡ filter (is_level rs' k) (queue_line_at (slice_set arrivals.lines c line) c)
    queued_here k ltk = elim (cases_eq k level) [
      | inl e ↦
          subst (λ j. queue_line_at (slice_set levels.lines (line_of_level c level) queue) (line_of_level c j) ≡ filter (is_level rs' j) (queue_line_at (slice_set arrivals.lines c line) c)) (sym e)
          (queue_here ∙ sym (ap (filter (is_level rs' level)) line_here ∙ t.at_level))
      | inr ne ↦
          queue_there (line_of_level c k) (λ e. ne (omega (arith, e))) ∙ are.queued c k t.channel ltk
          ∙ sym (ap (filter (is_level rs' k)) line_here ∙ t.beside k ne)
    ]

    queued : (d k : ℕ) → d < length arrivals.lines → k < level_count
        → queue_line_at (slice_set levels.lines (line_of_level c level) queue) (line_of_level d k) ≡ filter (is_level rs' k) (queue_line_at (slice_set arrivals.lines c line) d)
    queued d k ltd ltk = elim (cases_eq d c) [
      | inl e ↦
          subst (λ b. queue_line_at (slice_set levels.lines (line_of_level c level) queue) (line_of_level b k) ≡ filter (is_level rs' k) (queue_line_at (slice_set arrivals.lines c line) b)) (sym e)
          (queued_here k ltk)
      | inr ne ↦
          queue_there (line_of_level d k) (place_differs c d level k t.below ltk ne) ∙ are.queued d k ltd ltk
          ∙ sym (ap (filter (is_level rs' k)) (line_there d ne) ∙ t.elsewhere d k ne)
    ]

    used_here : (k : ℕ) (l : Levels) → k < level_count
        → has_level (get_or (slice_set in_use c new) c l) k ≡ is_some (first_of (queue_line_at (slice_set levels.lines (line_of_level c level) queue) (line_of_level c k)))
    used_here k l ltk = ap (λ s. has_level s k) (set_here l) ∙ elim (cases_eq k level) [
      | inl e ↦
          subst (λ j. has_level new j ≡ is_some (first_of (queue_line_at (slice_set levels.lines (line_of_level c level) queue) (line_of_level c j)))) (sym e)
          (t.used_at ∙ sym (ap (λ q. is_some (first_of q)) queue_here))
      | inr ne ↦
          t.used_beside k ne ∙ ap (λ s. has_level s k) (read l) ∙ are.used c k l t.channel ltk
          ∙ sym (ap (λ q. is_some (first_of q)) (queue_there (line_of_level c k) (λ e. ne (omega (arith, e)))))
    ]

    used : (d k : ℕ) (l : Levels) → d < length arrivals.lines → k < level_count
        → has_level (get_or (slice_set in_use c new) d l) k ≡ is_some (first_of (queue_line_at (slice_set levels.lines (line_of_level c level) queue) (line_of_level d k)))
    used d k l ltd ltk = elim (cases_eq d c) [
      | inl e ↦
          subst (λ b. has_level (get_or (slice_set in_use c new) b l) k ≡ is_some (first_of (queue_line_at (slice_set levels.lines (line_of_level c level) queue) (line_of_level b k)))) (sym e)
          (used_here k l ltk)
      | inr ne ↦
          ap (λ s. has_level s k) (get_or-set_other in_use c d new l ne) ∙ are.used d k l ltd ltk
          ∙ sym (ap (λ q. is_some (first_of q)) (queue_there (line_of_level d k) (place_differs c d level k t.below ltk ne)))
    ]

    same : messages_of rs' (slice_set arrivals.lines c line) ≡ slice_set (messages_of rs arrivals.lines) c messages
    same =
        same_lists (messages_of rs' (slice_set arrivals.lines c line)) (slice_set (messages_of rs arrivals.lines) c messages)
        (length-messages rs' (slice_set arrivals.lines c line) ∙ size ∙ sym (length-set (messages_of rs arrivals.lines) c messages ∙ length-messages rs arrivals.lines))
        (λ k d lt. each k d (subst (λ n. k < n) (length-messages rs' (slice_set arrivals.lines c line) ∙ size) lt))
      where
        each : (k : ℕ) (d : List Message) → k < length arrivals.lines
            → get_or (messages_of rs' (slice_set arrivals.lines c line)) k d ≡ get_or (slice_set (messages_of rs arrivals.lines) c messages) k d
        each k d ltk =
            get_or-map (map (message_of rs')) (slice_set arrivals.lines c line) k [] d (subst (λ n. k < n) (sym (length-set arrivals.lines c line)) ltk)
            ∙ elim (cases_eq k c) [
              | inl e ↦
                  subst (λ b. map (message_of rs') (queue_line_at (slice_set arrivals.lines c line) b) ≡ get_or (slice_set (messages_of rs arrivals.lines) c messages) b d) (sym e)
                  (ap (map (message_of rs')) (get_or-set_same arrivals.lines c line [] t.channel) ∙ t.messages_here
                  ∙ sym (get_or-set_same (messages_of rs arrivals.lines) c messages d (subst (λ n. c < n) (sym (length-messages rs arrivals.lines)) t.channel)))
              | inr ne ↦
                  ap (map (message_of rs')) (get_or-set_other arrivals.lines c k line [] ne) ∙ t.messages_there k ne
                  ∙ sym (get_or-set_other (messages_of rs arrivals.lines) c k messages d ne ∙ get_or-map (map (message_of rs)) arrivals.lines k [] d ltk)
            ]

-- ---- a message comes

-- the set of a channel's levels, and with one more
abbrev pub IsMore : Levels → Levels → ℕ → Type 0
IsMore old new level = (k : ℕ) → has_level new k ≡ (nat_eq k level || has_level old k)

first_pushed : (xs : List ℕ) (x : ℕ) → is_some (first_of (xs ++ x ∷ [])) ≡ true
first_pushed [] x = refl
first_pushed (y ∷ ys) x = refl

or_true : (a b : Bool) → a ≡ true → (a || b) ≡ true
or_true true b e = refl
or_true false b e = absurd cc

or_false : (a b : Bool) → a ≡ false → (a || b) ≡ b
or_false true b e = absurd cc
or_false false b e = refl

pub queued_more : (arrivals levels : Lines) (in_use : List Levels) (rs rs' : Records) (old new : Levels) (c x : ℕ) (r : MessageRecord) → AreQueues arrivals levels in_use rs
    → c < length arrivals.lines → r.priority ≤ greatest_priority → IsInNone arrivals x → Updates rs rs' x (Some r) → old ≡ get_or in_use c old → IsMore old new (level_of_priority r.priority)
    → AreQueued (with_line arrivals c (queue_line_at arrivals.lines c ++ x ∷ []))
    (with_line levels (line_of_level c (level_of_priority r.priority)) (queue_line_at levels.lines (line_of_level c (level_of_priority r.priority)) ++ x ∷ [])) (slice_set in_use c new) rs'
    (slice_set (messages_of rs arrivals.lines) c (get_or (messages_of rs arrivals.lines) c [] ++ (record { sender = r.sender; priority = r.priority }) ∷ []))
queued_more arrivals levels in_use rs rs' old new c x r are lt fits free up read more =
    queues_turned arrivals levels in_use rs rs' old new c (level_of_priority r.priority) (queue_line_at arrivals.lines c ++ x ∷ [])
    (queue_line_at levels.lines (line_of_level c (level_of_priority r.priority)) ++ x ∷ []) (get_or (messages_of rs arrivals.lines) c [] ++ (record { sender = r.sender; priority = r.priority }) ∷ []) are
    (get_or_read in_use c old (subst (λ n. c < n) (sym are.sets) lt) read)
    (record {
      channel = lt;
      below = omega arith;
      small = small;
      elsewhere = λ d k ne. filter_same rs rs' x k (queue_line_at arrivals.lines d) up.others (free d);
      at_level =
          filtered (level_of_priority r.priority)
          ∙ ap (λ t. filter (is_level rs (level_of_priority r.priority)) (queue_line_at arrivals.lines c) ++ cond t (x ∷ []) []) (test_eq (level_of_priority r.priority) (level_of_priority r.priority) refl)
          ∙ ap (λ zs. zs ++ x ∷ []) (sym (are.queued c (level_of_priority r.priority) lt (omega arith)));
      beside = λ k ne.
          filtered k ∙ ap (λ t. filter (is_level rs k) (queue_line_at arrivals.lines c) ++ cond t (x ∷ []) []) (test_ne (level_of_priority r.priority) k (λ e. ne (sym e)))
          ∙ append-nil (filter (is_level rs k) (queue_line_at arrivals.lines c));
      used_at =
          more (level_of_priority r.priority) ∙ or_true (nat_eq (level_of_priority r.priority) (level_of_priority r.priority)) (has_level old (level_of_priority r.priority)) (test_eq (level_of_priority r.priority) (level_of_priority r.priority) refl)
          ∙ sym (first_pushed (queue_line_at levels.lines (line_of_level c (level_of_priority r.priority))) x);
      used_beside = λ k ne. more k ∙ or_false (nat_eq k (level_of_priority r.priority)) (has_level old k) (test_ne k (level_of_priority r.priority) ne);
      messages_here =
          map-append (message_of rs') (queue_line_at arrivals.lines c) (x ∷ [])
          ∙ ap (λ ms. ms ++ message_of rs' x ∷ []) (messages_same rs rs' x (queue_line_at arrivals.lines c) up.others (free c) ∙ sym (messages_there rs arrivals.lines c lt))
          ∙ ap (λ o. get_or (messages_of rs arrivals.lines) c [] ++ message_in o ∷ []) up.changed;
      messages_there = λ d ne. messages_same rs rs' x (queue_line_at arrivals.lines d) up.others (free d);
    })
  where
    mine : priority_at rs' x ≡ r.priority
    mine = ap (λ o. (message_in o).priority) up.changed

    small : (y : ℕ) → priority_at rs' y ≤ greatest_priority
    small y = elim (cases_eq y x) [
      | inl e ↦ subst (λ n. n ≤ greatest_priority) (sym (ap (priority_at rs') e ∙ mine)) fits
      | inr ne ↦ subst (λ n. n ≤ greatest_priority) (sym (priority_other rs rs' x y up.others ne)) (are.small y)
    ]

    -- the keys of a level of this channel, and the new one
    filtered : (k : ℕ) → filter (is_level rs' k) (queue_line_at arrivals.lines c ++ x ∷ [])
        ≡ filter (is_level rs k) (queue_line_at arrivals.lines c) ++ cond (nat_eq (level_of_priority r.priority) k) (x ∷ []) []
    filtered k =
        filter-append (is_level rs' k) (queue_line_at arrivals.lines c) (x ∷ [])
        ∙ ap (λ zs. zs ++ cond (is_level rs' k x) (x ∷ []) []) (filter_same rs rs' x k (queue_line_at arrivals.lines c) up.others (free c))
        ∙ ap (λ n. filter (is_level rs k) (queue_line_at arrivals.lines c) ++ cond (nat_eq (level_of_priority n) k) (x ∷ []) []) mine

-- ---- a message goes

pub from_test : (a b : ℕ) → nat_eq a b ≡ true → a ≡ b
from_test a b e = elim (cases_eq a b) [
  | inl s ↦ s
  | inr ne ↦ absurd (let f = test_ne a b ne in cc)
]

without_filtered : (test : ℕ → Bool) (x : ℕ) (xs : List ℕ) → test x ≡ true → filter test (without x xs) ≡ without x (filter test xs)
without_filtered test x [] is = refl
without_filtered test x (y ∷ ys) is = elim (cases_eq y x) [
  | inl e ↦
      let at : test y ≡ true = ap test e ∙ is in
      ap (λ t. filter test (cond t ys (y ∷ without x ys))) (test_eq y x e)
      ∙ sym (ap (λ t. without x (cond t (y ∷ filter test ys) (filter test ys))) at ∙ ap (λ t. cond t (filter test ys) (y ∷ without x (filter test ys))) (test_eq y x e))
  | inr ne ↦
      ap (λ t. filter test (cond t ys (y ∷ without x ys))) (test_ne y x ne)
      ∙ ap (λ zs. cond (test y) (y ∷ zs) zs) (without_filtered test x ys is)
      ∙ by_test (test y) (test_ne y x ne)
]
  where
    by_test : (t : Bool) → nat_eq y x ≡ false → cond t (y ∷ without x (filter test ys)) (without x (filter test ys)) ≡ without x (cond t (y ∷ filter test ys) (filter test ys))
    by_test true f = sym (ap (λ b. cond b (filter test ys) (y ∷ without x (filter test ys))) f)
    by_test false f = refl

without_unfiltered : (test : ℕ → Bool) (x : ℕ) (xs : List ℕ) → test x ≡ false → filter test (without x xs) ≡ filter test xs
without_unfiltered test x [] not = refl
without_unfiltered test x (y ∷ ys) not = elim (cases_eq y x) [
  | inl e ↦
      ap (λ t. filter test (cond t ys (y ∷ without x ys))) (test_eq y x e)
      ∙ sym (ap (λ t. cond t (y ∷ filter test ys) (filter test ys)) (ap test e ∙ not))
  | inr ne ↦
      ap (λ t. filter test (cond t ys (y ∷ without x ys))) (test_ne y x ne) ∙ ap (λ zs. cond (test y) (y ∷ zs) zs) (without_unfiltered test x ys not)
]

-- no other of these keys has the same sender
without_messages : (rs : Records) (x : ℕ) (xs : List ℕ) → ((y : ℕ) → 1 ≤ times y xs → sender_at rs y ≡ sender_at rs x → y ≡ x)
    → map (message_of rs) (without x xs) ≡ without_sender (sender_at rs x) (map (message_of rs) xs)
without_messages rs x [] one = refl
without_messages rs x (y ∷ ys) one =
    ap (λ t. map (message_of rs) (cond t ys (y ∷ without x ys))) (sym same)
    ∙ by_test (nat_eq (sender_at rs y) (sender_at rs x)) (without_messages rs x ys (λ z l. one z (omega (arith, l))))
  where
    same : nat_eq (sender_at rs y) (sender_at rs x) ≡ nat_eq y x
    same = elim (cases_eq y x) [
      | inl e ↦ test_eq (sender_at rs y) (sender_at rs x) (ap (sender_at rs) e) ∙ sym (test_eq y x e)
      | inr ne ↦ test_ne (sender_at rs y) (sender_at rs x) (λ s. ne (one y (one_here y ys) s)) ∙ sym (test_ne y x ne)
    ]

    by_test : (t : Bool) → map (message_of rs) (without x ys) ≡ without_sender (sender_at rs x) (map (message_of rs) ys)
        → map (message_of rs) (cond t ys (y ∷ without x ys)) ≡ cond t (map (message_of rs) ys) (message_of rs y ∷ without_sender (sender_at rs x) (map (message_of rs) ys))
    by_test true h = refl
    by_test false h = ap (λ ms. message_of rs y ∷ ms) h

-- the set of a channel's levels, where one has these keys left
pub record IsLess (old new : Levels) (level : ℕ) (left : List ℕ) : Type 0 where
  pub at_level : has_level new level ≡ is_some (first_of left)
  pub beside : (k : ℕ) → k ≢ level → has_level new k ≡ has_level old k

-- the key stands once in the line of this channel, and in no other; no other key there has the same sender
pub record IsAlone (arrivals : Lines) (rs : Records) (c x : ℕ) : Type 0 where
  pub once : times x (queue_line_at arrivals.lines c) ≡ 1
  pub elsewhere : (d : ℕ) → d ≢ c → times x (queue_line_at arrivals.lines d) ≡ 0
  pub one : (y : ℕ) → 1 ≤ times y (queue_line_at arrivals.lines c) → sender_at rs y ≡ sender_at rs x → y ≡ x

pub queued_less : (arrivals levels : Lines) (in_use : List Levels) (rs rs' : Records) (old new : Levels) (c x level : ℕ) → AreQueues arrivals levels in_use rs
    → c < length arrivals.lines → level < level_count → is_level rs level x ≡ true → IsAlone arrivals rs c x → Updates rs rs' x None → old ≡ get_or in_use c old
    → IsLess old new level (without x (queue_line_at levels.lines (line_of_level c level)))
    → AreQueued (with_line arrivals c (without x (queue_line_at arrivals.lines c)))
    (with_line levels (line_of_level c level) (without x (queue_line_at levels.lines (line_of_level c level)))) (slice_set in_use c new) rs'
    (slice_set (messages_of rs arrivals.lines) c (without_sender (sender_at rs x) (get_or (messages_of rs arrivals.lines) c [])))
queued_less arrivals levels in_use rs rs' old new c x level are lt ltl is alone up read less =
    queues_turned arrivals levels in_use rs rs' old new c level (without x (queue_line_at arrivals.lines c))
    (without x (queue_line_at levels.lines (line_of_level c level))) (without_sender (sender_at rs x) (get_or (messages_of rs arrivals.lines) c [])) are
    (get_or_read in_use c old (subst (λ n. c < n) (sym are.sets) lt) read)
    (record {
      channel = lt;
      below = ltl;
      small = small;
      elsewhere = λ d k ne. filter_same rs rs' x k (queue_line_at arrivals.lines d) up.others (alone.elsewhere d ne);
      at_level =
          filter_same rs rs' x level (without x (queue_line_at arrivals.lines c)) up.others gone
          ∙ without_filtered (is_level rs level) x (queue_line_at arrivals.lines c) is ∙ ap (without x) (sym (are.queued c level lt ltl));
      beside = λ k ne.
          filter_same rs rs' x k (without x (queue_line_at arrivals.lines c)) up.others gone
          ∙ without_unfiltered (is_level rs k) x (queue_line_at arrivals.lines c) (other k ne);
      used_at = less.at_level;
      used_beside = less.beside;
      messages_here =
          messages_same rs rs' x (without x (queue_line_at arrivals.lines c)) up.others gone
          ∙ without_messages rs x (queue_line_at arrivals.lines c) alone.one ∙ ap (without_sender (sender_at rs x)) (sym (messages_there rs arrivals.lines c lt));
      messages_there = λ d ne. messages_same rs rs' x (queue_line_at arrivals.lines d) up.others (alone.elsewhere d ne);
    })
  where
    other : (k : ℕ) → k ≢ level → is_level rs k x ≡ false
    other k ne = test_ne (level_of_priority (priority_at rs x)) k (λ e. ne (sym e ∙ from_test (level_of_priority (priority_at rs x)) level is))

    gone : times x (without x (queue_line_at arrivals.lines c)) ≡ 0
    gone = let a = times-without x x (queue_line_at arrivals.lines c) (omega (arith, alone.once)) in omega (arith, a, alone.once, one_same x)

    small : (y : ℕ) → priority_at rs' y ≤ greatest_priority
    small y = elim (cases_eq y x) [
      | inl e ↦ subst (λ n. n ≤ greatest_priority) (sym (ap (priority_at rs') e ∙ ap (λ o. (message_in o).priority) up.changed)) (omega arith)
      | inr ne ↦ subst (λ n. n ≤ greatest_priority) (sym (priority_other rs rs' x y up.others ne)) (are.small y)
    ]
