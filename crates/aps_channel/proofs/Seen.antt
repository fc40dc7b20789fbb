-- The queues, by what contracts see of them.
use Rattle.std.proofs.Common.{◌≡◌, ◌≢◌, ℕ, ◌-◌, ◌*◌, ◌<◌, ◌≤◌, List, [], ◌∷◌, ◌++◌, length, map, refl, sym, ◌∙◌, ap, subst, Bool, true, false, cond, ◌&&◌, Option, Some, None, is_some, slice_set, get_or, replicate, arith, inl, inr}
use Rattle.std.specs.List.{filter}
use Rattle.std.specs.Option.{option_map}
use Rattle.std.proofs.lemmas.List.{get_or-map, get_or-replicate, get_or-set_same, get_or_past, length-replicate, same_lists}
use Rattle.std.proofs.lemmas.Bool.{cases_lt}
use Rattle.laws_runs.specs.Waits.{times, times_sent}
use Rattle.aps_levels.specs.declared.levels.Levels.{Levels}
use Rattle.aps_levels.specs.Bits.{IsLeast}
use Rattle.aps_levels.specs.Levels.{has_level, level_count}
use Rattle.aps_model.specs.Inherit.{top_of}
use Rattle.aps_model.specs.Limits.{greatest_priority}
use Rattle.aps_model.specs.Messages.{first_message, without_sender}
use Rattle.aps_model.specs.SchedulerState.{Message}
use Rattle.slab.specs.Slab.{Updates, get}
use Rattle.aps_channel.specs.declared.waiting.MessageRecord.{MessageRecord}
use Rattle.aps_channel.specs.Lines.{AreLinesApart, Lines, first_of, queue_line_at, with_line, without}
use Rattle.aps_channel.specs.Queues.{AreQueues, Records, is_level, level_of_priority, message_in, message_of, messages_of, line_of_level, priority_at, sender_at}
use Rattle.aps_channel.specs.Records.{AreMessagesKept, AreRecords}
use Rattle.aps_channel.specs.Waiting.{Waiting, first_sender, messages_at, with_messages}
use Rattle.aps_channel.proofs.Counts.{one_here}
use Rattle.aps_channel.proofs.First.{first_is, first_none, top_is_first}
use Rattle.aps_channel.proofs.Queues.{IsAlone, IsLess, IsMore, from_test, length-messages, line_none, messages_there, place_below, queued_less, queued_more, times_filter, times_filtered}
use Rattle.aps_channel.proofs.Records.{IsUnsent, free_key, records_at_opening, records_less, records_more, unsent}

abbrev pub messages_seen : Lines → Records → ℕ → Waiting
messages_seen arrivals rs threads = record { messages = messages_of rs arrivals.lines; threads = threads }

-- what is kept, and what is seen
pub record AreSeenQueues (arrivals levels : Lines) (in_use : List Levels) (rs : Records) (threads : ℕ) (s : Waiting) : Type 0 where
  pub are : AreMessagesKept arrivals levels in_use rs threads
  pub same : messages_seen arrivals rs threads ≡ s

same_waiting : {ms ms' : List (List Message)} {n n' : ℕ} → ms ≡ ms' → n ≡ n' → ◌≡◌ {A = Waiting} (record { messages = ms; threads = n }) (record { messages = ms'; threads = n' })
same_waiting {ms} {ms'} {n} {n'} e f = cc

pub channel_below : (arrivals : Lines) (rs : Records) (threads : ℕ) (s : Waiting) (c : ℕ) → messages_seen arrivals rs threads ≡ s → c < length s.messages → c < length arrivals.lines
channel_below arrivals rs threads s c is lt =
    subst (λ n. c < n) (length-messages rs arrivals.lines) (subst (λ (t : Waiting). c < length t.messages) (sym is) lt)

-- ---- a message comes

-- no message of the thread waits
pub unsent_seen : (arrivals : Lines) (rs : Records) (threads : ℕ) (s : Waiting) (x : ℕ) → AreRecords arrivals rs threads → messages_seen arrivals rs threads ≡ s
    → ((d : ℕ) → times_sent x (messages_at s d) ≡ 0) → IsUnsent rs x
unsent_seen arrivals rs threads s x are is free = unsent arrivals rs threads x are each
  where
    each : (d : ℕ) → times_sent x (map (message_of rs) (queue_line_at arrivals.lines d)) ≡ 0
    each d = elim (cases_lt d (length arrivals.lines)) [
      | inl lt ↦ sym (ap (times_sent x) (messages_there rs arrivals.lines d lt)) ∙ subst (λ (t : Waiting). times_sent x (messages_at t d) ≡ 0) (sym is) (free d)
      | inr ge ↦ ap (λ xs. times_sent x (map (message_of rs) xs)) (get_or_past arrivals.lines d [] ge)
    ]

pub thread_below : (arrivals : Lines) (rs : Records) (threads : ℕ) (s : Waiting) (x : ℕ) → messages_seen arrivals rs threads ≡ s → x < s.threads → x < threads
thread_below arrivals rs threads s x is lt = subst (λ (t : Waiting). x < t.threads) (sym is) lt

pub seen_more : (arrivals levels arrivals' levels' : Lines) (in_use : List Levels) (rs rs' : Records) (old new : Levels) (c c' key threads : ℕ) (r : MessageRecord) (s : Waiting)
    → AreMessagesKept arrivals levels in_use rs threads → messages_seen arrivals rs threads ≡ s → c' ≡ c → c < length s.messages → r.sender < s.threads → r.priority ≤ greatest_priority
    → ((d : ℕ) → times_sent r.sender (messages_at s d) ≡ 0) → get rs key ≡ None → Updates rs rs' key (Some r) → rs'.capacity ≡ rs.capacity
    → old ≡ get_or in_use c' old → IsMore old new (level_of_priority r.priority)
    → arrivals' ≡ with_line arrivals c' (queue_line_at arrivals.lines c' ++ key ∷ [])
    → levels' ≡ with_line levels (line_of_level c' (level_of_priority r.priority)) (queue_line_at levels.lines (line_of_level c' (level_of_priority r.priority)) ++ key ∷ [])
    → AreSeenQueues arrivals' levels' (slice_set in_use c' new) rs' threads (with_messages s c (messages_at s c ++ (record { sender = r.sender; priority = r.priority }) ∷ []))
seen_more arrivals levels arrivals' levels' in_use rs rs' old new c c' key threads r s are is ec lt ltx fits free vacant up room read more ea el =
    let lt' : c' < length arrivals.lines = subst (λ k. k < length arrivals.lines) (sym ec) (channel_below arrivals rs threads s c is lt) in
    let q = queued_more arrivals levels in_use rs rs' old new c' key r are.queues lt' fits (free_key arrivals rs threads key are.records vacant) up read more in
    let kept = records_more arrivals rs rs' threads c' key r are.records lt' (thread_below arrivals rs threads s r.sender is ltx) (unsent_seen arrivals rs threads s r.sender are.records is free) up room in
    let A : Lines = with_line arrivals c' (queue_line_at arrivals.lines c' ++ key ∷ []) in
    let L : Lines = with_line levels (line_of_level c' (level_of_priority r.priority)) (queue_line_at levels.lines (line_of_level c' (level_of_priority r.priority)) ++ key ∷ []) in
    let U : List Levels = slice_set in_use c' new in
    let m : Message = record { sender = r.sender; priority = r.priority } in
    subst (λ a. AreSeenQueues a levels' U rs' threads (with_messages s c (messages_at s c ++ m ∷ []))) (sym ea)
    (subst (λ l. AreSeenQueues A l U rs' threads (with_messages s c (messages_at s c ++ m ∷ []))) (sym el)
    (subst (λ d. AreSeenQueues A L U rs' threads (with_messages s d (messages_at s d ++ m ∷ []))) ec
    (subst (λ (t : Waiting). AreSeenQueues A L U rs' threads (with_messages t c' (messages_at t c' ++ m ∷ []))) is
    (record { are = record { queues = q.are; records = kept }; same = same_waiting q.same refl }))))

-- ---- the first message

first_passes : (test : ℕ → Bool) (xs : List ℕ) (x : ℕ) → first_of (filter test xs) ≡ Some x → test x ≡ true
first_passes test [] x e = absurd cc
first_passes test (y ∷ ys) x e = by_test (test y) refl e (first_passes test ys x)
  where
    by_test : (t : Bool) → test y ≡ t → first_of (cond t (y ∷ filter test ys) (filter test ys)) ≡ Some x → (first_of (filter test ys) ≡ Some x → test x ≡ true) → test x ≡ true
    by_test true is f rest = subst (λ k. test k ≡ true) (some_same y x f) is
      where
        some_same : (a b : ℕ) → Some a ≡ Some b → a ≡ b
        some_same a b e = cc
    by_test false is f rest = rest f

first_in : (xs : List ℕ) (x : ℕ) → first_of xs ≡ Some x → 1 ≤ times x xs
first_in [] x e = absurd cc
first_in (y ∷ ys) x e = subst (λ k. 1 ≤ times k (y ∷ ys)) (some_same y x e) (one_here y ys)
  where
    some_same : (a b : ℕ) → Some a ≡ Some b → a ≡ b
    some_same a b e = cc

pub first_stands : (arrivals levels : Lines) (in_use : List Levels) (rs : Records) (threads : ℕ) (s : Waiting) (c c' level x : ℕ) → AreQueues arrivals levels in_use rs → messages_seen arrivals rs threads ≡ s → c' ≡ c
    → c < length s.messages → level < level_count → Some x ≡ first_of (queue_line_at levels.lines (line_of_level c' level)) → 1 ≤ times x (queue_line_at arrivals.lines c')
first_stands arrivals levels in_use rs threads s c c' level x are is ec lt ltl first =
    let lt' : c' < length arrivals.lines = subst (λ k. k < length arrivals.lines) (sym ec) (channel_below arrivals rs threads s c is lt) in
    let here = first_in (filter (is_level rs level) (queue_line_at arrivals.lines c')) x (ap first_of (sym (are.queued c' level lt' ltl)) ∙ sym first) in
    omega (arith, here, times_filter (is_level rs level) x (queue_line_at arrivals.lines c'))

empty_below : (arrivals levels : Lines) (in_use : List Levels) (rs : Records) (old : Levels) (c k : ℕ) → AreQueues arrivals levels in_use rs → c < length arrivals.lines → old ≡ get_or in_use c old
    → k < level_count → has_level old k ≡ false → is_some (first_of (filter (is_level rs k) (queue_line_at arrivals.lines c))) ≡ false
empty_below arrivals levels in_use rs old c k are lt read ltk none =
    ap (λ q. is_some (first_of q)) (sym (are.queued c k lt ltk)) ∙ sym (are.used c k old lt ltk) ∙ ap (λ l. has_level l k) (sym read) ∙ none

next_message : (arrivals levels : Lines) (in_use : List Levels) (rs : Records) (threads : ℕ) (s : Waiting) (old : Levels) (c c' level x : ℕ) → AreQueues arrivals levels in_use rs → messages_seen arrivals rs threads ≡ s → c' ≡ c
    → c < length s.messages → old ≡ get_or in_use c' old → IsLeast level_count (has_level old) level → first_of (queue_line_at levels.lines (line_of_level c' level)) ≡ Some x
    → first_message (messages_at s c) ≡ Some (message_of rs x)
next_message arrivals levels in_use rs threads s old c c' level x are is ec lt read least first =
    let lt' : c' < length arrivals.lines = subst (λ k. k < length arrivals.lines) (sym ec) (channel_below arrivals rs threads s c is lt) in
    subst (λ d. first_message (messages_at s d) ≡ Some (message_of rs x)) ec
    (subst (λ (t : Waiting). first_message (messages_at t c') ≡ Some (message_of rs x)) is
    (ap first_message (messages_there rs arrivals.lines c' lt')
    ∙ first_is rs level x (queue_line_at arrivals.lines c') are.small least.below
    (λ k ltk. let b = least.below in empty_below arrivals levels in_use rs old c' k are lt' read (omega (arith, ltk, b)) (least.earlier k ltk))
    (ap first_of (sym (are.queued c' level lt' least.below)) ∙ first)))

no_message : (arrivals levels : Lines) (in_use : List Levels) (rs : Records) (threads : ℕ) (s : Waiting) (old : Levels) (c c' : ℕ) → AreQueues arrivals levels in_use rs → messages_seen arrivals rs threads ≡ s → c' ≡ c
    → c < length s.messages → old ≡ get_or in_use c' old → ((k : ℕ) → has_level old k ≡ false) → first_message (messages_at s c) ≡ None
no_message arrivals levels in_use rs threads s old c c' are is ec lt read none =
    let lt' : c' < length arrivals.lines = subst (λ k. k < length arrivals.lines) (sym ec) (channel_below arrivals rs threads s c is lt) in
    subst (λ d. first_message (messages_at s d) ≡ None) ec
    (subst (λ (t : Waiting). first_message (messages_at t c') ≡ None) is
    (ap first_message (messages_there rs arrivals.lines c' lt')
    ∙ first_none rs (queue_line_at arrivals.lines c') (λ k ltk. empty_below arrivals levels in_use rs old c' k are lt' read ltk (none k))))

pub no_sender : (arrivals levels : Lines) (in_use : List Levels) (rs : Records) (threads : ℕ) (s : Waiting) (old : Levels) (c c' : ℕ) → AreQueues arrivals levels in_use rs → messages_seen arrivals rs threads ≡ s → c' ≡ c
    → c < length s.messages → old ≡ get_or in_use c' old → ((k : ℕ) → has_level old k ≡ false) → first_sender (messages_at s c) ≡ None
no_sender arrivals levels in_use rs threads s old c c' are is ec lt read none =
    ap (option_map (λ (m : Message). m.sender)) (no_message arrivals levels in_use rs threads s old c c' are is ec lt read none)

pub no_top : (arrivals levels : Lines) (in_use : List Levels) (rs : Records) (threads : ℕ) (s : Waiting) (old : Levels) (c c' : ℕ) → AreQueues arrivals levels in_use rs → messages_seen arrivals rs threads ≡ s → c' ≡ c
    → c < length s.messages → old ≡ get_or in_use c' old → ((k : ℕ) → has_level old k ≡ false) → None ≡ top_of (messages_at s c)
no_top arrivals levels in_use rs threads s old c c' are is ec lt read none =
    sym (top_is_first (messages_at s c) ∙ ap (option_map (λ (m : Message). m.priority)) (no_message arrivals levels in_use rs threads s old c c' are is ec lt read none))

pub next_sender : (arrivals levels : Lines) (in_use : List Levels) (rs : Records) (threads : ℕ) (s : Waiting) (old : Levels) (c c' level x : ℕ) → AreQueues arrivals levels in_use rs → messages_seen arrivals rs threads ≡ s → c' ≡ c
    → c < length s.messages → old ≡ get_or in_use c' old → IsLeast level_count (has_level old) level → Some x ≡ first_of (queue_line_at levels.lines (line_of_level c' level))
    → first_sender (messages_at s c) ≡ Some (sender_at rs x)
next_sender arrivals levels in_use rs threads s old c c' level x are is ec lt read least first =
    ap (option_map (λ (m : Message). m.sender)) (next_message arrivals levels in_use rs threads s old c c' level x are is ec lt read least (sym first))

-- a level in use has somebody
some_first : (xs : List ℕ) → is_some (first_of xs) ≡ true → (x : ℕ) × (first_of xs ≡ Some x)
some_first [] e = absurd cc
some_first (x ∷ xs) e = (x, refl)

pub top_is : (arrivals levels : Lines) (in_use : List Levels) (rs : Records) (threads : ℕ) (s : Waiting) (old : Levels) (c c' level : ℕ) → AreQueues arrivals levels in_use rs → messages_seen arrivals rs threads ≡ s → c' ≡ c
    → c < length s.messages → old ≡ get_or in_use c' old → IsLeast level_count (has_level old) level → Some (greatest_priority - level) ≡ top_of (messages_at s c)
top_is arrivals levels in_use rs threads s old c c' level are is ec lt read least =
    let lt' : c' < length arrivals.lines = subst (λ k. k < length arrivals.lines) (sym ec) (channel_below arrivals rs threads s c is lt) in
    let somebody = some_first (queue_line_at levels.lines (line_of_level c' level)) (sym (are.used c' level old lt' least.below) ∙ ap (λ l. has_level l level) (sym read) ∙ least.here) in
    let x = somebody.0 in
    let at : is_level rs level x ≡ true = first_passes (is_level rs level) (queue_line_at arrivals.lines c') x (ap first_of (sym (are.queued c' level lt' least.below)) ∙ somebody.1) in
    let e : level_of_priority (priority_at rs x) ≡ level = from_test (level_of_priority (priority_at rs x)) level at in
    let is_priority : greatest_priority - level ≡ priority_at rs x = let small = are.small x in omega (arith, e, small) in
    ap (λ n. Some n) is_priority
    ∙ sym (top_is_first (messages_at s c) ∙ ap (option_map (λ (m : Message). m.priority)) (next_message arrivals levels in_use rs threads s old c c' level x are is ec lt read least somebody.1))

-- ---- it goes

and_true : (a b : Bool) → a ≡ true → (a && b) ≡ b
and_true true b e = refl
and_true false b e = absurd cc

-- who stands at a level stands once, in the line of its channel alone
pub stands_alone : (arrivals levels : Lines) (in_use : List Levels) (rs : Records) (threads c level x : ℕ) → AreMessagesKept arrivals levels in_use rs threads → AreLinesApart levels.lines
    → c < length arrivals.lines → level < level_count → is_level rs level x ≡ true → 1 ≤ times x (queue_line_at arrivals.lines c) → IsAlone arrivals rs c x
stands_alone arrivals levels in_use rs threads c level x are apart lt ltl passes here = record {
  once = let o = apart.once (line_of_level c level) x in let e = at_level c lt in omega (arith, o, e, here);
  elsewhere = elsewhere;
  one = λ y l same. are.records.apart y x (are.records.kept c y l) (are.records.kept c x here) same;
}
  where
    at_level : (d : ℕ) → d < length arrivals.lines → times x (queue_line_at levels.lines (line_of_level d level)) ≡ times x (queue_line_at arrivals.lines d)
    at_level d ltd = ap (times x) (are.queues.queued d level ltd ltl) ∙ times_filtered (is_level rs level) x (queue_line_at arrivals.lines d) passes

    elsewhere : (d : ℕ) → d ≢ c → times x (queue_line_at arrivals.lines d) ≡ 0
    elsewhere d ne = elim (cases_lt d (length arrivals.lines)) [
      | inl ltd ↦
          sym (at_level d ltd)
          ∙ apart.apart (line_of_level c level) (line_of_level d level) x (λ e. ne (omega (arith, e))) (let e = at_level c lt in omega (arith, e, here))
      | inr ge ↦ ap (times x) (get_or_past arrivals.lines d [] ge)
    ]

pub seen_less : (arrivals levels arrivals' levels' : Lines) (in_use : List Levels) (rs rs' : Records) (threads : ℕ) (s : Waiting) (old new : Levels) (c c' level x : ℕ) (left : Option ℕ) (is_left : Bool)
    → AreMessagesKept arrivals levels in_use rs threads → messages_seen arrivals rs threads ≡ s → c' ≡ c → c < length s.messages → old ≡ get_or in_use c' old → IsLeast level_count (has_level old) level
    → Some x ≡ first_of (queue_line_at levels.lines (line_of_level c' level)) → AreLinesApart levels.lines
    → arrivals' ≡ with_line arrivals c' (without x (queue_line_at arrivals.lines c'))
    → levels' ≡ with_line levels (line_of_level c' level) (without x (queue_line_at levels.lines (line_of_level c' level)))
    → left ≡ first_of (queue_line_at levels'.lines (line_of_level c' level)) → is_left ≡ is_some left
    → has_level new level ≡ (has_level old level && is_left) → ((k : ℕ) → k ≢ level → has_level new k ≡ has_level old k)
    → Updates rs rs' x None → rs'.capacity ≡ rs.capacity
    → AreSeenQueues arrivals' levels' (slice_set in_use c' new) rs' threads (with_messages s c (without_sender (sender_at rs x) (messages_at s c)))
seen_less arrivals levels arrivals' levels' in_use rs rs' threads s old new c c' level x left is_left are is ec lt read least first apart ea el eleft eis at beside up room =
    let lt' : c' < length arrivals.lines = subst (λ k. k < length arrivals.lines) (sym ec) (channel_below arrivals rs threads s c is lt) in
    let queue : List ℕ = without x (queue_line_at levels.lines (line_of_level c' level)) in
    let A : Lines = with_line arrivals c' (without x (queue_line_at arrivals.lines c')) in
    let L : Lines = with_line levels (line_of_level c' level) queue in
    let U : List Levels = slice_set in_use c' new in
    let kept : is_left ≡ is_some (first_of queue) =
    eis ∙ ap is_some (eleft ∙ ap first_of (ap (λ (l : Lines). queue_line_at l.lines (line_of_level c' level)) el
    ∙ get_or-set_same levels.lines (line_of_level c' level) queue [] (place_below arrivals levels in_use rs c' level are.queues lt' least.below))) in
    let less : IsLess old new level queue = record { at_level = at ∙ and_true (has_level old level) is_left least.here ∙ kept; beside = beside } in
    let passes = first_passes (is_level rs level) (queue_line_at arrivals.lines c') x (ap first_of (sym (are.queues.queued c' level lt' least.below)) ∙ sym first) in
    let here = first_stands arrivals levels in_use rs threads s c c' level x are.queues is ec lt least.below first in
    let alone = stands_alone arrivals levels in_use rs threads c' level x are apart lt' least.below passes here in
    let q = queued_less arrivals levels in_use rs rs' old new c' x level are.queues lt' least.below passes alone up read less in
    let records = records_less arrivals rs rs' threads c' x are.records lt' alone.once alone.elsewhere up room in
    subst (λ a. AreSeenQueues a levels' U rs' threads (with_messages s c (without_sender (sender_at rs x) (messages_at s c)))) (sym ea)
    (subst (λ l. AreSeenQueues A l U rs' threads (with_messages s c (without_sender (sender_at rs x) (messages_at s c)))) (sym el)
    (subst (λ d. AreSeenQueues A L U rs' threads (with_messages s d (without_sender (sender_at rs x) (messages_at s d)))) ec
    (subst (λ (t : Waiting). AreSeenQueues A L U rs' threads (with_messages t c' (without_sender (sender_at rs x) (messages_at t c')))) is
    (record { are = record { queues = q.are; records = records }; same = same_waiting q.same refl }))))

-- ---- at the opening

pub seen_at_opening : (arrivals levels : Lines) (in_use : List Levels) (rs : Records) (set : Levels) (channels threads keys : ℕ)
    → arrivals ≡ record { lines = replicate channels []; numbers = keys } → levels ≡ record { lines = replicate (level_count * channels) []; numbers = keys }
    → in_use ≡ replicate channels set → rs.slots ≡ [] → threads ≤ rs.capacity → keys ≡ rs.capacity → keys < 65536 → ((k : ℕ) → has_level set k ≡ false)
    → AreSeenQueues arrivals levels in_use rs threads (record { messages = replicate channels []; threads = threads })
seen_at_opening arrivals levels in_use rs set channels threads keys ea el eu empty room named few none =
    let A : Lines = record { lines = replicate channels []; numbers = keys } in
    let L : Lines = record { lines = replicate (level_count * channels) []; numbers = keys } in
    let S : Waiting = record { messages = replicate channels []; threads = threads } in
    let records = records_at_opening arrivals rs channels threads keys ea empty room named few in
    subst (λ a. AreRecords a rs threads → AreSeenQueues a levels in_use rs threads S) (sym ea)
    (λ records. subst (λ l. AreSeenQueues A l in_use rs threads S) (sym el) (subst (λ u. AreSeenQueues A L u rs threads S) (sym eu)
    (record {
      are = record {
        queues = record {
          channels = length-replicate (level_count * channels) [] ∙ sym (ap (λ n. level_count * n) (length-replicate channels []));
          keys = refl;
          sets = length-replicate channels set ∙ sym (length-replicate channels []);
          small = λ k. let z = ap (λ os. (message_in (get_or os k None)).priority) empty in omega (arith, z);
          queued = λ c k lt ltk. line_none (level_count * channels) (line_of_level c k) ∙ sym (ap (filter (is_level rs k)) (line_none channels c));
          used = λ c k d lt ltk.
              ap (λ l. has_level l k) (get_or-replicate channels c set d (subst (λ n. c < n) (length-replicate channels []) lt)) ∙ none k
              ∙ sym (ap (λ q. is_some (first_of q)) (line_none (level_count * channels) (line_of_level c k)));
        };
        records = records;
      };
      same = same_waiting messages refl;
    }))) records
  where
    messages : messages_of rs (replicate channels []) ≡ replicate channels []
    messages =
        same_lists (messages_of rs (replicate channels [])) (replicate channels [])
        (length-messages rs (replicate channels []) ∙ length-replicate channels [] ∙ sym (length-replicate channels []))
        (λ k d lt. let below : k < channels = subst (λ n. k < n) (length-messages rs (replicate channels []) ∙ length-replicate channels []) lt in
        get_or-map (map (message_of rs)) (replicate channels []) k [] d (subst (λ n. k < n) (sym (length-replicate channels [])) below)
        ∙ ap (map (message_of rs)) (get_or-replicate channels k [] [] below)
        ∙ sym (get_or-replicate channels k [] d below))
