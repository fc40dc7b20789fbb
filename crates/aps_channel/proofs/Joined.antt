-- The channels after a change of their messages, their receivers or the triples.
use Rattle.std.proofs.Common.{◌≡◌, ◌≢◌, ◌⊎◌, ℕ, zero, suc, ◌+◌, ◌<◌, ◌≤◌, List, [], ◌∷◌, ◌++◌, length, refl, sym, ◌∙◌, ap, subst, Bool, true, false, cond, nat_eq, nat_lt, Option, Some, None, IsSome, slice_set, get_or, replicate, arith, inl, inr}
use Rattle.std.specs.List.{fold}
use Rattle.std.specs.Option.{option_map}
use Rattle.std.proofs.Math.ListN.{length-set}
use Rattle.std.proofs.lemmas.List.{get_or-replicate, get_or-set_same, get_or-set_other, get_or_past, length-replicate, set-get_or}
use Rattle.std.proofs.lemmas.Bool.{cases_eq, cases_lt}
use Rattle.laws_runs.specs.Waits.{one_if, times, times_sent}
use Rattle.laws_runs.proofs.WaitFacts.{test_eq, test_ne}
use Rattle.laws_runs.proofs.WaitMoves.{client_added, client_without, times-append}
use Rattle.aps_model.specs.Inherit.{client_of, without_server}
use Rattle.aps_model.specs.Limits.{most_threads}
use Rattle.aps_model.specs.Messages.{higher, without_sender}
use Rattle.aps_model.specs.SchedulerState.{ChannelNow, Message, Triple, no_channel}
use Rattle.aps_channel.specs.Channels.{Channels, IsCalm, WaitsNowhere, channel_in_place, channels_with, channels_with_triple}
use Rattle.aps_channel.specs.ChannelsView.{AreChannels, channels_of, channels_joined}
use Rattle.aps_channel.specs.Lines.{AreLinesApart, IsInNone, Lines, first_of, queue_line_at, with_line, without}
use Rattle.aps_channel.specs.Serving.{Serving}
use Rattle.aps_channel.specs.Waiting.{Waiting, first_sender, messages_at, with_messages, without_of}
use Rattle.aps_channel.proofs.Counts.{one_here, times-without}

pub length-joined : (mss : List (List Message)) (rs : List (List ℕ)) → length mss ≡ length rs → length (channels_joined mss rs) ≡ length mss
length-joined [] rs e = refl
length-joined (ms ∷ mss) [] e = absurd (omega (arith, e))
length-joined (ms ∷ mss) (r ∷ rs) e = ap suc (length-joined mss rs (omega (arith, e)))

pub joined_at : (mss : List (List Message)) (rs : List (List ℕ)) (c : ℕ) → length mss ≡ length rs
    → get_or (channels_joined mss rs) c no_channel ≡ record { messages = get_or mss c []; receivers = get_or rs c [] }
joined_at [] [] c e = refl
joined_at [] (r ∷ rs) c e = absurd (omega (arith, e))
joined_at (ms ∷ mss) [] c e = absurd (omega (arith, e))
joined_at (ms ∷ mss) (r ∷ rs) zero e = refl
joined_at (ms ∷ mss) (r ∷ rs) (suc c) e = joined_at mss rs c (omega (arith, e))

joined-set : (mss : List (List Message)) (rs : List (List ℕ)) (c : ℕ) (ms : List Message) (r : List ℕ) → length mss ≡ length rs → c < length mss
    → channels_joined (slice_set mss c ms) (slice_set rs c r) ≡ slice_set (channels_joined mss rs) c (record { messages = ms; receivers = r })
joined-set [] rs c ms r e lt = absurd (omega (arith, lt))
joined-set (m ∷ mss) [] c ms r e lt = absurd (omega (arith, e))
joined-set (m ∷ mss) (s ∷ rs) zero ms r e lt = refl
joined-set (m ∷ mss) (s ∷ rs) (suc c) ms r e lt = ap (λ cs. (record { messages = m; receivers = s }) ∷ cs) (joined-set mss rs c ms r (omega (arith, e)) (omega (arith, lt)))

-- ---- what is seen of one channel

pub size_seen : (w : Waiting) (r : Lines) (s : Serving) (v : Channels) → AreChannels w r s → channels_of w r s ≡ v → length v.channels ≡ length w.messages
size_seen w r s v are is = sym (ap (λ (u : Channels). length u.channels) is) ∙ length-joined w.messages r.lines are.size

pub below_messages : (w : Waiting) (r : Lines) (s : Serving) (v : Channels) (c : ℕ) → AreChannels w r s → channels_of w r s ≡ v → c < length v.channels → c < length w.messages
below_messages w r s v c are is lt = subst (λ n. c < n) (size_seen w r s v are is) lt

pub below_lines : (w : Waiting) (r : Lines) (s : Serving) (v : Channels) (c c' : ℕ) → AreChannels w r s → channels_of w r s ≡ v → c' ≡ c → c < length v.channels → c' < length r.lines
below_lines w r s v c c' are is e lt = subst (λ k. k < length r.lines) (sym e) (subst (λ n. c < n) are.size (below_messages w r s v c are is lt))

pub below_threads : (w : Waiting) (r : Lines) (s : Serving) (v : Channels) (x : ℕ) → channels_of w r s ≡ v → x < v.threads → x < w.threads
below_threads w r s v x is lt = subst (λ (u : Channels). x < u.threads) (sym is) lt

pub messages_here : (w : Waiting) (r : Lines) (s : Serving) (v : Channels) (d : ℕ) → AreChannels w r s → channels_of w r s ≡ v → (channel_in_place v d).messages ≡ messages_at w d
messages_here w r s v d are is =
    subst (λ (u : Channels). (channel_in_place u d).messages ≡ messages_at w d) is (ap (λ (k : ChannelNow). k.messages) (joined_at w.messages r.lines d are.size))

pub receivers_here : (w : Waiting) (r : Lines) (s : Serving) (v : Channels) (d : ℕ) → AreChannels w r s → channels_of w r s ≡ v → (channel_in_place v d).receivers ≡ queue_line_at r.lines d
receivers_here w r s v d are is =
    subst (λ (u : Channels). (channel_in_place u d).receivers ≡ queue_line_at r.lines d) is (ap (λ (k : ChannelNow). k.receivers) (joined_at w.messages r.lines d are.size))

pub triples_here : (w : Waiting) (r : Lines) (s : Serving) (v : Channels) → channels_of w r s ≡ v → v.triples ≡ s.triples
triples_here w r s v is = sym (ap (λ (u : Channels). u.triples) is)

pub calm_seen : (w : Waiting) (r : Lines) (s : Serving) (v : Channels) → AreChannels w r s → channels_of w r s ≡ v → IsCalm v
calm_seen w r s v are is = subst IsCalm is are.calm

pub free_messages : (w : Waiting) (r : Lines) (s : Serving) (v : Channels) (x : ℕ) → AreChannels w r s → channels_of w r s ≡ v → WaitsNowhere v x → (d : ℕ) → times_sent x (messages_at w d) ≡ 0
free_messages w r s v x are is idle d = sym (ap (times_sent x) (messages_here w r s v d are is)) ∙ idle.messages d

pub free_receivers : (w : Waiting) (r : Lines) (s : Serving) (v : Channels) (x x' : ℕ) → AreChannels w r s → channels_of w r s ≡ v → x' ≡ x → WaitsNowhere v x → IsInNone r x'
free_receivers w r s v x x' are is e idle d =
    subst (λ k. times k (queue_line_at r.lines d) ≡ 0) (sym e) (sym (ap (times x) (receivers_here w r s v d are is)) ∙ idle.receivers d)

-- ---- one channel changes, and the triples

abbrev pub changed : Channels → ℕ → ChannelNow → List Triple → Channels
changed v c new ts = record { channels = slice_set v.channels c new; triples = ts; threads = v.threads }

pub calm_changed : (v : Channels) (c : ℕ) (new : ChannelNow) (ts : List Triple) → c < length v.channels → IsCalm v → ((new.messages ≡ []) ⊎ (new.receivers ≡ []))
    → ((x : ℕ) → 1 ≤ times x new.receivers → client_of ts x ≡ None)
    → ((d x : ℕ) → d ≢ c → 1 ≤ times x (channel_in_place v d).receivers → client_of ts x ≡ None) → IsCalm (changed v c new ts)
calm_changed v c new ts lt calm one here others = record {
  either = λ d. elim (cases_eq d c) [
    | inl e ↦
        subst (λ k. ((get_or (slice_set v.channels c new) k no_channel).messages ≡ []) ⊎ ((get_or (slice_set v.channels c new) k no_channel).receivers ≡ [])) (sym e)
        (subst (λ (k : ChannelNow). (k.messages ≡ []) ⊎ (k.receivers ≡ [])) (sym (get_or-set_same v.channels c new no_channel lt)) one)
    | inr ne ↦ subst (λ (k : ChannelNow). (k.messages ≡ []) ⊎ (k.receivers ≡ [])) (sym (get_or-set_other v.channels c d new no_channel ne)) (calm.either d)
  ];
  unheld = λ d x. elim (cases_eq d c) [
    | inl e ↦
        subst (λ k. 1 ≤ times x (get_or (slice_set v.channels c new) k no_channel).receivers → client_of ts x ≡ None) (sym e)
        (subst (λ (k : ChannelNow). 1 ≤ times x k.receivers → client_of ts x ≡ None) (sym (get_or-set_same v.channels c new no_channel lt)) (here x))
    | inr ne ↦
        subst (λ (k : ChannelNow). 1 ≤ times x k.receivers → client_of ts x ≡ None) (sym (get_or-set_other v.channels c d new no_channel ne)) (others d x ne)
  ];
}

pub record AreSeenChannels (w : Waiting) (r : Lines) (s : Serving) (v : Channels) : Type 0 where
  pub are : AreChannels w r s
  pub same : channels_of w r s ≡ v

-- the parts after a change of one channel
parts_changed : (w : Waiting) (r : Lines) (s : Serving) (v : Channels) (c : ℕ) (ms : List Message) (line : List ℕ) (ts : List Triple) → AreChannels w r s → channels_of w r s ≡ v
    → c < length v.channels → IsCalm (changed v c (record { messages = ms; receivers = line }) ts)
    → AreSeenChannels (with_messages w c ms) (with_line r c line) (record s { triples = ts }) (changed v c (record { messages = ms; receivers = line }) ts)
parts_changed w r s v c ms line ts are is lt calm =
    let lt' = below_messages w r s v c are is lt in
    let same : channels_of (with_messages w c ms) (with_line r c line) (record s { triples = ts }) ≡ changed v c (record { messages = ms; receivers = line }) ts =
    subst (λ (u : Channels). channels_of (with_messages w c ms) (with_line r c line) (record s { triples = ts }) ≡ changed u c (record { messages = ms; receivers = line }) ts) is
    (ap (λ (cs : List ChannelNow). let k : Channels = record { channels = cs; triples = ts; threads = w.threads } in k) (joined-set w.messages r.lines c ms line are.size lt')) in
    record {
      are = record {
        size = length-set w.messages c ms ∙ are.size ∙ sym (length-set r.lines c line);
        threads = are.threads;
        servers = are.servers;
        few = are.few;
        calm = subst IsCalm (sym same) calm;
      };
      same = same;
    }

same_channel : {ms ms' : List Message} {rs rs' : List ℕ} → ms ≡ ms' → rs ≡ rs' → ◌≡◌ {A = ChannelNow} (record { messages = ms; receivers = rs }) (record { messages = ms'; receivers = rs' })
same_channel {ms} {ms'} {rs} {rs'} e f = cc

line_same : (r : Lines) (c : ℕ) → with_line r c (queue_line_at r.lines c) ≡ r
line_same r c = ap (λ (ls : List (List ℕ)). let k : Lines = record { lines = ls; numbers = r.numbers } in k) (set-get_or r.lines c [])

messages_same : (w : Waiting) (c : ℕ) → with_messages w c (messages_at w c) ≡ w
messages_same w c = ap (λ (ms : List (List Message)). let k : Waiting = record { messages = ms; threads = w.threads } in k) (set-get_or w.messages c [])

same_triples : (s : Serving) (ts : List Triple) → ts ≡ s.triples → (let k : Serving = record s { triples = ts } in k) ≡ s
same_triples s ts e = ap (λ (us : List Triple). let k : Serving = record { triples = us; threads = s.threads } in k) e

nothing_first : (xs : List ℕ) → first_of xs ≡ None → xs ≡ []
nothing_first [] e = refl
nothing_first (x ∷ xs) e = absurd cc

-- ---- a send

pub sent_blocked : (w w' : Waiting) (r : Lines) (s : Serving) (v : Channels) (c c' x p : ℕ) → AreChannels w r s → channels_of w r s ≡ v → c' ≡ c → c < length v.channels
    → None ≡ first_of (queue_line_at r.lines c') → w' ≡ with_messages w c (messages_at w c ++ (record { sender = x; priority = p }) ∷ [])
    → AreSeenChannels w' r s (channels_with v c (record (channel_in_place v c) { messages = (channel_in_place v c).messages ++ (record { sender = x; priority = p }) ∷ [] }))
    × ((channel_in_place v c).receivers ≡ [])
sent_blocked w w' r s v c c' x p are is e lt first moved =
    let empty : queue_line_at r.lines c ≡ [] = nothing_first (queue_line_at r.lines c) (sym (first ∙ ap (λ k. first_of (queue_line_at r.lines k)) e)) in
    let ms = messages_at w c ++ (record { sender = x; priority = p }) ∷ [] in
    let none : (channel_in_place v c).receivers ≡ [] = receivers_here w r s v c are is ∙ empty in
    let calm = calm_seen w r s v are is in
    let new : ChannelNow = record (channel_in_place v c) { messages = (channel_in_place v c).messages ++ (record { sender = x; priority = p }) ∷ [] } in
    let new_is : ◌≡◌ {A = ChannelNow} (record { messages = ms; receivers = queue_line_at r.lines c }) new =
    same_channel (ap (λ l. l ++ (record { sender = x; priority = p }) ∷ []) (sym (messages_here w r s v c are is))) (sym (receivers_here w r s v c are is)) in
    let calm' : IsCalm (changed v c new v.triples) =
    calm_changed v c new v.triples lt calm (inr none) (λ y l. calm.unheld c y l) (λ d y ne l. calm.unheld d y l) in
    let seen =
    parts_changed w r s v c ms (queue_line_at r.lines c) v.triples are is lt (subst (λ (k : ChannelNow). IsCalm (changed v c k v.triples)) (sym new_is) calm') in (
      subst (λ (a : Waiting). AreSeenChannels a r s (channels_with v c new)) (sym moved)
          (subst (λ (l : Lines). AreSeenChannels (with_messages w c ms) l s (channels_with v c new)) (line_same r c)
          (subst (λ (t : Serving). AreSeenChannels (with_messages w c ms) (with_line r c (queue_line_at r.lines c)) t (channels_with v c new)) (same_triples s v.triples (triples_here w r s v is))
          (subst (λ (k : ChannelNow). AreSeenChannels (with_messages w c ms) (with_line r c (queue_line_at r.lines c)) (record s { triples = v.triples }) (changed v c k v.triples)) new_is seen))),
      none,
    )

-- the first of a line stands before the rest
record IsFront (f : ℕ) (line : List ℕ) : Type 0 where
  pub rest : List ℕ
  pub same : line ≡ f ∷ rest

front : (f : ℕ) (line : List ℕ) → Some f ≡ first_of line → IsFront f line
front f [] e = absurd cc
front f (y ∷ ys) e = record { rest = ys; same = ap (λ k. k ∷ ys) (some_same y f (sym e)) }
  where
    some_same : (a b : ℕ) → Some a ≡ Some b → a ≡ b
    some_same a b p = cc

pub front_stands : (r : Lines) (c f : ℕ) → Some f ≡ first_of (queue_line_at r.lines c) → 1 ≤ times f (queue_line_at r.lines c)
front_stands r c f e = let at = front f (queue_line_at r.lines c) e in subst (λ line. 1 ≤ times f line) (sym at.same) (one_here f at.rest)

-- who waits for a message holds no client
pub receiver_unheld : (w : Waiting) (r : Lines) (s : Serving) (v : Channels) (c c' f y : ℕ) → AreChannels w r s → channels_of w r s ≡ v → c' ≡ c → y ≡ f
    → Some f ≡ first_of (queue_line_at r.lines c') → client_of s.triples y ≡ None
receiver_unheld w r s v c c' f y are is ec ey first =
    let calm = calm_seen w r s v are is in
    let stands : 1 ≤ times f (channel_in_place v c).receivers =
    subst (λ line. 1 ≤ times f line) (sym (receivers_here w r s v c are is)) (subst (λ k. 1 ≤ times f (queue_line_at r.lines k)) ec (front_stands r c' f first)) in
    ap (λ ts. client_of ts y) (sym (triples_here w r s v is)) ∙ ap (client_of v.triples) ey ∙ calm.unheld c f stands

pub record IsDelivered (w : Waiting) (r : Lines) (s : Serving) (v : Channels) (c x y : ℕ) : Type 0 where
  pub rest : List ℕ
  pub receivers : (channel_in_place v c).receivers ≡ y ∷ rest
  pub seen : AreSeenChannels w r s (channels_with_triple (channels_with v c (record (channel_in_place v c) { receivers = rest })) y x c)

pub sent_delivered : (w : Waiting) (r r' : Lines) (s s' : Serving) (v : Channels) (c c' x f y : ℕ) → AreChannels w r s → channels_of w r s ≡ v → c' ≡ c → y ≡ f → c < length v.channels
    → Some f ≡ first_of (queue_line_at r.lines c') → AreLinesApart r.lines → r' ≡ with_line r c' (without f (queue_line_at r.lines c'))
    → s' ≡ record s { triples = (record { server = y; client = x; channel = c }) ∷ s.triples }
    → IsDelivered w r' s' v c x y
sent_delivered w r r' s s' v c c' x f y are is ec ey lt first apart moved begun =
    let at = front f (queue_line_at r.lines c') first in
    let rest = at.rest in
    let line : queue_line_at r.lines c ≡ f ∷ rest = subst (λ k. queue_line_at r.lines k ≡ f ∷ rest) ec at.same in
    let receivers : (channel_in_place v c).receivers ≡ y ∷ rest = receivers_here w r s v c are is ∙ line ∙ ap (λ k. k ∷ rest) (sym ey) in
    let left : without f (queue_line_at r.lines c) ≡ rest = ap (without f) line ∙ ap (λ t. cond t rest (f ∷ without f rest)) (test_eq f f refl) in
    let ts : List Triple = (record { server = y; client = x; channel = c }) ∷ v.triples in
    let new : ChannelNow = record (channel_in_place v c) { receivers = rest } in
    let calm = calm_seen w r s v are is in
    let none : (channel_in_place v c).messages ≡ [] = elim (calm.either c) [
      | inl e ↦ e
      | inr e ↦ absurd (some_receiver y rest (sym receivers ∙ e))
    ] in
    let calm' : IsCalm (changed v c new ts) =
    calm_changed v c new ts lt calm (inl none)
    (λ z l. client_added v.triples y x c z (other_here rest z line ey l) (calm.unheld c z (subst (λ ls. 1 ≤ times z ls) (sym receivers) (more y rest z l))))
    (λ d z ne l. client_added v.triples y x c z (other_there rest d z line ey ne l) (calm.unheld d z l)) in
    let new_is : ◌≡◌ {A = ChannelNow} (record { messages = messages_at w c; receivers = rest }) new = same_channel (sym (messages_here w r s v c are is)) refl in
    let seen =
    parts_changed w r s v c (messages_at w c) rest ts are is lt (subst (λ (k : ChannelNow). IsCalm (changed v c k ts)) (sym new_is) calm') in
    let r_is : with_line r c rest ≡ r' = ap (with_line r c) (sym left) ∙ ap (λ k. with_line r k (without f (queue_line_at r.lines k))) (sym ec) ∙ sym moved in
    let s_is : ◌≡◌ {A = Serving} (record s { triples = ts }) s' =
    ap (λ (us : List Triple). let k : Serving = record s { triples = (record { server = y; client = x; channel = c }) ∷ us } in k) (triples_here w r s v is) ∙ sym begun in
    record {
      rest = rest;
      receivers = receivers;
      seen =
          subst (λ (a : Waiting). AreSeenChannels a r' s' (changed v c new ts)) (messages_same w c)
          (subst (λ (l : Lines). AreSeenChannels (with_messages w c (messages_at w c)) l s' (changed v c new ts)) r_is
          (subst (λ (t : Serving). AreSeenChannels (with_messages w c (messages_at w c)) (with_line r c rest) t (changed v c new ts)) s_is
          (subst (λ (k : ChannelNow). AreSeenChannels (with_messages w c (messages_at w c)) (with_line r c rest) (record s { triples = ts }) (changed v c k ts)) new_is seen)));
    }
  where
    some_receiver : (a : ℕ) (bs : List ℕ) → a ∷ bs ≡ [] → ⊥
    some_receiver a bs e = cc

    more : (a : ℕ) (zs : List ℕ) (z : ℕ) → 1 ≤ times z zs → 1 ≤ times z (a ∷ zs)
    more a zs z l = omega (arith, l)

    -- the receiver that is freed waits at no other place
    other_here : (rest : List ℕ) (z : ℕ) → queue_line_at r.lines c ≡ f ∷ rest → y ≡ f → 1 ≤ times z rest → z ≢ y
    other_here rest z line ey l same =
        let o : times f (f ∷ rest) ≤ 1 = subst (λ ls. times f ls ≤ 1) line (apart.once c f) in
        let l' : 1 ≤ times f rest = subst (λ k. 1 ≤ times k rest) (same ∙ ey) l in
        omega (arith, o, l', ap one_if (test_eq f f refl))

    other_there : (rest : List ℕ) (d z : ℕ) → queue_line_at r.lines c ≡ f ∷ rest → y ≡ f → d ≢ c → 1 ≤ times z (channel_in_place v d).receivers → z ≢ y
    other_there rest d z line ey ne l same =
        let l' : 1 ≤ times f (queue_line_at r.lines d) =
        subst (λ k. 1 ≤ times k (queue_line_at r.lines d)) (same ∙ ey) (subst (λ ls. 1 ≤ times z ls) (receivers_here w r s v d are is) l) in
        let here : 1 ≤ times f (queue_line_at r.lines c) = subst (λ ls. 1 ≤ times f ls) (sym line) (one_here f rest) in
        let z0 = apart.apart c d f (λ e. ne (sym e)) here in
        omega (arith, l', z0)

-- ---- a receive

no_first : (ms : List Message) → first_sender ms ≡ None → ms ≡ []
no_first [] e = refl
no_first (m ∷ ms) e = absurd (some_first ms m e)
  where
    by_test : (t : Bool) (a b : Message) (ms : List Message) → ((m : Message) → option_map (λ (k : Message). k.sender) (fold higher (Some m) ms) ≡ None → ⊥)
        → option_map (λ (k : Message). k.sender) (fold higher (Some (cond t a b)) ms) ≡ None → ⊥
    by_test true a b ms f e = f a e
    by_test false a b ms f e = f b e

    some_first : (ms : List Message) (m : Message) → option_map (λ (k : Message). k.sender) (fold higher (Some m) ms) ≡ None → ⊥
    some_first [] m e = cc
    some_first (x ∷ ms) m e = by_test (nat_lt m.priority x.priority) x m ms (some_first ms) e

pub received_blocked : (w w' : Waiting) (r r' : Lines) (s : Serving) (v : Channels) (c c' x x' : ℕ) → AreChannels w r s → channels_of w r s ≡ v → c' ≡ c → x' ≡ x → c < length v.channels
    → None ≡ first_sender (messages_at w c) → client_of v.triples x ≡ None → w' ≡ with_messages w c (messages_at w c) → r' ≡ with_line r c' (queue_line_at r.lines c' ++ x' ∷ [])
    → AreSeenChannels w' r' s (channels_with v c (record (channel_in_place v c) { receivers = (channel_in_place v c).receivers ++ x ∷ [] })) × (first_sender (channel_in_place v c).messages ≡ None)
received_blocked w w' r r' s v c c' x x' are is ec ex lt first unheld moved pushed =
    let calm = calm_seen w r s v are is in
    let empty : messages_at w c ≡ [] = no_first (messages_at w c) (sym first) in
    let none : (channel_in_place v c).messages ≡ [] = messages_here w r s v c are is ∙ empty in
    let new : ChannelNow = record (channel_in_place v c) { receivers = (channel_in_place v c).receivers ++ x ∷ [] } in
    let line : List ℕ = queue_line_at r.lines c ++ x ∷ [] in
    let calm' : IsCalm (changed v c new v.triples) =
    calm_changed v c new v.triples lt calm (inl none)
    (λ z l. elim (cases_eq x z) [
      | inl e ↦ subst (λ k. client_of v.triples k ≡ None) e unheld
      | inr ne ↦ calm.unheld c z (let a = times-append z x (channel_in_place v c).receivers in omega (arith, l, a, ap one_if (test_ne x z ne)))
    ])
    (λ d z ne l. calm.unheld d z l) in
    let new_is : ◌≡◌ {A = ChannelNow} (record { messages = messages_at w c; receivers = line }) new =
    same_channel (sym (messages_here w r s v c are is)) (ap (λ ls. ls ++ x ∷ []) (sym (receivers_here w r s v c are is))) in
    let seen =
    parts_changed w r s v c (messages_at w c) line v.triples are is lt (subst (λ (k : ChannelNow). IsCalm (changed v c k v.triples)) (sym new_is) calm') in
    let r_is : with_line r c line ≡ r' =
    ap (λ k. with_line r c (queue_line_at r.lines c ++ k ∷ [])) (sym ex) ∙ ap (λ k. with_line r k (queue_line_at r.lines k ++ x' ∷ [])) (sym ec) ∙ sym pushed in (
      subst (λ (a : Waiting). AreSeenChannels a r' s (channels_with v c new)) (sym moved)
          (subst (λ (l : Lines). AreSeenChannels (with_messages w c (messages_at w c)) l s (channels_with v c new)) r_is
          (subst (λ (t : Serving). AreSeenChannels (with_messages w c (messages_at w c)) (with_line r c line) t (channels_with v c new)) (same_triples s v.triples (triples_here w r s v is))
          (subst (λ (k : ChannelNow). AreSeenChannels (with_messages w c (messages_at w c)) (with_line r c line) (record s { triples = v.triples }) (changed v c k v.triples)) new_is seen))),
      ap first_sender none,
    )

pub received_got : (w w' : Waiting) (r : Lines) (s s' : Serving) (v : Channels) (c x m : ℕ) → AreChannels w r s → channels_of w r s ≡ v → c < length v.channels
    → Some m ≡ first_sender (messages_at w c) → WaitsNowhere v x → w' ≡ with_messages w c (without_sender m (messages_at w c))
    → s' ≡ record s { triples = (record { server = x; client = m; channel = c }) ∷ s.triples }
    → AreSeenChannels w' r s' (channels_with_triple (channels_with v c (record (channel_in_place v c) { messages = without_sender m (channel_in_place v c).messages })) x m c)
    × (first_sender (channel_in_place v c).messages ≡ Some m)
received_got w w' r s s' v c x m are is lt first idle moved begun =
    let calm = calm_seen w r s v are is in
    let here : (channel_in_place v c).messages ≡ messages_at w c = messages_here w r s v c are is in
    let next : first_sender (channel_in_place v c).messages ≡ Some m = ap first_sender here ∙ sym first in
    let ms : List Message = without_sender m (messages_at w c) in
    let ts : List Triple = (record { server = x; client = m; channel = c }) ∷ v.triples in
    let new : ChannelNow = record (channel_in_place v c) { messages = without_sender m (channel_in_place v c).messages } in
    let none : (channel_in_place v c).receivers ≡ [] = elim (calm.either c) [
      | inl e ↦ absurd (nobody (sym (ap first_sender e) ∙ next))
      | inr e ↦ e
    ] in
    let calm' : IsCalm (changed v c new ts) =
    calm_changed v c new ts lt calm (inr none)
    (λ z l. client_added v.triples x m c z (other c z l) (calm.unheld c z l))
    (λ d z ne l. client_added v.triples x m c z (other d z l) (calm.unheld d z l)) in
    let new_is : ◌≡◌ {A = ChannelNow} (record { messages = ms; receivers = queue_line_at r.lines c }) new =
    same_channel (ap (without_sender m) (sym here)) (sym (receivers_here w r s v c are is)) in
    let seen =
    parts_changed w r s v c ms (queue_line_at r.lines c) ts are is lt (subst (λ (k : ChannelNow). IsCalm (changed v c k ts)) (sym new_is) calm') in
    let s_is : ◌≡◌ {A = Serving} (record s { triples = ts }) s' =
    ap (λ (us : List Triple). let k : Serving = record s { triples = (record { server = x; client = m; channel = c }) ∷ us } in k) (triples_here w r s v is) ∙ sym begun in (
      subst (λ (a : Waiting). AreSeenChannels a r s' (changed v c new ts)) (sym moved)
          (subst (λ (l : Lines). AreSeenChannels (with_messages w c ms) l s' (changed v c new ts)) (line_same r c)
          (subst (λ (t : Serving). AreSeenChannels (with_messages w c ms) (with_line r c (queue_line_at r.lines c)) t (changed v c new ts)) s_is
          (subst (λ (k : ChannelNow). AreSeenChannels (with_messages w c ms) (with_line r c (queue_line_at r.lines c)) (record s { triples = ts }) (changed v c k ts)) new_is seen))),
      next,
    )
  where
    nobody : {n : ℕ} → None ≡ Some n → ⊥
    nobody {n} e = cc

    other : (d z : ℕ) → 1 ≤ times z (channel_in_place v d).receivers → z ≢ x
    other d z l same = let n = idle.receivers d in let l' = subst (λ k. 1 ≤ times k (channel_in_place v d).receivers) same l in omega (arith, n, l')

-- ---- a reply

pub replied_freed : (w : Waiting) (r : Lines) (s s' : Serving) (v : Channels) (x : ℕ) → AreChannels w r s → channels_of w r s ≡ v → s' ≡ record s { triples = without_server s.triples x }
    → AreSeenChannels w r s' (record v { triples = without_server v.triples x })
replied_freed w r s s' v x are is ended =
    subst (λ (t : Serving). AreSeenChannels w r t (record v { triples = without_server v.triples x })) (sym ended)
    (subst (λ (u : Channels). AreSeenChannels w r (record s { triples = without_server s.triples x }) (record u { triples = without_server u.triples x })) is
    (record {
      are = record {
        size = are.size;
        threads = are.threads;
        servers = are.servers;
        few = are.few;
        calm = record { either = are.calm.either; unheld = λ d z l. client_without s.triples x z (are.calm.unheld d z l) };
      };
      same = refl;
    }))

-- ---- at the opening

pub joined_none : (n : ℕ) → channels_joined (replicate n []) (replicate n []) ≡ replicate n no_channel
joined_none zero = refl
joined_none (suc n) = ap (λ cs. no_channel ∷ cs) (joined_none n)

pub opened : (w : Waiting) (r : Lines) (s : Serving) (n threads : ℕ) → threads ≤ most_threads → w ≡ record { messages = replicate n []; threads = threads } → r ≡ record { lines = replicate n []; numbers = threads }
    → s ≡ record { triples = []; threads = threads } → AreSeenChannels w r s (record { channels = replicate n no_channel; triples = []; threads = threads })
opened w r s n threads few ew er es =
    let W : Waiting = record { messages = replicate n []; threads = threads } in
    let R : Lines = record { lines = replicate n []; numbers = threads } in
    let V : Channels = record { channels = replicate n no_channel; triples = []; threads = threads } in
    subst (λ (a : Waiting). AreSeenChannels a r s V) (sym ew) (subst (λ (l : Lines). AreSeenChannels W l s V) (sym er) (subst (λ (t : Serving). AreSeenChannels W R t V) (sym es)
    (record {
      are = record {
        size = length-replicate n [] ∙ sym (length-replicate n []);
        threads = refl;
        servers = refl;
        few = few;
        calm = record {
          either = λ d. inl (nothing d);
          unheld = λ d x l. refl;
        };
      };
      same = ap (λ (cs : List ChannelNow). let k : Channels = record { channels = cs; triples = []; threads = threads } in k) (joined_none n);
    })))
  where
    nothing : (d : ℕ) → (get_or (channels_joined (replicate n []) (replicate n [])) d no_channel).messages ≡ []
    nothing d = ap (λ cs. (get_or cs d no_channel).messages) (joined_none n) ∙ elim (cases_lt d n) [
      | inl lt ↦ ap (λ (k : ChannelNow). k.messages) (get_or-replicate n d no_channel no_channel lt)
      | inr ge ↦ ap (λ (k : ChannelNow). k.messages) (get_or_past (replicate n no_channel) d no_channel (omega (arith, ge, length-replicate n no_channel)))
    ]
