-- What an operation did is read byte by byte, along the tree of its words.
use lib.Chars.{codes}
use Rattle.std.proofs.Common.{◌≡◌, ℕ, ◌<◌, ◌≤◌, List, [], ◌∷◌, ◌++◌, Some, refl, sym, ap, subst, ◌∙◌, inl, inr, append_assoc, arith}
use Rattle.std.specs.Prelude.{IfSome}
use Rattle.std.specs.Fmt.{decimal}
use Rattle.aps_model.specs.declared.entry.Done.{Done}
use Rattle.aps_model.specs.declared.entry.Done.TheVariants.{Nothing, Run, Yield, SendBlocked, SendTo, ReceiveBlocked, ReceiveGot, ReceiveHolding, ReplyFreed, ReplyNoClient, Join, JoinNone, Priority, CriticalOn, CriticalOff, Repeat, Exit}
use Rattle.aps_model.specs.Journal.{done_text, thread_in}
use Rattle.aps_model.specs.Limits.{last_thread}
use Rattle.aps_text.specs.Reader.{◌>>=◌, ReadResult, word_at, whole_word, after_byte, nothing_at, number_at}
use Rattle.aps_text.specs.Operation.{named_at, critical_at, join_at, send_at, holding_at, receive_at, repeat_at, run_at, later_at, done_at}
use Rattle.aps_text.proofs.Readers.{IsReader, IsInhabited, BeginsOther, SpellsAfter, SpellsBehind, SpellsWord, SpellsMade, IsReader-nothing, IsReader-after, IsReader-behind, IsReader-word, IsReader-made, IsReader-restated, after_begins_other, word_begins_other, behind_begins_other, nothing_begins_other, made_begins_other}
use Rattle.aps_text.proofs.Numbers.{SpellsNumber, IsReader-number, number_begins_other}

-- ---- the texts of a part of the tree

abbrev pub SpellsDone : List ℕ → Done → Type 0
SpellsDone text done = (text ≡ done_text done ++ 32 ∷ []) × IfSome (thread_in done) (λ x. x ≤ last_thread)

-- a part of the tree: its reader, and that its texts behind the head are those of operations
record IsPart (head : List ℕ) (read : List ℕ → ReadResult Done) (Spells : List ℕ → Done → Type 0) : Type 0 where
  reader : IsReader read Spells
  some : IsInhabited Spells
  means : (text : List ℕ) (done : Done) → Spells text done → SpellsDone (head ++ text) done

word_means : (head word text : List ℕ) (v done : Done) → head ++ word ≡ done_text v ++ 32 ∷ [] → IfSome (thread_in v) (λ x. x ≤ last_thread) → text ≡ word → done ≡ v → SpellsDone (head ++ text) done
word_means head word text v done whole within same same_done = rw (same, same_done) (whole, within)

part_word : (head word : List ℕ) (v : Done) → head ++ word ≡ done_text v ++ 32 ∷ [] → IfSome (thread_in v) (λ x. x ≤ last_thread) → IsPart head (whole_word word v) (SpellsWord word v)
part_word head word v whole within = record {
  reader = IsReader-word word v;
  some = (word, v, (refl, refl));
  means = λ text done h. word_means head word text v done whole within h.0 h.1;
}

-- the words before a thread's number
record Names (head : List ℕ) (make : ℕ → Done) : Type 0 where
  text : (n : ℕ) → done_text (make n) ≡ head ++ decimal n
  thread : (n : ℕ) → thread_in (make n) ≡ Some n

named_means : (head : List ℕ) (make : ℕ → Done) (text : List ℕ) (done : Done) (n : ℕ) → Names head make → text ≡ decimal n ++ 32 ∷ [] → n ≤ last_thread → done ≡ make n → SpellsDone (head ++ text) done
named_means head make text done n names same within same_done =
    let whole : head ++ text ≡ done_text (make n) ++ 32 ∷ [] = ap (λ (t : List ℕ). head ++ t) same ∙ sym (append_assoc head (decimal n) (32 ∷ [])) ∙ ap (λ (t : List ℕ). t ++ 32 ∷ []) (sym (names.text n)) in
    rw same_done (whole, rw (names.thread n) within)

part_named : (head : List ℕ) (make : ℕ → Done) → Names head make → IsPart head (named_at make) (SpellsMade make (SpellsNumber last_thread 32))
part_named head make names = record {
  reader = IsReader-made make (number_at last_thread 32) (SpellsNumber last_thread 32) (IsReader-number last_thread 32 (omega arith) refl);
  some = (decimal 0 ++ 32 ∷ [], make 0, (0, (refl, omega arith), refl));
  means = λ text done h. named_means head make text done h.0 names h.1.0 h.1.1 h.2;
}

after_means : (head : List ℕ) (byte : ℕ) (text s : List ℕ) (done : Done) → text ≡ byte ∷ s → SpellsDone ((head ++ byte ∷ []) ++ s) done → SpellsDone (head ++ text) done
after_means head byte text s done e h =
    subst (λ (t : List ℕ). SpellsDone t done) (append_assoc head (byte ∷ []) s ∙ ap (λ (t : List ℕ). head ++ t) (sym e)) h

means_after : (head : List ℕ) (byte : ℕ) (read : List ℕ → ReadResult Done) (Spells Other : List ℕ → Done → Type 0) → IsPart (head ++ byte ∷ []) read Spells → ((text : List ℕ) (done : Done) → Other text done → SpellsDone (head ++ text) done)
    → (text : List ℕ) (done : Done) → SpellsAfter byte Spells Other text done → SpellsDone (head ++ text) done
means_after head byte read Spells Other p q text done (inl h) = after_means head byte text h.0 done h.1 (p.means h.0 done h.2)
means_after head byte read Spells Other p q text done (inr h) = q text done h

part_after : (head : List ℕ) (byte : ℕ) (read other : List ℕ → ReadResult Done) (Spells Other : List ℕ → Done → Type 0) → IsPart (head ++ byte ∷ []) read Spells → IsPart head other Other → BeginsOther byte Other
    → IsPart head (after_byte byte read other) (SpellsAfter byte Spells Other)
part_after head byte read other Spells Other p q apart = record {
  reader = IsReader-after byte read other Spells Other p.reader p.some q.reader apart;
  some = (byte ∷ p.some.0, p.some.1, inl (p.some.0, refl, p.some.2));
  means = means_after head byte read Spells Other p q.means;
}

part_last : (head : List ℕ) (byte : ℕ) (read : List ℕ → ReadResult Done) (Spells : List ℕ → Done → Type 0) → IsPart (head ++ byte ∷ []) read Spells
    → IsPart head (after_byte byte read nothing_at) (SpellsAfter byte Spells (λ text done. ⊥))
part_last head byte read Spells p = record {
  reader = IsReader-after byte read nothing_at Spells (λ text done. ⊥) p.reader p.some IsReader-nothing (λ text done h. absurd h);
  some = (byte ∷ p.some.0, p.some.1, inl (p.some.0, refl, p.some.2));
  means = means_after head byte read Spells (λ text done. ⊥) p (λ text done h. absurd h);
}

part_behind : (head word : List ℕ) (read : List ℕ → ReadResult Done) (Spells : List ℕ → Done → Type 0) → IsPart (head ++ word) read Spells → IsPart head (λ (bytes : List ℕ). word_at word bytes >>= read) (SpellsBehind word Spells)
part_behind head word read Spells p = record {
  reader = IsReader-behind word read Spells p.reader p.some;
  some = (word ++ p.some.0, p.some.1, (p.some.0, refl, p.some.2));
  means = λ text done h. subst (λ (t : List ℕ). SpellsDone t done) (append_assoc head word h.0 ∙ ap (λ (t : List ℕ). head ++ t) (sym h.1)) (p.means h.0 done h.2);
}

-- ---- other first bytes

named_begins_other : (byte : ℕ) (make : ℕ → Done) → 57 < byte → BeginsOther byte (SpellsMade make (SpellsNumber last_thread 32))
named_begins_other byte make high = made_begins_other byte make (SpellsNumber last_thread 32) (number_begins_other byte last_thread 32 (omega arith) (inr high))

-- ---- the tree

abbrev SpellsNamed : (ℕ → Done) → List ℕ → Done → Type 0
SpellsNamed make = SpellsMade make (SpellsNumber last_thread 32)

abbrev SpellsCritical : List ℕ → Done → Type 0
SpellsCritical = SpellsBehind (codes "ritical:o") (SpellsAfter 110 (SpellsWord (codes " ") CriticalOn) (SpellsWord (codes "ff ") CriticalOff))

part_critical : IsPart (codes "c") critical_at SpellsCritical
unfolding critical_at
part_critical =
    part_behind (codes "c") (codes "ritical:o") _ _
    (part_after (codes "critical:o") 110 _ _ _ _ (part_word (codes "critical:on") (codes " ") CriticalOn refl tt) (part_word (codes "critical:o") (codes "ff ") CriticalOff refl tt)
    (word_begins_other 110 102 (codes "f ") CriticalOff (λ e. omega arith)))

abbrev SpellsJoin : List ℕ → Done → Type 0
SpellsJoin = SpellsBehind (codes "oin") (SpellsAfter 58 (SpellsWord (codes "none ") JoinNone) (SpellsWord (codes " ") Join))

part_join : IsPart (codes "j") join_at SpellsJoin
unfolding join_at
part_join =
    part_behind (codes "j") (codes "oin") _ _
    (part_after (codes "join") 58 _ _ _ _ (part_word (codes "join:") (codes "none ") JoinNone refl tt) (part_word (codes "join") (codes " ") Join refl tt)
    (word_begins_other 58 32 [] Join (λ e. omega arith)))

abbrev SpellsSend : List ℕ → Done → Type 0
SpellsSend = SpellsBehind (codes "end:") (SpellsAfter 98 (SpellsWord (codes "locked ") SendBlocked) (SpellsNamed SendTo))

part_send : IsPart (codes "s") send_at SpellsSend
unfolding send_at
part_send =
    part_behind (codes "s") (codes "end:") _ _
    (part_after (codes "send:") 98 _ _ _ _ (part_word (codes "send:b") (codes "locked ") SendBlocked refl tt)
    (part_named (codes "send:") SendTo (record { text = λ n. refl; thread = λ n. refl })) (named_begins_other 98 SendTo (omega arith)))

abbrev SpellsHeld : List ℕ → Done → Type 0
SpellsHeld = SpellsAfter 104 (SpellsBehind (codes "olding:") (SpellsNamed ReceiveHolding)) (SpellsNamed ReceiveGot)

abbrev SpellsReceive : List ℕ → Done → Type 0
SpellsReceive = SpellsBehind (codes "eive:") (SpellsAfter 98 (SpellsWord (codes "locked ") ReceiveBlocked) SpellsHeld)

part_receive : IsPart (codes "rec") receive_at SpellsReceive
unfolding receive_at holding_at
part_receive =
    part_behind (codes "rec") (codes "eive:") _ _
    (part_after (codes "receive:") 98 _ _ _ SpellsHeld (part_word (codes "receive:b") (codes "locked ") ReceiveBlocked refl tt)
    (part_after (codes "receive:") 104 _ _ _ _
    (part_behind (codes "receive:h") (codes "olding:") _ _ (part_named (codes "receive:holding:") ReceiveHolding (record { text = λ n. refl; thread = λ n. refl })))
    (part_named (codes "receive:") ReceiveGot (record { text = λ n. refl; thread = λ n. refl })) (named_begins_other 104 ReceiveGot (omega arith)))
    (after_begins_other 98 104 _ _ (λ e. omega arith) (named_begins_other 98 ReceiveGot (omega arith))))

abbrev SpellsRepeat : List ℕ → Done → Type 0
SpellsRepeat = SpellsAfter 108 (SpellsBehind (codes "y:") (SpellsAfter 110 (SpellsWord (codes "one ") ReplyNoClient) (SpellsNamed ReplyFreed))) (SpellsWord (codes "eat ") Repeat)

part_repeat : IsPart (codes "rep") repeat_at SpellsRepeat
unfolding repeat_at
part_repeat =
    part_after (codes "rep") 108 _ _ _ _
    (part_behind (codes "repl") (codes "y:") _ _
    (part_after (codes "reply:") 110 _ _ _ _ (part_word (codes "reply:n") (codes "one ") ReplyNoClient refl tt)
    (part_named (codes "reply:") ReplyFreed (record { text = λ n. refl; thread = λ n. refl })) (named_begins_other 110 ReplyFreed (omega arith))))
    (part_word (codes "rep") (codes "eat ") Repeat refl tt)
    (word_begins_other 108 101 (codes "at ") Repeat (λ e. omega arith))

abbrev SpellsRun : List ℕ → Done → Type 0
SpellsRun = SpellsAfter 117 (SpellsWord (codes "n ") Run) (SpellsBehind (codes "e") (SpellsAfter 99 SpellsReceive (SpellsBehind (codes "p") SpellsRepeat)))

part_run : IsPart (codes "r") run_at SpellsRun
unfolding run_at
part_run =
    part_after (codes "r") 117 _ _ _ _ (part_word (codes "ru") (codes "n ") Run refl tt)
    (part_behind (codes "r") (codes "e") _ _
    (part_after (codes "re") 99 _ _ SpellsReceive _ part_receive (part_behind (codes "re") (codes "p") _ SpellsRepeat part_repeat)
    (behind_begins_other 99 112 [] SpellsRepeat (λ e. omega arith))))
    (behind_begins_other 117 101 [] _ (λ e. omega arith))

abbrev SpellsFromY : List ℕ → Done → Type 0
SpellsFromY = SpellsAfter 121 (SpellsWord (codes "ield ") Yield) (λ text done. ⊥)

abbrev SpellsFromS : List ℕ → Done → Type 0
SpellsFromS = SpellsAfter 115 SpellsSend SpellsFromY

abbrev SpellsFromR : List ℕ → Done → Type 0
SpellsFromR = SpellsAfter 114 SpellsRun SpellsFromS

abbrev SpellsFromP : List ℕ → Done → Type 0
SpellsFromP = SpellsAfter 112 (SpellsWord (codes "riority ") Priority) SpellsFromR

abbrev SpellsFromJ : List ℕ → Done → Type 0
SpellsFromJ = SpellsAfter 106 SpellsJoin SpellsFromP

abbrev SpellsFromE : List ℕ → Done → Type 0
SpellsFromE = SpellsAfter 101 (SpellsWord (codes "xit ") Exit) SpellsFromJ

abbrev SpellsFromC : List ℕ → Done → Type 0
SpellsFromC = SpellsAfter 99 SpellsCritical SpellsFromE

abbrev SpellsTree : List ℕ → Done → Type 0
SpellsTree = SpellsAfter 45 (SpellsWord (codes " ") Nothing) SpellsFromC

y_other : (byte : ℕ) → byte < 121 → BeginsOther byte SpellsFromY
y_other byte low = after_begins_other byte 121 (SpellsWord (codes "ield ") Yield) (λ text done. ⊥) (λ e. omega arith) (nothing_begins_other byte)

s_other : (byte : ℕ) → byte < 115 → BeginsOther byte SpellsFromS
s_other byte low = after_begins_other byte 115 SpellsSend SpellsFromY (λ e. omega arith) (y_other byte (omega arith))

r_other : (byte : ℕ) → byte < 114 → BeginsOther byte SpellsFromR
r_other byte low = after_begins_other byte 114 SpellsRun SpellsFromS (λ e. omega arith) (s_other byte (omega arith))

p_other : (byte : ℕ) → byte < 112 → BeginsOther byte SpellsFromP
p_other byte low = after_begins_other byte 112 (SpellsWord (codes "riority ") Priority) SpellsFromR (λ e. omega arith) (r_other byte (omega arith))

j_other : (byte : ℕ) → byte < 106 → BeginsOther byte SpellsFromJ
j_other byte low = after_begins_other byte 106 SpellsJoin SpellsFromP (λ e. omega arith) (p_other byte (omega arith))

e_other : (byte : ℕ) → byte < 101 → BeginsOther byte SpellsFromE
e_other byte low = after_begins_other byte 101 (SpellsWord (codes "xit ") Exit) SpellsFromJ (λ e. omega arith) (j_other byte (omega arith))

c_other : (byte : ℕ) → byte < 99 → BeginsOther byte SpellsFromC
c_other byte low = after_begins_other byte 99 SpellsCritical SpellsFromE (λ e. omega arith) (e_other byte (omega arith))

part_done : IsPart [] done_at SpellsTree
unfolding done_at later_at
part_done =
    part_after [] 45 _ _ _ SpellsFromC (part_word (codes "-") (codes " ") Nothing refl tt)
    (part_after [] 99 _ _ SpellsCritical SpellsFromE part_critical
    (part_after [] 101 _ _ _ SpellsFromJ (part_word (codes "e") (codes "xit ") Exit refl tt)
    (part_after [] 106 _ _ SpellsJoin SpellsFromP part_join
    (part_after [] 112 _ _ _ SpellsFromR (part_word (codes "p") (codes "riority ") Priority refl tt)
    (part_after [] 114 _ _ SpellsRun SpellsFromS part_run
    (part_after [] 115 _ _ SpellsSend SpellsFromY part_send
    (part_last [] 121 _ _ (part_word (codes "y") (codes "ield ") Yield refl tt))
    (y_other 115 (omega arith)))
    (s_other 114 (omega arith)))
    (r_other 112 (omega arith)))
    (p_other 106 (omega arith)))
    (j_other 101 (omega arith)))
    (e_other 99 (omega arith)))
    (c_other 45 (omega arith))

-- where each operation's text stands in the tree
in_run : (text s : List ℕ) (done : Done) → text ≡ 114 ∷ s → SpellsRun s done → SpellsTree text done
in_run text s done e h = inr (inr (inr (inr (inr (inl (s, e, h))))))

in_send : (text s : List ℕ) (done : Done) → text ≡ 115 ∷ s → SpellsSend s done → SpellsTree text done
in_send text s done e h = inr (inr (inr (inr (inr (inr (inl (s, e, h)))))))

in_receive : (text s : List ℕ) (done : Done) → text ≡ codes "receive:" ++ s → SpellsAfter 98 (SpellsWord (codes "locked ") ReceiveBlocked) SpellsHeld s done → SpellsTree text done
in_receive text s done e h = in_run text (codes "eceive:" ++ s) done e (inr (codes "ceive:" ++ s, refl, inl (codes "eive:" ++ s, refl, (s, refl, h))))

in_reply : (text s : List ℕ) (done : Done) → text ≡ codes "reply:" ++ s → SpellsAfter 110 (SpellsWord (codes "one ") ReplyNoClient) (SpellsNamed ReplyFreed) s done → SpellsTree text done
in_reply text s done e h = in_run text (codes "eply:" ++ s) done e (inr (codes "ply:" ++ s, refl, inr (codes "ly:" ++ s, refl, inl (codes "y:" ++ s, refl, (s, refl, h)))))

tree_from : (text : List ℕ) (done : Done) → SpellsDone text done → SpellsTree text done
tree_from text Nothing h = inl (codes " ", h.0, (refl, refl))
tree_from text CriticalOn h = inr (inl (codes "ritical:on ", h.0, (codes "n ", refl, inl (codes " ", refl, (refl, refl)))))
tree_from text CriticalOff h = inr (inl (codes "ritical:off ", h.0, (codes "ff ", refl, inr (refl, refl))))
tree_from text Exit h = inr (inr (inl (codes "xit ", h.0, (refl, refl))))
tree_from text Join h = inr (inr (inr (inl (codes "oin ", h.0, (codes " ", refl, inr (refl, refl))))))
tree_from text JoinNone h = inr (inr (inr (inl (codes "oin:none ", h.0, (codes ":none ", refl, inl (codes "none ", refl, (refl, refl)))))))
tree_from text Priority h = inr (inr (inr (inr (inl (codes "riority ", h.0, (refl, refl))))))
tree_from text Run h = in_run text (codes "un ") Run h.0 (inl (codes "n ", refl, (refl, refl)))
tree_from text ReceiveBlocked h = in_receive text (codes "blocked ") ReceiveBlocked h.0 (inl (codes "locked ", refl, (refl, refl)))
tree_from text (ReceiveGot n) h = in_receive text (decimal n ++ 32 ∷ []) (ReceiveGot n) h.0 (inr (inr (n, (refl, h.1), refl)))
tree_from text (ReceiveHolding n) h =
    let rest = decimal n ++ 32 ∷ [] in
    in_receive text (codes "holding:" ++ rest) (ReceiveHolding n) h.0 (inr (inl (codes "olding:" ++ rest, refl, (rest, refl, (n, (refl, h.1), refl)))))
tree_from text (ReplyFreed n) h = in_reply text (decimal n ++ 32 ∷ []) (ReplyFreed n) h.0 (inr (n, (refl, h.1), refl))
tree_from text ReplyNoClient h = in_reply text (codes "none ") ReplyNoClient h.0 (inl (codes "one ", refl, (refl, refl)))
tree_from text Repeat h = in_run text (codes "epeat ") Repeat h.0 (inr (codes "peat ", refl, inr (codes "eat ", refl, inr (refl, refl))))
tree_from text SendBlocked h = in_send text (codes "end:blocked ") SendBlocked h.0 (codes "blocked ", refl, inl (codes "locked ", refl, (refl, refl)))
tree_from text (SendTo n) h =
    let rest = decimal n ++ 32 ∷ [] in
    in_send text (codes "end:" ++ rest) (SendTo n) h.0 (rest, refl, inr (n, (refl, h.1), refl))
tree_from text Yield h = inr (inr (inr (inr (inr (inr (inr (inl (codes "ield ", h.0, (refl, refl)))))))))

pub IsReader-done : IsReader done_at SpellsDone
IsReader-done = IsReader-restated done_at SpellsTree SpellsDone part_done.means tree_from part_done.reader
