-- Texts that are cut where a line has no more room.
use Rattle.std.proofs.Common.{◌≡◌, ℕ, zero, suc, ◌+◌, ◌≤◌, ◌<◌, List, [], ◌∷◌, ◌++◌, length, take, Bool, true, false, if◌then◌else◌, codes, refl, sym, ap, subst, ◌∙◌, arith, length-append, append_assoc, append-nil, get_or}
use Rattle.std.specs.List.{list_all}
use Rattle.std.proofs.lemmas.List.{take_all, take-append-le, map_more, map-append}
use Rattle.std.proofs.lemmas.List.Folds.{list_all-append}
use Rattle.aps_hints.specs.Line.{is_shown, shown, shown_text, most_bytes, cut, IsHintLine}

-- one byte more, where there is room
pub cut_more : (old : List ℕ) (x : ℕ) → length old < most_bytes → cut (old ++ (x ∷ [])) ≡ old ++ (x ∷ [])
cut_more old x room = take_all most_bytes (old ++ (x ∷ [])) (omega (arith, length-append old (x ∷ [])))

-- nothing more, where there is none
pub cut_full : (old more : List ℕ) → most_bytes ≤ length old → length old ≤ most_bytes → cut (old ++ more) ≡ old
cut_full old more full short = take-append-le most_bytes old more full ∙ take_all most_bytes old short

take_cut : (n : ℕ) (a b : List ℕ) → take n (take n a ++ b) ≡ take n (a ++ b)
take_cut zero a b = refl
take_cut (suc n) [] b = refl
take_cut (suc n) (x ∷ a) b = ap (λ rest. x ∷ rest) (take_cut n a b)

-- a text that is cut twice
pub cut_again : (a b : List ℕ) → cut (cut a ++ b) ≡ cut (a ++ b)
cut_again a b = take_cut most_bytes a b

pub shown_is_shown : (x : ℕ) → is_shown (shown x) ≡ true
shown_is_shown x = by_test (is_shown x) refl where
  by_test : (t : Bool) → is_shown x ≡ t → is_shown (if t then x else 63) ≡ true
  by_test true is = is
  by_test false is = refl

-- one byte more that is shown
pub shown_more : (old : List ℕ) (x : ℕ) → list_all is_shown old ≡ true → list_all is_shown (old ++ (shown x ∷ [])) ≡ true
shown_more old x h = list_all-append is_shown old (shown x ∷ []) ∙ grind (arith, h, shown_is_shown x)

-- a line to which such a byte was written, if there was memory
pub line_more : (old new : List ℕ) (x : ℕ) (written : Bool) → IsHintLine old → length old < most_bytes
    → new ≡ (if written then old ++ (shown x ∷ []) else old) → IsHintLine new
line_more old new x true is room same = subst IsHintLine (sym same) (record {
  short = omega (arith, room, length-append old (shown x ∷ []));
  printable = shown_more old x is.printable;
})
line_more old new x false is room same = subst IsHintLine (sym same) is

-- the text as far as it was written, and one byte more
pub text_more : (old text : List ℕ) (i : ℕ) (mid new : List ℕ) → i < length text
    → mid ≡ cut (old ++ shown_text (take i text)) → new ≡ cut (mid ++ (shown (get_or text i 0) ∷ []))
    → new ≡ cut (old ++ shown_text (take (i + 1) text))
text_more old text i mid new h was now =
    let x = get_or text i 0 in
    now ∙ ap (λ m. cut (m ++ (shown x ∷ []))) was ∙ cut_again (old ++ shown_text (take i text)) (shown x ∷ [])
    ∙ ap cut (append_assoc old (shown_text (take i text)) (shown x ∷ []) ∙ ap (λ t. old ++ t) (sym (map_more shown text i 0 h)))

-- nothing written so far
pub text_none : (old items : List ℕ) → old ≡ items → IsHintLine items → old ≡ cut (old ++ [])
text_none old items same is =
    sym (ap cut (append-nil old) ∙ take_all most_bytes old (subst (λ (l : List ℕ). length l ≤ most_bytes) (sym same) is.short))

-- a full line
pub line_full : (old items more : List ℕ) → old ≡ items → IsHintLine items → most_bytes ≤ length items → old ≡ cut (old ++ more)
line_full old items more same is full =
    sym (cut_full old more (subst (λ (l : List ℕ). most_bytes ≤ length l) (sym same) full)
    (subst (λ (l : List ℕ). length l ≤ most_bytes) (sym same) is.short))

-- one text more behind what is shown
pub shown_step : (text piece mid new : List ℕ) → mid ≡ cut (shown_text text) → new ≡ cut (mid ++ shown_text piece)
    → new ≡ cut (shown_text (text ++ piece))
shown_step text piece mid new was now =
    now ∙ ap (λ m. cut (m ++ shown_text piece)) was ∙ cut_again (shown_text text) (shown_text piece)
    ∙ ap cut (sym (map-append shown text piece))

-- the four parts of a hint, one behind the other
pub parts_told : (path value reason wanted : List ℕ) (l0 l1 l2 l3 l4 l5 t1 t3 t4 t5 : List ℕ) → l0 ≡ []
    → t1 ≡ path → l1 ≡ cut (l0 ++ shown_text t1) → l2 ≡ cut (l1 ++ shown_text (codes ": "))
    → t3 ≡ value → l3 ≡ cut (l2 ++ shown_text t3)
    → t4 ≡ reason → l4 ≡ cut (l3 ++ shown_text t4)
    → t5 ≡ wanted → l5 ≡ cut (l4 ++ shown_text t5)
    → l5 ≡ cut (shown_text (path ++ codes ": " ++ value ++ reason ++ wanted))
parts_told path value reason wanted l0 l1 l2 l3 l4 l5 t1 t3 t4 t5 none q1 e1 e2 q3 e3 q4 e4 q5 e5 =
    let s1 : l1 ≡ cut (shown_text path) =
    e1 ∙ ap (λ l. cut (l ++ shown_text t1)) none ∙ ap (λ t. cut (shown_text t)) q1 in
    let s2 : l2 ≡ cut (shown_text (path ++ codes ": ")) = shown_step path (codes ": ") l1 l2 s1 e2 in
    let s3 : l3 ≡ cut (shown_text (path ++ codes ": " ++ value)) =
    shown_step (path ++ codes ": ") value l2 l3 s2 (e3 ∙ ap (λ t. cut (l2 ++ shown_text t)) q3) in
    let s4 : l4 ≡ cut (shown_text (path ++ codes ": " ++ value ++ reason)) =
    shown_step (path ++ codes ": " ++ value) reason l3 l4 s3 (e4 ∙ ap (λ t. cut (l3 ++ shown_text t)) q4) in
    shown_step (path ++ codes ": " ++ value ++ reason) wanted l4 l5 s4 (e5 ∙ ap (λ t. cut (l4 ++ shown_text t)) q5)

-- the same with a place
pub placed_parts_told : (path place value reason wanted : List ℕ) (l0 l1 l2 l3 l4 l5 l6 l7 t3 t5 t6 t7 : List ℕ) → l0 ≡ []
    → l1 ≡ cut (l0 ++ shown_text path) → l2 ≡ cut (l1 ++ shown_text (codes " ("))
    → t3 ≡ place → l3 ≡ cut (l2 ++ shown_text t3)
    → l4 ≡ cut (l3 ++ shown_text (codes "): "))
    → t5 ≡ value → l5 ≡ cut (l4 ++ shown_text t5)
    → t6 ≡ reason → l6 ≡ cut (l5 ++ shown_text t6)
    → t7 ≡ wanted → l7 ≡ cut (l6 ++ shown_text t7)
    → l7 ≡ cut (shown_text (path ++ codes " (" ++ place ++ codes "): " ++ value ++ reason ++ wanted))
placed_parts_told path place value reason wanted l0 l1 l2 l3 l4 l5 l6 l7 t3 t5 t6 t7 none e1 e2 q3 e3 e4 q5 e5 q6 e6 q7 e7 =
    let s1 : l1 ≡ cut (shown_text path) = e1 ∙ ap (λ l. cut (l ++ shown_text path)) none in
    let s2 : l2 ≡ cut (shown_text (path ++ codes " (")) = shown_step path (codes " (") l1 l2 s1 e2 in
    let s3 : l3 ≡ cut (shown_text (path ++ codes " (" ++ place)) =
    shown_step (path ++ codes " (") place l2 l3 s2 (e3 ∙ ap (λ t. cut (l2 ++ shown_text t)) q3) in
    let s4 : l4 ≡ cut (shown_text (path ++ codes " (" ++ place ++ codes "): ")) =
    shown_step (path ++ codes " (" ++ place) (codes "): ") l3 l4 s3 e4 in
    let s5 : l5 ≡ cut (shown_text (path ++ codes " (" ++ place ++ codes "): " ++ value)) =
    shown_step (path ++ codes " (" ++ place ++ codes "): ") value l4 l5 s4 (e5 ∙ ap (λ t. cut (l4 ++ shown_text t)) q5) in
    let s6 : l6 ≡ cut (shown_text (path ++ codes " (" ++ place ++ codes "): " ++ value ++ reason)) =
    shown_step (path ++ codes " (" ++ place ++ codes "): " ++ value) reason l5 l6 s5 (e6 ∙ ap (λ t. cut (l5 ++ shown_text t)) q6) in
    shown_step (path ++ codes " (" ++ place ++ codes "): " ++ value ++ reason) wanted l6 l7 s6 (e7 ∙ ap (λ t. cut (l6 ++ shown_text t)) q7)
