-- Tests along a history.
use Rattle.std.proofs.Common.{◌≡◌, ℕ, ◌/◌, ◌+◌, ◌<◌, ◌≤◌, List, [], ◌∷◌, ◌++◌, Bool, false, ◌&&◌, ◌||◌, nat_le, refl, sym, ap, ◌∙◌, append_assoc, append-nil}
use Rattle.std.specs.List.{AllByRecursion, list_any}
use Rattle.aps_model.specs.declared.entry.Entry.{Entry}
use Rattle.aps_model.specs.Loaded.{is_among}
use Rattle.view_samples.specs.Along.{any_along, any_of, in_ticks}
use Rattle.view_samples.proofs.Tests.{among_before, among_none, among_past, among_split, and_false, or_assoc, or_false, shuffled}

-- one entry more
pub along_more : (f : List Entry → Entry → Bool) (before es : List Entry) (e : Entry) → any_along f before (es ++ e ∷ []) ≡ (any_along f before es || f (before ++ es) e)
along_more f before [] e = or_false (f before e) ∙ ap (λ h. f h e) (sym (append-nil before))
along_more f before (d ∷ es) e =
    ap (λ b. f before d || b) (along_more f (before ++ d ∷ []) es e)
    ∙ or_assoc (f before d) (any_along f (before ++ d ∷ []) es) (f ((before ++ d ∷ []) ++ es) e)
    ∙ ap (λ h. (f before d || any_along f (before ++ d ∷ []) es) || f h e) (append_assoc before (d ∷ []) es)

-- one tick more
pub along_split : (test : List Entry → Entry → Bool) (tick_of : Entry → ℕ) (a j : ℕ) (before es : List Entry)
    → any_along (in_ticks test tick_of a (j + 1)) before es
    ≡ (any_along (in_ticks test tick_of a j) before es || (nat_le a j && any_along (in_ticks test tick_of j (j + 1)) before es))
along_split test tick_of a j before [] = sym (and_false (nat_le a j))
along_split test tick_of a j before (e ∷ es) =
    let rest : ℕ → ℕ → Bool = λ x y. any_along (in_ticks test tick_of x y) (before ++ e ∷ []) es in
    ap (λ b. (test before e && b) || rest a (j + 1)) (among_split a j (tick_of e))
    ∙ ap (λ b. (test before e && (is_among a j (tick_of e) || (nat_le a j && is_among j (j + 1) (tick_of e)))) || b) (along_split test tick_of a j (before ++ e ∷ []) es)
    ∙ shuffled (test before e) (is_among a j (tick_of e)) (nat_le a j) (is_among j (j + 1) (tick_of e)) (rest a j) (rest j (j + 1))

-- no tick
pub along_no_tick : (test : List Entry → Entry → Bool) (tick_of : Entry → ℕ) (a : ℕ) (before es : List Entry) → any_along (in_ticks test tick_of a 0) before es ≡ false
along_no_tick test tick_of a before [] = refl
along_no_tick test tick_of a before (e ∷ es) =
    ap (λ b. (test before e && b) || any_along (in_ticks test tick_of a 0) (before ++ e ∷ []) es) (among_none a (tick_of e))
    ∙ ap (λ b. b || any_along (in_ticks test tick_of a 0) (before ++ e ∷ []) es) (and_false (test before e))
    ∙ along_no_tick test tick_of a (before ++ e ∷ []) es

-- ticks that are still to come
pub along_later : (test : List Entry → Entry → Bool) (tick_of : Entry → ℕ) (j b : ℕ) (before es : List Entry) → AllByRecursion (λ (e : Entry). tick_of e < j) es
    → any_along (in_ticks test tick_of j b) before es ≡ false
along_later test tick_of j b before [] early = refl
along_later test tick_of j b before (e ∷ es) early =
    ap (λ t. (test before e && t) || any_along (in_ticks test tick_of j b) (before ++ e ∷ []) es) (among_before j b (tick_of e) early.0)
    ∙ ap (λ t. t || any_along (in_ticks test tick_of j b) (before ++ e ∷ []) es) (and_false (test before e))
    ∙ along_later test tick_of j b (before ++ e ∷ []) es early.1

-- a test of the entry alone
pub along_any : (test : Entry → Bool) (before es : List Entry) → list_any test es ≡ any_along (λ _ e. test e) before es
along_any test before [] = refl
along_any test before (e ∷ es) = ap (λ b. test e || b) (along_any test (before ++ e ∷ []) es)

-- ticks that are past
pub along_past : (test : List Entry → Entry → Bool) (tick_of : Entry → ℕ) (a b : ℕ) (before es : List Entry) → AllByRecursion (λ (e : Entry). b ≤ tick_of e) es
    → any_along (in_ticks test tick_of a b) before es ≡ false
along_past test tick_of a b before [] past = refl
along_past test tick_of a b before (e ∷ es) past =
    ap (λ t. (test before e && t) || any_along (in_ticks test tick_of a b) (before ++ e ∷ []) es) (among_past a b (tick_of e) past.0)
    ∙ ap (λ t. t || any_along (in_ticks test tick_of a b) (before ++ e ∷ []) es) (and_false (test before e))
    ∙ along_past test tick_of a b (before ++ e ∷ []) es past.1

-- two histories, one after the other
pub along_append : (f : List Entry → Entry → Bool) (before xs ys : List Entry) → any_along f before (xs ++ ys) ≡ (any_along f before xs || any_along f (before ++ xs) ys)
along_append f before [] ys = ap (λ h. any_along f h ys) (sym (append-nil before))
along_append f before (d ∷ xs) ys =
    ap (λ b. f before d || b) (along_append f (before ++ d ∷ []) xs ys)
    ∙ or_assoc (f before d) (any_along f (before ++ d ∷ []) xs) (any_along f ((before ++ d ∷ []) ++ xs) ys)
    ∙ ap (λ h. (f before d || any_along f (before ++ d ∷ []) xs) || any_along f h ys) (append_assoc before (d ∷ []) xs)

-- what comes after these ticks tells nothing of them
pub any_longer : (test : List Entry → Entry → Bool) (tick a b : ℕ) (h later : List Entry) → AllByRecursion (λ (e : Entry). b ≤ e.to / tick) later → any_of test tick a b (h ++ later) ≡ any_of test tick a b h
any_longer test tick a b h later past =
    along_append (in_ticks test (λ e. e.to / tick) a b) [] h later
    ∙ ap (λ t. any_of test tick a b h || t) (along_past test (λ e. e.to / tick) a b h later past)
    ∙ or_false (any_of test tick a b h)
