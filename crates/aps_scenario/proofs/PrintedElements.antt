-- The elements of a printed array are read one after the other.
use Rattle.std.proofs.Common.{◌≡◌, suc, List, [], ◌∷◌, ◌++◌, length, map, Result, Ok, Err, get_or, refl, ap, sym, subst, ◌∙◌, arith, append_assoc, length-append, All}
use Rattle.std.proofs.lemmas.List.{append-nil}
use Rattle.std.proofs.lemmas.List.Elements.{All-get_or}
use Rattle.std.proofs.Math.Seq.{get_or-append_seam}
use Rattle.toml.specs.Data.{Data}
use Rattle.toml.specs.View.{items_of}
use Rattle.aps_scenario.specs.declared.refusal.Finding.{Finding}
use Rattle.aps_scenario.specs.Row.{◌>>=◌}
use Rattle.aps_scenario.specs.Elements.{read_each, items_len}

bind-goes : {A B E : Type 0} (r : Result B E) (f g : B → Result A E) (y z : A) → ((x : B) → f x ≡ Ok y → g x ≡ Ok z) → r >>= f ≡ Ok y → r >>= g ≡ Ok z
bind-goes (Ok x) f g y z step read = step x read
bind-goes (Err e) f g y z step read = absurd (cc)

-- one element more
pub read_each-push : {A B : Type 0} (reads : A → Data → Result B Finding) (adds : A → B → A) (start : A) (ds : List Data) (d : Data) (before : A) (new : B)
    → read_each reads adds start (items_of ds) ≡ Ok before → reads before d ≡ Ok new → read_each reads adds start (items_of (ds ++ d ∷ [])) ≡ Ok (adds before new)
unfolding read_each
read_each-push reads adds start [] d before new front last = let same : start ≡ before = cc in rw (same, last) refl
read_each-push reads adds start (e ∷ ds) d before new front last =
    bind-goes (reads start e) _ _ before (adds before new) (λ x read. read_each-push reads adds (adds start x) ds d before new read last) front

pub items_len-map : {X : Type 0} (shown : X → Data) (xs : List X) → items_len (items_of (map shown xs)) ≡ length xs
items_len-map shown [] = refl
items_len-map shown (x ∷ xs) = ap (λ n. suc n) (items_len-map shown xs)

-- a list of which each element is read after those before it
pub read_each-all : {X : Type 0} (reads : List X → Data → Result X Finding) (shown : X → Data) (before xs : List X)
    → ((front : List X) (x : X) (back : List X) → before ++ xs ≡ front ++ x ∷ back → reads front (shown x) ≡ Ok x)
    → read_each reads (λ so_far new. so_far ++ new ∷ []) before (items_of (map shown xs)) ≡ Ok (before ++ xs)
unfolding read_each
read_each-all reads shown before [] each = ap Ok (sym (append-nil before))
read_each-all reads shown before (x ∷ xs) each =
    let here : reads before (shown x) ≡ Ok x = each before x xs refl in
    let moved : (before ++ x ∷ []) ++ xs ≡ before ++ x ∷ xs = append_assoc before (x ∷ []) xs in
    rw here (read_each-all reads shown (before ++ x ∷ []) xs (λ front y back split. each front y back (sym moved ∙ split)) ∙ ap Ok moved)

-- what holds of each holds of one
pub All-split : {X : Type 0} (P : X → Type 0) (xs front : List X) (x : X) (back : List X) → xs ≡ front ++ x ∷ back → All P xs → P x
All-split P xs front x back split each =
    let count = length-append front (x ∷ back) in
    let here : P (get_or (front ++ x ∷ back) (length front) x) = All-get_or P (front ++ x ∷ back) (length front) x (omega arith) (subst (All P) split each) in
    subst P (get_or-append_seam front x back x) here
