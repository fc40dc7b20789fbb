-- The text of threads, one after the other, by their lives.
use Rattle.std.proofs.Common.{◌≡◌, ℕ, suc, ◌+◌, ◌<◌, List, [], ◌∷◌, ◌++◌, length, take, get_or, refl, sym, ap, ◌∙◌, arith, Result, Ok, Err, OnOk, IfOk}
use Rattle.std.specs.Prelude.{All}
use Rattle.std.specs.List.{flat_map}
use Rattle.std.proofs.lemmas.List.{take_more, flat_map_more}
use Rattle.aps_model.specs.declared.entry.Entry.{Entry}
use Rattle.aps_model.specs.Scenario.{Scenario}
use Rattle.view_lives.specs.declared.life.Segment.{Segment}
use Rattle.view_lives.specs.Life.{AreLives}
use Rattle.view_explain.specs.Chain.{threads_explained}
use Rattle.view_explain.specs.Past.{past_at}
use Rattle.view_explain.specs.Text.{explained_thread, thread_by_lives, told_thread}

-- a text to which the lines of the first elements were added, with the lines of one more
pub lines_more : {X : Type 0} (f : X → List ℕ) (start out longer : List ℕ) (xs : List X) (i : ℕ) (x : X)
    → i < length xs → x ≡ get_or xs i x
    → out ≡ start ++ flat_map f (take i xs) → longer ≡ out ++ f x → longer ≡ start ++ flat_map f (take (i + 1) xs)
lines_more f start out longer xs i x inside is so_far added =
    let here : take (i + 1) xs ≡ take i xs ++ x ∷ [] = take_more xs i x inside ∙ ap (λ r. take i xs ++ r ∷ []) (sym is) in
    added ∙ ap (λ t. t ++ f x) so_far ∙ flat_map_more f start (take i xs) x ∙ ap (λ r. start ++ flat_map f r) (sym here)

flat_same : (f g : ℕ → List ℕ) (xs : List ℕ) → All (λ x. f x ≡ g x) xs → flat_map f xs ≡ flat_map g xs
flat_same f g [] each = refl
flat_same f g (x ∷ xs) each = rw (each 0 x (omega arith), flat_same f g xs (λ k d below. each (suc k) d (omega (arith, below)))) refl

-- by the lives of all threads, or by the history
pub told_same : (scenario : Scenario) (h : List Entry) (at thread : ℕ) (lives : List (List Segment)) → AreLives scenario h lives
    → All (λ x. x < length scenario.threads) (threads_explained (past_at scenario h at) thread)
    → flat_map (thread_by_lives (past_at scenario h at) at lives) (threads_explained (past_at scenario h at) thread)
    ≡ flat_map (told_thread scenario h at) (threads_explained (past_at scenario h at) thread)
told_same scenario h at thread lives are known =
    let past = past_at scenario h at in
    flat_same (thread_by_lives past at lives) (told_thread scenario h at) (threads_explained past thread)
    (λ k d below. ap (λ (life : List Segment). explained_thread past at life (get_or (threads_explained past thread) k d)) (are.each _ (known k d below)))

-- what a result says, by what is known where there is a value
pub by_known : {T E Q : Type 0} (r : Result T E) (P R : T → Type 0) → IfOk r P → OnOk r Q → ((x : T) → Q → P x → R x) → IfOk r R
by_known (Ok x) P R is known on = on x known is
by_known (Err e) P R is known on = tt
