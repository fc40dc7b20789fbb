-- Names that are distinct are found and are new.
use Rattle.std.proofs.Common.{◌≡◌, ℕ, suc, ◌<◌, Bool, false, List, [], ◌∷◌, ◌++◌, length, map, get_or, take, Some, refl, ap, sym, ◌∙◌, arith, length-append}
use Rattle.std.proofs.lemmas.Bool.{lt-ltb}
use Rattle.std.proofs.lemmas.Cmp.{nat_list_eq_equiv}
use Rattle.std.proofs.lemmas.List.{get_or-take, get_or_default, get_or-map, length-map, length-take, take-map}
use Rattle.std.proofs.Math.Seq.{get_or-append_seam, take-append_seam}
use Rattle.std.proofs.lemmas.List.Sums.{position_or_len_is}
use Rattle.std.proofs.lemmas.Map.Keys.{IsDistinct-from_apart, apart_from_distinct}
use Rattle.std.specs.List.{IsDistinct, list_any, position, position_or_len}
use Rattle.std.specs.Str.{bytes_eq}
use Rattle.aps_scenario.proofs.Lists.{list_any-map}

pub IsDistinct-take : {K : Type 0} (e : K → K → Bool) (n : ℕ) (ks : List K) → IsDistinct e ks → IsDistinct e (take n ks)
IsDistinct-take e n ks distinct =
    IsDistinct-from_apart e (take n ks) (λ i j d low high.
    let size = length-take n ks in
    rw (get_or-take n ks i d (omega arith), get_or-take n ks j d (omega arith)) (apart_from_distinct e ks i j d distinct low (omega arith)))

-- a name isn't among those before it
pub new-among-before : (n : ℕ) (names : List (List ℕ)) (d : List ℕ) → n < length names → IsDistinct bytes_eq names
    → list_any (bytes_eq (get_or names n d)) (take n names) ≡ false
new-among-before n names d within distinct =
    none_passes (bytes_eq (get_or names n d)) (take n names) (λ k e below.
    let size = length-take n names in
    rw (get_or-take n names k e (omega arith), get_or_default names k e d (omega arith), nat_list_eq_equiv.symm (get_or names n d) (get_or names k d))
    (apart_from_distinct bytes_eq names k n d distinct (omega arith) within))
  where
    none_passes : {X : Type 0} (test : X → Bool) (xs : List X) → ((k : ℕ) (e : X) → k < length xs → test (get_or xs k e) ≡ false) → list_any test xs ≡ false
    none_passes test [] fails = refl
    none_passes test (x ∷ xs) fails = rw (fails 0 x (omega arith)) (none_passes test xs (λ k e below. fails (suc k) e (omega arith)))

-- the one with this name is found at its place
pub position-named : {X : Type 0} (name : X → List ℕ) (xs : List X) (i : ℕ) (d : X) → i < length xs → IsDistinct bytes_eq (map name xs)
    → position (λ x. bytes_eq (name x) (name (get_or xs i d))) xs ≡ Some i
position-named name xs i d within distinct =
    let size = length-map xs name in
    let here : position_or_len (λ x. bytes_eq (name x) (name (get_or xs i d))) xs ≡ i =
    position_or_len_is (λ x. bytes_eq (name x) (name (get_or xs i d))) xs i d (omega arith)
    (λ k below. rw (sym (get_or-map name xs k d (name d) (omega arith)), sym (get_or-map name xs i d (name d) within)) (apart_from_distinct bytes_eq (map name xs) k i (name d) distinct below (omega arith)))
    (λ inside. nat_list_eq_equiv.refl (name (get_or xs i d))) in
    rw (here, lt-ltb i (length xs) within) refl

pub new-in-split : {X : Type 0} (name : X → List ℕ) (front : List X) (x : X) (back : List X) → IsDistinct bytes_eq (map name (front ++ x ∷ back))
    → list_any (λ y. bytes_eq (name x) (name y)) front ≡ false
new-in-split name front x back distinct =
    let size = length-append front (x ∷ back) in
    let count = length-map (front ++ x ∷ back) name in
    let here : get_or (map name (front ++ x ∷ back)) (length front) [] ≡ name x =
    get_or-map name (front ++ x ∷ back) (length front) x [] (omega arith) ∙ ap name (get_or-append_seam front x back x) in
    let before : take (length front) (map name (front ++ x ∷ back)) ≡ map name front =
    take-map name (length front) (front ++ x ∷ back) ∙ ap (map name) (take-append_seam front (x ∷ back)) in
    sym (list_any-map (bytes_eq (name x)) name front)
    ∙ ap (list_any (bytes_eq (name x))) (sym before)
    ∙ ap (λ (text : List ℕ). list_any (bytes_eq text) (take (length front) (map name (front ++ x ∷ back)))) (sym here)
    ∙ new-among-before (length front) (map name (front ++ x ∷ back)) [] (omega arith) distinct

-- the names, where each is its own
pub map-same : {X : Type 0} (xs : List X) → map (λ x. x) xs ≡ xs
map-same [] = refl
map-same (x ∷ xs) = ap (λ ys. x ∷ ys) (map-same xs)
