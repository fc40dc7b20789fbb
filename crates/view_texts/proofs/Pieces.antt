-- Texts that are put behind one another.
use Rattle.std.proofs.Common.{◌≡◌, ℕ, List, ◌++◌, Result, Ok, Err, OnOk, ap, ◌∙◌, append_assoc}
use Rattle.std.specs.Bool.{if◌then◌else◌}
use Rattle.std.specs.Result.{is_ok}

-- where a call ends well, what is said of that end
pub on_ok : {T E A B : Type 0} (r : Result T E) → (A → B) → OnOk r A → OnOk r B
on_ok (Ok t) f a = f a
on_ok (Err e) f a = tt

-- where a text was put behind another
pub on_put : {T E : Type 0} (r : Result T E) (x a b : List ℕ) → x ≡ (if is_ok r then a else b) → OnOk r (x ≡ a)
on_put (Ok t) x a b e = e
on_put (Err e) x a b is = tt

-- the text of an equal value
pub as_other : {T : Type 0} (f : T → List ℕ) (out longer : List ℕ) (t u : T) → longer ≡ out ++ f t → t ≡ u → longer ≡ out ++ f u
as_other f out longer t u e is = e ∙ ap (λ x. out ++ f x) is

pub two : (start t1 t2 a b : List ℕ) → t1 ≡ start ++ a → t2 ≡ t1 ++ b → t2 ≡ start ++ (a ++ b)
two start t1 t2 a b e1 e2 = e2 ∙ ap (λ t. t ++ b) e1 ∙ append_assoc start a b

pub three : (start t1 t2 t3 a b c : List ℕ) → t1 ≡ start ++ a → t2 ≡ t1 ++ b → t3 ≡ t2 ++ c → t3 ≡ start ++ (a ++ (b ++ c))
three start t1 t2 t3 a b c e1 e2 e3 = two start t1 t3 a (b ++ c) e1 (two t1 t2 t3 b c e2 e3)

pub four : (start t1 t2 t3 t4 a b c d : List ℕ) → t1 ≡ start ++ a → t2 ≡ t1 ++ b → t3 ≡ t2 ++ c → t4 ≡ t3 ++ d → t4 ≡ start ++ (a ++ (b ++ (c ++ d)))
four start t1 t2 t3 t4 a b c d e1 e2 e3 e4 = two start t1 t4 a (b ++ (c ++ d)) e1 (three t1 t2 t3 t4 b c d e2 e3 e4)
