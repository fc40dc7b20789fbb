-- Whether a thread does the same.
use Rattle.std.proofs.Common.{◌≡◌, ◌≢◌, Bool, true, false, cond, refl, sym, ap, ◌∙◌, subst}
use Rattle.std.proofs.lemmas.Bool.{and_parts, eqb-true, false≢true}
use Rattle.std.specs.Prelude.{not}
use Rattle.laws_runs.proofs.WaitFacts.{test_eq}
use Rattle.view_lives.specs.declared.doing.Doing.{Doing}
use Rattle.view_lives.specs.declared.doing.Doing.TheVariants.{Ready, Running, Sleeping, Sending, Receiving, Replying, Gone}
use Rattle.view_lives.specs.Doing.{is_same_doing}

mark_refl : (m : Bool) → cond m m (not m) ≡ true
mark_refl true = refl
mark_refl false = refl

mark_true : (m n : Bool) → cond m n (not n) ≡ true → m ≡ n
mark_true true n h = sym h
mark_true false true h = absurd (false≢true h)
mark_true false false h = refl

pub same_refl : (a : Doing) → is_same_doing a a ≡ true
same_refl Ready = refl
same_refl (Running c p m) = rw (test_eq c c refl, test_eq p p refl, mark_refl m) refl
same_refl Sleeping = refl
same_refl (Sending c) = test_eq c c refl
same_refl (Receiving c) = test_eq c c refl
same_refl (Replying x) = test_eq x x refl
same_refl Gone = refl

-- what isn't the same differs
pub same_false : (a b : Doing) → is_same_doing a b ≡ false → a ≢ b
same_false a b h = λ e. false≢true (sym (subst (λ d. is_same_doing a d ≡ false) (sym e) h) ∙ same_refl a)

pub same_true : (a b : Doing) → is_same_doing a b ≡ true → a ≡ b
same_true Ready Ready h = refl
same_true (Running c p m) (Running d q n) h =
    let parts = and_parts _ _ h in
    let left = and_parts _ _ parts.0 in
    ap (λ k. Running k p m) (eqb-true c d left.0) ∙ ap (λ k. Running d k m) (eqb-true p q left.1) ∙ ap (λ k. Running d q k) (mark_true m n parts.1)
same_true Sleeping Sleeping h = refl
same_true (Sending c) (Sending d) h = ap Sending (eqb-true c d h)
same_true (Receiving c) (Receiving d) h = ap Receiving (eqb-true c d h)
same_true (Replying x) (Replying y) h = ap Replying (eqb-true x y h)
same_true Gone Gone h = refl
same_true a b h = absurd (false≢true h)
