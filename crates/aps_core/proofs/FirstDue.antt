-- The lowest of the processors that are due least, found in one pass.
use Rattle.std.proofs.Common.{◌≡◌, ℕ, ◌+◌, ◌<◌, ◌≤◌, List, Bool, true, false, nat_lt, cond, add-one, sym, ◌∙◌, ap, arith}
use Rattle.std.proofs.lemmas.Bool.Decides.{nat_tests}
use Rattle.aps_model.specs.declared.entry.Entry.{Entry}
use Rattle.aps_model.specs.Due.{due, first_due}
use Rattle.aps_model.specs.SchedulerState.{SchedulerState}

by_test : (s : SchedulerState) (h : List Entry) (n : ℕ) (t : Bool) → nat_lt (due s h n) (due s h (first_due s h n)) ≡ t
    → first_due s h (n + 1) ≡ cond t n (first_due s h n)
by_test s h n t is = ap (first_due s h) (add-one n) ∙ ap (λ t. cond t n (first_due s h n)) is

-- the next one is due earlier
pub first_sooner : (s : SchedulerState) (h : List Entry) (n first least c moment : ℕ) → first ≡ first_due s h n → least ≡ due s h first → c ≡ n → moment ≡ due s h c → moment < least
    → c ≡ first_due s h (n + 1)
first_sooner s h n first least c moment so_far at own next sooner =
    let one = ap (due s h) so_far in
    let other = ap (due s h) own in
    let less : due s h n < due s h (first_due s h n) = omega (arith, one, other, at, next, sooner) in
    own ∙ sym (by_test s h n true (grind (arith, nat_tests)))

-- the next one isn't
pub first_stays : (s : SchedulerState) (h : List Entry) (n first least c moment : ℕ) → first ≡ first_due s h n → least ≡ due s h first → c ≡ n → moment ≡ due s h c → least ≤ moment
    → first ≡ first_due s h (n + 1)
first_stays s h n first least c moment so_far at own next later =
    let one = ap (due s h) so_far in
    let other = ap (due s h) own in
    let less : due s h (first_due s h n) ≤ due s h n = omega (arith, one, other, at, next, later) in
    so_far ∙ sym (by_test s h n false (grind (arith, nat_tests)))
