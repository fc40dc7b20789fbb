use Rattle.std.proofs.Common.{ℕ, List, Result, Ok, Err, IfOk, subst, inl, inr}
use Rattle.toml.specs.View.{table_view}
use Rattle.aps_hints.specs.Hint.{IsHint, IsHintOf, IsTableHint}
use Rattle.aps_hints.proofs.scenario.scenario_hint.Goals as goal

-- what is true of each line that an answer may have is true of the answer
of_answer : {A E : Type 0} (P Q : A → Type 0) (r : Result A E) → ((a : A) → P a → Q a) → IfOk r P → IfOk r Q
of_answer P Q (Ok a) each h = each a h
of_answer P Q (Err e) each h = tt

pub returns-in-Ok : goal.returns-in-Ok
returns-in-Ok c =
    let top = table_view c.in-Ok.top in
    of_answer (IsTableHint top c.text.result.now c.args.kind) (IsHint c.args.bytes.now c.args.path.now c.args.kind) c.table_hint.result
    (λ (line : List ℕ) h. inr (top, c.in-Ok.ensures.ok.1, subst (λ (p : List ℕ). IsTableHint top p c.args.kind line) c.text.ensures.same h))
    c.table_hint.ensures

pub returns-in_ok-push_fault-in-Err-2 : goal.returns-in_ok-push_fault-in-Err-2
returns-in_ok-push_fault-in-Err-2 c =
    of_answer (IsHintOf c.text-in-Err-2.result.now c.args.kind) (IsHint c.args.bytes.now c.args.path.now c.args.kind) c.whole_told.result
    (λ (line : List ℕ) h. inl (subst (λ (p : List ℕ). IsHintOf p c.args.kind line) c.text-in-Err-2.ensures.same h))
    c.whole_told.ensures
