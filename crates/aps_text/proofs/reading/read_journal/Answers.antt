use Rattle.std.proofs.Common.{◌≡◌, ◌+◌, ◌-◌, ◌∷◌, ◌++◌, [], length, ℕ, sym, ap, subst, ◌∙◌, arith}
use Rattle.std.proofs.lemmas.Bool.{eqb-false, eqb-true}
use Rattle.std.proofs.lemmas.List.{append-nil, nil_from_length}
use Rattle.aps_model.specs.Journal.{journal_text, IsJournal}
use Rattle.aps_text.specs.Refusal.{IsFirstBad}
use Rattle.aps_text.proofs.Journals.{ReadsOn, reads_on, IsBadFrom, bad_from, first_bad, one_list, not_longer}
use Rattle.aps_text.proofs.Wholes.{bad_no_journal}
use Rattle.aps_text.proofs.reading.read_journal.Goals as goal

-- one line more
on : (c : goal.In_ok-push-in-Ok) → ReadsOn (c.loop-rest.entries.items ++ c.in-Ok.entry ∷ []) c.args.bytes.now c.loop-rest.rest.now c.in-Ok.after.now
on c = reads_on c.loop-rest.entries.items c.args.bytes.now c.loop-rest.rest.now c.in-Ok.entry c.in-Ok.after.now c.loop-rest.invariant.lines c.loop-rest.invariant.parts c.in-Ok.ensures

pub loop-rest-smaller : goal.loop-rest-smaller
loop-rest-smaller c = (on c).shorter

pub loop-rest-preserved : goal.loop-rest-preserved
loop-rest-preserved c =
    let more = on c in
    rw c.in_ok-push-in-Ok.ensures.items record { lines = more.lines; parts = more.parts; few = omega (arith, more.shorter, c.in_ok-push-in-Ok.ensures.len) }

-- where the line can't be read
bad : (c : goal.After-drop-entries-in-Err) → IsBadFrom c.args.bytes.now c.in-Err.bad.now (record { line = 1 + length c.loop-rest.entries.items; column = 1 + (length c.loop-rest.rest.now - length c.in-Err.bad.now) })
bad c =
    bad_from c.loop-rest.entries.items c.args.bytes.now c.loop-rest.rest.now c.in-Err.bad.now c.loop-rest.invariant.lines c.loop-rest.invariant.parts
    (λ none. eqb-false (length c.loop-rest.rest.now) 0 (sym c.is_empty.ensures ∙ c.loop-rest-test.true) (ap length none)) c.in-Err.ensures

pub overflow_sub-result : goal.overflow_sub-result
overflow_sub-result c = not_longer c.loop-rest.rest.now c.in-Err.bad.now c.in-Err.ensures

pub returns-in-Err-clause-whole : goal.returns-in-Err-clause-whole
returns-in-Err-clause-whole c = λ entries j. absurd (bad_no_journal c.args.bytes.now _ entries (first_bad _ _ _ (bad c)) j)

pub returns-in-Err-clause-first_bad : goal.returns-in-Err-clause-first_bad
returns-in-Err-clause-first_bad c =
    let lines : length c.loop-rest.entries.items ≡ c.len.result = omega (arith, c.len.ensures, c.loop-rest.entries.ok.0) in
    subst (λ (n : ℕ). IsFirstBad c.args.bytes.now (record { line = 1 + n; column = 1 + (length c.loop-rest.rest.now - length c.in-Err.bad.now) })) lines (first_bad _ _ _ (bad c))

pub returns-clause-whole : goal.returns-clause-whole
returns-clause-whole c = λ entries j.
    let nothing : c.loop-rest.rest.now ≡ [] = nil_from_length c.loop-rest.rest.now (eqb-true (length c.loop-rest.rest.now) 0 (sym c.is_empty.ensures ∙ c.loop-rest-test.false)) in
    let own : IsJournal c.loop-rest.entries.items c.args.bytes.now = record {
      lines = c.loop-rest.invariant.lines;
      text = c.loop-rest.invariant.parts ∙ ap (λ t. journal_text c.loop-rest.entries.items ++ t) nothing ∙ append-nil (journal_text c.loop-rest.entries.items);
    } in
    one_list c.loop-rest.entries.items entries c.args.bytes.now own j
