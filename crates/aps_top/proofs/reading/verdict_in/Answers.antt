use Rattle.std.proofs.Common.{◌≡◌, ℕ, ◌-◌, List, arith, drop, length, length-drop, subst, sym, take}
use Rattle.std.proofs.lemmas.List.{take_all}
use Rattle.aps_check.specs.Following.{IsTextVerdict}
use Rattle.aps_core.specs.Run.{Setup}
use Rattle.aps_text.specs.Refusal.{Refuses}
use Rattle.aps_top.proofs.CheckRead.{refused_journal, whole}
use Rattle.aps_top.proofs.reading.verdict_in.Goals as goal

-- what is read as a journal is all that stands behind the line
all_behind : (bytes : List ℕ) (from : ℕ) → take (length bytes - from) (drop from bytes) ≡ drop from bytes
all_behind bytes from = take_all (length bytes - from) (drop from bytes) (omega (arith, length-drop from bytes))

pub returns-in-Ok-check_text : goal.returns-in-Ok-check_text
returns-in-Ok-check_text c =
    let setup : Setup = record { scenario = c.in-Ok.scenario; order = c.args.order; limit = c.args.limit } in
    let (entries, journal, judged) = subst (λ text. IsTextVerdict setup text c.in-Ok-check_text.verdict) (all_behind c.args.bytes.now c.in-Some.at.journal_from) c.in-Ok-check_text.ensures.verdict in
    (c.in-Ok.scenario, entries, whole c.args.bytes.now c.in-Some.at (sym c.in-Some.ensures.same) c.in-Ok.scenario entries c.in-Ok.ensures journal, judged)

pub returns : goal.returns
returns c =
    let refusal = c.in-Err-check_text.refusal in
    let bad = subst (λ text. Refuses text refusal) (all_behind c.args.bytes.now c.in-Some.at.journal_from) c.in-Err-check_text.ensures.refused in
    rw c.of_journal_refusal.ensures
    (refused_journal c.args.bytes.now c.in-Some.at (sym c.in-Some.ensures.same) c.in-Ok.scenario refusal c.in-Ok.ensures bad)
