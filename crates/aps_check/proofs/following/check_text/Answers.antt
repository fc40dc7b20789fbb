use Rattle.std.proofs.Common.{◌≡◌, ◌-◌, List, drop, length, sym, ap, subst, ◌∙◌, arith}
use Rattle.aps_model.specs.declared.entry.Entry.{Entry}
use Rattle.aps_model.specs.History.{History}
use Rattle.aps_core.specs.Run.{Run, Setup, history_of_run}
use Rattle.aps_check.specs.Following.{IsOtherAt, HasReadUpTo, TellsDifference}
use Rattle.aps_check.proofs.FollowedLines.{front_inside, rest_judged, found_differing, other_at, differing_judged}
use Rattle.aps_check.proofs.following.check_text.Goals as goal

-- the run has as many entries as its history
entries_of : (h : History) (run : Run) (read : List Entry) → h ≡ history_of_run run → read ≡ h.entries → length read ≡ length run.entries
entries_of h run read kept same = ap (λ (l : List Entry). length l) (same ∙ ap (λ (h : History). h.entries) kept)

pub behind-requires : goal.behind-requires
behind-requires c =
    let setup : Setup = record { scenario = c.args.scenario.now; order = c.args.order; limit = c.args.limit } in
    let later = c.follow-followed.new.core in
    let stop = c.in-Waits.ensures in
    let place = length c.entries-place.result.now in
    let n = entries_of c.history.result.now later c.entries-place.result.now c.history.ensures.same c.entries-place.ensures.same in
    let up = subst (λ (r : Run). HasReadUpTo r later c.args.text.now stop.0) c.in_ok-core.ensures stop.1 in
    let entries = c.in_ok-entries-in-Waits in
    omega (
      arith,
      front_inside setup c.args.text.now entries.entries.items entries.ensures.journal later stop.0 place up n,
      ap (λ (l : List Entry). length l) c.deref.ensures.value,
    )

pub returns-in-Waits-clause-verdict : goal.returns-in-Waits-clause-verdict
returns-in-Waits-clause-verdict c =
    let setup : Setup = record { scenario = c.args.scenario.now; order = c.args.order; limit = c.args.limit } in
    let later = c.follow-followed.new.core in
    let stop = c.in-Waits.ensures in
    let place = length c.entries-place.result.now in
    let n = entries_of c.history.result.now later c.entries-place.result.now c.history.ensures.same c.entries-place.ensures.same in
    let up = subst (λ (r : Run). HasReadUpTo r later c.args.text.now stop.0) c.in_ok-core.ensures stop.1 in
    let entries = c.in_ok-entries-in-Waits in
    rest_judged setup c.args.text.now entries.entries.items entries.ensures.journal later stop.0 place c.behind.result.now c.judge.result up n
    (c.behind.ensures ∙ ap (drop place) c.deref.ensures.value) c.judge.ensures

pub differing-requires : goal.differing-requires
differing-requires c =
    let setup : Setup = record { scenario = c.args.scenario.now; order = c.args.order; limit = c.args.limit } in
    let later = c.follow-followed.new.core in
    let made = c.in-Differs.step in
    let place = length c.entries-place.result.now in
    let n = entries_of c.history.result.now later c.entries-place.result.now c.history.ensures.same c.entries-place.ensures.same in
    let entries = c.in_ok-entries-in-Differs in
    let d = found_differing setup c.args.text.now entries.entries.items entries.ensures.journal c.in_ok-core.core later place made c.in_ok-core.ensures c.in-Differs.ensures n in
    subst (λ (l : List Entry). IsOtherAt l (place - 1) made) (sym c.deref-in-Differs.ensures.value)
    (other_at setup c.args.text.now entries.entries.items entries.ensures.journal place made d
    (omega (arith, ap (λ (l : List Entry). length l) c.entries-place.ensures.same, c.entries-place.ensures.keeps.entries_fit, c.entries-place.ensures.keeps.few_entries)))

pub returns-clause-verdict : goal.returns-clause-verdict
returns-clause-verdict c =
    let setup : Setup = record { scenario = c.args.scenario.now; order = c.args.order; limit = c.args.limit } in
    let later = c.follow-followed.new.core in
    let made = c.in-Differs.step in
    let place = length c.entries-place.result.now in
    let n = entries_of c.history.result.now later c.entries-place.result.now c.history.ensures.same c.entries-place.ensures.same in
    let entries = c.in_ok-entries-in-Differs in
    let d = found_differing setup c.args.text.now entries.entries.items entries.ensures.journal c.in_ok-core.core later place made c.in_ok-core.ensures c.in-Differs.ensures n in
    differing_judged setup c.args.text.now entries.entries.items entries.ensures.journal place made d c.differing.result
    (subst (λ (l : List Entry). TellsDifference l (place - 1) made c.differing.result) c.deref-in-Differs.ensures.value c.differing.ensures)
