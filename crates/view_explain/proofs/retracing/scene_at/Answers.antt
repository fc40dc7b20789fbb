use Rattle.std.proofs.Common.{◌≡◌, ◌≤◌, ◌∙◌, ℕ, List, [], take, drop, length, replicate, ap, arith, sym, subst}
use Rattle.std.specs.Prelude.{All, IfOk}
use Rattle.std.proofs.lemmas.List.{get_or-take, length-take-le, take-append-drop}
use Rattle.aps_model.specs.declared.entry.Entry.{Entry}
use Rattle.aps_model.specs.History.{IsEntry}
use Rattle.aps_model.specs.Legal.{IsLegal}
use Rattle.aps_model.specs.Scenario.{Scenario}
use Rattle.laws_runs.proofs.Words.{prefix_legal}
use Rattle.aps_core.specs.Run.{Run, state_of_run}
use Rattle.view_lives.specs.Whole.{until}
use Rattle.view_explain.specs.Past.{Past}
use Rattle.view_explain.specs.Ties.{Ties, ties_of}
use Rattle.view_explain.proofs.Tied.{ties_none}
use Rattle.view_explain.proofs.retracing.scene_at.Goals as goal

all_take : (P : Entry → Type 0) (xs : List Entry) (n : ℕ) → n ≤ length xs → All P xs → All P (take n xs)
all_take P xs n within each k d below =
    let long = length-take-le n xs within in
    subst P (sym (get_or-take n xs k d (omega (arith, below, long)))) (each k d (omega (arith, below, long, within)))

pub scene_of-requires-clause-tied : goal.scene_of-requires-clause-tied
scene_of-requires-clause-tied c =
    let made : ℕ → Ties = λ n. record { messages = replicate n []; triples = [] } in
    c.in_ok-ties.ensures ∙ ap made (ap (λ (l : List (List ℕ)). length l) (c.channels.ensures.same ∙ ap (λ (s : Scenario). s.channels) c.scenario.ensures)) ∙ sym (ties_none c.args.history.now.scenario)
    ∙ ap (λ (run : Run). ties_of (state_of_run run)) (sym c.in_ok-core.ensures.same)

pub scene_of-requires-clause-entries : goal.scene_of-requires-clause-entries
scene_of-requires-clause-entries c =
    let all = subst (λ (es : List Entry). All IsEntry es) (sym c.entries-entries.ensures.same) c.entries-entries.ensures.keeps.entries in
    all_take IsEntry c.entries-entries.result.now c.ended_by-count.result c.ended_by-count.ensures.within all

pub scene_of-requires-clause-legal : goal.scene_of-requires-clause-legal
scene_of-requires-clause-legal c =
    let h = c.args.history.now in
    let order = c.args.order in
    let es = c.entries-entries.result.now in
    let n = c.ended_by-count.result in
    let whole : IsLegal h.scenario order es = subst (IsLegal h.scenario order) (sym c.entries-entries.ensures.same) c.requires.legal in
    let front : IsLegal h.scenario order (take n es) =
    prefix_legal h.scenario order (take n es) (drop n es) (subst (IsLegal h.scenario order) (sym (take-append-drop n es)) whole) in
    subst (λ (run : Run). IsLegal run.setup.scenario run.setup.order (take n es)) (sym c.in_ok-core.ensures.same) front

pub returns : goal.returns
returns c =
    let h = c.args.history.now in
    let es = c.entries-entries.result.now in
    let made : Scenario → List Entry → Past = λ s l. record { scenario = s; entries = l } in
    subst (λ (past : Past). IfOk c.scene_of.result (λ scene. scene ≡ past))
    (ap (λ (run : Run). made run.setup.scenario (take c.ended_by-count.result es)) c.in_ok-core.ensures.same
    ∙ ap (made h.scenario) (sym c.ended_by-count.ensures.same ∙ ap (λ l. until c.args.at l) c.entries-entries.ensures.same))
    c.scene_of.ensures
