use Rattle.std.proofs.Common.{◌≡◌, ◌<◌, ◌++◌, ◌∙◌, List, [], take, get_or, length, replicate, ap, arith, sym, subst}
use Rattle.std.proofs.lemmas.List.{take_all}
use Rattle.aps_model.specs.declared.command.CommandRow.{CommandRow}
use Rattle.aps_model.specs.declared.entry.Entry.{Entry}
use Rattle.aps_model.specs.declared.shape.Shape.{Shape}
use Rattle.aps_model.specs.After.{state_after}
use Rattle.aps_model.specs.Scenario.{Scenario}
use Rattle.aps_core.specs.Run.{Run, Setup, state_of_run}
use Rattle.aps_core.specs.Turn.{with_entry}
use Rattle.aps_core.proofs.Turns.{cpus_exist}
use Rattle.view_replay.specs.Retraced.{front}
use Rattle.view_replay.proofs.Retraced.{front_more, next_taken, one_more}
use Rattle.view_marks.specs.declared.alteration.Alteration.{Alteration}
use Rattle.view_marks.specs.Alteration.{alterations_of, altered_between}
use Rattle.view_marks.specs.Bar.{AreLanes, AreLongerLanes}
use Rattle.view_marks.proofs.Longer.{altered_more, altered_none, lanes_more, lanes_none}
use Rattle.view_marks.proofs.drawn.drawn_by.Goals as goal

pub loop-e-init : goal.loop-e-init
loop-e-init c =
    let run = c.args.core.now in
    let with_entries : List Entry → Run = λ es. record { setup = run.setup; entries = es } in
    let with_scenario : Scenario → Run = λ s. record { setup = record { scenario = s; order = run.setup.order; limit = run.setup.limit }; entries = [] } in
    let count : c.from.result ≡ c.args.scenario.now.shape.cpus = c.from.ensures ∙ ap (λ (s : Shape). s.cpus) c.shape.ensures.same in
    record {
      core = ap with_entries c.requires.begins ∙ ap with_scenario c.requires.scenario;
      lanes = lanes_none c.args.scenario.now c.in_ok-lanes.lanes.items (c.in_ok-lanes.ensures ∙ ap (λ n. replicate n []) count);
      alterations = c.new-alterations.ensures.items ∙ sym (altered_none c.args.scenario.now);
    }

pub lengthen-requires : goal.lengthen-requires
lengthen-requires c =
    let exists = cpus_exist c.args.scenario.now c.args.core.now.setup.order c.args.entries.now c.requires.valid c.requires.legal c.loop-e.e-index c.e-item.result c.loop-e-test.true in
    let is : c.e-item.result ≡ get_or c.args.entries.now c.loop-e.e-index c.e-item.result = c.e-item.is in
    let own : c.e-item.result.cpu < c.args.scenario.now.shape.cpus = subst (λ (d : Entry). d.cpu < c.args.scenario.now.shape.cpus) (sym is) exists in
    let count : length c.loop-e.lanes.items ≡ c.args.scenario.now.shape.cpus = c.loop-e.invariant.lanes.count in
    omega (arith, own, count)

pub go_on-requires : goal.go_on-requires
go_on-requires c =
    next_taken (record c.args.core.now.setup { scenario = c.args.scenario.now }) c.args.entries.now c.loop-e.e-index c.e-item.result c.loop-e.core c.loop-e.invariant.core c.requires.legal c.loop-e-test.true (sym c.e-item.is) c.requires.few

pub loop-e-preserved : goal.loop-e-preserved
loop-e-preserved c =
    let scenario = c.args.scenario.now in
    let setup : Setup = record c.args.core.now.setup { scenario = scenario } in
    let h = c.args.entries.now in
    let e = c.e-item.result in
    let here = take c.loop-e.e-index h in
    let before = c.loop-e.lanes.items in
    let after = c.lengthen.new.lanes.items in
    let next = one_more h c.loop-e.e-index e c.loop-e-test.true (sym c.e-item.is) in
    let start = front setup h c.loop-e.e-index in
    let longer : AreLongerLanes (state_of_run start) e before after =
    subst (λ (run : Run). AreLongerLanes (state_of_run run) e before after) c.loop-e.invariant.core c.in_ok-lengthen.ensures in
    let done = c.loop-e.alterations.items in
    let by_run : Run → List Alteration = λ run. altered_between scenario.commands e.to (state_of_run run) (state_of_run (with_entry run e)) in
    let by_commands : List CommandRow → List Alteration =
    λ commands. altered_between commands e.to (state_of_run c.loop-e.core) (state_of_run (with_entry c.loop-e.core e)) in
    record {
      core = front_more setup h c.loop-e.e-index e c.loop-e.core c.go_on.new.core c.loop-e.invariant.core c.loop-e-test.true (sym c.e-item.is) c.in_ok-go_on.ensures.core;
      lanes = subst (λ g. AreLanes scenario g after) (sym next) (lanes_more scenario here e before after c.loop-e.invariant.lanes longer);
      alterations = c.in_ok-go_on.ensures.alterations ∙ ap (λ commands. done ++ by_commands commands) c.commands.ensures.same
          ∙ ap (λ run. done ++ by_run run) c.loop-e.invariant.core ∙ ap (λ all. all ++ by_run start) c.loop-e.invariant.alterations
          ∙ sym (ap (λ g. alterations_of scenario g) next ∙ altered_more scenario here e);
    }

pub returns : goal.returns
returns c =
    let scenario = c.args.scenario.now in
    let all = take_all c.loop-e.e-index c.args.entries.now (omega arith) in
    record {
      lanes = subst (λ g. AreLanes scenario g c.loop-e.lanes.items) all c.loop-e.invariant.lanes;
      alterations = c.loop-e.invariant.alterations ∙ ap (λ g. alterations_of scenario g) all;
      rows = c.in_ok-rows.ensures.same ∙ ap (λ (run : Run). (state_of_run run).rows) c.loop-e.invariant.core
          ∙ ap (λ g. (state_after scenario g).rows) all;
      few_rows = c.in_ok-rows.ensures.few;
    }
