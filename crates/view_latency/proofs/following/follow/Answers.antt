use Rattle.std.proofs.Common.{◌≡◌, ◌∙◌, List, ap, arith, sym, subst}
use Rattle.std.proofs.lemmas.List.{take_all}
use Rattle.aps_model.specs.declared.entry.Entry.{Entry}
use Rattle.aps_core.specs.Run.{Run}
use Rattle.aps_core.specs.Turn.{IsTurnTaken, with_entry}
use Rattle.view_replay.proofs.Retraced.{front_more, next_taken}
use Rattle.view_latency.specs.Following.{IsBeside}
use Rattle.view_latency.proofs.following.follow.Goals as goal

pub loop-e-init : goal.loop-e-init
loop-e-init c =
    let whole : List Entry → Run = λ h. record { setup = c.args.core.now.setup; entries = h } in
    record { core = ap whole c.requires.begins; beside = c.in_ok-following.ensures }

-- the entry is that of the next step
taken : (c : goal.After-go_on-arg-in-loop-e-1) → IsTurnTaken c.loop-e.core c.e-item.result.cpu c.e-item.result
taken c =
    next_taken c.args.core.now.setup c.args.entries.now c.loop-e.e-index c.e-item.result c.loop-e.core c.loop-e.invariant.core c.requires.legal c.loop-e-test.true (sym c.e-item.is) c.requires.few

pub go_on-requires-clause-goes_on : goal.go_on-requires-clause-goes_on
go_on-requires-clause-goes_on c = (taken c).goes_on

pub go_on-requires-clause-turn : goal.go_on-requires-clause-turn
go_on-requires-clause-turn c = (taken c).turn

pub loop-e-preserved : goal.loop-e-preserved
loop-e-preserved c =
    let setup = c.args.core.now.setup in
    let h = c.args.entries.now in
    let i = c.loop-e.e-index in
    let e = c.e-item.result in
    let here : IsTurnTaken c.loop-e.core e.cpu e = next_taken setup h i e c.loop-e.core c.loop-e.invariant.core c.requires.legal c.loop-e-test.true (sym c.e-item.is) c.requires.few in
    record {
      core = front_more setup h i e c.loop-e.core c.go_on.new.core c.loop-e.invariant.core c.loop-e-test.true (sym c.e-item.is)
          (c.in_ok-go_on.ensures.run ∙ ap (λ (d : Entry). with_entry c.loop-e.core d) (sym here.stepped));
      beside = c.in_ok-go_on.ensures.beside;
    }

pub returns : goal.returns
returns c =
    let setup = c.args.core.now.setup in
    let whole : List Entry → Run = λ h. record { setup = setup; entries = h } in
    let run : c.loop-e.core ≡ whole c.args.entries.now = c.loop-e.invariant.core ∙ ap whole (take_all c.loop-e.e-index c.args.entries.now (omega arith)) in
    c.end.ensures (whole c.args.entries.now) (subst (λ (r : Run). IsBeside r c.loop-e.following) run c.loop-e.invariant.beside)
