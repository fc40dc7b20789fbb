use Rattle.std.proofs.Common.{◌≡◌, ◌∙◌, ap, sym}
use Rattle.aps_core.specs.Run.{Run, finished_run}
use Rattle.aps_core.proofs.Finish.{finish_done, finish_fixed, finish_more, later_more}
use Rattle.aps_core.proofs.simulator.Core.finish.Goals as goal

run : (c : goal.In-Some) → c.loop-end.self ≡ finished_run c.args.self.now
run c = sym (finish_done c.loop-end.self c.in-Some.end (sym c.ended.ensures ∙ c.in-Some.is)) ∙ c.loop-end.invariant.same

pub returns-in-Some-clause-run : goal.returns-in-Some-clause-run
returns-in-Some-clause-run c = run c

pub returns-in-Some-clause-fixed : goal.returns-in-Some-clause-fixed
returns-in-Some-clause-fixed c = λ empty. ap (λ (r : Run). r.entries) (run c) ∙ finish_fixed c.args.self.now empty

pub loop-end-preserved : goal.loop-end-preserved
loop-end-preserved c = record {
  same =
      finish_more c.loop-end.self c.take_turn.new.self c.first_due-first.result c.take_turn.result c.first_due-first.ensures.keeps c.take_turn.ensures.room c.take_turn.ensures.taken.goes_on
      c.first_due-first.ensures.same c.take_turn.ensures.taken.stepped c.take_turn.ensures.run
      ∙ c.loop-end.invariant.same;
  later = later_more c.args.self.now c.loop-end.self c.take_turn.new.self c.take_turn.result c.loop-end.invariant.later c.take_turn.ensures.run;
}
