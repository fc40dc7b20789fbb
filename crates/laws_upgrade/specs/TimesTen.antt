-- What the upgrade to parts per thousand makes of what a run holds: budgets, maxima and parts are ten times as many,
-- and nothing else differs.
use Rattle.std.specs.Prelude.{map}
use Rattle.aps_model.specs.declared.shape.Shape.{Shape}
use Rattle.aps_model.specs.declared.command.CommandRow.{CommandRow}
use Rattle.aps_model.specs.declared.command.CtlRefusal.{CtlRefusal}
use Rattle.aps_model.specs.declared.command.CtlRefusal.TheVariants.{OverBudget, BadMax}
use Rattle.aps_model.specs.declared.command.Answer.{Answer}
use Rattle.aps_model.specs.declared.command.Answer.TheVariants.{Partition, Parameters, Refused}
use Rattle.aps_model.specs.declared.command.Reply.{Reply}
use Rattle.aps_model.specs.Scenario.{Scenario}
use Rattle.aps_model.specs.SchedulerState.{SchedulerState}
use Rattle.aps_model.specs.Upgrade.{times_ten, row_times_ten, call_times_ten}

abbrev pub shape_times_ten : Shape → Shape
shape_times_ten shape = record shape { parts = times_ten shape.parts }

abbrev pub command_times_ten : CommandRow → CommandRow
command_times_ten row = record row { call = call_times_ten row.call }

-- the numbers of a refusal: what the parent has, and the least maximum
abbrev pub refusal_times_ten : CtlRefusal → CtlRefusal
refusal_times_ten (OverBudget have) = OverBudget (times_ten have)
refusal_times_ten (BadMax partition least) = BadMax partition (times_ten least)
refusal_times_ten why = why

-- the numbers of an answer: a row's budget and maximum, the parts of a shape, and those of a refusal
abbrev pub answer_times_ten : Answer → Answer
answer_times_ten (Partition p row used critical) = Partition p (row_times_ten row) used critical
answer_times_ten (Parameters shape) = Parameters (shape_times_ten shape)
answer_times_ten (Refused why) = Refused (refusal_times_ten why)
answer_times_ten answer = answer

abbrev pub reply_times_ten : Reply → Reply
reply_times_ten reply = record reply { answer = answer_times_ten reply.answer }

abbrev pub scenario_times_ten : Scenario → Scenario
scenario_times_ten scenario = record scenario {
  shape = shape_times_ten scenario.shape;
  partitions = map row_times_ten scenario.partitions;
  commands = map command_times_ten scenario.commands;
}

-- a state: its rows, its shape and its replies; threads, channels, services, processors and changes are the same
abbrev pub state_times_ten : SchedulerState → SchedulerState
state_times_ten s = record s {
  rows = map row_times_ten s.rows;
  shape = shape_times_ten s.shape;
  replies = map reply_times_ten s.replies;
}
