use Rattle.std.proofs.Common.{◌∙◌, ap, arith, length, subst, sym}
use Rattle.aps_ctl.specs.Pending.{all_at}
use Rattle.aps_ctl.proofs.InTurn.{others_left}
use Rattle.aps_core.specs.Calls.{AreInRange, all_done}
use Rattle.aps_core.proofs.Commands.{next_of, none_left, room_at}
use Rattle.aps_core.proofs.machine.Machine.do_commands.Goals as goal

pub do_command-requires-clause-call : goal.do_command-requires-clause-call
do_command-requires-clause-call c = (next_of c.args.entries.now c.args.tick c.loop-place.self c.loop-place.ctl c.in-Some.place c.in-Some.call c.in-Some.ensures.next).range c.loop-place.invariant.calls

pub do_command-requires-clause-replies : goal.do_command-requires-clause-replies
do_command-requires-clause-replies c =
    let next = next_of c.args.entries.now c.args.tick c.loop-place.self c.loop-place.ctl c.in-Some.place c.in-Some.call c.in-Some.ensures.next in
    (room_at c.args.entries.now c.args.tick c.in-Some.place c.in-Some.call c.loop-place.self _ c.loop-place.ctl next c.loop-place.invariant.same c.requires.replies c.requires.changes).replies

pub do_command-requires-clause-changes : goal.do_command-requires-clause-changes
do_command-requires-clause-changes c =
    let next = next_of c.args.entries.now c.args.tick c.loop-place.self c.loop-place.ctl c.in-Some.place c.in-Some.call c.in-Some.ensures.next in
    (room_at c.args.entries.now c.args.tick c.in-Some.place c.in-Some.call c.loop-place.self _ c.loop-place.ctl next c.loop-place.invariant.same c.requires.replies c.requires.changes).changes

pub loop-place-smaller : goal.loop-place-smaller
loop-place-smaller c =
    let next = next_of c.args.entries.now c.args.tick c.loop-place.self c.loop-place.ctl c.in-Some.place c.in-Some.call c.in-Some.ensures.next in
    let fewer = next.fewer in
    let left = ap (λ pending. length (all_at c.args.tick pending)) c.in-Some.ensures.left in
    omega (arith, fewer, left)

pub loop-place-preserved : goal.loop-place-preserved
loop-place-preserved c =
    let next = next_of c.args.entries.now c.args.tick c.loop-place.self c.loop-place.ctl c.in-Some.place c.in-Some.call c.in-Some.ensures.next in
    record {
      same =
          (λ k. all_done c.args.entries.now c.args.tick (c.do_command.ensures.same k) (c.in-Some.ensures.left k))
          ∙ sym next.done
          ∙ c.loop-place.invariant.same;
      counts = c.do_command.ensures.counts;
      others = λ j apart.
          ap (all_at j) c.in-Some.ensures.left ∙ others_left c.args.tick j c.loop-place.ctl apart ∙ c.loop-place.invariant.others j apart;
      calls = subst (λ pending. AreInRange (all_at c.args.tick pending)) (sym c.in-Some.ensures.left) (next.left c.loop-place.invariant.calls);
      idle = λ e. absurd cc;
    }

pub returns-clause-same : goal.returns-clause-same
returns-clause-same c = sym (none_left c.args.entries.now c.args.tick c.loop-place.self c.loop-place.ctl (sym c.in_default.is ∙ c.next_at.ensures.next)) ∙ c.loop-place.invariant.same

pub returns-clause-others : goal.returns-clause-others
returns-clause-others c j apart = ap (all_at j) c.next_at.ensures.left ∙ others_left c.args.tick j c.loop-place.ctl apart ∙ c.loop-place.invariant.others j apart
