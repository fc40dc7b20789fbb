use Rattle.std.proofs.Common.{◌≡◌, ◌<◌, ap, ◌∙◌, ◌++◌, [], ◌∷◌, ◌/◌, IfSome, subst, sym, length, arith}
use Rattle.aps_model.specs.declared.shape.Shape.{Shape}
use Rattle.aps_model.specs.Budget.{all_parts}
use Rattle.aps_model.specs.Pick.{contenders, greatest, missing}
use Rattle.aps_model.specs.SchedulerState.{SchedulerState}
use Rattle.laws_runs.proofs.PickSays.{chosen_shape}
use Rattle.aps_ready.specs.Gates.{AreGates}
use Rattle.aps_ready.specs.Ready.{members}
use Rattle.aps_core.specs.Seats.{seats_of}
use Rattle.aps_core.proofs.FlagAfter.{picked_no_less}
use Rattle.aps_core.proofs.NextDues.{chosen_count, others_chosen}
use Rattle.aps_core.specs.Classes.{AreClasses}
use Rattle.aps_core.specs.Kept.{KeepsFrame}
use Rattle.aps_core.proofs.PickStep.{pick_by_parts}
use Rattle.aps_core.proofs.Frame.{chosen_kept, flagged_kept, kept_then}
use Rattle.aps_core.proofs.PostsStay.{posts_flagged, posts_picked, posts_raised}
use Rattle.aps_core.proofs.Seats.{flagged_seats, missing_in, taken_seats}
use Rattle.aps_core.proofs.scheduler.Scheduler.pick.Goals as goal

pub returns-clause-same : goal.returns-clause-same
returns-clause-same c =
    let s = c.args.self.now.machine in
    let parts : c.parts-parts.result.now ≡ all_parts s.shape s.rows (c.args.entries.now ++ c.args.e.now ∷ []) (c.args.e.now.to / s.shape.tick) =
    c.parts-parts.ensures.same ∙ c.requires.stands in
    let starved : c.missing_by-starved.result ≡ missing c.parts-parts.result.now (contenders s) =
    c.missing_by-starved.ensures c.parts-parts.result.now (subst (λ l. AreGates l c.gates-gates.result) (sym c.parts-parts.ensures.same) c.gates-gates.ensures)
    (let few = c.parts-parts.ensures.few in omega (arith, few, ap length c.parts-parts.ensures.same))
    ∙ ap (missing c.parts-parts.result.now) (missing_in s c.args.self.now.ready c.requires.seats) in
    let best : c.take_greatest-best.result ≡ greatest s.shape.free c.parts-parts.result.now (contenders s) =
    c.take_greatest-best.ensures.picked
    ∙ ap (λ (t : Shape). greatest t.free c.parts-parts.result.now (members c.args.self.now.ready)) c.shape-shape.ensures.same
    ∙ ap (greatest s.shape.free c.parts-parts.result.now) (missing_in s c.args.self.now.ready c.requires.seats) in
    let same_free =
    ap (λ (t : SchedulerState). t.shape.free) c.choose.ensures
    ∙ ap (λ (shape : Shape). shape.free) (chosen_shape s c.parts-parts.result.now c.args.cpu c.take_greatest-best.result) in
    pick_by_parts s c.args.entries.now c.args.cpu c.args.e.now.to c.args.e.now
    c.parts-parts.result.now c.missing_by-starved.result c.take_greatest-best.result c.thread_of-picked.result c.choose.new.self
    (greatest c.choose.new.self.shape.free c.parts-parts.result.now (contenders c.choose.new.self)) c.flag_after-flagged.result c.flag.new.self
    parts starved best c.thread_of-picked.ensures c.choose.ensures
    (ap (λ free. greatest free c.parts-parts.result.now (contenders c.choose.new.self)) same_free) c.flag_after-flagged.ensures.same c.flag.ensures

pub returns-clause-seats : goal.returns-clause-seats
returns-clause-seats c =
    taken_seats c.args.self.now.machine c.choose.new.self c.parts-parts.result.now c.args.cpu c.take_greatest-best.result c.args.self.now.ready c.take_greatest-best.new.self c.requires.seats c.take_greatest-best.ensures.out c.choose.ensures
    ∙ sym (ap seats_of c.flag.ensures ∙ flagged_seats c.choose.new.self c.args.e.now.to c.flag_after-flagged.result)

pub returns-clause-flagged : goal.returns-clause-flagged
returns-clause-flagged c =
    let count : length c.choose.new.self.cpus ≡ length c.flag.new.self.cpus =
    sym (ap (λ (s : SchedulerState). length s.cpus) c.flag.ensures ∙ (flagged_kept c.choose.new.self c.args.e.now.to c.flag_after-flagged.result).cpus) in
    subst (λ n. IfSome c.flag_after-flagged.result (λ d. d < n)) count c.flag_after-flagged.ensures.within

pub flag_after-flagged-requires-clause-look : goal.flag_after-flagged-requires-clause-look
flag_after-flagged-requires-clause-look c = record {
  posts =
      posts_raised c.choose.new.self c.set.new.self c.go_by.new.self c.go_by.ensures.same
      (posts_picked c.args.self.now.machine c.choose.new.self c.shape-shape.result.now.free c.parts-parts.result.now c.args.cpu c.take_greatest-best.result c.facts_of.result c.args.self.now.ready c.args.self.now.posts c.set.new.self
      (ap (λ (t : Shape). t.free) c.shape-shape.ensures.same) c.take_greatest-best.ensures.picked c.requires.seats c.choose.ensures c.requires.cpu c.facts_of.ensures c.requires.posts c.set.ensures.here c.set.ensures.others);
  classes = subst (λ l. AreClasses l c.classes-classes.result) (sym c.parts-parts.ensures.same) c.classes-classes.ensures;
  high = c.go_by.ensures.high;
  dues =
      others_chosen c.args.self.now.machine c.choose.new.self c.parts-parts.result.now c.args.cpu c.take_greatest-best.result c.args.entries.now c.args.self.now.dues c.requires.dues c.choose.ensures;
  spare = λ d past.
      let count = ap (λ (s : SchedulerState). length s.cpus) c.choose.ensures in
      c.requires.spare d (omega (arith, past, count, chosen_count c.args.self.now.machine c.parts-parts.result.now c.args.cpu c.take_greatest-best.result));
  own = c.requires.own;
}

pub flag_after-flagged-requires-clause-seats : goal.flag_after-flagged-requires-clause-seats
flag_after-flagged-requires-clause-seats c =
    taken_seats c.args.self.now.machine c.choose.new.self c.parts-parts.result.now c.args.cpu c.take_greatest-best.result c.args.self.now.ready c.take_greatest-best.new.self c.requires.seats c.take_greatest-best.ensures.out c.choose.ensures

pub flag_after-flagged-requires-clause-picked : goal.flag_after-flagged-requires-clause-picked
flag_after-flagged-requires-clause-picked c =
    picked_no_less c.args.self.now.machine c.choose.new.self c.shape-shape.result.now.free c.parts-parts.result.now c.args.cpu c.take_greatest-best.result c.args.self.now.ready c.take_greatest-best.new.self
    (ap (λ (t : Shape). t.free) c.shape-shape.ensures.same) c.take_greatest-best.ensures.picked c.take_greatest-best.ensures.out
    (taken_seats c.args.self.now.machine c.choose.new.self c.parts-parts.result.now c.args.cpu c.take_greatest-best.result c.args.self.now.ready c.take_greatest-best.new.self c.requires.seats c.take_greatest-best.ensures.out c.choose.ensures)
    c.choose.ensures

pub returns-clause-posts : goal.returns-clause-posts
returns-clause-posts c =
    posts_flagged c.choose.new.self c.flag.new.self c.args.e.now.to c.flag_after-flagged.result c.go_by.new.self c.flag.ensures
    (posts_raised c.choose.new.self c.set.new.self c.go_by.new.self c.go_by.ensures.same
    (posts_picked c.args.self.now.machine c.choose.new.self c.shape-shape.result.now.free c.parts-parts.result.now c.args.cpu c.take_greatest-best.result c.facts_of.result c.args.self.now.ready c.args.self.now.posts c.set.new.self
    (ap (λ (t : Shape). t.free) c.shape-shape.ensures.same) c.take_greatest-best.ensures.picked c.requires.seats c.choose.ensures c.requires.cpu c.facts_of.ensures c.requires.posts c.set.ensures.here c.set.ensures.others))

pub returns-clause-kept : goal.returns-clause-kept
returns-clause-kept c =
    subst (KeepsFrame c.args.self.now.machine) (sym c.flag.ensures)
    (kept_then
    (subst (KeepsFrame c.args.self.now.machine) (sym c.choose.ensures) (chosen_kept c.args.self.now.machine c.parts-parts.result.now c.args.cpu c.take_greatest-best.result))
    (flagged_kept c.choose.new.self c.args.e.now.to c.flag_after-flagged.result))
