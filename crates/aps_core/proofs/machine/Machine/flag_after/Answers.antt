use Rattle.std.proofs.Common.{◌≡◌, ◌≤◌, ◌<◌, ap, arith, subst, sym, List, nat_eq, Option}
use Rattle.aps_model.specs.declared.merit.Contender.{Contender}
use Rattle.aps_model.specs.declared.merit.PartFacts.{PartFacts}
use Rattle.aps_model.specs.declared.shape.Free.{Free}
use Rattle.aps_model.specs.Pick.{contenders, greatest}
use Rattle.aps_model.specs.SchedulerState.{SchedulerState}
use Rattle.aps_ready.specs.declared.ahead.Ahead.{Ahead}
use Rattle.aps_ready.specs.Ahead.{IsAhead}
use Rattle.aps_ready.specs.Ready.{members}
use Rattle.aps_core.specs.Lowest.{IsNoLess, limit}
use Rattle.aps_core.specs.Seats.{seats_of}
use Rattle.aps_core.proofs.Seats.{missing_in}
use Rattle.aps_core.proofs.FlagAfter.{flagged_ahead, limit_among, limit_few, nobody_ahead, nobody_flagged, nobody_left, short_of}
use Rattle.aps_core.proofs.machine.Machine.flag_after.Goals as goal

pub returns-then-limit_for-lowest-clause-same : goal.returns-then-limit_for-lowest-clause-same
returns-then-limit_for-lowest-clause-same c =
    let s = c.args.self.now in
    let parts = c.args.parts.now in
    let low = c.lowest-lowest.result in
    let free = ap (λ (t : SchedulerState). t.shape.free) c.self.view_is in
    let high : limit_among s.shape.free parts c.in-Some.picked ≤ low.height =
    subst (λ (f : Free). limit_among f parts c.in-Some.picked ≤ low.height) free (subst (λ n. n ≤ low.height) c.limit_for.ensures.same c.if-limit_for-lowest.true) in
    sym
    (nobody_flagged s c.args.entries.now parts c.args.c c.args.now low.cpu low.height (contenders s) c.in-Some.picked
    c.lowest-lowest.ensures.same (short_of s.shape.free _ _ c.limit_for.ensures.few) high (subst (IsNoLess s.shape.free parts (contenders s)) c.in-Some.is c.requires.picked))

-- what the queues tell is of the greatest of those who are ready
ahead_of : (s : SchedulerState) (parts : List PartFacts) (seats : List (Option Contender)) (ahead : Option Ahead) → seats ≡ seats_of s
    → IsAhead s.shape.free parts (greatest s.shape.free parts (members seats)) ahead → IsAhead s.shape.free parts (greatest s.shape.free parts (contenders s)) ahead
ahead_of s parts seats ahead are is = subst (λ cs. IsAhead s.shape.free parts (greatest s.shape.free parts cs) ahead) (missing_in s seats are) is

pub returns-in_default-ahead_by-clause-same : goal.returns-in_default-ahead_by-clause-same
returns-in_default-ahead_by-clause-same c =
    let s = c.args.self.now in
    let parts = c.args.parts.now in
    let cs = greatest s.shape.free parts (contenders s) in
    sym
    (nobody_left s c.args.entries.now parts c.args.c c.args.now cs
    (subst (IsAhead s.shape.free parts cs) c.in_default-ahead_by.is
    (ahead_of s parts c.args.ready.now c.ahead_by.result c.requires.seats (c.ahead_by.ensures parts s.shape.free c.requires.gates))))

pub returns-then-limit_of-lowest-clause-same : goal.returns-then-limit_of-lowest-clause-same
returns-then-limit_of-lowest-clause-same c =
    let s = c.args.self.now in
    let parts = c.args.parts.now in
    let cs = greatest s.shape.free parts (contenders s) in
    let low = c.lowest-lowest.result in
    let ahead = c.in-Some-ahead_by.ahead in
    let free = ap (λ (t : SchedulerState). t.shape.free) c.self.view_is in
    let high : limit s.shape.free (nat_eq ahead.class 1) ahead.priority ≤ low.height =
    subst (λ (f : Free). limit f (nat_eq ahead.class 1) ahead.priority ≤ low.height) free (subst (λ n. n ≤ low.height) c.limit_of.ensures.same c.if-limit_of-lowest.true) in
    sym
    (nobody_ahead s c.args.entries.now parts c.args.c c.args.now low.cpu low.height cs ahead c.lowest-lowest.ensures.same
    (subst (IsAhead s.shape.free parts cs) c.in-Some-ahead_by.is
    (ahead_of s parts c.args.ready.now c.ahead_by.result c.requires.seats (c.ahead_by.ensures parts s.shape.free c.requires.gates)))
    c.limit_of.ensures.few high)

pub returns-clause-same : goal.returns-clause-same
returns-clause-same c =
    let s = c.args.self.now in
    let parts = c.args.parts.now in
    let cs = greatest s.shape.free parts (contenders s) in
    let low = c.lowest-lowest.result in
    let ahead = c.in-Some-ahead_by.ahead in
    let free = ap (λ (t : SchedulerState). t.shape.free) c.self.view_is in
    let below : low.height < limit s.shape.free (nat_eq ahead.class 1) ahead.priority =
    subst (λ (f : Free). low.height < limit f (nat_eq ahead.class 1) ahead.priority) free (subst (λ n. low.height < n) c.limit_of.ensures.same c.if-limit_of-lowest.false) in
    sym
    (flagged_ahead s c.args.entries.now parts c.args.c c.args.now low.cpu low.height cs ahead c.lowest-lowest.ensures.same
    (subst (IsAhead s.shape.free parts cs) c.in-Some-ahead_by.is
    (ahead_of s parts c.args.ready.now c.ahead_by.result c.requires.seats (c.ahead_by.ensures parts s.shape.free c.requires.gates)))
    c.limit_of.ensures.few below)

pub returns-clause-within : goal.returns-clause-within
returns-clause-within c =
    let top = limit_few c.self.inside.shape.free (nat_eq c.in-Some-ahead_by.ahead.class 1) c.in-Some-ahead_by.ahead.priority c.limit_of.ensures.few in
    let same = c.limit_of.ensures.same in
    c.lowest-lowest.ensures.within (omega (arith, top, same, c.if-limit_of-lowest.false))
