use Rattle.std.proofs.Common.{List, map, Option, Some, None, sym, subst}
use Rattle.aps_model.specs.declared.merit.Contender.{Contender}
use Rattle.aps_model.specs.Pick.{greatest}
use Rattle.aps_ready.specs.declared.ahead.Ahead.{Ahead}
use Rattle.aps_ready.specs.Ahead.{IsAhead}
use Rattle.aps_ready.specs.Ready.{members, entrant_seat}
use Rattle.aps_ready.proofs.AheadBy.{first_ahead, second_ahead, nobody_ahead}
use Rattle.aps_ready.proofs.ready.Ready.ahead_by.Goals as goal

pub returns-then-first-lt256 : goal.returns-then-first-lt256
returns-then-first-lt256 c parts free are =
    let row = c.self.inside.lists in
    let highest = c.highest-first.ensures in
    subst (λ (seats : List (Option Contender)). IsAhead free parts (greatest free parts (members seats)) (Some c.ahead_at.result)) c.self.view_is
    (subst (λ (ahead : Ahead). IsAhead free parts (greatest free parts (members (map entrant_seat row))) (Some ahead)) (sym c.ahead_at.ensures)
    (first_ahead free parts row c.args.gates c.highest-first.result are c.self.invariant.0 highest c.if-first-lt256.true))

pub returns-then-second-lt256 : goal.returns-then-second-lt256
returns-then-second-lt256 c parts free are =
    let row = c.self.inside.lists in
    let first = c.highest-first.ensures in
    let second = c.highest-second.ensures in
    subst (λ (seats : List (Option Contender)). IsAhead free parts (greatest free parts (members seats)) (Some c.ahead_at-then-second-lt256.result)) c.self.view_is
    (subst (λ (ahead : Ahead). IsAhead free parts (greatest free parts (members (map entrant_seat row))) (Some ahead)) (sym c.ahead_at-then-second-lt256.ensures)
    (second_ahead free parts row c.args.gates c.highest-first.result c.highest-second.result are c.self.invariant.0
    first c.if-first-lt256.false second c.if-second-lt256.true))

pub returns-else-second-lt256 : goal.returns-else-second-lt256
returns-else-second-lt256 c parts free are =
    let row = c.self.inside.lists in
    let first = c.highest-first.ensures in
    let second = c.highest-second.ensures in
    subst (λ (seats : List (Option Contender)). IsAhead free parts (greatest free parts (members seats)) None) c.self.view_is
    (nobody_ahead free parts row c.args.gates c.highest-first.result c.highest-second.result are c.self.invariant.0
    first c.if-first-lt256.false second c.if-second-lt256.false)
