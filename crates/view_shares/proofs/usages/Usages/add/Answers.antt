use Rattle.std.proofs.Common.{◌≡◌, List, ◌≤◌, ◌/◌, ◌-◌, ◌++◌, [], ◌∷◌, ◌∙◌, ap, sym, subst, arith, Fits, w32}
use Rattle.aps_model.specs.declared.shape.Shape.{Shape}
use Rattle.aps_model.specs.declared.entry.Entry.{Entry}
use Rattle.aps_model.specs.History.{History}
use Rattle.aps_model.specs.Legal.{IsLegal}
use Rattle.aps_model.specs.Limits.{last_tick}
use Rattle.aps_model.specs.Scenario.{Scenario}
use Rattle.laws_runs.specs.Moments.{moment}
use Rattle.laws_runs.proofs.MomentLaws.{moment-append}
use Rattle.aps_window.specs.Entries.{IsInOneTick}
use Rattle.aps_window.specs.Window.{advanced}
use Rattle.aps_core.specs.Counts.{Counts}
use Rattle.aps_core.specs.Run.{Setup}
use Rattle.view_replay.specs.Shape.{shape_with}
use Rattle.view_shares.specs.Usages.{HasRoomInWindow}
use Rattle.view_shares.proofs.Room.{gone_on, has_room, is_later}
use Rattle.view_shares.proofs.usages.Usages.add.Goals as goal

-- the entries up to the last one are legal
legal_before : (setup : Setup) (h before : List Entry) (e : Entry) → h ≡ before ++ e ∷ [] → IsLegal setup.scenario setup.order h → IsLegal setup.scenario setup.order (before ++ e ∷ [])
legal_before setup h before e is legal = subst (IsLegal setup.scenario setup.order) is legal

pub overflow_cast-e : goal.overflow_cast-e
overflow_cast-e c =
    let core = c.args.core.now in
    let tick = ap (λ (x : Shape). x.tick) (c.shape.ensures.same ∙ ap (λ (x : Scenario). x.shape) (c.scenario.ensures ∙ ap (λ (h : History). h.scenario) c.history.ensures.same)) in
    let early = (is_later core.setup.scenario core.setup.order c.requires.last.0 c.args.e.now c.history.ensures.valid (legal_before core.setup core.entries c.requires.last.0 c.args.e.now c.requires.last.1 c.history.ensures.legal)).early in
    subst (λ t. Fits w32 (c.args.e.now.to / t)) (sym tick) (omega (arith, early))

pub go_on-requires-clause-forward : goal.go_on-requires-clause-forward
go_on-requires-clause-forward c =
    let core = c.args.core.now in
    let tick = ap (λ (x : Shape). x.tick) (c.shape.ensures.same ∙ ap (λ (x : Scenario). x.shape) (c.scenario.ensures ∙ ap (λ (h : History). h.scenario) c.history.ensures.same)) in
    let forward = (is_later core.setup.scenario core.setup.order c.requires.last.0 c.args.e.now c.history.ensures.valid (legal_before core.setup core.entries c.requires.last.0 c.args.e.now c.requires.last.1 c.history.ensures.legal)).forward in
    let at = c.requires.last.2.tick in
    subst (λ t. c.args.self.now.window.tick ≤ c.args.e.now.to / t) (sym tick) (omega (arith, forward, at))

pub go_on-requires-clause-few : goal.go_on-requires-clause-few
go_on-requires-clause-few c =
    let core = c.args.core.now in
    let tick = ap (λ (x : Shape). x.tick) (c.shape.ensures.same ∙ ap (λ (x : Scenario). x.shape) (c.scenario.ensures ∙ ap (λ (h : History). h.scenario) c.history.ensures.same)) in
    let early = (is_later core.setup.scenario core.setup.order c.requires.last.0 c.args.e.now c.history.ensures.valid (legal_before core.setup core.entries c.requires.last.0 c.args.e.now c.requires.last.1 c.history.ensures.legal)).early in
    subst (λ t. c.args.e.now.to / t ≤ last_tick) (sym tick) (omega (arith, early))

pub add_time-requires-clause-entry : goal.add_time-requires-clause-entry
add_time-requires-clause-entry c =
    let core = c.args.core.now in
    (is_later core.setup.scenario core.setup.order c.requires.last.0 c.args.e.now c.history.ensures.valid (legal_before core.setup core.entries c.requires.last.0 c.args.e.now c.requires.last.1 c.history.ensures.legal)).entry

-- the window at the tick of the entry's end
gone : (c : goal.After-add_time-arg-1) → Counts (shape_with c.args.core.now.setup.scenario c.args.self.now.span) c.requires.last.0 (c.args.e.now.to / c.args.core.now.setup.scenario.shape.tick) c.go_on.new.window
gone c =
    let core = c.args.core.now in
    let tick = ap (λ (x : Shape). x.tick) (c.shape.ensures.same ∙ ap (λ (x : Scenario). x.shape) (c.scenario.ensures ∙ ap (λ (h : History). h.scenario) c.history.ensures.same)) in
    let later = is_later core.setup.scenario core.setup.order c.requires.last.0 c.args.e.now c.history.ensures.valid (legal_before core.setup core.entries c.requires.last.0 c.args.e.now c.requires.last.1 c.history.ensures.legal) in
    gone_on core.setup.scenario c.requires.last.0 (c.args.e.now.to / core.setup.scenario.shape.tick) c.args.self.now c.go_on.new.window c.requires.last.2 later.forward
    (c.go_on.ensures ∙ ap (λ t. advanced (c.args.e.now.to / t - c.args.self.now.window.tick) c.args.self.now.window) tick)

pub add_time-requires-clause-room : goal.add_time-requires-clause-room
add_time-requires-clause-room c =
    let core = c.args.core.now in
    let tick = ap (λ (x : Shape). x.tick) (c.shape.ensures.same ∙ ap (λ (x : Scenario). x.shape) (c.scenario.ensures ∙ ap (λ (h : History). h.scenario) c.history.ensures.same)) in
    subst (λ t. HasRoomInWindow t c.go_on.new.window c.args.e.now) (sym tick)
    (has_room core.setup.scenario core.setup.order c.requires.last.0 c.args.e.now c.args.self.now.span c.go_on.new.window c.history.ensures.valid (legal_before core.setup core.entries c.requires.last.0 c.args.e.now c.requires.last.1 c.history.ensures.legal) (gone c))

pub returns : goal.returns
returns c =
    let core = c.args.core.now in
    let scenario = core.setup.scenario in
    let e = c.args.e.now in
    let span = c.args.self.now.span in
    let tick = ap (λ (x : Shape). x.tick) (c.shape.ensures.same ∙ ap (λ (x : Scenario). x.shape) (c.scenario.ensures ∙ ap (λ (h : History). h.scenario) c.history.ensures.same)) in
    let later = is_later scenario core.setup.order c.requires.last.0 e c.history.ensures.valid (legal_before core.setup core.entries c.requires.last.0 c.args.e.now c.requires.last.1 c.history.ensures.legal) in
    let before = gone_on scenario c.requires.last.0 (e.to / scenario.shape.tick) c.args.self.now c.go_on.new.window c.requires.last.2 later.forward
    (c.go_on.ensures ∙ ap (λ t. advanced (e.to / t - c.args.self.now.window.tick) c.args.self.now.window) tick) in
    subst (λ h. Counts (shape_with scenario span) h (moment h / scenario.shape.tick) c.add_time.new.window) (sym c.requires.last.1)
    (subst (λ n. Counts (shape_with scenario span) (c.requires.last.0 ++ e ∷ []) (n / scenario.shape.tick) c.add_time.new.window) (sym (moment-append c.requires.last.0 e))
    (c.add_time.ensures (shape_with scenario span) c.requires.last.0 (e.to / scenario.shape.tick) tick (subst (λ t. IsInOneTick t e) (sym tick) later.whole) before))
