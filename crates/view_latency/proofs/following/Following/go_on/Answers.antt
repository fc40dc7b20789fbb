use Rattle.std.proofs.Common.{◌≡◌, ◌∙◌, All, ap, arith, refl, subst, sym}
use Rattle.aps_model.specs.History.{History, IsEntry}
use Rattle.aps_model.specs.Scenario.{Scenario}
use Rattle.laws_runs.proofs.Counts.{counts_law}
use Rattle.aps_core.specs.Run.{Run, state_of_run}
use Rattle.view_lives.specs.Life.{AreLonger as LivesLonger}
use Rattle.view_latency.specs.Calls.{AreLongerCalls}
use Rattle.view_latency.specs.Seen.{AreSeen, HasFits}
use Rattle.view_latency.proofs.Beside.{beside_more, has_fits}
use Rattle.view_latency.proofs.CallsSmall.{have_room}
use Rattle.view_latency.proofs.following.Following.go_on.Goals as goal

pub due-due-requires : goal.due-due-requires
due-due-requires c =
    let run = c.args.core.now in
    let sizes = (counts_law run.setup.scenario run.setup.order run.entries c.history.ensures.valid c.history.ensures.legal).sizes.cpus in
    let exists = c.requires.turn.exists in
    omega (arith, exists, sizes)

pub lengthen-requires : goal.lengthen-requires
lengthen-requires c =
    let few = c.history.ensures.valid.few_threads in
    let count = c.requires.beside.lives.count in
    omega (arith, few, count)

pub add_news-requires-clause-room : goal.add_news-requires-clause-room
add_news-requires-clause-room c =
    let run = c.args.core.now in
    let entries : All IsEntry run.entries = subst (λ (h : History). All IsEntry h.entries) c.history.ensures.same c.entries-entries.ensures.keeps.entries in
    let room = c.take_turn-e.ensures.room in
    let few = c.requires.few in
    have_room run.setup.scenario run.entries c.args.self.now.calls.items c.requires.beside.calls entries (omega (arith, room, few))

pub returns-clause-beside : goal.returns-clause-beside
returns-clause-beside c =
    let run = c.args.core.now in
    let scenario = run.setup.scenario in
    let later = c.take_turn-e.new.core in
    let e = c.take_turn-e.result in
    let before = c.args.self.now in
    let at : c.due-due.result ≡ e.to = c.due-due.ensures ∙ sym c.take_turn-e.ensures.to in
    let lives : LivesLonger (state_of_run run) before.moment e.to before.lives c.lengthen.new.self =
    subst (λ m. LivesLonger (state_of_run run) before.moment m before.lives c.lengthen.new.self) at c.in_ok-lengthen.ensures in
    let seen : AreSeen (state_of_run run) c.deref.result.now before.seen.items = subst (λ l. AreSeen (state_of_run run) l before.seen.items) (sym c.deref.ensures.value) c.requires.beside.seen in
    let same : later.setup.scenario ≡ scenario = ap (λ (r : Run). r.setup.scenario) c.take_turn-e.ensures.run in
    let fits = has_fits scenario run.setup.order run.entries c.history.ensures.valid c.history.ensures.legal in
    let calls : AreLongerCalls scenario (state_of_run run) e before.calls.items c.add_news.new.calls.items =
    subst (λ (z : Scenario). AreLongerCalls z (state_of_run run) e before.calls.items c.add_news.new.calls.items) same
    (c.in_ok-add_news.ensures.longer (state_of_run run) seen (subst (λ (z : Scenario). HasFits z (state_of_run run)) (sym same) fits)) in
    beside_more run later e before (record { lives = c.lengthen.new.self; calls = c.add_news.new.calls; callers = before.callers; seen = c.add_news.new.seen; moment = c.due-due.result })
    c.requires.beside c.take_turn-e.ensures.run lives calls refl (subst (λ l. AreSeen (state_of_run later) l c.add_news.new.seen.items) c.deref.ensures.value c.in_ok-add_news.ensures.seen) at
