use Rattle.std.proofs.Common.{◌≡◌, ℕ, ◌<◌, ◌≤◌, ◌++◌, [], ◌∷◌, ◌∙◌, ap, sym, refl, subst, List, length, take, drop, slice_set, arith}
use Rattle.std.specs.Prelude.{All}
use Rattle.aps_model.specs.declared.entry.Entry.{Entry}
use Rattle.aps_model.specs.declared.merit.PartFacts.{PartFacts}
use Rattle.aps_ready.specs.Small.{IsSmall}
use Rattle.aps_live.specs.declared.event.LiveEvent.{LiveEvent}
use Rattle.aps_live.specs.Core.{IsCore, pairs}
use Rattle.aps_live.specs.CoreView.{run_of}
use Rattle.aps_live.specs.LiveHistory.{NamesThread, Taken, entries_of, latest}
use Rattle.aps_live.specs.LiveRun.{IsTaken, LiveRun, with_step}
use Rattle.aps_live.proofs.Takes.{bill_forward, bill_is, bill_within, core_sound, few_stamps, named_thread, put_back, run_more, settled_cpus, took}
use Rattle.aps_live.proofs.live_core.LiveCore.take.Goals as goal

pub running-running-requires : goal.running-running-requires
running-running-requires c =
    let below = subst (λ (run : LiveRun). c.args.cpu < run.setup.scenario.shape.cpus) (sym c.self.view_is) c.requires.cpu in
    omega (arith, below, (core_sound _ _ _ _ _ _ _ _ c.self.invariant.0).cpus)

pub bill_now-requires-clause-fits : goal.bill_now-requires-clause-fits
bill_now-requires-clause-fits c =
    let below = subst (λ (run : LiveRun). c.args.cpu < run.setup.scenario.shape.cpus) (sym c.self.view_is) c.requires.cpu in
    let later = subst (λ (run : LiveRun). latest (entries_of run.steps) ≤ c.args.now) (sym c.self.view_is) c.requires.after in
    let bill = bill_is _ _ _ _ _ _ _ _ c.self.invariant.0 c.args.cpu c.index.result c.args.now c.index-2.result.now c.running-running.result c.bill_of-e.result below c.index.ensures.same c.index-2.ensures c.running-running.ensures c.bill_of-e.ensures.same in
    bill_within _ _ _ _ _ _ _ _ c.self.invariant.0 c.args.cpu c.args.now c.bill_of-e.result c.as_slice.result.now c.shape.result.now below later c.shape.ensures.same c.as_slice.ensures.value bill

pub bill_now-requires-clause-forward : goal.bill_now-requires-clause-forward
bill_now-requires-clause-forward c =
    let below = subst (λ (run : LiveRun). c.args.cpu < run.setup.scenario.shape.cpus) (sym c.self.view_is) c.requires.cpu in
    let later = subst (λ (run : LiveRun). latest (entries_of run.steps) ≤ c.args.now) (sym c.self.view_is) c.requires.after in
    let bill = bill_is _ _ _ _ _ _ _ _ c.self.invariant.0 c.args.cpu c.index.result c.args.now c.index-2.result.now c.running-running.result c.bill_of-e.result below c.index.ensures.same c.index-2.ensures c.running-running.ensures c.bill_of-e.ensures.same in
    bill_forward _ _ _ _ _ _ _ _ c.self.invariant.0 c.args.cpu c.args.now c.bill_of-e.result later bill

pub settle-requires-clause-cpu : goal.settle-requires-clause-cpu
settle-requires-clause-cpu c =
    let below = subst (λ (run : LiveRun). c.args.cpu < run.setup.scenario.shape.cpus) (sym c.self.view_is) c.requires.cpu in
    omega (arith, below, (core_sound _ _ _ _ _ _ _ _ c.self.invariant.0).cpus)

pub settle-requires-clause-room : goal.settle-requires-clause-room
settle-requires-clause-room c = few_stamps _ _ _ _ _ _ _ _ c.self.invariant.0

pub settle-requires-clause-named : goal.settle-requires-clause-named
settle-requires-clause-named c =
    let named = subst (λ (run : LiveRun). NamesThread run.setup.scenario c.args.event) (sym c.self.view_is) c.requires.named in
    named_thread _ _ _ _ _ _ _ _ c.self.invariant.0 c.args.event named

pub pick-taken-requires-clause-cpu : goal.pick-taken-requires-clause-cpu
pick-taken-requires-clause-cpu c =
    let below = subst (λ (run : LiveRun). c.args.cpu < run.setup.scenario.shape.cpus) (sym c.self.view_is) c.requires.cpu in
    settled_cpus _ _ _ _ _ _ _ _ c.self.invariant.0 c.args.cpu c.args.cpu c.args.event c.settle.new.machine below c.settle.ensures.same

pub pick-taken-requires-clause-small : goal.pick-taken-requires-clause-small
pick-taken-requires-clause-small c =
    let items = c.self.inside.parts.items in
    let same : length c.fill_parts.new.parts ≡ length items = c.fill_parts.ensures.length ∙ ap (λ (l : List PartFacts). length l) c.as_mut_slice.ensures.value in
    let back = c.as_slice-3.ensures.value ∙ put_back items c.fill_parts.new.parts c.self.inside.parts.len (let l = c.self.inside.parts.ok.0 in omega (arith, l)) same in
    subst (All IsSmall) (sym back) c.fill_parts.ensures.small

pub invariant_of-self : goal.invariant_of-self
invariant_of-self c =
    let items = c.self.inside.parts.items in
    let same : length c.fill_parts.new.parts ≡ length items = c.fill_parts.ensures.length ∙ ap (λ (l : List PartFacts). length l) c.as_mut_slice.ensures.value in
    let put = put_back items c.fill_parts.new.parts c.self.inside.parts.len (let l = c.self.inside.parts.ok.0 in omega (arith, l)) same in
    let back = c.as_slice-3.ensures.value ∙ put in
    let below = subst (λ (run : LiveRun). c.args.cpu < run.setup.scenario.shape.cpus) (sym c.self.view_is) c.requires.cpu in
    let later = subst (λ (run : LiveRun). latest (entries_of run.steps) ≤ c.args.now) (sym c.self.view_is) c.requires.after in
    let named = subst (λ (run : LiveRun). NamesThread run.setup.scenario c.args.event) (sym c.self.view_is) c.requires.named in
    let room = subst (λ (run : LiveRun). length run.steps < run.setup.limit) (sym c.self.view_is) c.requires.room in
    let bill = bill_is _ _ _ _ _ _ _ _ c.self.invariant.0 c.args.cpu c.index.result c.args.now c.index-2.result.now c.running-running.result c.bill_of-e.result below c.index.ensures.same c.index-2.ensures c.running-running.ensures c.bill_of-e.ensures.same in
    let all = took _ _ _ _ _ _ _ _ c.self.invariant.0 c.settle.new.machine c.pick-taken.new.machine c.bill_now.new.window c.as_slice-3.result.now c.args.cpu c.args.now c.args.event c.shape.result.now c.partitions.result.now
    c.bill_of-e.result c.pick-taken.result c.as_slice.result.now c.as_slice-2.result.now below c.requires.early named later room bill c.shape.ensures.same c.partitions.ensures.same c.as_slice.ensures.value c.as_slice-2.ensures.value
    c.bill_now.ensures.tied c.bill_now.ensures.tick c.bill_now.ensures.span c.settle.ensures.same (back ∙ c.fill_parts.ensures.same) c.pick-taken.ensures (ap (λ (l : List PartFacts). length l) back ∙ same) in
    let run = run_more _ _ _ _ _ _ _ _ c.self.invariant.0 c.pick-taken.result c.args.event in (
      subst (λ (x : ℕ × List PartFacts × List Entry × List LiveEvent). IsCore (record { setup = record { scenario = c.self.inside.scenario; limit = c.self.inside.limit }; steps = pairs x.2 x.3 }) c.pick-taken.new.machine c.bill_now.new.window
          (slice_set c.self.inside.ends.items x.0 c.args.now) c.args.now x.1 x.2 x.3)
          (λ i. (sym c.index-3.ensures.same i, c.as_slice-3.ensures.value i, sym c.push_entry.ensures.items i, sym c.push_event.ensures.items i))
          (subst (λ (steps : List Taken). IsCore (record { setup = record { scenario = c.self.inside.scenario; limit = c.self.inside.limit }; steps = steps }) c.pick-taken.new.machine c.bill_now.new.window
          (slice_set c.self.inside.ends.items c.args.cpu c.args.now) c.args.now c.as_slice-3.result.now (c.self.inside.entries.items ++ c.pick-taken.result ∷ []) (c.self.inside.events.items ++ c.args.event ∷ [])) (sym run) all.0),
      omega (arith, c.self.invariant.1, c.push_entry.ensures.room),
      omega (arith, c.self.invariant.2, c.push_event.ensures.room),
    )

pub returns-clause-taken : goal.returns-clause-taken
returns-clause-taken c =
    let items = c.self.inside.parts.items in
    let same : length c.fill_parts.new.parts ≡ length items = c.fill_parts.ensures.length ∙ ap (λ (l : List PartFacts). length l) c.as_mut_slice.ensures.value in
    let back = c.as_slice-3.ensures.value ∙ put_back items c.fill_parts.new.parts c.self.inside.parts.len (let l = c.self.inside.parts.ok.0 in omega (arith, l)) same in
    let below = subst (λ (run : LiveRun). c.args.cpu < run.setup.scenario.shape.cpus) (sym c.self.view_is) c.requires.cpu in
    let later = subst (λ (run : LiveRun). latest (entries_of run.steps) ≤ c.args.now) (sym c.self.view_is) c.requires.after in
    let named = subst (λ (run : LiveRun). NamesThread run.setup.scenario c.args.event) (sym c.self.view_is) c.requires.named in
    let room = subst (λ (run : LiveRun). length run.steps < run.setup.limit) (sym c.self.view_is) c.requires.room in
    let bill = bill_is _ _ _ _ _ _ _ _ c.self.invariant.0 c.args.cpu c.index.result c.args.now c.index-2.result.now c.running-running.result c.bill_of-e.result below c.index.ensures.same c.index-2.ensures c.running-running.ensures c.bill_of-e.ensures.same in
    let all = took _ _ _ _ _ _ _ _ c.self.invariant.0 c.settle.new.machine c.pick-taken.new.machine c.bill_now.new.window c.as_slice-3.result.now c.args.cpu c.args.now c.args.event c.shape.result.now c.partitions.result.now
    c.bill_of-e.result c.pick-taken.result c.as_slice.result.now c.as_slice-2.result.now below c.requires.early named later room bill c.shape.ensures.same c.partitions.ensures.same c.as_slice.ensures.value c.as_slice-2.ensures.value
    c.bill_now.ensures.tied c.bill_now.ensures.tick c.bill_now.ensures.span c.settle.ensures.same (back ∙ c.fill_parts.ensures.same) c.pick-taken.ensures (ap (λ (l : List PartFacts). length l) back ∙ same) in
    subst (λ (run : LiveRun). IsTaken run c.args.cpu c.args.now c.args.event c.pick-taken.result) c.self.view_is all.1

pub returns-clause-run : goal.returns-clause-run
returns-clause-run c =
    let run = run_more _ _ _ _ _ _ _ _ c.self.invariant.0 c.pick-taken.result c.args.event in
    let here : LiveRun = run_of c.self.inside in
    ap (λ (steps : List Taken). let x : LiveRun = record here { steps = steps } in x) ((λ i. pairs (c.push_entry.ensures.items i) (c.push_event.ensures.items i)) ∙ run)
    ∙ ap (λ (x : LiveRun). with_step x c.pick-taken.result c.args.event) c.self.view_is
