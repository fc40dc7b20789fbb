-- What a step rests on holds of the step of a processor that has the turn.
use Rattle.std.proofs.Common.{◌≡◌, ℕ, ◌-◌, ◌/◌, ◌≤◌, List, [], ◌∷◌, ◌++◌, length, refl, sym, subst, ◌+◌, ◌∙◌, ap, cond, Bool, true, false, nat_eq, Option, Some, None, slice_index_or, arith, inl, inr}
use Rattle.std.proofs.lemmas.Bool.{cases_lt}
use Rattle.std.proofs.lemmas.List.{get_or_past, length-append}
use Rattle.aps_model.specs.declared.entry.Entry.{Entry}
use Rattle.aps_model.specs.declared.entry.Order.{Order}
use Rattle.aps_model.specs.declared.state.Pick.{Pick}
use Rattle.aps_model.specs.declared.state.State.TheVariants.{Running}
use Rattle.aps_model.specs.declared.state.ThreadNow.{ThreadNow}
use Rattle.aps_model.specs.declared.command.ChangeKind.TheVariants.{Cancelled}
use Rattle.aps_model.specs.After.{After, after, over, state_after}
use Rattle.aps_model.specs.Bill.{Tested, bill_of}
use Rattle.aps_model.specs.Due.{HasTurn, due, last_end, next_boundary}
use Rattle.aps_model.specs.Legal.{IsLegal}
use Rattle.aps_model.specs.Limits.{last_moment, most_entries, most_time_of_tick}
use Rattle.aps_model.specs.Scenario.{Scenario}
use Rattle.aps_model.specs.Shape.{horizon}
use Rattle.aps_model.specs.Step.{Step, billed, pick, settled, step, tested, unless_rebooted}
use Rattle.aps_model.specs.Tree.{rows_cancelled}
use Rattle.aps_model.specs.Usage.{used}
use Rattle.aps_model.specs.SchedulerState.{SchedulerState, cpu_at, no_thread, row_at, thread_at}
use Rattle.aps_model.specs.Valid.{IsScenario}
use Rattle.aps_model.proofs.AfterLaws.{after-append}
use Rattle.laws_runs.specs.Between.{IsWellFormed, after_bill, after_tick, before_pick, bill_in}
use Rattle.laws_runs.specs.ThreadFits.{Each, IsThreadFit}
use Rattle.laws_runs.specs.Waits.{state_at}
use Rattle.laws_runs.proofs.BetweenLaw.{between}
use Rattle.laws_runs.proofs.ChangeLaws.{few_changes}
use Rattle.laws_runs.proofs.Counts.{counts_law}
use Rattle.laws_runs.proofs.Mid.{tested_by}
use Rattle.laws_runs.proofs.Programs.{row_fits}
use Rattle.laws_runs.proofs.ReplyLaws.{few_answered}
use Rattle.laws_runs.proofs.Servers.{runs_free}
use Rattle.laws_runs.proofs.SmallNumbers.{usage_in_hand}
use Rattle.laws_runs.proofs.Sound.{next_law, sound}
use Rattle.laws_runs.proofs.Channels.{names_channels}
use Rattle.aps_core.proofs.NextDues.{cpu_before, due_before}
use Rattle.laws_runs.proofs.StampCounts.{few_stamps}
use Rattle.laws_runs.proofs.StepOf.{horizon_same}
use Rattle.laws_runs.proofs.ThreadFit.{fits_law}
use Rattle.aps_core.specs.Kept.{KeepsFrame}
use Rattle.aps_core.specs.Ready.{IsReady}
use Rattle.aps_core.specs.Room.{CanFinish, changes_of_a_run, last_place, stamps_within}
use Rattle.aps_core.proofs.Frame.{chosen_kept, flagged_kept, kept_self, kept_then, settled_kept, spent_kept}
use Rattle.aps_core.proofs.Turns.{due_now}

-- threads that stand at an operation of their programs stand at one of the first 256
few_places : (scenario : Scenario) (rows : ℕ) (threads : List ThreadNow) → IsScenario scenario → length threads ≡ length scenario.threads → Each (IsThreadFit scenario rows) threads
    → (x : ℕ) → (slice_index_or threads x no_thread).place ≤ last_place
few_places scenario rows threads valid same fit x =
    elim (cases_lt x (length threads)) [
      | inl lt ↦
          let place = (fit x lt).place in
          let few = (row_fits scenario valid x (omega (arith, same, lt))).program.few in
          omega (arith, place, few)
      | inr ge ↦ let past = ap (λ (t : ThreadNow). t.place) (get_or_past threads x no_thread ge) in omega (arith, past)
    ]

short_since : (now : ℕ) (threads : List ThreadNow) → now ≤ last_moment → Each (λ x t. t.since ≤ now) threads → (x : ℕ) → (slice_index_or threads x no_thread).since ≤ last_moment
short_since now threads early each x =
    elim (cases_lt x (length threads)) [
      | inl lt ↦ let since = each x lt in omega (arith, since, early)
      | inr ge ↦ let past = ap (λ (t : ThreadNow). t.since) (get_or_past threads x no_thread ge) in omega (arith, past)
    ]

-- where a thread runs, and stamps are few, it can end its operation
room_at : (scenario : Scenario) (now x c : ℕ) (s : SchedulerState) → IsScenario scenario → IsWellFormed scenario now s → s.stamps ≤ stamps_within → state_at s x ≡ Running c → CanFinish scenario s x
room_at scenario now x c s valid well few runs =
    let names = names_channels scenario valid in
    record {
      room = record {
        numbers = record { places = few_places scenario (length s.rows) s.threads valid well.threads well.fit; stamps = few };
        cpu = c;
        runs = runs;
        waiting = well.waiting;
      };
      named = record {
        sends = λ d e. let lt = names.sends x (thread_at s x).place d e in omega (arith, lt, well.channels);
        receives = λ d e. let lt = names.receives x (thread_at s x).place d e in omega (arith, lt, well.channels);
      };
    }

-- ---- what the steps in between leave

-- after the bill only the pick and the operation come
stepped_kept : (scenario : Scenario) (s : SchedulerState) (h : List Entry) (c : ℕ) → KeepsFrame (after_bill scenario s h c) (step scenario s h c).state
stepped_kept scenario s h c =
    let now = due s h c in
    let running = (cpu_at s c).running in
    let e = bill_in s h c in
    let test = tested (billed (after_tick scenario s h c) e running) h e in
    by_reboot test now running e test.reboot
  where
    kept_pick : (t : SchedulerState) (now : ℕ) (e : Entry) → KeepsFrame t (pick t h c now e).state
    kept_pick t now e = kept_then (chosen_kept t _ c _) (flagged_kept _ now _)

    by_horizon : (t : SchedulerState) (now : ℕ) (running : Option Pick) (e : Entry) (at_end : Bool)
        → KeepsFrame t (elim at_end as (λ _. Step) [ true ↦ record { entry = e; state = t; reboot = None } | false ↦ pick (settled scenario t now running).state h c now (record e { done = (settled scenario t now running).done }) ]).state
    by_horizon t now running e true = kept_self t
    by_horizon t now running e false = kept_then (settled_kept scenario t now running) (kept_pick (settled scenario t now running).state now (record e { done = (settled scenario t now running).done }))

    by_reboot : (test : Tested) (now : ℕ) (running : Option Pick) (e : Entry) (o : Option ℕ) → KeepsFrame test.state (unless_rebooted scenario test h c now e running o).state
    by_reboot test now running e (Some p) = kept_self test.state
    by_reboot test now running e None = by_horizon test.state now running e (nat_eq now (horizon test.state.shape))

-- the bill and its test answer nothing, and take back no change
record IsTested (t u : SchedulerState) : Type 0 where
  replies : u.replies ≡ t.replies
  changes : length t.changes ≤ length u.changes

tested_lists : (scenario : Scenario) (s : SchedulerState) (h : List Entry) (c : ℕ) → IsTested (after_tick scenario s h c) (after_bill scenario s h c)
tested_lists scenario s h c =
    let t = after_tick scenario s h c in
    let e = bill_in s h c in
    let running = (cpu_at s c).running in
    let r = billed t e running in
    let spent = spent_kept t (e.to - e.from) running in
    let before : IsTested t r = record { replies = spent.replies; changes = omega (arith, ap length spent.changes) } in
    tested_by r.shape.bankruptcy r _ _ (IsTested t) before (λ p. by_cancel t r p (nat_eq (row_at r p).critical 0) before)
  where
    by_cancel : (t r : SchedulerState) (p : ℕ) (closed : Bool) → IsTested t r
        → IsTested t (record r { rows = rows_cancelled r.rows p; changes = cond closed r.changes (r.changes ++ (record { tick = (bill_in s h c).to / r.shape.tick; kind = Cancelled p }) ∷ []) })
    by_cancel t r p true before = record { replies = before.replies; changes = before.changes }
    by_cancel t r p false before = record {
      replies = before.replies;
      changes = let a = before.changes in let n = length-append r.changes ((record { tick = (bill_in s h c).to / r.shape.tick; kind = Cancelled p }) ∷ []) in omega (arith, a, n);
    }

-- the entry of the step has its processor and its moments from the beginning
record IsBillOf (c from now : ℕ) (e : Entry) : Type 0 where
  cpu : e.cpu ≡ c
  from_is : e.from ≡ from
  to_is : e.to ≡ now

bill_says : (c from now : ℕ) (running : Option Pick) → IsBillOf c from now (bill_of c from now running)
bill_says c from now None = record { cpu = refl; from_is = refl; to_is = refl }
bill_says c from now (Some pick) = record { cpu = refl; from_is = refl; to_is = refl }

-- with it no partition uses more in a tick than all processors have
bills_fit : (scenario : Scenario) (order : Order) (h : List Entry) (c : ℕ) → IsScenario scenario → IsLegal scenario order h → over (after scenario h) h ≡ None → HasTurn order (state_after scenario h) h c
    → (state_after scenario h).shape.tick ≡ scenario.shape.tick
    → (p k : ℕ) → used (state_after scenario h).shape.tick (h ++ bill_in (state_after scenario h) h c ∷ []) p k (k + 1) ≤ most_time_of_tick
bills_fit scenario order h c valid legal run turn same p k =
    let s = state_after scenario h in
    let e = bill_in s h c in
    let says = bill_says c (last_end h c) (due s h c) (cpu_at s c).running in
    let m = usage_in_hand scenario order h e k (k + 1) valid legal run (subst (HasTurn order s h) (sym says.cpu) turn) (says.from_is ∙ ap (last_end h) (sym says.cpu)) (says.to_is ∙ ap (due s h) (sym says.cpu)) in
    let each = m.each p in
    let all = m.one_tick (omega arith) in
    subst (λ t. used t (h ++ e ∷ []) p k (k + 1) ≤ most_time_of_tick) (sym same) (omega (arith, each, all))

pub ready : (scenario : Scenario) (order : Order) (h : List Entry) (c : ℕ) → IsScenario scenario → IsLegal scenario order h → length h ≤ most_entries → over (after scenario h) h ≡ None → HasTurn order (state_after scenario h) h c
    → IsReady scenario (state_after scenario h) h c
ready scenario order h c valid legal short run turn =
    let s = state_after scenario h in
    let d = due_now scenario order h c valid legal run turn in
    let b = between scenario order h c valid legal run turn in
    let counted = counts_law scenario order h valid legal in
    let fits = fits_law scenario order h valid legal in
    let few : s.stamps ≤ 5000000000 = let a = (few_stamps scenario order h valid legal).small in omega (arith, a, short) in
    let early : due s h c ≤ last_moment = omega (arith, d.to, d.fits.to) in
    let e = (step scenario s h c).entry in
    let after_step : state_after scenario (h ++ e ∷ []) ≡ (step scenario s h c).state =
    ap (λ (a : After). a.state) (after-append scenario h e) ∙ ap (λ k. (step scenario s h k).state) d.own in
    let stepped = stepped_kept scenario s h c in
    let tests = tested_lists scenario s h c in
    let n = next_law scenario order h e valid d.legal in
    let replies = few_answered scenario order (h ++ e ∷ []) valid d.legal in
    let changes = few_changes scenario order (h ++ e ∷ []) valid d.legal in
    let changes_billed : length (after_bill scenario s h c).changes ≤ changes_of_a_run =
    omega (arith, changes, ap (λ (t : SchedulerState). length t.changes) after_step, ap length stepped.changes) in
    record {
      exists = d.exists;
      forward = omega (arith, d.fits.forward, d.from, d.to);
      short = omega (arith, d.fits.short, d.from, d.to);
      within = d.within;
      early = early;
      wakes = record {
        places = few_places scenario (length s.rows) s.threads valid counted.threads (λ x lt. (fits x lt).0);
        stamps = omega (arith, few);
      };
      since = short_since _ (after_tick scenario s h c).threads early b.ticked.since;
      room = λ p runs. room_at scenario _ p.thread c (after_bill scenario s h c) valid b.billed' (let a = b.stamps_billed in let n = valid.few_threads in omega (arith, a, few, n, counted.threads)) (b.runs_billed p runs);
      replies = omega (arith, replies, valid.few_commands, ap (λ (t : SchedulerState). length t.replies) after_step, ap length stepped.replies, ap length tests.replies);
      changes_ticked = omega (arith, changes_billed, tests.changes);
      changes_billed = changes_billed;
      within_ticked = omega (arith, d.within, horizon_same scenario.shape s.shape counted.sizes, horizon_same scenario.shape (after_tick scenario s h c).shape b.ticked.sizes);
      within_settled = omega (arith, d.within, horizon_same scenario.shape s.shape counted.sizes, horizon_same scenario.shape (before_pick scenario s h c).shape b.settled'.sizes);
      free_billed = λ p runs. runs_free (after_bill scenario s h c) p.thread c b.billed'.waiting (b.runs_billed p runs);
      count_billed = b.billed'.threads ∙ sym counted.threads;
      count_settled = b.settled'.threads ∙ sym counted.threads;
      stamped_billed = b.billed'.stamped;
      stamped_settled = b.settled'.stamped;
      exists_settled = omega (arith, d.exists, counted.cpus, b.settled'.cpus);
      same_tick = b.ticked.sizes.tick ∙ sym counted.sizes.tick;
      rises = let l = n.rises in omega (arith, l, d.to);
      in_tick = subst (λ z. due s h c ≤ next_boundary s.shape.tick z) d.from (let l = n.short in omega (arith, l, d.to));
      counted = omega (arith, counted.cpus, b.settled'.cpus);
      same_cpu = let m = (sound scenario order valid h legal).grounded in cpu_before scenario s h c (names_channels scenario valid) m.plain m.kept;
      runs_billed = b.runs_billed;
      runs = (sound scenario order valid h legal).grounded.kept.runs;
      others = let m = (sound scenario order valid h legal).grounded in due_before scenario s h c (names_channels scenario valid) m.plain m.kept;
      bills_fit = bills_fit scenario order h c valid legal run turn counted.sizes.tick;
    }
