-- A pass begins.
use Rattle.std.proofs.Common.{◌≡◌, ℕ, ◌+◌, ◌*◌, ◌<◌, List, true, false, refl, sym, ap, subst, arith}
use Rattle.std.proofs.lemmas.List.{get_or-replicate}
use Rattle.aps_model.specs.declared.entry.Entry.{Entry}
use Rattle.aps_model.specs.declared.entry.Order.{Order}
use Rattle.aps_model.specs.History.{History}
use Rattle.aps_model.specs.Legal.{IsLegal}
use Rattle.aps_model.specs.Limits.{most_cpus}
use Rattle.aps_model.specs.Loaded.{finished_ticks}
use Rattle.aps_model.specs.Scenario.{Scenario}
use Rattle.aps_model.specs.Valid.{IsScenario}
use Rattle.aps_core.specs.Run.{Setup}
use Rattle.view_replay.specs.Retraced.{scenario_of_run}
use Rattle.view_samples.specs.declared.lasts.Lasts.{Lasts}
use Rattle.view_samples.specs.declared.pass.Samples.{Samples}
use Rattle.view_samples.specs.Lasts.{AreLasts}
use Rattle.view_samples.specs.Pass.{BeginsIfMet, GoesUpTo, HasNote, IsAtTickBegin, IsCut, IsPassReady, RunsIn, samples_at_start, is_before}
use Rattle.view_samples.proofs.Billing.{sums_none}
use Rattle.view_samples.proofs.Cuts.{meets}
use Rattle.view_samples.proofs.Passing.{lasts_none}

pub start_ready : (history : History) (order : Order) → IsScenario history.scenario → IsLegal history.scenario order history.entries → IsPassReady history.entries (samples_at_start history order)
start_ready history order valid legal =
    let window = history.scenario.shape.window in
    let short = valid.shape.window_short in
    record {
      valid = valid;
      legal = legal;
      up = record {
        window = window;
        run = refl;
        place = omega arith;
        room = omega arith;
        free = λ c less. get_or-replicate most_cpus c false false less;
        sums = sums_none history.scenario window short;
      };
      early = omega arith;
    }

pub start_runs : (tick : ℕ) (h : List Entry) → RunsIn tick h 0 (0 + 1) 0
start_runs tick h = λ k from less early some. absurd (omega (arith, early, some))

start_cut : (h : List Entry) → IsCut h 0 0
start_cut h = record { past = λ k less. absurd (omega (arith, less)); later = λ k from less. omega arith }

no_time : (t : ℕ) → 0 ≡ 0 * t
no_time t = omega arith

pub record IsBegun (history : History) (s : Samples) : Type 0 where
  pub at : IsAtTickBegin history.entries s
  pub of : scenario_of_run s.cursor.core ≡ history.scenario
  pub first : s.tick ≡ 0

pub begun : (es : List Entry) (history : History) (order : Order) (start s : Samples) → es ≡ history.entries → start ≡ samples_at_start history order → IsScenario history.scenario → IsLegal history.scenario order history.entries
    → GoesUpTo es (0 + 1) start s → BeginsIfMet (scenario_of_run start.cursor.core) es 0 start s → IsBegun history s
begun es history order start s same is valid legal up' begins' =
    let h = history.entries in
    let up : GoesUpTo h 1 (samples_at_start history order) s = subst (λ (l : List Entry). GoesUpTo l 1 (samples_at_start history order) s) same (subst (λ (b : Samples). GoesUpTo es 1 b s) is up') in
    let begins : BeginsIfMet history.scenario h 0 (samples_at_start history order) s =
    subst (λ (l : List Entry). BeginsIfMet history.scenario l 0 (samples_at_start history order) s) same (subst (λ (b : Samples). BeginsIfMet (scenario_of_run b.cursor.core) es 0 b s) is begins') in
    let named : scenario_of_run s.cursor.core ≡ history.scenario = ap (λ (u : Setup). u.scenario) up.setup in
    let first : s.tick ≡ 0 = up.tick in
    let cut : IsCut h 1 s.cursor.next = up.cut (λ k less. absurd (omega (arith, less))) in
    let lasts : AreLasts history.scenario h 0 s.lasts = subst (λ (l : Lasts). AreLasts history.scenario h 0 l) (sym up.lasts) (lasts_none history.scenario h) in
    record {
      at = record {
        ready = up.ready;
        cut = subst (λ n. IsCut h (n * (scenario_of_run s.cursor.core).shape.tick + 1) s.cursor.next) (sym first) (subst (λ n. IsCut h (n + 1) s.cursor.next) (no_time (scenario_of_run s.cursor.core).shape.tick) cut);
        note = λ less.
            let some = subst (λ (u : Scenario). s.tick < finished_ticks u.shape h) named less in
            let zero = no_time history.scenario.shape.tick in
            let met = meets history.scenario order h 0 0 valid legal (omega arith) (omega (arith, some, first)) (subst (λ n. IsCut h n 0) zero (start_cut h)) in
            let has = begins 0 zero (start_cut h) (subst (λ n. is_before h 0 (n + 1) ≡ true) (sym zero) met) in
            subst (λ (u : Scenario). HasNote u h s.tick s) (sym named) (subst (λ n. HasNote history.scenario h n s) (sym first) has);
        lasts = subst (λ (u : Scenario). AreLasts u h s.tick s.lasts) (sym named) (subst (λ n. AreLasts history.scenario h n s.lasts) (sym first) lasts);
      };
      of = named;
      first = first;
    }
