-- What all partitions used in a span, and its idle time, are the time of all processors.
use Rattle.std.proofs.Common.{◌≡◌, ℕ, ◌+◌, ◌-◌, ◌*◌, ◌<◌, ◌≤◌, List, [], ◌∷◌, ◌++◌, length, refl, sym, ◌∙◌, ap, subst, append_assoc, Option, Some, None, arith}
use Rattle.std.specs.List.{All, sum_by}
use Rattle.std.proofs.Math.ListN.{get_or}
use Rattle.std.proofs.lemmas.List.{get_or_default}
use Rattle.aps_model.specs.declared.entry.Entry.{Entry}
use Rattle.aps_model.specs.declared.entry.Order.{Order}
use Rattle.aps_model.specs.Due.{last_end}
use Rattle.aps_model.specs.Legal.{IsLegal}
use Rattle.aps_model.specs.Loaded.{finished_ticks}
use Rattle.aps_model.specs.Scenario.{Scenario}
use Rattle.aps_model.specs.SchedulerState.{SchedulerState}
use Rattle.aps_model.specs.Step.{step}
use Rattle.aps_model.specs.Usage.{used}
use Rattle.aps_model.specs.Valid.{IsScenario}
use Rattle.laws_runs.specs.Window.{Lane, lanes_at_start, still, wide_of, wides, wides_from}
use Rattle.laws_runs.proofs.Windows.{walks}
use Rattle.laws_bounds.specs.Lanes.{paid, paid_of}
use Rattle.laws_bounds.specs.Pasts.{past}
use Rattle.laws_bounds.specs.Sums.{sum_below}
use Rattle.laws_bounds.proofs.Finished.{finished_end}
use Rattle.laws_bounds.proofs.Late.{count_of, lanes_of, lanes_stand, sum_at_start}
use Rattle.laws_bounds.proofs.Sums.{sum_below_same}
use Rattle.laws_bounds.proofs.Wides.{sum_wides, used_is}
use Rattle.laws_bounds.specs.FreeTime.{idle_by, idle_time}
use Rattle.laws_bounds.proofs.Runs.{bills_known}
use Rattle.laws_bounds.proofs.Spans.{IsSpan}
use Rattle.laws_bounds.proofs.Times.{AreKnown, all_time, is_nobody, past_whole, sum_by_same}

pub idle_is : (tick a b : ℕ) (e : Entry) (t : SchedulerState) → paid is_nobody tick a b (wide_of e t) ≡ idle_by tick a b e
idle_is tick a b e t = by_billed e.billed
  where
    by_billed : (o : Option ℕ) → paid is_nobody tick a b (wide_of (record e { billed = o }) t) ≡ idle_by tick a b (record e { billed = o })
    by_billed None = refl
    by_billed (Some q) = refl

module _ (scenario : Scenario) (order : Order) (h : List Entry) (r : IsScenario scenario) (legal : IsLegal scenario order h) (a b : ℕ) (s : SchedulerState) (w : IsSpan scenario h a b s) (up : a ≤ b) (finished : b ≤ finished_ticks scenario.shape h) where
  known_from : (u : SchedulerState) (g es : List Entry) → h ≡ g ++ es → AreKnown s.shape.tick a b (length s.rows) (wides_from scenario u g es)
  known_from u g [] same = tt
  known_from u g (e ∷ es) same =
      (bills_known scenario order h r legal a b s w g es e same, known_from (step scenario u g e.cpu).state (g ++ e ∷ []) es (same ∙ sym (append_assoc g (e ∷ []) es)))

  all_late : All (λ (l : Lane). past s.shape.tick a b l ≡ (b - a) * s.shape.tick) (lanes_of scenario h)
  all_late i d in' =
      let there : i < scenario.shape.cpus = rw (← count_of scenario h) in' in
      let last : (get_or (lanes_of scenario h) i d).last ≡ last_end h i =
      ap (λ (l : Lane). l.last) (get_or_default (lanes_of scenario h) i d still in') ∙ lanes_stand scenario order r h legal i in
      let late = finished_end scenario.shape h b i finished there in
      let late' : b * s.shape.tick ≤ last_end h i = subst (λ n. b * n ≤ last_end h i) (sym w.sizes.tick) late in
      past_whole s.shape.tick a b (get_or (lanes_of scenario h) i d).last up (omega (arith, late', last))

  -- what all partitions used and the idle time are the time of all processors
  pub all_used : sum_below (length s.rows) (λ q. used s.shape.tick h q a b) + idle_time s.shape.tick h a b ≡ s.shape.cpus * ((b - a) * s.shape.tick)
  all_used =
      let tick : ℕ = s.shape.tick in
      let n : ℕ = length s.rows in
      let ws = wides scenario h in
      let new : sum_by (past tick a b) (lanes_at_start scenario) ≡ 0 = sum_at_start scenario (past tick a b) nothing in
      let all = all_time tick a b n (lanes_at_start scenario) ws up (walks scenario order h r legal).1 (known_from _ [] h refl) in
      let full : sum_by (past tick a b) (lanes_of scenario h) ≡ length (lanes_of scenario h) * ((b - a) * tick) = sum_by_same (past tick a b) ((b - a) * tick) (lanes_of scenario h) all_late in
      let seats : length (lanes_of scenario h) * ((b - a) * tick) ≡ s.shape.cpus * ((b - a) * tick) = ap (λ m. m * ((b - a) * tick)) (count_of scenario h ∙ sym w.sizes.cpus) in
      let uses : sum_below n (paid_of tick a b ws) ≡ sum_below n (λ q. used tick h q a b) = sum_below_same n (paid_of tick a b ws) (λ q. used tick h q a b) (λ q. used_is scenario tick a b q h) in
      let idle : sum_by (paid is_nobody tick a b) ws ≡ idle_time tick h a b = sum_wides (paid is_nobody tick a b) (idle_by tick a b) (idle_is tick a b) scenario _ [] h in
      omega (arith, new, all, full, seats, uses, idle)
    where
      nothing : past s.shape.tick a b still ≡ 0
      nothing = omega arith
