-- A pick, with the state that it chose from.
use Rattle.std.proofs.Common.{◌≡◌, ℕ, ◌/◌, ◌<◌, List, [], ◌∷◌, ◌++◌, length, refl, sym, ◌∙◌, ap, subst, ◌⊎◌, inl, inr, Option}
use Rattle.std.specs.Option.{option_map}
use Rattle.aps_model.specs.declared.entry.Entry.{Entry}
use Rattle.aps_model.specs.declared.entry.Order.{Order}
use Rattle.aps_model.specs.declared.merit.Contender.{Contender}
use Rattle.aps_model.specs.declared.merit.PartFacts.{PartFacts}
use Rattle.aps_model.specs.declared.shape.Shape.{Shape}
use Rattle.aps_model.specs.After.{After, after, state_after}
use Rattle.aps_model.specs.Budget.{all_parts}
use Rattle.aps_model.specs.Due.{due, last_end}
use Rattle.aps_model.specs.Flag.{flag_for, with_flag}
use Rattle.aps_model.specs.Legal.{IsLegal}
use Rattle.aps_model.specs.Pick.{contenders, greatest}
use Rattle.aps_model.specs.Scenario.{Scenario}
use Rattle.aps_model.specs.SchedulerState.{SchedulerState, cpu_at}
use Rattle.aps_model.specs.Step.{Step, chosen, settled, step}
use Rattle.aps_model.specs.Valid.{IsScenario}
use Rattle.laws_runs.specs.Bears.{NamesChannels}
use Rattle.laws_runs.specs.Choices.{MadeNoPick, state_to_pick}
use Rattle.laws_runs.specs.Untouched.{IsComplete, AgreesOnRunning}
use Rattle.laws_runs.specs.Waits.{IsPlain}
use Rattle.laws_runs.proofs.Channels.{names_channels}
use Rattle.laws_runs.proofs.ChoiceLaws.{bill_picks_none}
use Rattle.laws_runs.proofs.Mid.{back_mid, test_mid}
use Rattle.laws_runs.proofs.Picked.{flag_rows, flag_shape}
use Rattle.laws_runs.proofs.PickSays.{chosen_rows, chosen_shape, complete_in, parts_same}
use Rattle.laws_runs.proofs.Sound.{legal_last, sound}
use Rattle.laws_runs.proofs.StepOf.{bill_at, bill_says, mid_count, step_by, tested_at}
use Rattle.aps_model.proofs.AfterLaws.{after-append}

-- the partitions at the pick of the entry that ends this history
abbrev pub parts_of : SchedulerState → List Entry → Entry → List PartFacts
parts_of t h e = all_parts t.shape t.rows (h ++ e ∷ []) (e.to / t.shape.tick)

-- a pick of processor c from the state r: the greatest candidate is chosen, and for the greatest that is left another
-- processor may be flagged
pub record IsOpenPick (r : SchedulerState) (h : List Entry) (c : ℕ) (e : Entry) (t : SchedulerState) : Type 0 where
  pub parts : List PartFacts
  pub parts_are : parts ≡ parts_of t h e
  pub cpu : e.cpu ≡ c
  pub below : c < length r.cpus
  pub shape : t.shape ≡ r.shape
  pub rows : t.rows ≡ r.rows
  pub picked : e.picked ≡ option_map (λ (b : Contender). b.thread) (greatest r.shape.free parts (contenders r))
  pub leaves : t ≡ with_flag (chosen r parts c (greatest r.shape.free parts (contenders r))) e.to
      (flag_for (chosen r parts c (greatest r.shape.free parts (contenders r))) h parts c e.to
      (greatest r.shape.free parts (contenders (chosen r parts c (greatest r.shape.free parts (contenders r))))))

-- over variables
open_at : (r : SchedulerState) (h : List Entry) (c now : ℕ) (e : Entry) (ps : List PartFacts) (best : Option Contender) (other starved : Option ℕ)
    → e.cpu ≡ c → c < length r.cpus → e.to ≡ now
    → ps ≡ all_parts r.shape r.rows (h ++ e ∷ []) (now / r.shape.tick)
    → best ≡ greatest r.shape.free ps (contenders r)
    → other ≡ flag_for (chosen r ps c best) h ps c now (greatest r.shape.free ps (contenders (chosen r ps c best)))
    → IsOpenPick r h c (record e { picked = option_map (λ (b : Contender). b.thread) best; starved = starved; flagged = other }) (with_flag (chosen r ps c best) now other)
open_at r h c now e ps best other starved cpu below to parts is flags =
    let d = record e { picked = option_map (λ (b : Contender). b.thread) best; starved = starved; flagged = other } in
    let q : Option Contender → SchedulerState = λ o. chosen r ps c o in
    let t = with_flag (q best) now other in
    let shape : t.shape ≡ r.shape = flag_shape (q best) now other ∙ chosen_shape r ps c best in
    let rows : t.rows ≡ r.rows = flag_rows (q best) now other ∙ chosen_rows r ps c best in
    record {
      parts = ps;
      parts_are =
          parts
          ∙ sym (parts_same r.shape r.rows h (now / r.shape.tick) e d refl refl refl refl)
          ∙ ap (λ n. all_parts r.shape r.rows (h ++ d ∷ []) (n / r.shape.tick)) (sym to)
          ∙ ap (λ (z : Shape). all_parts z r.rows (h ++ d ∷ []) (e.to / z.tick)) (sym shape)
          ∙ ap (λ rs. all_parts t.shape rs (h ++ d ∷ []) (e.to / t.shape.tick)) (sym rows);
      cpu = cpu;
      below = below;
      shape = shape;
      rows = rows;
      picked = ap (λ o. option_map (λ (b : Contender). b.thread) o) is;
      leaves =
          ap (with_flag (q best) now) flags
          ∙ ap (λ n. with_flag (q best) n (flag_for (q best) h ps c n (greatest r.shape.free ps (contenders (q best))))) (sym to)
          ∙ ap (λ o. with_flag (q o) e.to (flag_for (q o) h ps c e.to (greatest r.shape.free ps (contenders (q o))))) is;
    }

-- a step makes no pick, or it picks from the state to pick from
step_opens : (scenario : Scenario) (s : SchedulerState) (h : List Entry) (c : ℕ) → NamesChannels scenario → IsPlain scenario s → AgreesOnRunning s → c < length s.cpus
    → MadeNoPick s (step scenario s h c).entry (step scenario s h c).reboot
    ⊎ IsOpenPick (state_to_pick scenario s h c) h c (step scenario s h c).entry (step scenario s h c).state
step_opens scenario s h c names plain k below =
    let now = due s h c in
    let running = (cpu_at s c).running in
    let e = bill_at s h c in
    let says = bill_says c (last_end h c) now running in
    let b = test_mid scenario s h c now e running plain k refl in
    let back = back_mid scenario s (tested_at scenario s h c).state c now running names k refl b in
    step_by scenario s h c (λ (out : Step). MadeNoPick s out.entry out.reboot ⊎ IsOpenPick (state_to_pick scenario s h c) h c out.entry out.state)
    (λ o why. inl (record {
      none = bill_picks_none c (last_end h c) now running;
      complete = subst (λ n. IsComplete s n o) (sym says.to) (complete_in s (tested_at scenario s h c).state now o b.mid.sizes why);
    }))
    (λ early.
    let did = settled scenario (tested_at scenario s h c).state now running in
    let r = did.state in
    let e0 = record e { done = did.done } in
    let ps = all_parts r.shape r.rows (h ++ e0 ∷ []) (now / r.shape.tick) in
    let best = greatest r.shape.free ps (contenders r) in
    let below_r : c < length r.cpus = rw (mid_count scenario s c r back.mid) below in
    let q = chosen r ps c best in
    let other = flag_for q h ps c now (greatest r.shape.free ps (contenders q)) in
    inr (open_at r h c now e0 ps best other _ says.cpu below_r says.to refl refl refl))

pub open_pick : (scenario : Scenario) (order : Order) (h : List Entry) (e : Entry) → IsScenario scenario → IsLegal scenario order (h ++ e ∷ [])
    → MadeNoPick (state_after scenario h) e (after scenario (h ++ e ∷ [])).reboot
    ⊎ IsOpenPick (state_to_pick scenario (state_after scenario h) h e.cpu) h e.cpu e (state_after scenario (h ++ e ∷ []))
open_pick scenario order h e r legal =
    let last = legal_last scenario order h e legal in
    let m = sound scenario order r h last.0 in
    let s = state_after scenario h in
    let said = step_opens scenario s h e.cpu (names_channels scenario r) m.grounded.plain m.grounded.kept (subst (λ n. e.cpu < n) (sym m.grounded.cpu_count) last.1.turn.exists) in
    subst (λ (a : After). MadeNoPick s e a.reboot ⊎ IsOpenPick (state_to_pick scenario s h e.cpu) h e.cpu e a.state) (sym (after-append scenario h e))
    (subst (λ (x : Entry). MadeNoPick s x (step scenario s h e.cpu).reboot ⊎ IsOpenPick (state_to_pick scenario s h e.cpu) h e.cpu x (step scenario s h e.cpu).state) (sym last.1.same) said)
