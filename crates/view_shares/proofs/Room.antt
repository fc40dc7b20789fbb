-- The window has room for the next entry.
use Rattle.std.proofs.Common.{◌≡◌, ℕ, ◌+◌, ◌-◌, ◌*◌, ◌/◌, ◌<◌, ◌≤◌, List, [], ◌∷◌, ◌++◌, length, refl, sym, subst, arith}
use Rattle.std.proofs.Math.Nat.{div-le_of_le-mul}
use Rattle.std.proofs.Math.Seq.{get_or-append_seam}
use Rattle.std.proofs.lemmas.List.{length-append}
use Rattle.aps_model.specs.declared.entry.Entry.{Entry}
use Rattle.aps_model.specs.declared.entry.Order.{Order}
use Rattle.aps_model.specs.After.{state_after}
use Rattle.aps_model.specs.History.{IsEntry}
use Rattle.aps_model.specs.Legal.{IsLegal}
use Rattle.aps_model.specs.Limits.{most_ticks, most_time_of_tick}
use Rattle.aps_model.specs.Scenario.{Scenario}
use Rattle.aps_model.specs.Usage.{used}
use Rattle.aps_model.specs.Valid.{IsScenario}
use Rattle.laws_runs.specs.Moments.{moment}
use Rattle.laws_runs.proofs.BoundaryLaws.{div_rises, entries_fit}
use Rattle.laws_runs.proofs.SmallNumbers.{usage_small}
use Rattle.laws_runs.proofs.Sound.{legal_last, next_law, sound}
use Rattle.laws_runs.proofs.Words.{tiled}
use Rattle.aps_window.specs.Entries.{IsInOneTick}
use Rattle.aps_window.specs.Window.{Window, advanced, resized}
use Rattle.aps_core.specs.Counts.{Counts}
use Rattle.aps_core.proofs.Counting.{can_bill, counts_later, counts_resized}
use Rattle.view_replay.specs.Shape.{shape_with}
use Rattle.view_shares.specs.declared.usages.Usages.{Usages}
use Rattle.view_shares.specs.Usages.{HasRoomInWindow, AreUsagesCounted}

-- the next entry: it has its moments, crosses no boundary, ends no earlier than the last one, and in one of a million ticks
pub record IsLater (scenario : Scenario) (h : List Entry) (e : Entry) : Type 0 where
  pub entry : IsEntry e
  pub whole : IsInOneTick scenario.shape.tick e
  pub forward : moment h / scenario.shape.tick ≤ e.to / scenario.shape.tick
  pub early : e.to / scenario.shape.tick ≤ most_ticks

early_tick : (ticks tick to : ℕ) → to ≤ ticks * tick → ticks ≤ most_ticks → 0 < tick → to / tick ≤ most_ticks
early_tick ticks tick to within few pos = let l : to / tick ≤ ticks = div-le_of_le-mul tick (omega (arith, within)) in omega (arith, l, few)

pub is_later : (scenario : Scenario) (order : Order) (h : List Entry) (e : Entry) → IsScenario scenario → IsLegal scenario order (h ++ e ∷ []) → IsLater scenario h e
is_later scenario order h e valid legal =
    let next = next_law scenario order h e valid legal in
    let sizes = (sound scenario order valid h (legal_last scenario order h e legal).0).grounded.sizes in
    let long = valid.shape.tick_long in
    let pos : 0 < scenario.shape.tick = omega (arith, long) in
    let within : e.to ≤ scenario.shape.ticks * scenario.shape.tick =
    subst (λ n. e.to ≤ n * scenario.shape.tick) sizes.ticks (subst (λ n. e.to ≤ (state_after scenario h).shape.ticks * n) sizes.tick next.within) in
    record {
      entry = subst IsEntry (get_or-append_seam h e [] e) (entries_fit scenario order (h ++ e ∷ []) valid legal (length h) e (omega (arith, length-append h (e ∷ []))));
      whole = (tiled scenario order (h ++ e ∷ []) valid legal h [] e refl).within;
      forward = div_rises scenario.shape.tick (moment h) e.to pos next.rises;
      early = early_tick scenario.shape.ticks scenario.shape.tick e.to within valid.shape.few_ticks pos;
    }

-- where the window has gone on to its tick
pub gone_on : (scenario : Scenario) (h : List Entry) (j : ℕ) (time : Usages) (after : Window) → AreUsagesCounted scenario h time → moment h / scenario.shape.tick ≤ j → after ≡ advanced (j - time.window.tick) time.window
    → Counts (shape_with scenario time.span) h j after
gone_on scenario h j time after counted forward is =
    subst (Counts (shape_with scenario time.span) h j) (sym is) (counts_later (shape_with scenario time.span) h (moment h / scenario.shape.tick) j time.window counted forward)

few_used : (scenario : Scenario) (order : Order) (h : List Entry) (p k : ℕ) → IsScenario scenario → IsLegal scenario order h → used scenario.shape.tick h p k (k + 1) ≤ most_time_of_tick
few_used scenario order h p k valid legal =
    let small = usage_small scenario order h k (k + 1) valid legal in
    let each = small.each p in
    let all = small.one_tick (omega arith) in
    omega (arith, each, all)

-- there is room
pub has_room : (scenario : Scenario) (order : Order) (h : List Entry) (e : Entry) (span : ℕ) (w : Window) → IsScenario scenario → IsLegal scenario order (h ++ e ∷ [])
    → Counts (shape_with scenario span) h (e.to / scenario.shape.tick) w → HasRoomInWindow scenario.shape.tick w e
has_room scenario order h e span w valid legal counts =
    let later = is_later scenario order h e valid legal in
    let own = counts_resized (shape_with scenario span) scenario.shape h (e.to / scenario.shape.tick) w counts refl valid.shape.window_short in
    let can = can_bill scenario.shape h (e.to / scenario.shape.tick) (resized scenario.shape.window w) e own valid.shape later.entry later.whole refl later.early (λ p k. few_used scenario order (h ++ e ∷ []) p k valid legal) in
    record { early = can.early; past = can.past; recent = can.recent; fits = can.fits }
