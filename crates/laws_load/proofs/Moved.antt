-- A window that begins inside a tick: what counts in it, by how many lanes stand in its last tick when it is last reset.
use Rattle.std.proofs.Common.{◌≡◌, ℕ, ◌+◌, ◌-◌, ◌*◌, ◌≤◌, ◌<◌, Bool, true, false, if◌then◌else◌, nat_le, List, [], ◌∷◌, length, slice_set, slice_get, Some, refl, sym, subst, arith, inl, inr}
use Rattle.std.specs.List.{All, sum_by}
use Rattle.std.proofs.Math.ListN.{get_or}
use Rattle.std.proofs.Math.Nat.{mul-add, mul-le-mul_left}
use Rattle.std.proofs.lemmas.Bool.{cases_lt}
use Rattle.std.proofs.lemmas.Bool.Decides.{nat_tests}
use Rattle.std.proofs.lemmas.List.{length-set}
use Rattle.std.proofs.lemmas.List.Elements.{All-set}
use Rattle.std.proofs.lemmas.List.Sums.{sum_by-cons, sum_by-le}
use Rattle.aps_model.specs.Due.{next_boundary}
use Rattle.aps_model.specs.Usage.{overlap}
use Rattle.laws_runs.specs.Window.{Kept, Lane, Tiles, Walks, Wide, lane_after}
use Rattle.laws_bounds.specs.Lanes.{lanes_at, paid}
use Rattle.laws_bounds.specs.Pasts.{past}
use Rattle.laws_load.proofs.Reach.{boundary_before, passing, passing_few, passing_times, reach, reach_past, reach_short, reach_uncounted, step_past, step_reach, sum_at_most, sum_both, sum_up}

-- moments never fall along the entries
abbrev pub Rises : ℕ → List Wide → Type 0
Rises now [] = Unit {0}
Rises now (e ∷ es) = (now ≤ e.to) × Rises e.to es

module _ (counts : Kept → Bool) (tick b lo late scale limit extra : ℕ) (short : late ≤ tick) where
  -- the last boundary, and the end
  abbrev cut : ℕ
  cut = b * tick

  abbrev hi : ℕ
  hi = b * tick + late

  abbrev stands : Lane → Bool
  stands l = nat_le cut l.last

  -- at each pick that counts, what was counted so far is within the limit, but for some extra in the last tick
  abbrev pub ResetsMoved : ℕ → List Wide → Type 0
  ResetsMoved so_far [] = Unit {0}
  ResetsMoved so_far (e ∷ es) =
      (counts e.keeps ≡ true → e.to < cut → scale * (so_far + paid counts 1 lo hi e) ≤ limit)
      × (counts e.keeps ≡ true → cut ≤ e.to → e.to < hi → scale * (so_far + paid counts 1 lo hi e) ≤ limit + scale * extra)
      × ResetsMoved (so_far + paid counts 1 lo hi e) es

  -- with this many lanes in the last tick, what the lanes may add counted in
  record Inv (lanes : List Lane) (tail all : ℕ) : Type 0 where
    in_last : ℕ
    few : in_last ≤ length lanes
    cover : tail ≤ sum_by (past 1 cut hi) lanes
    last : tail + sum_by (reach counts tick cut hi) lanes ≤ in_last * late
    whole : scale * (all + sum_by (reach counts tick lo hi) lanes) + scale * (in_last * (tick - late)) ≤ limit + scale * (length lanes * tick + extra)

  -- ---- one lane

  by_stand : (t : Bool) (l : Lane) → stands l ≡ t → past 1 cut hi l + reach counts tick cut hi l ≤ (if t then late else 0)
  by_stand true l is = tests (counts l.runs) cut late l.last (next_boundary tick l.last) (stood cut l.last is)
    where
      stood : (a b : ℕ) → nat_le a b ≡ true → a ≤ b
      stood a b is = grind (arith, nat_tests, is)

      tests : (one : Bool) (cut late last end : ℕ) → cut ≤ last → overlap 1 cut (cut + late) 0 last + (if one then overlap 1 cut (cut + late) last end else 0) ≤ late
      tests true cut late last end le = omega (arith, le)
      tests false cut late last end le = omega (arith, le)
  by_stand false l is =
      let early : l.last < cut = before cut l.last is in
      tests (counts l.runs) cut late l.last (next_boundary tick l.last) early (boundary_before tick b l.last early)
    where
      before : (a b : ℕ) → nat_le a b ≡ false → b < a
      before a b is = grind (arith, nat_tests, is)

      tests : (one : Bool) (cut late last end : ℕ) → last < cut → end ≤ cut → overlap 1 cut (cut + late) 0 last + (if one then overlap 1 cut (cut + late) last end else 0) ≤ 0
      tests true cut late last end less le = omega (arith, less, le)
      tests false cut late last end less le = omega (arith, less, le)

  last_lane : (l : Lane) → past 1 cut hi l + reach counts tick cut hi l ≤ (if stands l then late else 0)
  last_lane l = by_stand (stands l) l refl

  by_whole : (t : Bool) (l : Lane) → stands l ≡ t → reach counts tick lo hi l + (if t then tick - late else 0) ≤ tick
  by_whole true l is = tests (counts l.runs) cut l.last (next_boundary tick l.last) (stood cut l.last is)
    where
      stood : (a b : ℕ) → nat_le a b ≡ true → a ≤ b
      stood a b is = grind (arith, nat_tests, is)

      tests : (one : Bool) (cut last end : ℕ) → cut ≤ last → (if one then overlap 1 lo (cut + late) last end else 0) + (tick - late) ≤ tick
      tests true cut last end le = omega (arith, le, short)
      tests false cut last end le = omega (arith, le, short)
  by_whole false l is = let le = reach_short counts tick lo hi l in omega (arith, le)

  whole_lane : (l : Lane) → reach counts tick lo hi l + (if stands l then tick - late else 0) ≤ tick
  whole_lane l = by_whole (stands l) l refl

  -- ---- all lanes

  last_lanes : (lanes : List Lane) → sum_by (past 1 cut hi) lanes + sum_by (reach counts tick cut hi) lanes ≤ passing stands lanes * late
  last_lanes lanes =
      let up = sum_up (λ l. past 1 cut hi l + reach counts tick cut hi l) (λ l. if stands l then late else 0) last_lane lanes in
      omega (arith, up, sum_both (past 1 cut hi) (reach counts tick cut hi) lanes, passing_times stands late lanes)

  whole_lanes : (lanes : List Lane) → sum_by (reach counts tick lo hi) lanes + passing stands lanes * (tick - late) ≤ length lanes * tick
  whole_lanes lanes =
      let up = sum_at_most (λ l. reach counts tick lo hi l + (if stands l then tick - late else 0)) tick whole_lane lanes in
      omega (arith, up, sum_both (reach counts tick lo hi) (λ l. if stands l then tick - late else 0) lanes, passing_times stands (tick - late) lanes)

  -- where no lane stands in the last tick
  none_past : (lanes : List Lane) (now : ℕ) → now < cut → All (λ (l : Lane). l.last ≤ now) lanes → sum_by (past 1 cut hi) lanes ≡ 0
  none_past lanes now early all =
      let none : All (λ (l : Lane). past 1 cut hi l ≤ 0) lanes = λ i d in'. nothing (get_or lanes i d).last (all i d in') in
      let le = sum_by-le (past 1 cut hi) 0 lanes none in
      zero_is (sum_by (past 1 cut hi) lanes) (length lanes) le
    where
      nothing : (last : ℕ) → last ≤ now → overlap 1 cut hi 0 last ≤ 0
      nothing last le = omega (arith, le, early)

      zero_is : (k n : ℕ) → k ≤ n * 0 → k ≡ 0
      zero_is k n le = omega (arith, le)

  none_last : (lanes : List Lane) (now : ℕ) → now < cut → All (λ (l : Lane). l.last ≤ now) lanes → sum_by (reach counts tick cut hi) lanes ≡ 0
  none_last lanes now early all =
      let none : All (λ (l : Lane). reach counts tick cut hi l ≤ 0) lanes = λ i d in'. nothing (get_or lanes i d) (all i d in') in
      let le = sum_by-le (reach counts tick cut hi) 0 lanes none in
      zero_is (sum_by (reach counts tick cut hi) lanes) (length lanes) le
    where
      tests : (one : Bool) (last end : ℕ) → end ≤ cut → (if one then overlap 1 cut hi last end else 0) ≤ 0
      tests true last end le = omega (arith, le)
      tests false last end le = omega arith

      nothing : (l : Lane) → l.last ≤ now → reach counts tick cut hi l ≤ 0
      nothing l le = tests (counts l.runs) l.last (next_boundary tick l.last) (boundary_before tick b l.last (omega (arith, le, early)))

      zero_is : (k n : ℕ) → k ≤ n * 0 → k ≡ 0
      zero_is k n le = omega (arith, le)

  -- ---- one entry more

  fewer : (all pays before after rest most : ℕ) → pays + after ≤ before → scale * (all + before) + rest ≤ most → scale * ((all + pays) + after) + rest ≤ most
  fewer all pays before after rest most less so_far =
      let le : (all + pays) + after ≤ all + before = omega (arith, less) in
      omega (arith, mul-le-mul_left scale le, so_far)

  anew : (all more rest most bound : ℕ) → scale * all ≤ bound → more + rest ≤ most → scale * (all + more) + scale * rest ≤ bound + scale * most
  anew all more rest most bound within le = omega (arith, within, mul-add scale all more, mul-add scale more rest, mul-le-mul_left scale le)

  module _ (now : ℕ) (lanes : List Lane) (e : Wide) (lane : Lane) (found : slice_get lanes e.cpu ≡ Some lane) (from : e.from ≡ lane.last) (on : e.from ≤ e.to) (bills : e.bills ≡ lane.runs)
      (near : e.to ≤ next_boundary tick e.from) (rises : now ≤ e.to) (before : All (λ (l : Lane). l.last ≤ now) lanes) (tail all : ℕ) (inv : Inv lanes tail all) where
    abbrev set : List Lane
    set = slice_set lanes e.cpu (lane_after e)

    abbrev tail' : ℕ
    tail' = tail + paid counts 1 cut hi e

    abbrev all' : ℕ
    all' = all + paid counts 1 lo hi e

    same : length set ≡ length lanes
    same = length-set lanes e.cpu (lane_after e)

    before_set : All (λ (l : Lane). l.last ≤ e.to) set
    before_set = All-set (λ (l : Lane). l.last ≤ e.to) lanes e.cpu (lane_after e) (omega arith) (λ i d in'. let le = before i d in' in omega (arith, le, rises))

    covers : tail' ≤ sum_by (past 1 cut hi) set
    covers = let c = inv.cover in omega (arith, c, step_past lanes e lane found counts cut hi from on)

    quiet : reach counts tick cut hi (lane_after e) ≡ 0 → reach counts tick lo hi (lane_after e) ≡ 0 → Inv set tail' all'
    quiet none_cut none_lo =
        let step_cut = step_reach lanes e lane found counts tick cut hi from bills near in
        let step_lo = step_reach lanes e lane found counts tick lo hi from bills near in
        let few = inv.few in
        let last = inv.last in
        record {
          in_last = inv.in_last;
          few = omega (arith, few, same);
          cover = covers;
          last = omega (arith, last, step_cut, none_cut);
          whole = subst (λ n. scale * (all' + sum_by (reach counts tick lo hi) set) + scale * (inv.in_last * (tick - late)) ≤ limit + scale * (n * tick + extra)) (sym same)
              (fewer all (paid counts 1 lo hi e) (sum_by (reach counts tick lo hi) lanes) (sum_by (reach counts tick lo hi) set) (scale * (inv.in_last * (tick - late))) (limit + scale * (length lanes * tick + extra))
              (omega (arith, step_lo, none_lo)) inv.whole);
        }

    early_reset : e.to < cut → scale * all' ≤ limit → Inv set tail' all'
    early_reset early within =
        let none = none_past set e.to early before_set in
        let short_reach = sum_at_most (reach counts tick lo hi) tick (reach_short counts tick lo hi) set in
        record {
          in_last = 0;
          few = omega arith;
          cover = covers;
          last = omega (arith, covers, none, none_last set e.to early before_set);
          whole = anew all' (sum_by (reach counts tick lo hi) set) (0 * (tick - late)) (length set * tick + extra) limit within (omega (arith, short_reach));
        }

    late_reset : scale * all' ≤ limit + scale * extra → Inv set tail' all'
    late_reset within =
        let lasts = last_lanes set in
        let wholes = whole_lanes set in
        let sum = anew all' (sum_by (reach counts tick lo hi) set) (passing stands set * (tick - late)) (length set * tick) (limit + scale * extra) within wholes in
        record {
          in_last = passing stands set;
          few = passing_few stands set;
          cover = covers;
          last = omega (arith, covers, lasts);
          whole = omega (arith, sum, mul-add scale (length set * tick) extra);
        }

    next : (counts e.keeps ≡ true → e.to < cut → scale * all' ≤ limit) → (counts e.keeps ≡ true → cut ≤ e.to → e.to < hi → scale * all' ≤ limit + scale * extra) → Inv set tail' all'
    next early late' = by_count (counts e.keeps) refl
      where
        by_count : (t : Bool) → counts e.keeps ≡ t → Inv set tail' all'
        by_count false is = quiet (reach_uncounted counts tick cut hi (lane_after e) is) (reach_uncounted counts tick lo hi (lane_after e) is)
        by_count true is = elim (cases_lt e.to cut) [
          | inl less ↦ early_reset less (early is less)
          | inr past' ↦ elim (cases_lt e.to hi) [
            | inl less ↦ late_reset (late' is past' less)
            | inr over ↦ quiet (reach_past counts tick cut hi (lane_after e) over) (reach_past counts tick lo hi (lane_after e) over)
          ]
        ]

  -- ---- all entries

  moved_walk : (now : ℕ) (lanes : List Lane) (entries : List Wide) (tail all : ℕ) → Inv lanes tail all → Walks tick lanes entries → Tiles lanes entries → Rises now entries
      → All (λ (l : Lane). l.last ≤ now) lanes → ResetsMoved all entries
      → Inv (lanes_at lanes entries) (tail + sum_by (paid counts 1 cut hi) entries) (all + sum_by (paid counts 1 lo hi) entries)
  moved_walk now lanes [] tail all inv walk tiles rises before resets = subst (λ n. Inv lanes n (all + 0)) (omega arith) (subst (λ n. Inv lanes tail n) (omega arith) inv)
  moved_walk now lanes (e ∷ es) tail all inv (lane, found, from, bills, near, later) (other, found', from', on, more) (rise, rises) before (early, late', resets) =
      let set = slice_set lanes e.cpu (lane_after e) in
      let pays_cut : ℕ = paid counts 1 cut hi e in
      let pays_lo : ℕ = paid counts 1 lo hi e in
      let here = next now lanes e lane found from on bills near rise before tail all inv early late' in
      let rest = moved_walk e.to set es (tail + pays_cut) (all + pays_lo) here later more rises (before_set now lanes e lane found from on bills near rise before tail all inv) resets in
      let one : (tail + pays_cut) + sum_by (paid counts 1 cut hi) es ≡ tail + sum_by (paid counts 1 cut hi) (e ∷ es) = omega (arith, sum_by-cons (paid counts 1 cut hi) e es) in
      let two : (all + pays_lo) + sum_by (paid counts 1 lo hi) es ≡ all + sum_by (paid counts 1 lo hi) (e ∷ es) = omega (arith, sum_by-cons (paid counts 1 lo hi) e es) in
      subst (λ n. Inv (lanes_at set es) n (all + sum_by (paid counts 1 lo hi) (e ∷ es))) one
      (subst (λ n. Inv (lanes_at set es) ((tail + pays_cut) + sum_by (paid counts 1 cut hi) es) n) two rest)

  -- what counts of a window, and of its last tick, by how many lanes stood there at the last reset
  pub record IsMoved (n tail all : ℕ) : Type 0 where
    pub in_last : ℕ
    pub few : in_last ≤ n
    pub last : tail ≤ in_last * late
    pub whole : scale * all + scale * (in_last * (tick - late)) ≤ limit + scale * (n * tick + extra)

  pub moved : (now : ℕ) (lanes : List Lane) (entries : List Wide) → sum_by (reach counts tick cut hi) lanes ≡ 0 → sum_by (reach counts tick lo hi) lanes ≡ 0 → Walks tick lanes entries → Tiles lanes entries → Rises now entries
      → All (λ (l : Lane). l.last ≤ now) lanes → ResetsMoved 0 entries → length (lanes_at lanes entries) ≡ length lanes
      → IsMoved (length lanes) (sum_by (paid counts 1 cut hi) entries) (sum_by (paid counts 1 lo hi) entries)
  moved now lanes entries none_cut none_lo walk tiles rises before resets count =
      let start : Inv lanes 0 0 = record {
        in_last = 0;
        few = omega arith;
        cover = omega arith;
        last = omega (arith, none_cut);
        whole = anew 0 (sum_by (reach counts tick lo hi) lanes) (0 * (tick - late)) (length lanes * tick + extra) limit (omega arith) (omega (arith, none_lo));
      } in
      let end = moved_walk now lanes entries 0 0 start walk tiles rises before resets in
      let few = end.few in
      let last = end.last in
      let less : sum_by (paid counts 1 lo hi) entries ≤ (0 + sum_by (paid counts 1 lo hi) entries) + sum_by (reach counts tick lo hi) (lanes_at lanes entries) = omega arith in
      let whole = subst (λ n. scale * ((0 + sum_by (paid counts 1 lo hi) entries) + sum_by (reach counts tick lo hi) (lanes_at lanes entries)) + scale * (end.in_last * (tick - late)) ≤ limit + scale * (n * tick + extra)) count end.whole in
      record {
        in_last = end.in_last;
        few = omega (arith, few, count);
        last = omega (arith, last);
        whole = omega (arith, whole, mul-le-mul_left scale less);
      }
