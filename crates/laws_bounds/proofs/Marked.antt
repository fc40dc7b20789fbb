-- Entries with a mark that tells the kind of the pick that they run.
use Rattle.std.proofs.Common.{◌≡◌, ◌≢◌, ℕ, zero, suc, ◌<◌, List, [], ◌∷◌, ◌++◌, length, refl, sym, ◌∙◌, ap, subst, append_assoc, Bool, Some, None, slice_index_or, slice_set, replicate, inl, inr, length-set}
use Rattle.std.proofs.lemmas.Bool.{cases_eq}
use Rattle.std.proofs.lemmas.List.{append-nil, get_or-set_same, get_or-set_other}
use Rattle.std.proofs.lemmas.Option.{slice_get_within, slice_get-get_or, get_or_from_slice_get}
use Rattle.aps_model.specs.declared.entry.Entry.{Entry}
use Rattle.aps_model.specs.After.{after, state_after}
use Rattle.aps_model.specs.Scenario.{Scenario}
use Rattle.aps_model.specs.SchedulerState.{SchedulerState}
use Rattle.laws_runs.specs.Window.{Kept, Lane, Walks, Wide, bill_with_mark, lane_after, lanes_at_start, still, wide_of, wides, wides_from}
use Rattle.laws_bounds.specs.Picks.{wide_at}
use Rattle.laws_bounds.proofs.Prefixes.{state-append}
use Rattle.laws_bounds.specs.Kinds.{Kind, kind_of, last_keeps, last_kind}
use Rattle.laws_bounds.proofs.LastPick.{keeps_other, keeps_own, kind_other, kind_own}

-- ---- marks

abbrev pub with_mark : Bool → Kept → Kept
with_mark mark None = None
with_mark mark (Some k) = Some (k.0, mark)

-- an entry with the marks of the pick that it runs and of its own pick
abbrev pub marked_of : (Kind → Bool) → Scenario → List Entry → Entry → Wide
marked_of mark scenario before e = record {
  cpu = e.cpu;
  from = e.from;
  to = e.to;
  bills = with_mark (mark (last_kind scenario before e.cpu)) (bill_with_mark e);
  keeps = with_mark (mark (kind_of scenario before e)) (wide_at scenario before e).keeps;
}

abbrev pub marked_from : (Kind → Bool) → Scenario → List Entry → List Entry → List Wide
marked_from mark scenario before [] = []
marked_from mark scenario before (e ∷ es) = marked_of mark scenario before e ∷ marked_from mark scenario (before ++ e ∷ []) es

abbrev pub marked : (Kind → Bool) → Scenario → List Entry → List Wide
marked mark scenario h = marked_from mark scenario [] h

-- ---- what holds of each entry, with those before it

abbrev pub Along : (List Entry → Entry → Type 0) → List Entry → List Entry → Type 0
Along P before [] = Unit {0}
Along P before (e ∷ es) = P before e × Along P (before ++ e ∷ []) es

pub along_at : (P : List Entry → Entry → Type 0) (g before later : List Entry) (e : Entry) → Along P g (before ++ e ∷ later) → P (g ++ before) e
along_at P g [] later e all = subst (λ k. P k e) (sym (append-nil g)) all.0
along_at P g (x ∷ before) later e all = subst (λ k. P k e) (append_assoc g (x ∷ []) before) (along_at P (g ++ x ∷ []) before later e all.1)

-- the entry bills what its processor's last pick fixed
abbrev pub BillsLast : Scenario → List Entry → Entry → Type 0
BillsLast scenario before e = bill_with_mark e ≡ last_keeps scenario before e.cpu

-- ---- lanes

abbrev lane_at : List Lane → ℕ → Lane
lane_at lanes c = slice_index_or lanes c still

abbrev lane_marked : Lane → Bool → Lane
lane_marked lane m = record { last = lane.last; runs = with_mark m lane.runs }

abbrev mark_lane : (Kind → Bool) → Scenario → List Entry → ℕ → Lane → Lane
mark_lane mark scenario g c lane = lane_marked lane (mark (last_kind scenario g c))

-- each lane runs its processor's last pick, and the marked lanes are these with marks
record AreMarked (mark : Kind → Bool) (scenario : Scenario) (g : List Entry) (lanes others : List Lane) : Type 0 where
  count : length others ≡ length lanes
  runs : (c : ℕ) → (lane_at lanes c).runs ≡ last_keeps scenario g c
  marks : (c : ℕ) → lane_at others c ≡ mark_lane mark scenario g c (lane_at lanes c)

set_each : (lanes : List Lane) (c : ℕ) (l : Lane) (P : ℕ → Lane → Type 0) → c < length lanes → P c l → ((d : ℕ) → d ≢ c → P d (lane_at lanes d))
    → (d : ℕ) → P d (lane_at (slice_set lanes c l) d)
set_each lanes c l P below here others d = elim (cases_eq d c) [
  | inl e ↦ subst (λ k. P k (lane_at (slice_set lanes c l) k)) (sym e) (subst (P c) (sym (get_or-set_same lanes c l still below)) here)
  | inr ne ↦ subst (P d) (sym (get_or-set_other lanes c d l still ne)) (others d ne)
]

module _ (mark : Kind → Bool) (scenario : Scenario) where
  marks_own : (g : List Entry) (e : Entry)
      → lane_after (marked_of mark scenario g e) ≡ mark_lane mark scenario (g ++ e ∷ []) e.cpu (lane_after (wide_at scenario g e))
  marks_own g e = ap (λ k. lane_marked (lane_after (wide_at scenario g e)) (mark k)) (sym (kind_own scenario g e))

  marks_other : (g : List Entry) (e : Entry) (c : ℕ) (lane : Lane) → e.cpu ≢ c → mark_lane mark scenario g c lane ≡ mark_lane mark scenario (g ++ e ∷ []) c lane
  marks_other g e c lane ne = ap (λ k. lane_marked lane (mark k)) (sym (kind_other scenario g e c ne))

  marked_more : (g : List Entry) (e : Entry) (lanes others : List Lane) → e.cpu < length lanes → AreMarked mark scenario g lanes others
      → AreMarked mark scenario (g ++ e ∷ []) (slice_set lanes e.cpu (lane_after (wide_at scenario g e))) (slice_set others e.cpu (lane_after (marked_of mark scenario g e)))
  marked_more g e lanes others exists m =
      let l = lane_after (wide_at scenario g e) in
      let k = lane_after (marked_of mark scenario g e) in
      let exists' : e.cpu < length others = rw m.count exists in
      record {
        count = length-set others e.cpu k ∙ m.count ∙ sym (length-set lanes e.cpu l);
        runs = set_each lanes e.cpu l (λ d (z : Lane). z.runs ≡ last_keeps scenario (g ++ e ∷ []) d) exists
            (sym (keeps_own scenario g e))
            (λ d ne. m.runs d ∙ sym (keeps_other scenario g e d (λ q. ne (sym q))));
        marks = λ d. elim (cases_eq d e.cpu) [
          | inl same ↦ subst (λ z. lane_at (slice_set others e.cpu k) z ≡ mark_lane mark scenario (g ++ e ∷ []) z (lane_at (slice_set lanes e.cpu l) z)) (sym same)
              (get_or-set_same others e.cpu k still exists' ∙ marks_own g e
              ∙ ap (mark_lane mark scenario (g ++ e ∷ []) e.cpu) (sym (get_or-set_same lanes e.cpu l still exists)))
          | inr ne ↦
              get_or-set_other others e.cpu d k still ne ∙ m.marks d
              ∙ marks_other g e d (lane_at lanes d) (λ q. ne (sym q))
              ∙ ap (mark_lane mark scenario (g ++ e ∷ []) d) (sym (get_or-set_other lanes e.cpu d l still ne))
        ];
      }

  -- marked entries walk as the others do, and each bills its processor's last pick
  walks_from : (tick : ℕ) (g es : List Entry) (lanes others : List Lane) → AreMarked mark scenario g lanes others
      → Walks tick lanes (wides_from scenario (state_after scenario g) g es)
      → Walks tick others (marked_from mark scenario g es) × Along (BillsLast scenario) g es
  walks_from tick g [] lanes others m walk = (tt, tt)
  walks_from tick g (e ∷ es) lanes others m walk =
      let t = state_after scenario (g ++ e ∷ []) in
      let walk' : Walks tick lanes (wide_of e t ∷ wides_from scenario t (g ++ e ∷ []) es) =
      subst (λ (u : SchedulerState). Walks tick lanes (wide_of e u ∷ wides_from scenario u (g ++ e ∷ []) es)) (sym (state-append scenario g e)) walk in
      let lane = walk'.0 in
      let exists : e.cpu < length lanes = slice_get_within lanes e.cpu lane walk'.1 in
      let at : lane_at lanes e.cpu ≡ lane = get_or_from_slice_get lanes e.cpu lane still walk'.1 in
      let other = lane_at others e.cpu in
      let stands : other ≡ mark_lane mark scenario g e.cpu lane = m.marks e.cpu ∙ ap (mark_lane mark scenario g e.cpu) at in
      let rest = walks_from tick (g ++ e ∷ []) es (slice_set lanes e.cpu (lane_after (wide_of e t))) (slice_set others e.cpu (lane_after (marked_of mark scenario g e)))
      (marked_more g e lanes others exists m) walk'.5 in (
        (
          other,
          slice_get-get_or others e.cpu still (rw m.count exists),
          walk'.2 ∙ sym (ap (λ (l : Lane). l.last) stands),
          ap (with_mark (mark (last_kind scenario g e.cpu))) walk'.3 ∙ sym (ap (λ (l : Lane). l.runs) stands),
          walk'.4,
          rest.0,
        ),
        (walk'.3 ∙ sym (ap (λ (l : Lane). l.runs) at) ∙ m.runs e.cpu, rest.1),
      )

  start_marked : AreMarked mark scenario [] (lanes_at_start scenario) (lanes_at_start scenario)
  start_marked = record {
    count = refl;
    runs = λ c. ap (λ (l : Lane). l.runs) (at_start scenario.shape.cpus c);
    marks = λ c. at_start scenario.shape.cpus c ∙ ap (mark_lane mark scenario [] c) (sym (at_start scenario.shape.cpus c));
  }
    where
      at_start : (n c : ℕ) → lane_at (replicate n still) c ≡ still
      at_start zero c = refl
      at_start (suc n) zero = refl
      at_start (suc n) (suc c) = at_start n c

  pub walks_marked : (tick : ℕ) (h : List Entry) → Walks tick (lanes_at_start scenario) (wides scenario h)
      → Walks tick (lanes_at_start scenario) (marked mark scenario h) × Along (BillsLast scenario) [] h
  unfolding after
  walks_marked tick h walk = walks_from tick [] h (lanes_at_start scenario) (lanes_at_start scenario) start_marked walk
