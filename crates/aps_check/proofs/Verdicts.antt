-- A journal has one verdict at most.
use Rattle.std.proofs.Common.{◌≡◌, ℕ, List, [], ◌∷◌, ◌++◌, ◌⊎◌, length, Option, None, refl, sym, ap, subst, ◌∙◌, inl, inr}
use Rattle.std.specs.Prelude.{IsSome}
use Rattle.std.proofs.lemmas.Bool.{false≢true}
use Rattle.aps_model.specs.declared.entry.End.{End}
use Rattle.aps_model.specs.declared.entry.Entry.{Entry}
use Rattle.laws_runs.proofs.Prefixes.{goes_on}
use Rattle.aps_core.specs.Run.{Setup}
use Rattle.aps_check.specs.declared.verdict.Rule.{Rule}
use Rattle.aps_check.specs.declared.verdict.Rule.TheVariants.{Turn, After}
use Rattle.aps_check.specs.declared.verdict.Verdict.{Verdict}
use Rattle.aps_check.specs.declared.verdict.Verdict.TheVariants.{Legal, Breaks}
use Rattle.aps_check.specs.Difference.{Agrees}
use Rattle.aps_check.specs.Verdict.{BreaksRule, IsAfterEnd, IsFirstBreach, IsOtherStep, IsOutOfTurn, IsRunSoFar, IsVerdict, end_with, step_after}
use Rattle.aps_check.proofs.Differences.{agrees_self, one_difference}

-- ---- the kinds of breach

record IsKind (setup : Setup) (h : List Entry) (e : Entry) (rule : Rule) (expected : Option Entry) (C : Type 0) : Type 0 where
  after : (rule ≡ After) → IsAfterEnd setup h expected → C
  turn : (rule ≡ Turn) → IsOutOfTurn setup h e expected → C
  field : IsOtherStep setup h e rule expected → C

by_kind : {C : Type 0} (setup : Setup) (h : List Entry) (e : Entry) (rule : Rule) (expected : Option Entry)
    → IsKind setup h e rule expected C → BreaksRule setup h e rule expected → C
by_kind setup h e After expected kind b = kind.after refl b
by_kind setup h e Turn expected kind b = kind.turn refl b
by_kind setup h e rule expected kind b = kind.field b

-- what has ended doesn't go on
not_both : (end : Option End) → IsSome end → end ≡ None → ⊥
not_both end some none = let P : Option End → Type 0 = λ o. IsSome o in false≢true (subst P none some)

-- the entries of a run so far break nothing
breaks_nothing : (setup : Setup) (before later : List Entry) (e : Entry) → IsRunSoFar setup (before ++ e ∷ later)
    → (rule : Rule) (expected : Option Entry) → BreaksRule setup before e rule expected → ⊥
breaks_nothing setup before later e sound rule expected b =
    let next = goes_on setup.scenario setup.order before later e sound.legal in
    by_kind setup before e rule expected (record {
      after = λ is b. not_both (end_with setup before) b.ended (sound.no_sooner before later e refl);
      turn = λ is b. b.waits next.turn;
      field = λ b. b.differs.here (subst (λ x. Agrees e x rule) next.same (agrees_self e rule));
    }) b

-- ---- one breach

record IsSame (rule other : Rule) (expected another : Option Entry) : Type 0 where
  rules : rule ≡ other
  steps : expected ≡ another

one_breach : (setup : Setup) (h : List Entry) (e : Entry) (rule other : Rule) (expected another : Option Entry)
    → BreaksRule setup h e rule expected → BreaksRule setup h e other another → IsSame rule other expected another
one_breach setup h e rule other expected another a b =
    by_kind setup h e rule expected (record {
      after = λ is a. by_kind setup h e other another (record {
        after = λ is' b. record { rules = is ∙ sym is'; steps = a.none ∙ sym b.none };
        turn = λ is' b. absurd (not_both (end_with setup h) a.ended b.goes_on);
        field = λ b. absurd (not_both (end_with setup h) a.ended b.goes_on);
      }) b;
      turn = λ is a. by_kind setup h e other another (record {
        after = λ is' b. absurd (not_both (end_with setup h) b.ended a.goes_on);
        turn = λ is' b. record { rules = is ∙ sym is'; steps = a.none ∙ sym b.none };
        field = λ b. absurd (a.waits b.turn);
      }) b;
      field = λ a. by_kind setup h e other another (record {
        after = λ is' b. absurd (not_both (end_with setup h) b.ended a.goes_on);
        turn = λ is' b. absurd (b.waits a.turn);
        field = λ b. record { rules = one_difference e (step_after setup h e.cpu) rule other a.differs b.differs; steps = a.stepped ∙ sym b.stepped };
      }) b;
    }) a

-- ---- two partings of a list

-- the same parting; or the longer front goes on from the shorter one
Meet : List Entry → List Entry → Entry → Entry → Type 0
Meet xs ys x y = ((xs ≡ ys) × (x ≡ y)) ⊎ (((more : List Entry) × (ys ≡ xs ++ x ∷ more)) ⊎ ((more : List Entry) × (xs ≡ ys ++ y ∷ more)))

heads : (x y : Entry) (xs ys : List Entry) → x ∷ xs ≡ y ∷ ys → x ≡ y
heads x y xs ys same = cc

tails : (x y : Entry) (xs ys : List Entry) → x ∷ xs ≡ y ∷ ys → xs ≡ ys
tails x y xs ys same = cc

meet : (xs ys us vs : List Entry) (x y : Entry) → xs ++ x ∷ us ≡ ys ++ y ∷ vs → Meet xs ys x y
unfolding Meet
meet [] [] us vs x y same = inl (refl, heads x y us vs same)
meet [] (b ∷ ys) us vs x y same = inr (inl (ys, ap (λ z. z ∷ ys) (sym (heads x b us (ys ++ y ∷ vs) same))))
meet (a ∷ xs) [] us vs x y same = inr (inr (xs, ap (λ z. z ∷ xs) (heads a y (xs ++ x ∷ us) vs same)))
meet (a ∷ xs) (b ∷ ys) us vs x y same =
    let head : a ≡ b = heads a b (xs ++ x ∷ us) (ys ++ y ∷ vs) same in
    elim (meet xs ys us vs x y (tails a b (xs ++ x ∷ us) (ys ++ y ∷ vs) same)) [
      | inl both ↦ inl (ap (λ z. z ∷ xs) head ∙ ap (λ zs. b ∷ zs) both.0, both.1)
      | inr other ↦ elim other [
        | inl more ↦ inr (inl (more.0, ap (λ z. z ∷ ys) (sym head) ∙ ap (λ zs. a ∷ zs) more.1))
        | inr more ↦ inr (inr (more.0, ap (λ z. z ∷ xs) head ∙ ap (λ zs. b ∷ zs) more.1))
      ]
    ]

-- ---- one verdict

two_breaches : (setup : Setup) (journal : List Entry) (place other : ℕ) (rule rule' : Rule) (expected expected' : Option Entry)
    → IsFirstBreach setup journal place rule expected → IsFirstBreach setup journal other rule' expected'
    → Breaks place rule expected ≡ Breaks other rule' expected'
unfolding Meet
two_breaches setup journal place other rule rule' expected expected' a b =
    elim (meet a.before b.before a.later b.later a.entry b.entry (sym a.parts ∙ b.parts)) [
      | inl both ↦
          let there : BreaksRule setup a.before a.entry rule' expected' =
          subst (λ e. BreaksRule setup a.before e rule' expected') (sym both.1) (subst (λ h. BreaksRule setup h b.entry rule' expected') (sym both.0) b.breaks) in
          let same = one_breach setup a.before a.entry rule rule' expected expected' a.breaks there in
          let places : place ≡ other = sym a.at_place ∙ ap (λ (h : List Entry). length h) both.0 ∙ b.at_place in
          equal places same.rules same.steps
      | inr apart ↦ elim apart [
        | inl more ↦ absurd (breaks_nothing setup a.before more.0 a.entry (subst (IsRunSoFar setup) more.1 b.sound) rule expected a.breaks)
        | inr more ↦ absurd (breaks_nothing setup b.before more.0 b.entry (subst (IsRunSoFar setup) more.1 a.sound) rule' expected' b.breaks)
      ]
    ]
  where
    equal : place ≡ other → rule ≡ rule' → expected ≡ expected' → Breaks place rule expected ≡ Breaks other rule' expected'
    equal p r e = cc

pub verdict_is_one : (setup : Setup) (journal : List Entry) (v w : Verdict) → IsVerdict setup journal v → IsVerdict setup journal w → v ≡ w
verdict_is_one setup journal (Legal end) (Legal other) a b = ap (λ (t : Option End). Legal t) (sym a.ended ∙ b.ended)
verdict_is_one setup journal (Legal end) (Breaks place rule expected) a b =
    absurd (breaks_nothing setup b.before b.later b.entry (subst (IsRunSoFar setup) b.parts a.sound) rule expected b.breaks)
verdict_is_one setup journal (Breaks place rule expected) (Legal end) a b =
    absurd (breaks_nothing setup a.before a.later a.entry (subst (IsRunSoFar setup) a.parts b.sound) rule expected a.breaks)
verdict_is_one setup journal (Breaks place rule expected) (Breaks other rule' expected') a b = two_breaches setup journal place other rule rule' expected expected' a b
