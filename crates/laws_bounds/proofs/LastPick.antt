-- The last pick of each processor, after one entry more.
use Rattle.std.proofs.Common.{◌≡◌, ◌≢◌, ℕ, List, [], ◌∷◌, ◌++◌, refl, sym, ◌∙◌, ap, subst, append_assoc, Bool, true, false, cond, nat_eq, ◌||◌, Option, Some, None, inl, inr, ◌⊎◌}
use Rattle.std.specs.List.{list_any}
use Rattle.std.proofs.lemmas.List.Sums.{fold-append}
use Rattle.std.proofs.lemmas.List.Folds.{list_any-append}
use Rattle.std.proofs.lemmas.List.{append-nil}
use Rattle.std.proofs.lemmas.Bool.{cases_eq}
use Rattle.aps_model.specs.declared.entry.Entry.{Entry}
use Rattle.aps_model.specs.After.{state_after}
use Rattle.aps_model.specs.Due.{last_to}
use Rattle.aps_model.specs.Scenario.{Scenario}
use Rattle.aps_model.specs.SchedulerState.{cpu_at}
use Rattle.aps_model.specs.Tiled.{last_pick, through_last}
use Rattle.laws_runs.specs.Window.{Kept, kept_if, pair_kept}
use Rattle.laws_runs.proofs.MomentLaws.{last_other, last_own}
use Rattle.laws_runs.proofs.WaitFacts.{test_eq, test_ne}
use Rattle.laws_bounds.specs.Picks.{wide_at}
use Rattle.laws_bounds.specs.Kinds.{is_funded, kind_by, kind_of, last_keeps, last_kind}

-- ---- the last pick

pick-append : (h : List Entry) (e : Entry) (c : ℕ) → last_pick (h ++ e ∷ []) c ≡ cond (nat_eq e.cpu c) e.picked (last_pick h c)
pick-append h e c = fold-append (λ (picked : Option ℕ) (e : Entry). cond (nat_eq e.cpu c) e.picked picked) None h (e ∷ [])

pick_own : (h : List Entry) (e : Entry) (c : ℕ) → e.cpu ≡ c → last_pick (h ++ e ∷ []) c ≡ e.picked
pick_own h e c same = pick-append h e c ∙ ap (λ t. cond t e.picked (last_pick h c)) (test_eq e.cpu c same)

pick_other : (h : List Entry) (e : Entry) (c : ℕ) → e.cpu ≢ c → last_pick (h ++ e ∷ []) c ≡ last_pick h c
pick_other h e c ne = pick-append h e c ∙ ap (λ t. cond t e.picked (last_pick h c)) (test_ne e.cpu c ne)

-- ---- the entries up to it

abbrev is_on : ℕ → Entry → Bool
is_on c other = nat_eq other.cpu c

or_false : (t : Bool) → (t || false) ≡ t
or_false true = refl
or_false false = refl

or_true : (t : Bool) → (t || true) ≡ true
or_true true = refl
or_true false = refl

any_last : (h : List Entry) (e : Entry) (c : ℕ) → list_any (is_on c) (h ++ e ∷ []) ≡ (list_any (is_on c) h || nat_eq e.cpu c)
any_last h e c = list_any-append (is_on c) h (e ∷ []) ∙ ap (λ t. list_any (is_on c) h || t) (or_false (nat_eq e.cpu c))

pub through_own : (h : List Entry) (e : Entry) (c : ℕ) → e.cpu ≡ c → through_last c (h ++ e ∷ []) ≡ h ++ e ∷ []
through_own [] e c same = ap (λ t. cond (t || false) (e ∷ []) []) (test_eq e.cpu c same)
through_own (x ∷ h) e c same =
    ap (λ t. cond t (x ∷ through_last c (h ++ e ∷ [])) [])
    (any_last (x ∷ h) e c ∙ ap (λ t. list_any (is_on c) (x ∷ h) || t) (test_eq e.cpu c same) ∙ or_true (list_any (is_on c) (x ∷ h)))
    ∙ ap (λ es. x ∷ es) (through_own h e c same)

pub through_other : (h : List Entry) (e : Entry) (c : ℕ) → e.cpu ≢ c → through_last c (h ++ e ∷ []) ≡ through_last c h
through_other [] e c ne = ap (λ t. cond (t || false) (e ∷ []) []) (test_ne e.cpu c ne)
through_other (x ∷ h) e c ne =
    ap (λ t. cond t (x ∷ through_last c (h ++ e ∷ [])) [])
    (any_last (x ∷ h) e c ∙ ap (λ t. list_any (is_on c) (x ∷ h) || t) (test_ne e.cpu c ne) ∙ or_false (list_any (is_on c) (x ∷ h)))
    ∙ ap (λ es. cond (list_any (is_on c) (x ∷ h)) (x ∷ es) []) (through_other h e c ne)

-- ---- what it keeps, and its kind

abbrev keeps_by : Scenario → List Entry → Option ℕ → ℕ → Kept
keeps_by scenario g picked c = kept_if picked (pair_kept (cpu_at (state_after scenario g) c).running)

pub keeps_own : (scenario : Scenario) (h : List Entry) (e : Entry) → last_keeps scenario (h ++ e ∷ []) e.cpu ≡ (wide_at scenario h e).keeps
keeps_own scenario h e =
    ap (λ o. keeps_by scenario (through_last e.cpu (h ++ e ∷ [])) o e.cpu) (pick_own h e e.cpu refl)
    ∙ ap (λ g. keeps_by scenario g e.picked e.cpu) (through_own h e e.cpu refl)

pub keeps_other : (scenario : Scenario) (h : List Entry) (e : Entry) (c : ℕ) → e.cpu ≢ c → last_keeps scenario (h ++ e ∷ []) c ≡ last_keeps scenario h c
keeps_other scenario h e c ne =
    ap (λ o. keeps_by scenario (through_last c (h ++ e ∷ [])) o c) (pick_other h e c ne)
    ∙ ap (λ g. keeps_by scenario g (last_pick h c) c) (through_other h e c ne)

pub kind_own : (scenario : Scenario) (h : List Entry) (e : Entry) → last_kind scenario (h ++ e ∷ []) e.cpu ≡ kind_of scenario h e
kind_own scenario h e =
    ap (kind_by (is_funded scenario (through_last e.cpu (h ++ e ∷ [])))) (keeps_own scenario h e)
    ∙ ap (λ g. kind_by (is_funded scenario g) (wide_at scenario h e).keeps) (through_own h e e.cpu refl)

pub kind_other : (scenario : Scenario) (h : List Entry) (e : Entry) (c : ℕ) → e.cpu ≢ c → last_kind scenario (h ++ e ∷ []) c ≡ last_kind scenario h c
kind_other scenario h e c ne =
    ap (kind_by (is_funded scenario (through_last c (h ++ e ∷ [])))) (keeps_other scenario h e c ne)
    ∙ ap (λ g. kind_by (is_funded scenario g) (last_keeps scenario h c)) (through_other h e c ne)

-- ---- the processor's last entry

-- the last entry of processor c in a history, with what stands before and after it
pub record IsLastOf (scenario : Scenario) (h : List Entry) (c : ℕ) : Type 0 where
  pub before : List Entry
  pub e : Entry
  pub later : List Entry
  pub same : h ≡ before ++ e ∷ later
  pub own : e.cpu ≡ c
  pub to : last_to h c ≡ Some e.to
  pub keeps : last_keeps scenario h c ≡ (wide_at scenario before e).keeps
  pub kind : last_kind scenario h c ≡ kind_of scenario before e

abbrev HasLast : Scenario → List Entry → ℕ → Type 0
HasLast scenario h c = (last_to h c ≡ None) ⊎ IsLastOf scenario h c

last_more : (scenario : Scenario) (h : List Entry) (e : Entry) (c : ℕ) → HasLast scenario h c → HasLast scenario (h ++ e ∷ []) c
last_more scenario h e c found = elim (cases_eq e.cpu c) [
  | inl own ↦ inr (record {
    before = h;
    e = e;
    later = [];
    same = refl;
    own = own;
    to = last_own h e c own;
    keeps = ap (last_keeps scenario (h ++ e ∷ [])) (sym own) ∙ keeps_own scenario h e;
    kind = ap (last_kind scenario (h ++ e ∷ [])) (sym own) ∙ kind_own scenario h e;
  })
  | inr ne ↦ elim found [
    | inl none ↦ inl (last_other h e c ne ∙ none)
    | inr last ↦ inr (record {
      before = last.before;
      e = last.e;
      later = last.later ++ e ∷ [];
      same = ap (λ g. g ++ e ∷ []) last.same ∙ append_assoc last.before (last.e ∷ last.later) (e ∷ []);
      own = last.own;
      to = last_other h e c ne ∙ last.to;
      keeps = keeps_other scenario h e c ne ∙ last.keeps;
      kind = kind_other scenario h e c ne ∙ last.kind;
    })
  ]
]

last_from : (scenario : Scenario) (h es : List Entry) (c : ℕ) → HasLast scenario h c → HasLast scenario (h ++ es) c
last_from scenario h [] c found = subst (λ g. HasLast scenario g c) (sym (append-nil h)) found
last_from scenario h (e ∷ es) c found =
    subst (λ g. HasLast scenario g c) (append_assoc h (e ∷ []) es) (last_from scenario (h ++ e ∷ []) es c (last_more scenario h e c found))

-- a processor has no entry, or a last one
pub last_of : (scenario : Scenario) (h : List Entry) (c : ℕ) → HasLast scenario h c
last_of scenario h c = last_from scenario [] h c (inl refl)
