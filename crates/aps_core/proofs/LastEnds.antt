-- The ends that are kept beside the entries, with one entry more.
use Rattle.std.proofs.Common.{◌≡◌, ℕ, ◌<◌, ◌≤◌, List, [], ◌∷◌, ◌++◌, length, sym, ◌∙◌, ap, cond, Bool, true, false, nat_eq, Option, Some, None, IfSome, All, slice_index_or, slice_set, arith, inl, inr}
use Rattle.std.specs.List.{fold}
use Rattle.std.proofs.lemmas.Bool.{cases_eq}
use Rattle.std.proofs.lemmas.List.{get_or-set_same, get_or-set_other}
use Rattle.std.proofs.lemmas.List.Elements.{All-head, All-tail}
use Rattle.aps_model.specs.declared.entry.Entry.{Entry}
use Rattle.aps_model.specs.Due.{last_to}
use Rattle.aps_model.specs.History.{IsEntry}
use Rattle.aps_model.specs.Limits.{last_moment, most_cpus}
use Rattle.laws_runs.proofs.MomentLaws.{last_other, last_own}
use Rattle.aps_core.specs.LastEnds.{AreEnds}

pub ends_more : (row : List (Option ℕ)) (h : List Entry) (e : Entry) (place : ℕ) → length row ≡ most_cpus → place ≡ e.cpu → place < most_cpus → AreEnds h row
    → AreEnds (h ++ e ∷ []) (slice_set row place (Some e.to))
ends_more row h e place whole at inside ends c small =
    elim (cases_eq c place) [
      | inl same ↦
          ap (λ k. slice_index_or (slice_set row place (Some e.to)) k None) same
          ∙ get_or-set_same row place (Some e.to) None (omega (arith, whole, inside))
          ∙ sym (last_own h e c (sym at ∙ sym same))
      | inr other ↦
          get_or-set_other row place c (Some e.to) None other
          ∙ ends c small
          ∙ sym (last_other h e c (λ own. other (sym own ∙ sym at)))
    ]

-- no entry ends late, and so neither does the last one of a processor
pub ends_early : (h : List Entry) (c : ℕ) → All IsEntry h → IfSome (last_to h c) (λ to. to ≤ last_moment)
ends_early h c all = from h None all tt
  where
    IsEarly : Option ℕ → Type 0
    IsEarly o = IfSome o (λ to. to ≤ last_moment)

    next : (b : Bool) (e : Entry) (found : Option ℕ) → IsEntry e → IsEarly found → IsEarly (cond b (Some e.to) found)
    next true e found fits early = fits.to
    next false e found fits early = early

    from : (h : List Entry) (found : Option ℕ) → All IsEntry h → IsEarly found
        → IsEarly (fold (λ (found : Option ℕ) (e : Entry). cond (nat_eq e.cpu c) (Some e.to) found) found h)
    from [] found each early = early
    from (e ∷ h) found each early =
        from h (cond (nat_eq e.cpu c) (Some e.to) found) (All-tail IsEntry e h each) (next (nat_eq e.cpu c) e found (All-head IsEntry e h each) early)
