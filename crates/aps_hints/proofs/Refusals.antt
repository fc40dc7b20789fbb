-- A hint of what a reading refused is one of its refusal.
use Rattle.std.proofs.Common.{◌≡◌, ℕ, List, Option, Some, None, subst, ap, ◌∙◌}
use Rattle.aps_scenario.specs.Refusal.{Refusal}
use Rattle.aps_hints.specs.declared.refused.Finding.{Finding}
use Rattle.aps_hints.specs.Hint.{IsHint}
use Rattle.aps_hints.specs.Refused.{HintsAt, IsRefusedAs}

pub hint_of_refusal : (bytes : List ℕ) (refusal : Option Refusal) (kept : Option Finding) (found : Finding) (line : List ℕ) → IsRefusedAs refusal kept
    → kept ≡ Some found → IsHint bytes found.path found.kind line → HintsAt bytes refusal (Some line)
hint_of_refusal bytes None None found line refused is h = absurd cc
hint_of_refusal bytes None (Some kept) found line refused is h = absurd refused
hint_of_refusal bytes (Some refusal) None found line refused is h = absurd refused
hint_of_refusal bytes (Some refusal) (Some kept) found line refused is h =
    let same : found ≡ kept = cc in
    let path : found.path ≡ refusal.path = ap (λ (f : Finding). f.path) same ∙ refused.0 in
    let kind : found.kind ≡ refusal.kind = ap (λ (f : Finding). f.kind) same ∙ refused.1 in
    subst (λ p. IsHint bytes p refusal.kind line) path (subst (λ k. IsHint bytes found.path k line) kind h)
