-- What a survey tells of so many ticks, and of one more.
use Rattle.std.proofs.Common.{◌≡◌, ℕ, zero, suc, ◌+◌, ◌<◌, ◌≤◌, List, Bool, true, false, get_or, ap, sym, ◌∙◌, arith}
use Rattle.std.specs.Prelude.{if◌then◌else◌, Option, Some, None}
use Rattle.std.specs.List.{fold, range_with_len}
use Rattle.aps_model.specs.declared.entry.Entry.{Entry}
use Rattle.aps_model.specs.Limits.{most_partitions}
use Rattle.aps_model.specs.Scenario.{Scenario}
use Rattle.aps_model.proofs.Ranges.{fold_more}
use Rattle.view_samples.specs.declared.sample.Sample.{Sample}
use Rattle.view_samples.specs.Sample.{sample_of}
use Rattle.view_pictures.specs.declared.scale.Sizes.{Sizes}
use Rattle.view_pictures.specs.declared.survey.Found.{Found}
use Rattle.view_pictures.specs.declared.survey.Survey.{Survey}
use Rattle.view_pictures.specs.Survey.{IsSurvey, found_from, found_with, no_found, partial_from, unchanged_from}

-- of no tick, before the first sample
pub none_surveyed : (scenario : Scenario) (h : List Entry) (sizes : Sizes) (from : ℕ) (s : Survey) → s.unchanged ≡ 0 → s.partial ≡ None
    → ((p : ℕ) → p < most_partitions → get_or s.found p no_found ≡ no_found)
    → IsSurvey scenario h sizes from 0 s
unfolding unchanged_from partial_from found_from
none_surveyed scenario h sizes from s unchanged partial found = record { unchanged = unchanged; partial = partial; found = found }

-- the same of what has these in common with it
pub same_surveyed : (scenario : Scenario) (h : List Entry) (sizes : Sizes) (from n : ℕ) (s t : Survey) → t.unchanged ≡ s.unchanged → t.partial ≡ s.partial → t.found ≡ s.found
    → IsSurvey scenario h sizes from n s → IsSurvey scenario h sizes from n t
same_surveyed scenario h sizes from n s t unchanged partial found told = record {
  unchanged = unchanged ∙ told.unchanged;
  partial = partial ∙ told.partial;
  found = λ p less. ap (λ all. get_or all p no_found) found ∙ told.found p less;
}

-- with the sample of one tick more
pub one_surveyed : (scenario : Scenario) (h : List Entry) (sizes : Sizes) (from n j : ℕ) (s t : Survey) (sample : Sample) → from + n ≡ j → sample ≡ sample_of scenario h j
    → IsSurvey scenario h sizes from n s
    → t.unchanged ≡ (if sample.unchanged then s.unchanged + 1 else s.unchanged)
    → t.partial ≡ (if sample.full then s.partial else Some sample.tick)
    → ((p : ℕ) → p < most_partitions → get_or t.found p no_found ≡ found_with sizes p (get_or s.found p no_found) sample)
    → IsSurvey scenario h sizes from (n + 1) t
unfolding unchanged_from partial_from found_from
one_surveyed scenario h sizes from n j s t sample place is told unchanged partial found = record {
  unchanged = unchanged ∙ (λ i. if (is i).unchanged then told.unchanged i + 1 else told.unchanged i)
      ∙ sym (fold_more (λ (count : ℕ) k. if (sample_of scenario h k).unchanged then count + 1 else count) 0 from n j place);
  partial = partial ∙ (λ i. if (is i).full then told.partial i else Some (is i).tick)
      ∙ sym (fold_more (λ (last : Option ℕ) k. if (sample_of scenario h k).full then last else Some k) None from n j place);
  found = λ p less. found p less ∙ (λ i. found_with sizes p (told.found p less i) (is i))
      ∙ sym (fold_more (λ (one : Found) k. found_with sizes p one (sample_of scenario h k)) no_found from n j place);
}

counted_few : (count : ℕ) (b : Bool) → (if b then count + 1 else count) ≤ count + 1
counted_few count true = omega arith
counted_few count false = omega arith

fold_few : (f : ℕ → ℕ → ℕ) → ((count k : ℕ) → f count k ≤ count + 1) → (a n z : ℕ) → fold f z (range_with_len a n) ≤ z + n
fold_few f step a zero z = omega arith
fold_few f step a (suc n) z =
    let one = step z a in
    let rest = fold_few f step (a + 1) n (f z a) in
    omega (arith, one, rest)

-- no more are unchanged than there are
pub unchanged_few : (scenario : Scenario) (h : List Entry) (from n : ℕ) → unchanged_from scenario h from n ≤ n
unfolding unchanged_from
unchanged_few scenario h from n =
    let few = fold_few (λ (count : ℕ) k. if (sample_of scenario h k).unchanged then count + 1 else count) (λ count k. counted_few count (sample_of scenario h k).unchanged) from n 0 in
    omega (arith, few)
