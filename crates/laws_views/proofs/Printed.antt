-- What is told of a partition over all windows.
use Rattle.std.proofs.Common.{◌≡◌, ℕ, zero, suc, ◌+◌, ◌-◌, ◌<◌, ◌≤◌, List, sym, ◌∙◌, ap, Bool, true, false, cond, not, ◌&&◌, nat_eq, Option, Some, None, arith, refl}
use Rattle.std.specs.Prelude.{IfSome, slice_index, slice_index_or}
use Rattle.std.specs.List.{fold, range_with_len}
use Rattle.std.proofs.lemmas.Bool.{and_parts, not-true}
use Rattle.std.proofs.lemmas.List.FromFn.{get_or-map-range_with_len}
use Rattle.aps_model.specs.declared.entry.Entry.{Entry}
use Rattle.aps_model.specs.declared.entry.Order.{Order}
use Rattle.aps_model.specs.Legal.{IsLegal}
use Rattle.aps_model.specs.Limits.{most_partitions}
use Rattle.aps_model.specs.Loaded.{finished_ticks}
use Rattle.aps_model.specs.Scenario.{Scenario}
use Rattle.aps_model.specs.Valid.{IsScenario}
use Rattle.view_samples.specs.declared.sample.Sample.{Sample}
use Rattle.view_samples.specs.Sample.{allowance_at, critical_at_tick, free_at, had_share, has_work, is_full, of_each, sample_of, used_at}
use Rattle.view_shares.specs.declared.share.Amount.{Amount}
use Rattle.view_shares.specs.declared.share.Share.{Share}
use Rattle.view_shares.specs.declared.share.Shortfall.{Shortfall}
use Rattle.view_shares.specs.Share.{beyond_in, first_best, has_had, is_asked, is_greater_amount, is_shorter, no_share, share_with, shortfall_in, time_taken_by, with_one}
use Rattle.view_shares.specs.Shares.{share_of, share_up_to, tick_of_all}
use Rattle.laws_views.proofs.Told.{beyond_small, short_small, taken}

-- ---- the best of some

first_kept : {A : Type 0} (P : A → Type 0) (beats : A → A → Bool) (best : Option A) (new : A) → IfSome best P → P new → IfSome (Some (first_best beats best new)) P
first_kept P beats None new kept here = here
first_kept P beats (Some best) new kept here = by_test (beats new best)
  where
    by_test : (t : Bool) → P (cond t new best)
    by_test true = here
    by_test false = kept

one_kept : {A : Type 0} (P : A → Type 0) (beats : A → A → Bool) (best : Option A) (new : A) (counts : Bool) → IfSome best P → (counts ≡ true → P new) → IfSome (with_one beats best new counts) P
one_kept P beats best new true kept here = first_kept P beats best new kept (here refl)
one_kept P beats best new false kept here = kept

fold_kept : {A : Type 0} (P : A → Type 0) (f : A → ℕ → A) (a n : ℕ) (x : A) → P x → ((j : ℕ) (y : A) → a ≤ j → j < a + n → P y → P (f y j)) → P (fold f x (range_with_len a n))
fold_kept P f a zero x start each = start
fold_kept P f a (suc n) x start each =
    fold_kept P f (a + 1) n (f x a) (each a x (omega arith) (omega arith) start) (λ j y low high. each j y (omega (arith, low)) (omega (arith, high)))

-- ---- the numbers of a sample

pub at_each : (f : ℕ → ℕ) (p : ℕ) → p < most_partitions → slice_index (of_each f) p ≡ f p
at_each f p less = get_or-map-range_with_len f 0 most_partitions p p 0 less (omega arith)

pub so_each : (f : ℕ → Bool) (p : ℕ) → p < most_partitions → slice_index_or (of_each f) p false ≡ f p
so_each f p less = get_or-map-range_with_len f 0 most_partitions p p false less (omega arith)

same_rest : (a a' b b' c c' d d' n : ℕ) → a ≡ a' → b ≡ b' → c ≡ c' → d ≡ d' → a' - b' - c' - d' < n → a - b - c - d < n
same_rest a a' b b' c c' d d' n one two three four less = omega (arith, one, two, three, four, less)

same_less : (a a' b b' n : ℕ) → a ≡ a' → b ≡ b' → a' - b' ≤ n → a - b ≤ n
same_less a a' b b' n one two less = omega (arith, one, two, less)

same_most : (x y : ℕ) → x ≡ y → x ≤ y
same_most x y same = omega (arith, same)

-- ---- all windows

abbrev pub IsSmall : ℕ → Share → Type 0
IsSmall time share = IfSome share.beyond (λ (amount : Amount). amount.ns < time) × IfSome share.short (λ (short : Shortfall). short.ns ≤ short.others)

module _ (scenario : Scenario) (order : Order) (h : List Entry) (r : IsScenario scenario) (legal : IsLegal scenario order h) (p : ℕ) (exists : p < most_partitions) where
  abbrev turn : ℕ
  turn = tick_of_all scenario.shape

  module _ (j : ℕ) (finished : j < finished_ticks scenario.shape h) where
    abbrev sample : Sample
    sample = sample_of scenario h j

    beyond_told : sample.unchanged ≡ true → (beyond_in p sample).ns < turn
    beyond_told calm =
        same_rest
        (slice_index (of_each (used_at scenario h j)) p) (used_at scenario h j p) (slice_index (of_each (allowance_at scenario h j)) p) (allowance_at scenario h j p)
        (slice_index (of_each (critical_at_tick scenario h j)) p) (critical_at_tick scenario h j p) (slice_index (of_each (free_at scenario h j)) p) (free_at scenario h j p) turn
        (at_each (used_at scenario h j) p exists) (at_each (allowance_at scenario h j) p exists) (at_each (critical_at_tick scenario h j) p exists) (at_each (free_at scenario h j) p exists)
        (beyond_small scenario order h r legal j finished calm p)

    -- what the others may take, by the numbers of the sample
    taken_told : (calm : sample.unchanged ≡ true) (q : ℕ) → q < most_partitions → taken scenario order h r legal j finished calm p q ≤ time_taken_by turn p sample q
    taken_told calm q less =
        let by : ℕ → ℕ → ℕ = λ allowed critical. cond (nat_eq q p) 0 (cond (nat_eq allowed 0) critical (critical + turn)) in
        same_most (taken scenario order h r legal j finished calm p q) (time_taken_by turn p sample q)
        (ap (λ n. by n (critical_at_tick scenario h j q)) (sym (at_each (allowance_at scenario h j) q less)) ∙ ap (by (slice_index (of_each (allowance_at scenario h j)) q)) (sym (at_each (critical_at_tick scenario h j) q less)))

    short_told : (is_asked p sample && not (has_had p sample)) ≡ true → (shortfall_in turn p sample).ns ≤ (shortfall_in turn p sample).others
    short_told counts =
        let both = and_parts (is_asked p sample) (not (has_had p sample)) counts in
        let asked = and_parts sample.unchanged (slice_index_or sample.demand p false) both.0 in
        let work : (is_full scenario h j && has_work scenario h j p) ≡ true = sym (so_each (λ q. is_full scenario h j && has_work scenario h j q) p exists) ∙ asked.1 in
        let never : had_share scenario h j p ≡ false = sym (so_each (had_share scenario h j) p exists) ∙ not-true (has_had p sample) both.1 in
        same_less (slice_index (of_each (allowance_at scenario h j)) p) (allowance_at scenario h j p) (slice_index (of_each (used_at scenario h j)) p) (used_at scenario h j p) (shortfall_in turn p sample).others
        (at_each (allowance_at scenario h j) p exists) (at_each (used_at scenario h j) p exists)
        (short_small scenario order h r legal j finished asked.0 p work never (time_taken_by turn p sample) (taken_told asked.0))

    small_with : (share : Share) → IsSmall turn share → IsSmall turn (share_with turn p share sample)
    small_with share small = (
      one_kept (λ (amount : Amount). amount.ns < turn) is_greater_amount share.beyond (beyond_in p sample) sample.unchanged small.0 beyond_told,
      one_kept (λ (short : Shortfall). short.ns ≤ short.others) is_shorter share.short (shortfall_in turn p sample) (is_asked p sample && not (has_had p sample)) small.1 short_told,
    )

  small_up_to : IsSmall turn (share_up_to scenario h p (finished_ticks scenario.shape h))
  unfolding share_up_to
  small_up_to =
      fold_kept (IsSmall turn) (λ share j. share_with turn p share (sample_of scenario h j)) 0 (finished_ticks scenario.shape h) no_share (tt, tt)
      (λ j share low high small. small_with j (omega (arith, high)) share small)

  pub beyond_is_small : IfSome (share_of scenario h p).beyond (λ (amount : Amount). amount.ns < tick_of_all scenario.shape)
  beyond_is_small = small_up_to.0

  pub short_is_small : IfSome (share_of scenario h p).short (λ (short : Shortfall). short.ns ≤ short.others)
  short_is_small = small_up_to.1
