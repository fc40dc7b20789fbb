-- What is told of the windows of so many ticks.
use Rattle.std.proofs.Common.{◌≡◌, ℕ, zero, suc, ◌+◌, ◌<◌, ◌≤◌, List, Bool, true, false, get_or, ap, sym, ◌∙◌, subst, arith}
use Rattle.std.specs.List.{fold, range_with_len, sum_by}
use Rattle.std.proofs.lemmas.List.Sums.{sum_by_push}
use Rattle.aps_model.specs.declared.entry.Entry.{Entry}
use Rattle.aps_model.specs.Scenario.{Scenario}
use Rattle.aps_model.proofs.Ranges.{fold_more, range_more}
use Rattle.view_samples.specs.declared.sample.Sample.{Sample}
use Rattle.view_samples.specs.Sample.{sample_of}
use Rattle.view_shares.specs.declared.share.Counts.{Counts}
use Rattle.view_shares.specs.declared.share.Share.{Share}
use Rattle.view_shares.specs.declared.shares.Shares.{Shares}
use Rattle.view_shares.specs.Share.{counted_if, counts_with, has_had, is_asked, no_counts, no_share, share_with}
use Rattle.view_shares.specs.Shares.{AreFewShares, AreFewCounts, AreUpTo, IsFew, counts_up_to, share_up_to, tick_of_all}
use Rattle.std.specs.Prelude.{◌&&◌}
use Rattle.aps_model.specs.Limits.{last_tick, most_partitions}

-- ---- one window more

pub none_told : (scenario : Scenario) (h : List Entry) (s : Shares) → s.counts ≡ no_counts → ((p : ℕ) → p < most_partitions → get_or s.each p no_share ≡ no_share) → AreUpTo scenario h 0 s
unfolding counts_up_to share_up_to
none_told scenario h s counts each = record { counts = counts; each = each }

pub one_told : (scenario : Scenario) (h : List Entry) (n turn : ℕ) (s t : Shares) (sample : Sample) → sample ≡ sample_of scenario h n → turn ≡ tick_of_all scenario.shape → AreUpTo scenario h n s
    → t.counts ≡ counts_with s.counts sample → ((p : ℕ) → p < most_partitions → get_or t.each p no_share ≡ share_with turn p (get_or s.each p no_share) sample) → AreUpTo scenario h (n + 1) t
unfolding counts_up_to share_up_to
one_told scenario h n turn s t sample is same so_far counts each = record {
  counts = counts ∙ (λ i. counts_with (so_far.counts i) (is i))
      ∙ sym (fold_more (λ (c : Counts) j. counts_with c (sample_of scenario h j)) no_counts 0 n n (omega arith));
  each = λ p less. each p less ∙ (λ i. share_with (same i) p (so_far.each p less i) (is i))
      ∙ sym (fold_more (λ (share : Share) j. share_with (tick_of_all scenario.shape) p share (sample_of scenario h j)) no_share 0 n n (omega arith));
}

-- ---- no more is counted than there are ticks

counted_few : (count : ℕ) (b : Bool) → counted_if count b ≤ count + 1
counted_few count true = omega arith
counted_few count false = omega arith

fold_few : {A : Type 0} (count : A → ℕ) (f : A → ℕ → A) → ((x : A) (k : ℕ) → count (f x k) ≤ count x + 1) → (a n : ℕ) (z : A) → count (fold f z (range_with_len a n)) ≤ count z + n
fold_few count f step a zero z = omega arith
fold_few count f step a (suc n) z =
    let one = step z a in
    let rest = fold_few count f step (a + 1) n (f z a) in
    omega (arith, one, rest)

counts_few : (scenario : Scenario) (h : List Entry) (n : ℕ) → n ≤ last_tick → AreFewCounts (counts_up_to scenario h n)
unfolding counts_up_to
counts_few scenario h n few =
    let f : Counts → ℕ → Counts = λ c j. counts_with c (sample_of scenario h j) in
    let full = fold_few (λ (c : Counts). c.full) f (λ (c : Counts) j. counted_few c.full (sample_of scenario h j).full) 0 n no_counts in
    let unchanged = fold_few (λ (c : Counts). c.unchanged) f (λ (c : Counts) j. counted_few c.unchanged (sample_of scenario h j).unchanged) 0 n no_counts in
    let steady = fold_few (λ (c : Counts). c.steady) f (λ (c : Counts) j. counted_few c.steady (sample_of scenario h j).steady) 0 n no_counts in
    record { full = omega (arith, full, few); unchanged = omega (arith, unchanged, few); steady = omega (arith, steady, few) }

share_few : (scenario : Scenario) (h : List Entry) (p n : ℕ) → n ≤ last_tick → IsFew (share_up_to scenario h p n)
unfolding share_up_to
share_few scenario h p n few =
    let f : Share → ℕ → Share = λ share j. share_with (tick_of_all scenario.shape) p share (sample_of scenario h j) in
    let demand = fold_few (λ (s : Share). s.demand) f (λ (s : Share) j. counted_few s.demand (is_asked p (sample_of scenario h j))) 0 n no_share in
    let had = fold_few (λ (s : Share). s.had) f (λ (s : Share) j. counted_few s.had (is_asked p (sample_of scenario h j) && has_had p (sample_of scenario h j))) 0 n no_share in
    record { demand = omega (arith, demand, few); had = omega (arith, had, few) }

pub told_few : (scenario : Scenario) (h : List Entry) (n : ℕ) (s : Shares) → n ≤ last_tick → AreUpTo scenario h n s → AreFewShares s
told_few scenario h n s few is = record {
  counts = subst AreFewCounts (sym is.counts) (counts_few scenario h n few);
  each = λ p less. subst IsFew (sym (is.each p less)) (share_few scenario h p n few);
}

-- ---- a sum of one number more

pub sum_more : (f : ℕ → ℕ) (sum one next q : ℕ) → sum ≡ sum_by f (range_with_len 0 q) → one ≡ f q → next ≡ sum + one → next ≡ sum_by f (range_with_len 0 (q + 1))
sum_more f sum one next q so_far is added =
    added ∙ (λ i. so_far i + is i) ∙ sym (ap (sum_by f) (range_more 0 q q (omega arith)) ∙ sum_by_push f (range_with_len 0 q) q)
