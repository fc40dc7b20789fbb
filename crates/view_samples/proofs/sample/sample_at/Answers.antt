use Rattle.std.proofs.Common.{◌≡◌, ◌∙◌, ℕ, ◌+◌, ◌-◌, ◌&&◌, not, nat_le, nat_lt, slice_index, ◌<◌, sym, ap, arith}
use Rattle.std.proofs.lemmas.List.FromFn.{fill_by_all}
use Rattle.aps_model.specs.Limits.{most_partitions}
use Rattle.view_samples.specs.Sample.{allowance_at, first_at, had_share, has_work, is_fed, is_full, is_unchanged, window_at}
use Rattle.view_samples.proofs.Fields.{made}
use Rattle.view_samples.proofs.Fill.{map_range}
use Rattle.view_samples.proofs.Tests.{and_assoc}
use Rattle.view_samples.proofs.sample.sample_at.Goals as goal

pub returns : goal.returns
returns c =
    let scenario = c.args.history.now.scenario in
    let h = c.args.history.now.entries in
    let j = c.args.j in
    let lasts = c.args.lasts.now in
    let first_here = c.saturating_sub-first.result in
    let window : c.args.note.now.window ≡ window_at scenario h j = c.requires.note.begun.window in
    let wide : c.from-window.result ≡ window_at scenario h j = c.from-window.ensures ∙ window in
    let first : first_here ≡ first_at scenario h j = c.saturating_sub-first.ensures ∙ ap (λ w. j + 1 - w) wide in
    let full : nat_le c.from-window.result (j + 1) ≡ is_full scenario h j = ap (λ w. nat_le w (j + 1)) wide in
    let calm : not (nat_lt first_here lasts.changed) ≡ is_unchanged scenario h j =
    ap (λ a. not (nat_lt a lasts.changed)) first
    ∙ ap not (sym (c.requires.lasts.changed.same (first_at scenario h j)) ∙ sym (c.requires.changes (first_at scenario h j) (j + 1))) in
    let fed : not (nat_lt first_here lasts.starved) ≡ is_fed scenario h j =
    ap (λ a. not (nat_lt a lasts.starved)) first ∙ ap not (sym (c.requires.lasts.starved.same (first_at scenario h j))) in
    let unchanged : c.and_not_below-unchanged.result ≡ (is_full scenario h j && is_unchanged scenario h j) =
    c.and_not_below-unchanged.ensures ∙ ap (λ b. b && not (nat_lt first_here lasts.changed)) full ∙ ap (λ b. is_full scenario h j && b) calm in
    let demand : (p : ℕ) → p < most_partitions → (nat_le c.from-window.result (j + 1) && not (nat_lt first_here (slice_index lasts.lacked p))) ≡ (is_full scenario h j && has_work scenario h j p) =
    λ p less.
    ap (λ b. b && not (nat_lt first_here (slice_index lasts.lacked p))) full
    ∙ ap (λ a. is_full scenario h j && not (nat_lt a (slice_index lasts.lacked p))) first
    ∙ ap (λ b. is_full scenario h j && not b) (sym ((c.requires.lasts.lacked p less).same (first_at scenario h j))) in
    let had : (p : ℕ) → p < most_partitions → nat_lt first_here (slice_index lasts.out p) ≡ had_share scenario h j p =
    λ p less. ap (λ a. nat_lt a (slice_index lasts.out p)) first ∙ sym ((c.requires.lasts.out p less).same (first_at scenario h j)) in
    made j _ _ _ _ _ _ _ _ _ _ _ _ _ _ _ _ _ _ _ _
    window
    full
    unchanged
    (c.and_not_below.ensures ∙ ap (λ b. b && not (nat_lt first_here lasts.starved)) unchanged ∙ ap (λ b. (is_full scenario h j && is_unchanged scenario h j) && b) fed ∙ and_assoc (is_full scenario h j) (is_unchanged scenario h j) (is_fed scenario h j))
    (c.usage.ensures.used ∙ c.requires.sums.used)
    (c.usage.ensures.critical ∙ c.requires.sums.critical)
    (c.free_time.ensures ∙ c.requires.sums.free)
    (fill_by_all (allowance_at scenario h j) c.args.note.now.allowance most_partitions 0 (omega arith) c.requires.note.begun.allowance)
    (c.since.ensures ∙ map_range _ _ most_partitions demand)
    (c.before_end.ensures ∙ map_range _ _ most_partitions had)
