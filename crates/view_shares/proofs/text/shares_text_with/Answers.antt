use Rattle.std.proofs.Common.{◌≡◌, ◌≤◌, ◌++◌, ◌∙◌, ℕ, List, length, get_or, None, Option, ap, subst, arith}
use Rattle.std.specs.List.{flat_map, enumerate_from}
use Rattle.aps_model.specs.declared.partition.PartitionRow.{PartitionRow}
use Rattle.aps_model.specs.After.{state_after}
use Rattle.aps_model.specs.Limits.{most_partitions}
use Rattle.aps_model.specs.Scenario.{Scenario}
use Rattle.view_shares.specs.declared.share.Share.{Share}
use Rattle.view_shares.specs.declared.spent.Spent.{Spent}
use Rattle.view_shares.specs.Share.{no_share}
use Rattle.view_shares.specs.Shares.{counts_of, share_of, tick_of_all}
use Rattle.view_shares.specs.Spent.{spent_of}
use Rattle.view_shares.specs.Text.{head_lines, partition_share_text}
use Rattle.view_shares.proofs.Rows.{same_texts}
use Rattle.view_shares.proofs.text.shares_text_with.Goals as goal

pub returns : goal.returns
returns c =
    let scenario = c.args.history.now.scenario in
    let h = c.args.history.now.entries in
    let told = c.in_ok-all.ensures.told in
    let f : ℕ → Share = λ p. get_or c.in_ok-all.all.shares.each p no_share in
    let a : ℕ → Option Spent = λ p. get_or c.args.spent.now p None in
    let head : List ℕ = head_lines (counts_of scenario h) (tick_of_all scenario.shape) in
    let turn : c.tick_of_all-turn.result ≡ tick_of_all scenario.shape =
    c.tick_of_all-turn.ensures ∙ ap tick_of_all (c.shape.ensures.same ∙ ap (λ (s : Scenario). s.shape) c.scenario.ensures) in
    let rows : c.as_slice.result.now ≡ (state_after scenario h).rows = c.as_slice.ensures.value ∙ c.in_ok-all.ensures.rows in
    let few : length (state_after scenario h).rows ≤ most_partitions = subst (λ (r : List PartitionRow). length r ≤ most_partitions) c.in_ok-all.ensures.rows c.in_ok-all.ensures.few in
    c.in_ok-add_partitions.ensures
    ∙ ap (λ t. t ++ flat_map (partition_share_text f a) (enumerate_from 0 c.as_slice.result.now))
    (c.in_ok-add_head.ensures ∙ ap (λ (t : List ℕ). t ++ head_lines c.in_ok-all.all.shares.counts c.tick_of_all-turn.result) c.new-out.ensures.bytes
    ∙ (λ i. head_lines (told.counts i) (turn i)))
    ∙ ap (λ (r : List PartitionRow). head ++ flat_map (partition_share_text f a) (enumerate_from 0 r)) rows
    ∙ ap (λ (t : List ℕ). head ++ t) (same_texts f (share_of scenario h) a (spent_of scenario h) told.each c.requires.spent 0 (state_after scenario h).rows (omega (arith, few)))
