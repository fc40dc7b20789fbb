use Rattle.std.proofs.Common.{◌≡◌, ◌++◌, string_bytes, take, get_or, None}
use Rattle.std.specs.List.{flat_map, enumerate_from}
use Rattle.view_shares.specs.Share.{no_share}
use Rattle.view_shares.specs.Text.{partition_share_text}
use Rattle.view_shares.proofs.text.add_partitions.Given as goal

abbrev pub invariant-loop-p : goal.invariant-loop-p
invariant-loop-p l = string_bytes l.out ≡ string_bytes l.initial.out ++ flat_map (partition_share_text (λ p. get_or l.shares p no_share) (λ p. get_or l.spent p None)) (take l.p (enumerate_from 0 l.rows))
