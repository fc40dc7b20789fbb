-- The text of shares and overspending. Times are ns.
use lib.Chars.{codes}
use Rattle.std.specs.Prelude.{ℕ, ◌++◌, List, Option, Some, None}
use Rattle.std.specs.List.{flat_map, enumerate_from}
use Rattle.std.specs.Fmt.{decimal}
use Rattle.aps_model.specs.declared.entry.Entry.{Entry}
use Rattle.aps_model.specs.declared.partition.PartitionRow.{PartitionRow}
use Rattle.aps_model.specs.After.{state_after}
use Rattle.aps_model.specs.Scenario.{Scenario}
use Rattle.view_shares.specs.declared.share.Amount.{Amount}
use Rattle.view_shares.specs.declared.share.Counts.{Counts}
use Rattle.view_shares.specs.declared.share.Share.{Share}
use Rattle.view_shares.specs.declared.share.Shortfall.{Shortfall}
use Rattle.view_shares.specs.declared.share.Used.{Used}
use Rattle.view_shares.specs.declared.spent.Spent.{Spent}
use Rattle.view_shares.specs.Shares.{counts_of, share_of, tick_of_all}
use Rattle.view_shares.specs.Spent.{spent_of}

-- ---- the ends of lines

abbrev pub used_text : Option Used → List ℕ
used_text None = codes "none\n"
used_text (Some u) =
    decimal u.used ++ (codes " allowance " ++ (decimal u.allowance ++ (codes " window " ++ (decimal u.window ++ codes "\n"))))

abbrev pub amount_text : Option Amount → List ℕ
amount_text None = codes "none\n"
amount_text (Some a) = decimal a.ns ++ (codes " window " ++ (decimal a.window ++ codes "\n"))

abbrev pub shortfall_text : Option Shortfall → List ℕ
shortfall_text None = codes "none\n"
shortfall_text (Some s) =
    decimal s.ns ++ (codes " others " ++ (decimal s.others ++ (codes " window " ++ (decimal s.window ++ codes "\n"))))

abbrev pub spent_text : Option Spent → List ℕ
spent_text None = codes "0\n"
spent_text (Some s) =
    decimal s.count ++ (codes " first "
    ++ (decimal s.first ++ (codes " worst " ++ (decimal s.worst ++ (codes " at " ++ (decimal s.at ++ codes "\n"))))))

-- ---- a partition

abbrev pub title_line : ℕ → List ℕ → List ℕ
title_line p name = codes "partition " ++ (decimal p ++ (codes " " ++ (name ++ codes "\n")))

abbrev pub demand_line : ℕ → ℕ → List ℕ
demand_line demand had = codes "demand " ++ (decimal demand ++ (codes " had " ++ (decimal had ++ codes "\n")))

abbrev pub full_lines : Share → List ℕ
full_lines share =
    codes "most " ++ (used_text share.most ++ (codes "free " ++ (amount_text share.free ++ (codes "critical " ++ (amount_text share.critical
    ++ (codes "beyond " ++ amount_text share.beyond))))))

abbrev pub asked_lines : Share → List ℕ
asked_lines share =
    demand_line share.demand share.had ++ (codes "least " ++ (used_text share.least ++ (codes "changed " ++ (used_text share.changed
    ++ (codes "short " ++ shortfall_text share.short)))))

abbrev pub spent_line : Option Spent → List ℕ
spent_line spent = codes "overspent " ++ spent_text spent

abbrev pub partition_lines : ℕ → List ℕ → Share → Option Spent → List ℕ
partition_lines p name share spent = title_line p name ++ (full_lines share ++ (asked_lines share ++ spent_line spent))

abbrev pub partition_share_text : (ℕ → Share) → (ℕ → Option Spent) → ℕ × PartitionRow → List ℕ
partition_share_text shares spent (p, row) = partition_lines p row.name (shares p) (spent p)

-- ---- all of them

abbrev pub head_lines : Counts → ℕ → List ℕ
head_lines counts turn =
    codes "aps shares 1\nwindows " ++ (decimal counts.full ++ (codes " unchanged " ++ (decimal counts.unchanged
    ++ (codes " steady " ++ (decimal counts.steady ++ (codes " tick_of_all " ++ (decimal turn ++ codes "\n")))))))

-- the partitions are the rows that stand last
abbrev pub shares_text : Scenario → List Entry → List ℕ
shares_text scenario h =
    head_lines (counts_of scenario h) (tick_of_all scenario.shape)
    ++ flat_map (partition_share_text (share_of scenario h) (spent_of scenario h)) (enumerate_from 0 (state_after scenario h).rows)
