use Rattle.std.proofs.Common.{codes}
use Rattle.std.specs.List.{flat_map}
use Rattle.view_samples.specs.Csv.{row_titles}
use Rattle.view_texts.proofs.Texts.{three_pieces}
use Rattle.view_samples.proofs.table.add_head.Goals as goal

pub returns : goal.returns
returns c =
    three_pieces _ _ _ _ (codes "end_ns,window,full,steady") (flat_map row_titles c.args.rows.now) (codes "\n")
    c.in_ok-add_first_titles.ensures c.in_ok-add_row_titles.ensures c.in_ok-add_newline.ensures
