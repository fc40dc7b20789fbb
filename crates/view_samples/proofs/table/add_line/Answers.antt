use Rattle.std.proofs.Common.{codes}
use Rattle.std.specs.List.{flat_map, range_with_len}
use Rattle.view_samples.specs.Csv.{first_cells, part_cells}
use Rattle.view_texts.proofs.Texts.{three_pieces}
use Rattle.view_samples.proofs.table.add_line.Goals as goal

pub returns : goal.returns
returns c =
    three_pieces _ _ _ _ (first_cells c.args.tick c.args.sample.now) (flat_map (part_cells c.args.sample.now) (range_with_len 0 c.args.rows)) (codes "\n")
    c.in_ok-add_first.ensures c.in_ok-add_parts.ensures c.in_ok-add_newline.ensures
