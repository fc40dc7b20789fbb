use Rattle.view_pictures.proofs.Columns.{keeps_bounds}
use Rattle.view_pictures.proofs.laws.columns_keep_bounds.Goals as goal

pub returns : goal.returns
returns c = keeps_bounds
