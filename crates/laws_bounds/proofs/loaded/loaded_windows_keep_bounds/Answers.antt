use Rattle.laws_bounds.proofs.Audited.{loaded_keeps}
use Rattle.laws_bounds.proofs.loaded.loaded_windows_keep_bounds.Goals as goal

pub returns : goal.returns
returns c = loaded_keeps
