use Rattle.aps_model.proofs.Ascii.{name-IsUtf8}
use Rattle.view_texts.proofs.name.text_of.Goals as goal

pub unreachable-requires : goal.unreachable-requires
unreachable-requires c = c.in-Err.ensures.cases.0 (name-IsUtf8 _ c.text.ensures.name)
