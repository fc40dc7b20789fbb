-- An operation that is entered has something left, or never ends.
use Rattle.std.proofs.Common.{refl}
use Rattle.aps_model.specs.declared.program.Op.{Op}
use Rattle.aps_model.specs.declared.program.Op.TheVariants.{Run, Forever, Sleep, Yield, Send, Receive, Reply, Join, Priority, CriticalOn, CriticalOff, Repeat, Exit}
use Rattle.aps_model.specs.declared.shape.Shape.{Shape}
use Rattle.aps_model.specs.Operation.{duration}
use Rattle.aps_tasks.specs.Kept.{IsLeft}

pub duration_left : (shape : Shape) (op : Op) → IsLeft op (duration shape op)
duration_left shape (Run ns) = record { forever = λ e. absurd cc; none = λ e. absurd cc }
duration_left shape Forever = record { forever = λ e. refl; none = λ e. refl }
duration_left shape (Sleep ns) = record { forever = λ e. absurd cc; none = λ e. absurd cc }
duration_left shape Yield = record { forever = λ e. absurd cc; none = λ e. absurd cc }
duration_left shape (Send c) = record { forever = λ e. absurd cc; none = λ e. absurd cc }
duration_left shape (Receive c) = record { forever = λ e. absurd cc; none = λ e. absurd cc }
duration_left shape Reply = record { forever = λ e. absurd cc; none = λ e. absurd cc }
duration_left shape (Join name) = record { forever = λ e. absurd cc; none = λ e. absurd cc }
duration_left shape (Priority n) = record { forever = λ e. absurd cc; none = λ e. absurd cc }
duration_left shape CriticalOn = record { forever = λ e. absurd cc; none = λ e. absurd cc }
duration_left shape CriticalOff = record { forever = λ e. absurd cc; none = λ e. absurd cc }
duration_left shape Repeat = record { forever = λ e. absurd cc; none = λ e. absurd cc }
duration_left shape Exit = record { forever = λ e. absurd cc; none = λ e. absurd cc }
