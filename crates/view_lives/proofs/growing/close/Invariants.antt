use Rattle.std.proofs.Common.{◌≡◌, ℕ, ◌<◌, ◌≤◌, [], get_or, length}
use Rattle.view_lives.specs.Growing.{told_of}
use Rattle.view_lives.proofs.growing.close.Given as goal

abbrev pub invariant-loop-x : goal.invariant-loop-x
invariant-loop-x l = record {
  count : length l.lives.items ≡ length l.initial.lives.items;
  done : (x : ℕ) → x < l.x → get_or l.lives.items x [] ≡ told_of l.until l.initial.lives.items l.aside.items x;
  others : (x : ℕ) → l.x ≤ x → get_or l.lives.items x [] ≡ get_or l.initial.lives.items x [];
}
