use Rattle.std.proofs.Common.{◌≡◌, ℕ, ◌-◌, ◌<◌, ◌≤◌, [], get_or, length}
use Rattle.aps_core.specs.Run.{state_of_run}
use Rattle.view_lives.specs.Doing.{doing_of}
use Rattle.view_lives.specs.Growing.{LifeGoesOnWith, nothing_aside}
use Rattle.view_lives.proofs.growing.pass.Given as goal

abbrev pub invariant-loop-x : goal.invariant-loop-x
invariant-loop-x l = record {
  lives : length l.lives.items ≡ length l.fn.lives.items;
  aside : length l.aside.items ≡ length l.fn.aside.items;
  inside : l.x ≤ length l.fn.lives.items;
  done : (x : ℕ) → x < l.x → LifeGoesOnWith l.until l.from (doing_of (state_of_run l.core) x) (get_or l.fn.lives.items x []) (get_or l.fn.aside.items x nothing_aside) (get_or l.lives.items x []) (get_or l.aside.items x nothing_aside);
  others : (x : ℕ) → l.x ≤ x → get_or l.lives.items x [] ≡ get_or l.fn.lives.items x [];
  others_aside : (x : ℕ) → l.x ≤ x → get_or l.aside.items x nothing_aside ≡ get_or l.fn.aside.items x nothing_aside;
}

abbrev pub decreases-loop-x : goal.decreases-loop-x
decreases-loop-x l = length l.lives.items - l.x
