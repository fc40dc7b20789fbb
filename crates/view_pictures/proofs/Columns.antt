-- What columns show of usage and its bound.
use Rattle.std.proofs.Common.{ℕ, suc, ◌-◌, ◌*◌, ◌/◌, ◌≤◌, List, [], ◌∷◌, Bool, true, false, min, if◌then◌else◌, arith}
use Rattle.std.specs.Prelude.{All, nat_eq, slice_index}
use Rattle.std.specs.List.{fold}
use Rattle.std.proofs.Math.Nat.{mul-le-mul_right}
use Rattle.view_samples.specs.declared.sample.Sample.{Sample}
use Rattle.view_pictures.specs.declared.group.Point.{Point}
use Rattle.view_pictures.specs.declared.scale.Sizes.{Sizes}
use Rattle.view_pictures.specs.Group.{IsBounded, column_of, is_nearer, joined_points, no_point, point_of}
use Rattle.view_pictures.specs.Scale.{depth_of, plot_height}
use Rattle.view_pictures.specs.Survey.{bound_of, whole_of}

-- ---- what is more stands higher

div_later : (t a b : ℕ) → a ≤ b → a / t ≤ b / t
div_later t a b le = search (arith)

less_deep : (c : Bool) (x y : ℕ) → x ≤ y → (if c then plot_height else plot_height - min y plot_height) ≤ (if c then plot_height else plot_height - min x plot_height)
less_deep true x y le = omega arith
less_deep false x y le = omega (arith, le)

higher : (a b whole top : ℕ) → a ≤ b → depth_of b whole top ≤ depth_of a whole top
higher a b whole top le =
    less_deep (nat_eq (whole * top) 0) (a * 900000 / (whole * top)) (b * 900000 / (whole * top))
    (div_later (whole * top) (a * 900000) (b * 900000) (mul-le-mul_right 900000 le))

-- ---- the bound that is shown stands no lower than the usage that is shown

abbrev Keeps : Point → Type 0
Keeps point = point.bound ≤ point.high

either : (c : Bool) (a b : Point) → Keeps a → Keeps b → Keeps (if c then b else a)
either true a b first second = second
either false a b first second = first

joined_keeps : (a b : Point) → Keeps a → Keeps b → Keeps (joined_points a b)
joined_keeps a b first second = either (is_nearer b a) a b first second

one_keeps : (sizes : Sizes) (p top : ℕ) (s : Sample × Bool) → IsBounded sizes p s → Keeps (point_of sizes p top s.1 s.0)
one_keeps sizes p top s bounded = higher (slice_index s.0.usage.used p) (bound_of sizes s.0 p) (whole_of sizes s.0) top bounded

all_keep : (sizes : Sizes) (p top : ℕ) (samples : List (Sample × Bool)) (point : Point) → Keeps point → All (IsBounded sizes p) samples
    → Keeps (fold (λ point (s : Sample × Bool). joined_points point (point_of sizes p top s.1 s.0)) point samples)
all_keep sizes p top [] point so_far each = so_far
all_keep sizes p top (s ∷ samples) point so_far each =
    all_keep sizes p top samples (joined_points point (point_of sizes p top s.1 s.0))
    (joined_keeps point (point_of sizes p top s.1 s.0) so_far (one_keeps sizes p top s (each 0 s (omega arith))))
    (λ k d below. each (suc k) d (omega (arith, below)))

pub keeps_bounds : (sizes : Sizes) (p top : ℕ) (samples : List (Sample × Bool)) → All (IsBounded sizes p) samples
    → Keeps (column_of sizes p top samples)
keeps_bounds sizes p top samples each = all_keep sizes p top samples no_point (omega arith) each
