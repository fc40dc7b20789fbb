use Rattle.std.proofs.Common.{◌≡◌, ℕ, ◌+◌, ◌-◌, ◌*◌, ◌/◌, ◌<◌, ◌≤◌, min, max, Bool, true, false, ◌&&◌, nat_le, nat_eq, if◌then◌else◌, refl, ◌∙◌, arith}
use Rattle.std.proofs.lemmas.Bool.Decides.{nat_tests}
use Rattle.std.proofs.Math.Nat.{mul-le-mul_right, div-mul-le_self, lt-div-mul-add, mul_assoc}
use Rattle.aps_model.specs.declared.entry.Entry.{Entry}
use Rattle.aps_model.specs.declared.shape.Shape.{Shape}
use Rattle.aps_model.specs.Limits.{shortest_tick, shortest_window}
use Rattle.aps_report.specs.Windows.{part_in_window, is_between}

-- a window takes time
pub some_span : (w t : ℕ) → shortest_window ≤ w → shortest_tick ≤ t → 0 < w * t
some_span w t some long =
    let a : shortest_window * t ≤ w * t = mul-le-mul_right t some in
    omega arith

-- the end of a window, in nanoseconds
next : (k w t : ℕ) → (k * w + w) * t ≡ k * (w * t) + w * t
next k w t = grind arith

begin : (k w t : ℕ) → (k * w) * t ≡ k * (w * t)
begin k w t = mul_assoc k w t

-- nothing of an entry lies in a window that ends before it begins
before : (k s from to : ℕ) → k < from / s → min to (k * s + s) - max from (k * s) ≡ 0
before k s from to earlier =
    let a : (k + 1) * s ≤ from / s * s = mul-le-mul_right s (omega arith) in
    let b : (k + 1) * s ≡ k * s + s = grind arith in
    omega (arith, div-mul-le_self from s)

-- nor in one that begins after it ends
after : (k s from to : ℕ) → 0 < s → to / s + 1 ≤ k → min to (k * s + s) - max from (k * s) ≡ 0
after k s from to some later =
    let a : (to / s + 1) * s ≤ k * s = mul-le-mul_right s later in
    let b : (to / s + 1) * s ≡ to / s * s + s = grind arith in
    omega (arith, lt-div-mul-add {a = to} some)

-- what a window has of an entry, by the length of a window
part-is : (shape : Shape) (k : ℕ) (e : Entry) (s : ℕ) → s ≡ shape.window * shape.tick
    → part_in_window shape k e ≡ min e.to (k * s + s) - max e.from (k * s)
part-is shape k e s is = rw (is, next k shape.window shape.tick, begin k shape.window shape.tick) refl

-- the windows that an entry reaches, of so many
pub record Reaches (s windows first past : ℕ) (e : Entry) : Type 0 where
  pub some : 0 < s
  pub forward : e.from ≤ e.to
  pub end : past ≡ min windows (e.to / s + 1)
  pub start : first ≡ min (e.from / s) past

outside-by : (shape : Shape) (e : Entry) (s windows first past k : ℕ) → s ≡ shape.window * shape.tick → Reaches s windows first past e → k < windows
    → (b : Bool) → nat_le first k ≡ b → is_between first past k ≡ false → part_in_window shape k e ≡ 0
outside-by shape e s windows first past k is reach known true low out =
    let late : past ≤ k = grind (arith, nat_tests) in
    part-is shape k e s is ∙ after k s e.from e.to reach.some (omega (arith, reach.end))
outside-by shape e s windows first past k is reach known false low out =
    let early : k < first = grind (arith, nat_tests) in
    part-is shape k e s is ∙ before k s e.from e.to (omega (arith, reach.start))

-- so outside of these windows nothing is left out
pub reached : (shape : Shape) (e : Entry) (s windows first past p k : ℕ) → s ≡ shape.window * shape.tick → Reaches s windows first past e → k < windows
    → (q : ℕ) → (b : Bool) → is_between first past k ≡ b
    → (if nat_eq p q && is_between first past k then part_in_window shape k e else 0) ≡ (if nat_eq p q then part_in_window shape k e else 0)
reached shape e s windows first past p k is reach known q true between = rw between (grind (arith, nat_tests))
reached shape e s windows first past p k is reach known q false out =
    let nothing = outside-by shape e s windows first past k is reach known (nat_le first k) refl out in
    rw nothing (grind (arith, nat_tests))
