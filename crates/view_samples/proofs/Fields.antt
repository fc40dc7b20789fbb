-- A sample, field by field.
use Rattle.std.proofs.Common.{◌≡◌, ℕ, List, Bool}
use Rattle.view_samples.specs.declared.sample.Sample.{Sample}

abbrev pub make : ℕ → ℕ → Bool → Bool → Bool → List ℕ → List ℕ → List ℕ → List ℕ → List Bool → List Bool → Sample
make tick window full unchanged steady used critical free allowance demand had = record {
  tick = tick;
  window = window;
  full = full;
  unchanged = unchanged;
  steady = steady;
  usage = record { used = used; critical = critical };
  free = free;
  allowance = allowance;
  demand = demand;
  had = had;
}

pub made : (j w w' : ℕ) (f f' u u' s s' : Bool) (us us' cr cr' fr fr' al al' : List ℕ) (d d' h h' : List Bool)
    → w ≡ w' → f ≡ f' → u ≡ u' → s ≡ s' → us ≡ us' → cr ≡ cr' → fr ≡ fr' → al ≡ al' → d ≡ d' → h ≡ h'
    → make j w f u s us cr fr al d h ≡ make j w' f' u' s' us' cr' fr' al' d' h'
made j w w' f f' u u' s s' us us' cr cr' fr fr' al al' d d' h h' e1 e2 e3 e4 e5 e6 e7 e8 e9 e10 =
    λ i. make j (e1 i) (e2 i) (e3 i) (e4 i) (e5 i) (e6 i) (e7 i) (e8 i) (e9 i) (e10 i)
