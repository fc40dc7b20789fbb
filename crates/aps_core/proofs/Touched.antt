-- Whether an operation may change a thread's seat.
use Rattle.std.proofs.Common.{◌≡◌, ◌≢◌, ◌⊎◌, inl, inr, ℕ, Bool, true, false, List, Option, Some, None, refl, ap}
use Rattle.std.proofs.lemmas.Bool.{cases_eq}
use Rattle.aps_model.specs.Inherit.{client_of}
use Rattle.aps_model.specs.SchedulerState.{Triple}
use Rattle.aps_core.specs.Touched.{IsTouched, woke}

pub some_number : (a b : ℕ) → Some a ≡ Some b → a ≡ b
some_number a b e = cc

pub is_or_not : (o : Option ℕ) (x : ℕ) → (o ≡ Some x) ⊎ (o ≡ Some x → ⊥)
is_or_not None x = inr (λ e. cc)
is_or_not (Some y) x = elim (cases_eq y x) [
  | inl same ↦ inl (ap (λ z. Some z) same)
  | inr other ↦ inr (λ e. other (some_number y x e))
]

serves_or_not : (servers : Bool) (o : Option ℕ) → ((servers ≡ true) × (o ≢ None)) ⊎ ((servers ≡ true) × (o ≢ None) → ⊥)
serves_or_not false o = inr (λ both. clash both.0)
  where
    clash : false ≡ true → ⊥
    clash e = cc
serves_or_not true None = inr (λ both. both.1 refl)
serves_or_not true (Some y) = inl (refl, λ e. cc)

woke_or_not : (b : Bool) → (b ≡ true) ⊎ (b ≡ true → ⊥)
woke_or_not true = inl refl
woke_or_not false = inr (λ e. cc)

pub touched_or_not : (woken : List ℕ) (own peer : Option ℕ) (servers : Bool) (triples : List Triple) (x : ℕ)
    → IsTouched woken own peer servers triples x ⊎ (IsTouched woken own peer servers triples x → ⊥)
touched_or_not woken own peer servers triples x = elim (woke_or_not (woke woken x)) [
  | inl is_woken ↦ inl (inl is_woken)
  | inr not_woken ↦ elim (is_or_not own x) [
    | inl is_own ↦ inl (inr (inl is_own))
    | inr not_own ↦ elim (is_or_not peer x) [
      | inl is_peer ↦ inl (inr (inr (inl is_peer)))
      | inr not_peer ↦ elim (serves_or_not servers (client_of triples x)) [
        | inl serves ↦ inl (inr (inr (inr serves)))
        | inr serves_not ↦ inr (λ touched. elim touched [
          | inl is_woken ↦ not_woken is_woken
          | inr two ↦ elim two [
            | inl is_own ↦ not_own is_own
            | inr rest ↦ elim rest [ inl is_peer ↦ not_peer is_peer | inr serves ↦ serves_not serves ]
          ]
        ])
      ]
    ]
  ]
]
