-- The names that commands would give, gathered in a loop.
use Rattle.std.proofs.Common.{◌≡◌, ℕ, ◌+◌, ◌<◌, ◌≤◌, ◌++◌, List, length, get_or, drop, sym, ◌∙◌, append_assoc}
use Rattle.std.proofs.lemmas.List.{drop_all, append-nil}
use Rattle.toml.specs.declared.value.Value.{Value}
use Rattle.toml.specs.View.{view, items_view}
use Rattle.toml.proofs.Views.{items_view-drop}
use Rattle.aps_scenario.specs.Joinable.{name_to_create, created_names, name_listed}

-- what a loop's turn adds, before what is to come
pub created-next : (names whole : List (List ℕ)) (vs us : List Value) (i : ℕ) (v : Value) → us ≡ vs → i < length us → v ≡ get_or us i v
    → names ++ created_names (items_view (drop i vs)) ≡ whole → (names ++ name_listed (name_to_create (view v))) ++ created_names (items_view (drop (i + 1) vs)) ≡ whole
created-next names whole vs us i v same within here before =
    let inside : i < length vs = rw (← same) within in
    let at_i : v ≡ get_or vs i v = rw (← same) here in
    append_assoc names (name_listed (name_to_create (view v))) (created_names (items_view (drop (i + 1) vs)))
    ∙ (rw (items_view-drop vs i v inside, ← at_i) at before)

pub created-ends : (names whole : List (List ℕ)) (vs : List Value) (i : ℕ) → length vs ≤ i
    → names ++ created_names (items_view (drop i vs)) ≡ whole → names ≡ whole
created-ends names whole vs i past before = sym (append-nil names) ∙ (rw (drop_all i vs past) at before)
