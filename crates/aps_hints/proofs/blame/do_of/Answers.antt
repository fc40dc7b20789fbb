use Rattle.std.proofs.Common.{◌≡◌, ◌∙◌, ap, sym, subst, codes, ℕ, List, Option, Some, None, option_map, IfSome, Bor}
use Rattle.toml.specs.declared.value.Value.{Value}
use Rattle.toml.specs.Data.{Data, Members, at, get, get_member}
use Rattle.toml.specs.View.{table_view, view}
use Rattle.aps_scenario.specs.Joinable.{then_of}
use Rattle.aps_hints.specs.Blame.{IsDo}
use Rattle.aps_hints.proofs.blame.do_of.Goals as goal

-- what is found at `do` in an element of an array is one of the document
do_found : (top : Members) (array : List ℕ) (n : ℕ) (v : Option (Bor Value)) (x : Bor Value) (e : Option (Bor Value)) (y : Bor Value) (r : Option (Bor Value))
    → v ≡ Some x → IfSome v (λ (z : Bor Value). get_member array top ≡ Some (view z.now))
    → e ≡ Some y → option_map (λ (z : Bor Value). view z.now) e ≡ at n (view x.now)
    → option_map (λ (z : Bor Value). view z.now) r ≡ get (codes "do") (view y.now)
    → IfSome r (λ (does : Bor Value). IsDo top (view does.now))
do_found top array n v x e y None array_was member element_was element does = tt
do_found top array n v x e y (Some r) array_was member element_was element does =
    let held : get_member array top ≡ Some (view x.now) =
    subst (λ (o : Option (Bor Value)). IfSome o (λ (z : Bor Value). get_member array top ≡ Some (view z.now))) array_was member in
    let here : Some (view y.now) ≡ at n (view x.now) =
    subst (λ (o : Option (Bor Value)). option_map (λ (z : Bor Value). view z.now) o ≡ at n (view x.now)) element_was element in
    let found : then_of (then_of (get_member array top) (at n)) (get (codes "do")) ≡ Some (view r.now) =
    ap (λ (o : Option Data). then_of (then_of o (at n)) (get (codes "do"))) held
    ∙ (ap (λ (o : Option Data). then_of o (get (codes "do"))) (sym here) ∙ sym does) in
    (array, n, found)

pub returns : goal.returns
returns c =
    do_found (table_view c.args.top.now) c.in_ok-array.array.now c.in_ok-array.index c.value_of.result c.in_ok-value_of.field-0 c.get.result c.in_ok-get.field-0 c.get-2.result
    c.in_ok-value_of.was c.value_of.ensures c.in_ok-get.was c.get.ensures c.get-2.ensures
