use Rattle.std.proofs.Common.{◌-◌, ◌≡◌, nat_eq, false, take, subst, sym, ◌∙◌, arith}
use Rattle.std.specs.List.{list_any}
use Rattle.aps_model.specs.declared.entry.Entry.{Entry}
use Rattle.aps_core.proofs.Rising.{not_met}
use Rattle.aps_core.proofs.due.is_met.Goals as goal

pub returns-else-entries-left : goal.returns-else-entries-left
returns-else-entries-left c =
    let none : list_any (λ (e : Entry). nat_eq e.to c.args.moment) (take c.loop-left.left c.args.entries.now) ≡ false =
    subst (λ n. list_any (λ (e : Entry). nat_eq e.to c.args.moment) (take n c.args.entries.now) ≡ false) (omega arith)
    (not_met c.args.entries.now (c.loop-left.left - 1) c.args.moment c.index-entries-left.result c.requires (omega (arith, c.loop-left.invariant.within)) (omega (arith, c.if-entries-left.false))) in
    sym (c.loop-left.invariant.same ∙ none)
