-- A window that goes on stands for the same entries.
use Rattle.std.proofs.Common.{◌≡◌, ℕ, zero, suc, ◌+◌, ◌-◌, ◌<◌, ◌≤◌, List, [], refl, ◌∙◌, ap, arith}
use Rattle.aps_model.specs.declared.entry.Entry.{Entry}
use Rattle.aps_window.specs.Bills.{Bill}
use Rattle.aps_window.specs.StandsFor.{StandsFor}
use Rattle.aps_window.specs.Window.{Window, advanced}
use Rattle.aps_live.specs.Tied.{IsTied}

pub advanced_tick : (n : ℕ) (window : Window) → (advanced n window).tick ≡ window.tick + n
advanced_tick zero window = omega arith
advanced_tick (suc n) window = omega (arith, advanced_tick n window)

pub advanced_span : (n : ℕ) (window : Window) → (advanced n window).span ≡ window.span
advanced_span zero window = refl
advanced_span (suc n) window = advanced_span n window

pub advanced_tied : (tick : ℕ) (window new : Window) (h : List Entry) → IsTied tick window h → window.tick ≤ new.tick → ((bills : List Bill) → StandsFor window bills → StandsFor new bills) → IsTied tick new h
advanced_tied tick window new h m later stands = record {
  bills = m.bills;
  stands = stands m.bills m.stands;
  used = λ p a b near. m.used p a b (omega (arith, near, later));
  critical = λ p a b near. m.critical p a b (omega (arith, near, later));
}

-- with no bills and no entries
pub tied_start : (tick : ℕ) (window : Window) → StandsFor window [] → IsTied tick window []
tied_start tick window stands = record { bills = []; stands = stands; used = λ p a b near. refl; critical = λ p a b near. refl }
