-- What each part of a step keeps of the threads and the processors.
use Rattle.std.proofs.Common.{◌≡◌, ◌≢◌, ℕ, zero, suc, ◌+◌, ◌^◌, ◌<◌, ◌≤◌, ◌⊎◌, Bool, true, false, List, [], ◌∷◌, length, set, slice_set, slice_index_or, Option, Some, None, All, refl, sym, ◌∙◌, ap, subst, arith, inl, inr, length-set}
use Rattle.std.proofs.lemmas.Bool.{cases_eq}
use Rattle.std.proofs.lemmas.List.{get_or-set_other, get_or-set_same}
use Rattle.aps_model.specs.declared.merit.Contender.{Contender}
use Rattle.aps_model.specs.declared.state.Pick.{Pick}
use Rattle.aps_ready.specs.Ready.{IsStampFree}
use Rattle.aps_live.specs.declared.thread.LiveThread.{LiveThread}
use Rattle.aps_live.specs.declared.thread.Doing.{Doing}
use Rattle.aps_live.specs.declared.thread.Doing.TheVariants.{Waiting, Ready, Running}
use Rattle.aps_live.specs.LiveState.{LiveState, no_live_thread}
use Rattle.aps_live.specs.LiveStep.{is_waking}
use Rattle.aps_live.specs.Machine.{AreNumbered, IsMachine, Runs, row_of}
use Rattle.aps_live.proofs.Rows.{free_row}

-- ---- numbers and stamps

abbrev at : List LiveThread → ℕ → LiveThread
at threads x = slice_index_or threads x no_live_thread

same_contender : (threads : List LiveThread) (x : ℕ) (t : LiveThread) → x < length threads → t.contender ≡ (at threads x).contender → (y : ℕ) → (at (slice_set threads x t) y).contender ≡ (at threads y).contender
same_contender threads x t inside is y = elim (cases_eq y x) [
  | inl e ↦ ap (λ z. (at (slice_set threads x t) z).contender) e ∙ ap (λ (u : LiveThread). u.contender) (get_or-set_same threads x t no_live_thread inside) ∙ is ∙ ap (λ z. (at threads z).contender) (sym e)
  | inr ne ↦ ap (λ (u : LiveThread). u.contender) (get_or-set_other threads x y t no_live_thread ne)
]

-- a thread that stays the contender that it is
pub numbered_same : (threads : List LiveThread) (stamps x : ℕ) (t : LiveThread) → AreNumbered threads stamps → x < length threads → t.contender ≡ (at threads x).contender → AreNumbered (slice_set threads x t) stamps
numbered_same threads stamps x t m inside is =
    let same = same_contender threads x t inside is in
    let len = length-set threads x t in record {
      numbered = λ y below. ap (λ (c : Contender). c.thread) (same y) ∙ m.numbered y (omega (arith, below, len));
      stamped = λ y below. subst (λ (c : Contender). (c.stamp < stamps) ⊎ (c.stamp ≡ 2 ^ 63 + y)) (sym (same y)) (m.stamped y (omega (arith, below, len)));
      distinct = λ y z first second e. m.distinct y z (omega (arith, first, len)) (omega (arith, second, len)) (sym (ap (λ (c : Contender). c.stamp) (same y)) ∙ e ∙ ap (λ (c : Contender). c.stamp) (same z));
    }

-- no thread has the next stamp
fresh : (threads : List LiveThread) (stamps y : ℕ) → AreNumbered threads stamps → stamps < 2 ^ 63 → y < length threads → (at threads y).contender.stamp ≢ stamps
fresh threads stamps y m small below e = elim (m.stamped y below) [
  | inl less ↦ omega (arith, less, e)
  | inr is ↦ omega (arith, is, e, small)
]

-- a thread that gets the next stamp
pub numbered_new : (threads : List LiveThread) (stamps x : ℕ) (t : LiveThread) → AreNumbered threads stamps → stamps < 2 ^ 63 → x < length threads
    → t.contender.thread ≡ (at threads x).contender.thread → t.contender.stamp ≡ stamps → AreNumbered (slice_set threads x t) (stamps + 1)
numbered_new threads stamps x t m small inside number is =
    let len = length-set threads x t in record {
      numbered = λ y below. elim (cases_eq y x) [
        | inl e ↦ ap (λ z. (at (slice_set threads x t) z).contender.thread) e ∙ ap (λ (u : LiveThread). u.contender.thread) here ∙ number ∙ m.numbered x inside ∙ sym e
        | inr ne ↦ ap (λ (u : LiveThread). u.contender.thread) (other y ne) ∙ m.numbered y (omega (arith, below, len))
      ];
      stamped = λ y below. elim (cases_eq y x) [
        | inl e ↦ inl (omega (arith, own y e))
        | inr ne ↦ subst (λ (u : LiveThread). (u.contender.stamp < stamps + 1) ⊎ (u.contender.stamp ≡ 2 ^ 63 + y)) (sym (other y ne)) (later y (m.stamped y (omega (arith, below, len))))
      ];
      distinct = λ y z first second e. elim (cases_eq y x) [
        | inl is_y ↦ elim (cases_eq z x) [
          | inl is_z ↦ is_y ∙ sym is_z
          | inr ne ↦ absurd (fresh threads stamps z m small (omega (arith, second, len)) (sym (ap (λ (u : LiveThread). u.contender.stamp) (other z ne)) ∙ sym e ∙ own y is_y))
        ]
        | inr ne ↦ elim (cases_eq z x) [
          | inl is_z ↦ absurd (fresh threads stamps y m small (omega (arith, first, len)) (sym (ap (λ (u : LiveThread). u.contender.stamp) (other y ne)) ∙ e ∙ own z is_z))
          | inr ne' ↦ m.distinct y z (omega (arith, first, len)) (omega (arith, second, len)) (sym (ap (λ (u : LiveThread). u.contender.stamp) (other y ne)) ∙ e ∙ ap (λ (u : LiveThread). u.contender.stamp) (other z ne'))
        ]
      ];
    }
  where
    here : at (slice_set threads x t) x ≡ t
    here = get_or-set_same threads x t no_live_thread inside

    other : (y : ℕ) → y ≢ x → at (slice_set threads x t) y ≡ at threads y
    other y ne = get_or-set_other threads x y t no_live_thread ne

    own : (y : ℕ) → y ≡ x → (at (slice_set threads x t) y).contender.stamp ≡ stamps
    own y e = ap (λ z. (at (slice_set threads x t) z).contender.stamp) e ∙ ap (λ (u : LiveThread). u.contender.stamp) here ∙ is

    later : (y : ℕ) → ((at threads y).contender.stamp < stamps) ⊎ ((at threads y).contender.stamp ≡ 2 ^ 63 + y) → ((at threads y).contender.stamp < stamps + 1) ⊎ ((at threads y).contender.stamp ≡ 2 ^ 63 + y)
    later y (inl less) = inl (omega (arith, less))
    later y (inr same) = inr same

-- ---- stamps that no ready thread has

-- that of a thread that isn't ready
pub free_own : (threads : List LiveThread) (stamps x stamp : ℕ) → AreNumbered threads stamps → x < length threads → is_waking (at threads x).doing ≡ false → stamp ≡ (at threads x).contender.stamp
    → All (IsStampFree stamp) (row_of threads)
free_own threads stamps x stamp m inside out is =
    free_row threads stamp (λ y below waking e. clash (is_waking (at threads x).doing) out (ap (λ z. is_waking (at threads z).doing) (m.distinct x y inside below (sym is ∙ sym e)) ∙ waking))
  where
    clash : (b : Bool) → b ≡ false → b ≡ true → ⊥
    clash b p q = cc

-- the next one
pub free_new : (threads : List LiveThread) (stamps stamp : ℕ) → AreNumbered threads stamps → stamps < 2 ^ 63 → stamp ≡ stamps → All (IsStampFree stamp) (row_of threads)
free_new threads stamps stamp m small is = free_row threads stamp (λ y below waking e. fresh threads stamps y m small below (e ∙ is))

-- ---- who runs

-- a change of a thread that doesn't run there
pub runs_else : (threads : List LiveThread) (x d : ℕ) (t : LiveThread) (pick : Pick) → Runs threads d pick → ((at threads x).doing ≡ Running d → ⊥) → Runs (slice_set threads x t) d pick
runs_else threads x d t pick r apart =
    let ne : pick.thread ≢ x = λ e. apart (ap (λ z. (at threads z).doing) (sym e) ∙ r.running) in record {
      inside = omega (arith, r.inside, length-set threads x t);
      running = ap (λ (u : LiveThread). u.doing) (get_or-set_other threads x pick.thread t no_live_thread ne) ∙ r.running;
    }

abbrev cpu_of : List (Option Pick) → ℕ → Option Pick
cpu_of cpus c = slice_index_or cpus c None

-- a processor let go of its thread
pub runs_released : (threads : List LiveThread) (cpus : List (Option Pick)) (c : ℕ) (pick : Pick) (t : LiveThread)
    → ((d : ℕ) (p : Pick) → cpu_of cpus d ≡ Some p → Runs threads d p) → c < length cpus → cpu_of cpus c ≡ Some pick
    → (d : ℕ) (p : Pick) → cpu_of (slice_set cpus c None) d ≡ Some p → Runs (slice_set threads pick.thread t) d p
runs_released threads cpus c pick t m inside is d p has = elim (cases_eq d c) [
  | inl e ↦ absurd (nothing p (sym (ap (cpu_of (slice_set cpus c None)) e ∙ get_or-set_same cpus c None None inside) ∙ has))
  | inr ne ↦ runs_else threads pick.thread d t p (m d p (sym (get_or-set_other cpus c d None None ne) ∙ has)) (λ run. ne (same_cpu d c (sym run ∙ (m c pick is).running)))
]
  where
    nothing : (p : Pick) → None ≡ Some p → ⊥
    nothing p e = cc

    same_cpu : (d c : ℕ) → Running d ≡ Running c → d ≡ c
    same_cpu d c e = cc

-- a thread that ran nowhere
pub runs_kept : (threads : List LiveThread) (cpus : List (Option Pick)) (x : ℕ) (t : LiveThread)
    → ((d : ℕ) (p : Pick) → cpu_of cpus d ≡ Some p → Runs threads d p) → ((d : ℕ) → (at threads x).doing ≡ Running d → ⊥)
    → (d : ℕ) (p : Pick) → cpu_of cpus d ≡ Some p → Runs (slice_set threads x t) d p
runs_kept threads cpus x t m nowhere d p has = runs_else threads x d t p (m d p has) (nowhere d)

-- a ready thread runs on a processor from now on
pub runs_chosen : (threads : List LiveThread) (cpus : List (Option Pick)) (c : ℕ) (pick : Pick) (t : LiveThread)
    → ((d : ℕ) (p : Pick) → cpu_of cpus d ≡ Some p → Runs threads d p) → c < length cpus → pick.thread < length threads
    → (at threads pick.thread).doing ≡ Ready → t.doing ≡ Running c
    → (d : ℕ) (p : Pick) → cpu_of (slice_set cpus c (Some pick)) d ≡ Some p → Runs (slice_set threads pick.thread t) d p
runs_chosen threads cpus c pick t m there inside ready now d p has = elim (cases_eq d c) [
  | inl e ↦
      let same : pick ≡ p = some_same pick p (sym (ap (cpu_of (slice_set cpus c (Some pick))) e ∙ get_or-set_same cpus c (Some pick) None there) ∙ has) in
      subst (λ (q : Pick). Runs (slice_set threads pick.thread t) d q) same record {
        inside = omega (arith, inside, length-set threads pick.thread t);
        running = ap (λ (u : LiveThread). u.doing) (get_or-set_same threads pick.thread t no_live_thread inside) ∙ now ∙ ap Running (sym e);
      }
  | inr ne ↦ runs_else threads pick.thread d t p (m d p (sym (get_or-set_other cpus c d (Some pick) None ne) ∙ has)) (λ run. not_both d (sym ready ∙ run))
]
  where
    some_same : (a b : Pick) → Some a ≡ Some b → a ≡ b
    some_same a b e = cc

    not_both : (d : ℕ) → Ready ≡ Running d → ⊥
    not_both d e = cc

-- nobody runs on a processor from now on
pub runs_emptied : (threads : List LiveThread) (cpus : List (Option Pick)) (c : ℕ)
    → ((d : ℕ) (p : Pick) → cpu_of cpus d ≡ Some p → Runs threads d p) → c < length cpus
    → (d : ℕ) (p : Pick) → cpu_of (slice_set cpus c None) d ≡ Some p → Runs threads d p
runs_emptied threads cpus c m inside d p has = elim (cases_eq d c) [
  | inl e ↦ absurd (nothing p (sym (ap (cpu_of (slice_set cpus c None)) e ∙ get_or-set_same cpus c None None inside) ∙ has))
  | inr ne ↦ m d p (sym (get_or-set_other cpus c d None None ne) ∙ has)
]
  where
    nothing : (p : Pick) → None ≡ Some p → ⊥
    nothing p e = cc

-- ---- all of it

abbrev stands : List LiveThread → ℕ → List (Option Pick) → LiveState
stands threads stamps cpus = record { threads = threads; stamps = stamps; cpus = cpus }

pub machine_released : (threads : List LiveThread) (stamps : ℕ) (cpus : List (Option Pick)) (seats new : List (Option Contender)) (c : ℕ) (pick : Pick) (t : LiveThread) → IsMachine (stands threads stamps cpus) seats
    → c < length cpus → cpu_of cpus c ≡ Some pick → t.contender ≡ (at threads pick.thread).contender → new ≡ row_of (slice_set threads pick.thread t)
    → IsMachine (stands (slice_set threads pick.thread t) stamps (slice_set cpus c None)) new
machine_released threads stamps cpus seats new c pick t m inside is same row = record {
  row = row;
  few = omega (arith, m.few, length-set threads pick.thread t);
  few_cpus = omega (arith, m.few_cpus, length-set cpus c None);
  numbered = numbered_same threads stamps pick.thread t m.numbered (m.runs c pick is).inside same;
  runs = runs_released threads cpus c pick t m.runs inside is;
}

pub machine_woken : (threads : List LiveThread) (stamps : ℕ) (cpus : List (Option Pick)) (seats new : List (Option Contender)) (x : ℕ) (t : LiveThread) → IsMachine (stands threads stamps cpus) seats
    → x < length threads → stamps < 2 ^ 63 → (at threads x).doing ≡ Waiting → t.contender.thread ≡ (at threads x).contender.thread → t.contender.stamp ≡ stamps → new ≡ row_of (slice_set threads x t)
    → IsMachine (stands (slice_set threads x t) (stamps + 1) cpus) new
machine_woken threads stamps cpus seats new x t m inside small waits number stamp row = record {
  row = row;
  few = omega (arith, m.few, length-set threads x t);
  few_cpus = m.few_cpus;
  numbered = numbered_new threads stamps x t m.numbered small inside number stamp;
  runs = runs_kept threads cpus x t m.runs (λ d run. not_both d (sym waits ∙ run));
}
  where
    not_both : (d : ℕ) → Waiting ≡ Running d → ⊥
    not_both d e = cc

pub machine_chosen : (threads : List LiveThread) (stamps : ℕ) (cpus : List (Option Pick)) (seats new : List (Option Contender)) (c : ℕ) (pick : Pick) (t : LiveThread) → IsMachine (stands threads stamps cpus) seats
    → c < length cpus → pick.thread < length threads → (at threads pick.thread).doing ≡ Ready → t.doing ≡ Running c → t.contender ≡ (at threads pick.thread).contender → new ≡ row_of (slice_set threads pick.thread t)
    → IsMachine (stands (slice_set threads pick.thread t) stamps (slice_set cpus c (Some pick))) new
machine_chosen threads stamps cpus seats new c pick t m there inside ready now same row = record {
  row = row;
  few = omega (arith, m.few, length-set threads pick.thread t);
  few_cpus = omega (arith, m.few_cpus, length-set cpus c (Some pick));
  numbered = numbered_same threads stamps pick.thread t m.numbered inside same;
  runs = runs_chosen threads cpus c pick t m.runs there inside ready now;
}

pub machine_emptied : (threads : List LiveThread) (stamps : ℕ) (cpus : List (Option Pick)) (seats : List (Option Contender)) (c : ℕ) → IsMachine (stands threads stamps cpus) seats → c < length cpus
    → IsMachine (stands threads stamps (slice_set cpus c None)) seats
machine_emptied threads stamps cpus seats c m there = record {
  row = m.row;
  few = m.few;
  few_cpus = omega (arith, m.few_cpus, length-set cpus c None);
  numbered = m.numbered;
  runs = runs_emptied threads cpus c m.runs there;
}
