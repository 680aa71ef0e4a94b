-- The paragraphs on fresh, reopen, close and round leave no choice: what they say determines the machine after (`fresh_once`, `reopened_once`,
-- `closed_once`), and of a round all but the order in which openings are kept (`rounded_once`). So none of them says less than it should.
use Prim.Native.Nat.{ℕ}
use mathlib.Core.Path.{◌≡◌, refl, ap, sym, ◌∙◌, subst}
use mathlib.Core.Logic.{◌↔◌}
use mathlib.Core.List.{List, map}
use native.Mathlib.Omega.{arith}
use Rattle.lists.specs.Tests.{◌part_of◌}
use Rattle.machine.specs.declared.Verdict.TheVariants.{NonEmpty, Empty}
use Rattle.machine.specs.declared.Phase.{Phase}
use Rattle.machine.specs.declared.Phase.TheVariants.{Open, Running, Settled}
use Rattle.machine.specs.Machine.{Opening, Machine}
use Rattle.machine.specs.Statements.{SomeWalk, FreshMachine, Reopened, Closed, Rounded}
use Rattle.machine.proofs.Second.{same_machine}

abbrev rank : Phase → ℕ
rank Open = 0
rank Running = 1
rank (Settled NonEmpty) = 2
rank (Settled Empty) = 3

-- phases of different rank are no one phase
differ : {p q : Phase} {B : Type 0} → p ≡ q → ¬ (rank p ≡ rank q) → B
differ e n = absurd (n (ap rank e))

pub fresh_once : (m m' : Machine) → FreshMachine m → FreshMachine m' → m ≡ m'
fresh_once m m' f g = same_machine m m' (f.rows ∙ sym g.rows) (f.phase ∙ sym g.phase) (f.none ∙ sym g.none) (f.count ∙ sym g.count)

pub reopened_once : (m a b : Machine) → Reopened m a → Reopened m b → a ≡ b
reopened_once m a b f g = same_machine a b (f.rows ∙ sym g.rows) (f.phase ∙ sym g.phase) (f.none ∙ sym g.none) (f.count ∙ sym g.count)

-- two phases that say the same of one statement: non-empty where it holds, running where it does not
close_phase : {A : Type 0} (p q : Phase) → ((p ≡ Settled NonEmpty) ↔ A) → ((p ≡ Running) ↔ (¬ A)) → ((q ≡ Settled NonEmpty) ↔ A) → ((q ≡ Running) ↔ (¬ A)) → p ≡ q
close_phase {A} p q f g h i = by p f g
  where
    by : (p : Phase) → ((p ≡ Settled NonEmpty) ↔ A) → ((p ≡ Running) ↔ (¬ A)) → p ≡ q
    by Open f g = differ (g.1 (λ a. differ (f.1 a) (λ e. omega arith))) (λ e. omega arith)
    by Running f g = sym (i.1 (g.0 refl))
    by (Settled NonEmpty) f g = sym (h.1 (f.0 refl))
    by (Settled Empty) f g = differ (g.1 (λ a. differ (f.1 a) (λ e. omega arith))) (λ e. omega arith)

pub closed_once : (m a b : Machine) → Closed m a → Closed m b → a ≡ b
closed_once m a b f g = same_machine a b (f.rows ∙ sym g.rows) (close_phase a.phase b.phase f.non_empty f.running g.non_empty g.running)
    (f.none ∙ sym g.none) (f.count ∙ sym g.count)

-- of a round: settled non-empty where A holds, settled empty where it does not and B does, running where neither does
round_phase : {A B : Type 0} (p q : Phase) → ((p ≡ Settled NonEmpty) ↔ A) → ((p ≡ Settled Empty) ↔ ((¬ A) × B)) → ((p ≡ Running) ↔ ((¬ A) × (¬ B)))
    → ((q ≡ Settled NonEmpty) ↔ A) → ((q ≡ Settled Empty) ↔ ((¬ A) × B)) → ((q ≡ Running) ↔ ((¬ A) × (¬ B))) → p ≡ q
round_phase {A} {B} p q f g h i j k = by p f g h
  where
    by : (p : Phase) → ((p ≡ Settled NonEmpty) ↔ A) → ((p ≡ Settled Empty) ↔ ((¬ A) × B)) → ((p ≡ Running) ↔ ((¬ A) × (¬ B))) → p ≡ q
    by Open f g h = let n : ¬ A = λ a. differ (f.1 a) (λ e. omega arith) in
        differ (h.1 (n, λ b. differ (g.1 (n, b)) (λ e. omega arith))) (λ e. omega arith)
    by Running f g h = sym (k.1 (h.0 refl))
    by (Settled NonEmpty) f g h = sym (i.1 (f.0 refl))
    by (Settled Empty) f g h = sym (j.1 (g.0 refl))

-- the same openings as a set; and where they are kept in one order, the same machine
module _ (m a b : Machine) (f : Rounded m a) (g : Rounded m b) where
  abbrev Some : List Opening → Type 0
  Some l = SomeWalk m.rows (map (λ (o : Opening). o.claim) l)

  phases : a.openings ≡ b.openings → a.phase ≡ b.phase
  phases e = round_phase a.phase b.phase f.non_empty f.empty f.running
      (subst (λ (l : List Opening). (b.phase ≡ Settled NonEmpty) ↔ Some l) (sym e) g.non_empty)
      (subst (λ (l : List Opening). (b.phase ≡ Settled Empty) ↔ ((¬ Some l) × (l ≡ m.openings))) (sym e) g.empty)
      (subst (λ (l : List Opening). (b.phase ≡ Running) ↔ ((¬ Some l) × (¬ (l ≡ m.openings)))) (sym e) g.running)

  pub rounded_once : (a.openings part_of b.openings) × (a.openings ≡ b.openings → a ≡ b)
  rounded_once = ((λ o i. (g.opens o).1 ((f.opens o).0 i)), λ e. same_machine a b (f.rows ∙ sym g.rows) (phases e) e (f.count ∙ sym g.count))
