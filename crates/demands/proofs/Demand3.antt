-- Demand 3, at one print and at every one.
use Prim.Native.Nat.{ℕ, ◌≤◌}
use mathlib.Core.Path.{◌≡◌, refl, ap, sym, ◌∙◌}
use mathlib.Core.List.{List, ◌++◌}
use lib.ListN.{length, drop}
use native.Mathlib.Omega.{arith}
use Rattle.machine.specs.Calls.{Answer}
use Rattle.machine.specs.declared.Verdict.{Verdict}
use Rattle.machine.specs.declared.Phase.TheVariants.{Settled}
use Rattle.machine.specs.Machine.{Machine}
use Rattle.machine.specs.Sheet.{sheet}
use Rattle.machine.specs.Calls.{verdict, print, Outcome, done, wrote, decided, refused, call, second, buffer_after}
use Rattle.machine.specs.WellFormed.{WellFormed}
use Rattle.machine.specs.Marks.{Marked, marked_call}
use Rattle.machine.proofs.Answers.{answer_of, answer_by}
use Rattle.machine.proofs.Second.{second_works}
use Rattle.machine.proofs.Outcomes.{Done, comes}
use Rattle.machine.proofs.Statements.{settled_number, second_is, print_accepts, prints}
use Rattle.session.specs.declared.Session.{Session}
use Rattle.session.specs.Record.{Represents}
use Rattle.session.proofs.Whole.{phase_of, rounds_count}
use Rattle.demands.specs.Trace.{plain_after}
use Rattle.demands.specs.Demands.{ExactPrint, Counted, Demand3}
use Rattle.demands.proofs.Reached.{told, step, reached}

-- a print is never just done, and gives no verdict alone
never_done : (m : Machine) {m' : Machine} {size : ℕ} → Done m (print size) m' → ⊥
never_done m = elim [ ]

never_decides : {size : ℕ} → print size ≡ verdict → ⊥
never_decides e = let z : ◌≡◌ {A = ℕ} 0 1 = cc in omega arith

module _ (m : Machine) (w : WellFormed m) where
  -- the second machine prints its sheet
  second_prints : (v : Verdict) (size : ℕ) → m.phase ≡ Settled v → length (sheet v (second m.rows)) ≤ size
      → (call (second m.rows) (print size)).answer ≡ wrote (sheet v (second m.rows))
  second_prints v size e = rw (second_is m w v e) (print_accepts m w size v e)

  at_print : (old new : List ℕ) (a : Outcome) (b : Answer) → (call m (print (length old))).answer ≡ a → b ≡ answer_of a → new ≡ buffer_after a old → ExactPrint m old new b
  at_print old new done b e i j = absurd (never_done m (comes m (print (length old)) done e))
  at_print old new (wrote l) b e i j = let p = prints m w (length old) in let h = (p.accepted l).0 e in
      record {
        accepted = ((λ x. (h.0, h.1, omega (arith, h.3, ap length h.2))), λ x. (length l, i));
        exact = λ n v x y. let f : v ≡ h.0 = cc h.1 in let g : n ≡ length l = cc in let k : l ≡ sheet v (second m.rows) = rw f h.2 in
            (g ∙ ap length k, rw g (j ∙ ap (λ (t : List ℕ). t ++ drop (length l) old) k));
        sheet_is = second_prints;
        kept = λ x. absurd (x (length l, i));
        worked = second_works m.rows w.table;
        numbered = p.numbered;
      }
  at_print old new (decided v) b e i j = absurd (never_decides (comes m (print (length old)) (decided v) e).1)
  at_print old new (refused n place) b e i j = let p = prints m w (length old) in
      record {
        accepted = (
          (λ x. let k = x.1 in let z : ◌≡◌ {A = ℕ} 0 1 = cc in absurd (omega arith)),
          λ x. let k = (p.accepted (sheet x.0 (second m.rows))).1 (x.0, x.1, refl, x.2) in let z : ◌≡◌ {A = ℕ} 0 1 = cc in absurd (omega arith),
        );
        exact = λ k v x y. let z : ◌≡◌ {A = ℕ} 0 1 = cc in absurd (omega arith);
        sheet_is = second_prints;
        kept = λ x. j;
        worked = second_works m.rows w.table;
        numbered = p.numbered;
      }

-- the record has the machine's phase and count
counted : (x : Marked) (s : Session) → Represents x s → Counted x.now s
counted x s h v e =
    let f : x.now.phase ≡ Settled v = sym (phase_of x s h) ∙ e in
    let n = settled_number x.now h.formed.now_formed v f in
    (f, rw (rounds_count x s h) n.0, rw (rounds_count x s h) n.1)

pub demand_3 : Demand3
demand_3 = record {
  prints = λ s f es t before later e i size j. let m = (plain_after before).now in let h = reached s f es t before later e i in let k = told h print (λ n. refl) size j in
      at_print m h.record_is.formed.now_formed e.old e.new (call m (print (length e.old))).answer e.reply.answer refl (answer_by k) k.buffer_is;
  counts = λ s f es t before later e i. counted (marked_call (plain_after before) e.asked).machine e.reply.session (step (reached s f es t before later e i));
}
