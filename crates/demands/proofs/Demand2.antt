-- Demand 2, at one print and one save and at every one.
use Prim.Native.Nat.{ℕ}
use mathlib.Core.Path.{◌≡◌, refl, ap, sym, ◌∙◌, subst}
use mathlib.Core.Logic.{◌↔◌}
use mathlib.Core.Option.{Option}
use mathlib.Core.List.{List, ◌++◌}
use lib.ListN.{length, take, drop}
use native.Mathlib.Omega.{arith}
use Rattle.lists.specs.Tests.{◌among◌, gather}
use Rattle.rows.specs.declared.Row.{Row}
use Rattle.orderings.specs.Steps.{Claim}
use Rattle.orderings.specs.Rounds.{OpenBy}
use Rattle.orderings.specs.Systems.{Derivation, Valid, AcceptedIn, Accepts}
use Rattle.orderings.specs.Timelines.{timelines}
use Rattle.orderings.proofs.Walks.{allowed_more}
use Rattle.orderings.proofs.Depths.{accepted_iff_depth}
use Rattle.orderings.proofs.Timelines.{lawful}
use Rattle.machine.specs.Calls.{Answer}
use Rattle.machine.specs.declared.Verdict.{Verdict}
use Rattle.machine.specs.declared.Verdict.TheVariants.{NonEmpty, Empty}
use Rattle.machine.specs.declared.Phase.TheVariants.{Settled}
use Rattle.machine.specs.Machine.{Machine, fresh, open_with, open_claims}
use Rattle.machine.specs.Order.{Found, Candidate}
use Rattle.machine.specs.Sheet.{verdict_line, opening_line, walk_lines, sheet}
use Rattle.machine.specs.Calls.{load, print, save, Outcome, wrote, returned, Next, accept, saved, call, buffer_after, Tells}
use Rattle.machine.specs.Marks.{unmarked, fresh_marked, marked_call}
use Rattle.machine.specs.WellFormed.{Worked, Made, WellFormed}
use Rattle.machine.specs.Statements.{Number}
use Rattle.machine.proofs.Answers.{answer_of, answer_by, wrote_by, text_by}
use Rattle.machine.proofs.Settling.{after_after}
use Rattle.machine.proofs.Loading.{loads_back, saves}
use Rattle.machine.proofs.Statements.{settled_number, second_is, settled_listed, prints, printed_walk}
use Rattle.session.specs.Record.{record_of}
use Rattle.demands.specs.Trace.{plain_after}
use Rattle.demands.specs.Demands.{Walked, TrueSheet, PrintsTrue, SavesRows, Demand2}
use Rattle.demands.proofs.Reached.{told, fresh_is, reached}

-- the text in the buffer
pub written : (a : Outcome) (old new l text : List ℕ) (n : ℕ) → new ≡ buffer_after a old → a ≡ wrote l → n ≡ length l → l ≡ text → new ≡ text ++ drop n old
written a old new l text n j e i k = j ∙ ap (λ (x : Outcome). buffer_after x old) e ∙ cc

-- the verdict of the number
verdict_accepts : (rows : List Row) (v : Verdict) (k : ℕ) → Number rows v k → (v ≡ NonEmpty) ↔ Accepts (timelines rows)
verdict_accepts rows NonEmpty k n = ((λ e. n.0), λ h. refl)
verdict_accepts rows Empty k n = ((λ e. let z : ◌≡◌ {A = ℕ} 0 1 = cc in absurd (omega arith)), λ h. absurd (n.0 h))

module _ (m : Machine) (w : WellFormed m) where
  worked : (v : Verdict) → m.phase ≡ Settled v → Worked m
  worked v e = subst (Made m) e w.made

  -- a walk with openings of the machine is a walk of some derivation
  derived : Worked m → (f : Found) → Candidate m.rows (open_claims m) f
      → (D : Derivation (timelines m.rows)) × Valid (timelines m.rows) D × AcceptedIn (timelines m.rows) D f.walk
  derived k f c = let S = timelines m.rows in
      let opened : (x : Claim) → x among open_claims m → OpenBy S k.0 x = λ x i. ((after_after m.rows k.0).claims x).0 (subst (λ (y : Machine). x among open_claims y) k.1 i) in
      let d = (accepted_iff_depth S (lawful m.rows) k.0 f.walk).0
      ((f.start, c.1.0, c.0, c.1.1, c.1.2), allowed_more S opened f.walk c.2) in
      (d.0, d.1, d.2)

  walked : m.phase ≡ Settled NonEmpty → (f : Found) × Walked m f
  unfolding sheet
  walked e = let p = printed_walk m w e in (
    p.0,
    record {
      found = p.1;
      lines = ap (λ (o : Option Found). verdict_line NonEmpty m.rounds ++ (gather opening_line m.openings ++ walk_lines o)) p.1;
      derived = derived (worked NonEmpty e) p.0 p.2.is;
      best = p.2;
    },
  )

  true_sheet : (v : Verdict) → m.phase ≡ Settled v → TrueSheet m v
  true_sheet v e = record {
    settled = e;
    verdict = verdict_accepts m.rows v m.rounds (settled_number m w v e).0;
    listed = settled_listed m w v e;
    walked = λ i. walked (e ∙ ap Settled i);
  }

  prints_true : (old new : List ℕ) (a : Answer) → Tells (call m (print (length old))).answer old new a → PrintsTrue m old new a
  prints_true old new a t n e = let o = (call m (print (length old))).answer in let l = wrote_by o n (sym t.answer_is ∙ ap returned e) in
      let h = ((prints m w (length old)).accepted l.0).0 l.1 in
      let k : l.0 ≡ sheet h.0 m = h.2 ∙ ap (sheet h.0) (second_is m w h.0 h.1) in
      (h.0, written o old new l.0 (sheet h.0 m) n t.buffer_is l.1 l.2 k, true_sheet h.0 h.1)

  saves_rows : (old new : List ℕ) (a : Answer) → Tells (call m (save (length old))).answer old new a → SavesRows m old new a
  unfolding marked_call
  saves_rows old new a t n e = (
    bytes,
    λ s r f k.
        let q : call fresh (load (take n new)) ≡ accept (open_with m.rows) = ap (λ (x : List ℕ). call fresh (load x)) bytes ∙ loads_back m w.table in
        let d = k fresh_marked (fresh_is s f) in
        (answer_by d.tells ∙ ap (λ (x : Next). answer_of x.answer) q, d.session_is ∙ ap (λ (x : Next). record_of (unmarked x.machine)) q),
  )
    where
      bytes : take n new ≡ saved m
      bytes = let l = text_by t n e in l.3 ∙ (saves m w.table (length old) l.0 l.1).sorted

pub demand_2 : Demand2
demand_2 = record {
  prints = λ s f es t before later e i size j. let h = reached s f es t before later e i in
      prints_true (plain_after before).now h.record_is.formed.now_formed e.old e.new e.reply.answer (told h print (λ n. refl) size j);
  saves = λ s f es t before later e i size j. let h = reached s f es t before later e i in
      saves_rows (plain_after before).now h.record_is.formed.now_formed e.old e.new e.reply.answer (told h save (λ n. refl) size j);
}
