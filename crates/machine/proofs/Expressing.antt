-- Request C-12 at every call of expression of every list of calls (`every_expression`).
use Prim.Native.Nat.{ℕ}
use mathlib.Core.Path.{◌≡◌, refl, ap, sym, ◌∙◌, subst}
use mathlib.Core.Option.{Option, some}
use mathlib.Core.List.{List, ◌++◌}
use lib.ListN.{length}
use native.Mathlib.Omega.{arith}
use Rattle.lists.specs.Tests.{gather}
use Rattle.machine.specs.declared.Verdict.TheVariants.{NonEmpty, Empty}
use Rattle.machine.specs.declared.Phase.{Phase}
use Rattle.machine.specs.declared.Phase.TheVariants.{Open, Running, Settled}
use Rattle.machine.specs.Machine.{Machine, open_claims}
use Rattle.machine.specs.Order.{Found}
use Rattle.machine.specs.Sheet.{verdict_line, opening_line, walk_lines, sheet}
use Rattle.machine.specs.Word.{TellsWalk}
use Rattle.machine.specs.Expression.{expression_of}
use Rattle.machine.specs.Calls.{expression, wrote, refused, call_in, call}
use Rattle.machine.specs.Causes.{expressing, to_express, Writes, expresses, Cause, still_open, still_running, short_buffer, verdict_empty}
use Rattle.machine.specs.WellFormed.{WellFormed}
use Rattle.machine.specs.Statements.{after_calls, Expresses, EveryExpression}
use Rattle.machine.proofs.Outcomes.{comes, fitting}
use Rattle.machine.proofs.Causes.{refusals}
use Rattle.machine.proofs.Marks.{calls_formed}
use Rattle.machine.proofs.Statements.{printed_walk}
use Rattle.machine.proofs.Walks.{best_unique}
use Rattle.machine.proofs.Telling.{tells}
use Rattle.machine.proofs.Determined.{tells_one}
use Rattle.machine.proofs.Letters.{letters_written, told_depth}

-- what a machine writes for the call
expression_writes : (m : Machine) {size k : ℕ} {l : List ℕ} → Writes m (expression size) l k → (m.phase ≡ Settled NonEmpty) × (l ≡ expression_of m) × (k ≡ size)
expression_writes m (expresses size e) = (e, refl, refl)

module _ (m : Machine) (w : WellFormed m) where
  -- only the machine's expression tells its walk
  told_is : m.phase ≡ Settled NonEmpty → (l : List ℕ) → TellsWalk m l → l ≡ expression_of m
  told_is e l t = tells_one m l (expression_of m) t (tells m w e)

  on_sheet : m.phase ≡ Settled NonEmpty → (l : List ℕ) (t : TellsWalk m l)
      → sheet NonEmpty m ≡ verdict_line NonEmpty m.rounds ++ (gather opening_line m.openings ++ walk_lines (some t.told))
  unfolding sheet
  on_sheet e l t = let p = printed_walk m w e in let i = best_unique m.rows (open_claims m) p.0 t.told p.2 t.best in
      ap (λ (o : Option Found). verdict_line NonEmpty m.rounds ++ (gather opening_line m.openings ++ walk_lines o)) (p.1 ∙ ap some i)

  module _ (size : ℕ) where
    stays : (p : Phase) → (call_in p m (expression size)).machine ≡ m
    unfolding call_in
    stays Open = refl
    stays Running = refl
    stays (Settled NonEmpty) = refl
    stays (Settled Empty) = refl

    refuses : (n : ℕ) → Cause m (expression size) n 0 → (call m (expression size)).answer ≡ refused n 0
    refuses n c = (refusals m (expression size) n 0 w.table tt).1 c

    pub expressed : Expresses m size
    expressed = record {
      accepted = λ l. (
        (λ e. let c = comes m (expression size) (wrote l) e in let p = expression_writes m c.2 in
            (p.0, subst (TellsWalk m) (sym p.1) (tells m w p.0), omega (arith, c.3, p.2))),
        λ h. let i = told_is h.0 l h.1 in fitting m (expresses size h.0) (omega (arith, h.2, ap length i)) ∙ ap wrote (sym i),
      );
      some_bytes = λ e. (expression_of m, tells m w e);
      one = tells_one m;
      of_the_sheet = on_sheet;
      deep = λ e l t. told_depth m l t w e;
      letters = letters_written m;
      when_open = λ e. refuses 9 (still_open (expression size) (expressing size) e);
      when_running = λ e. refuses 11 (still_running (expression size) (to_express size) e);
      when_empty = λ e. refuses 17 (verdict_empty size e);
      too_short = λ e l t s. refuses 12 (short_buffer (expression size) (expression_of m) size (expresses size e) (omega (arith, s, ap length (told_is e l t))));
      unchanged = stays m.phase;
    }

pub every_expression : EveryExpression
every_expression cs b size = expressed (after_calls cs) (calls_formed cs b) size
