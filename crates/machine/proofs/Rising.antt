-- Request C-22: on every machine that calls make, the verdict by rising size is that of the rounds (`verdict_number`, `every_verdict`).
use Prim.Native.Nat.{ℕ}
use mathlib.Core.Path.{◌≡◌, refl, ap, sym, ◌∙◌}
use mathlib.Core.Bool.{Bool, true, false, cond}
use mathlib.Core.Logic.{◌↔◌}
use mathlib.Core.List.{List}
use native.Mathlib.Omega.{arith}
use Rattle.lists.specs.Tests.{Decides}
use Rattle.lists.proofs.Deciding.{yes_decides, no_decides}
use Rattle.rows.specs.declared.Row.{Row}
use Rattle.rows.specs.Rows.{AllFit}
use Rattle.orderings.specs.Systems.{Accepts}
use Rattle.orderings.specs.Timelines.{timelines}
use Rattle.orderings.specs.Rising.{rising?}
use Rattle.orderings.proofs.Rising.{rising_decides}
use Rattle.machine.specs.declared.Verdict.{Verdict}
use Rattle.machine.specs.declared.Verdict.TheVariants.{NonEmpty, Empty}
use Rattle.machine.specs.declared.Phase.TheVariants.{Settled}
use Rattle.machine.specs.Machine.{Machine}
use Rattle.machine.specs.Calls.{verdict, decided, Next, verdict_of, call, second}
use Rattle.machine.specs.WellFormed.{WellFormed}
use Rattle.machine.specs.Statements.{after_calls, Number, VerdictOfRounds, EveryVerdict}
use Rattle.machine.proofs.Outcomes.{deciding}
use Rattle.machine.proofs.Marks.{calls_formed}
use Rattle.machine.proofs.Statements.{settled_number}
use Rattle.machine.proofs.Second.{second_works}

module _ (rows : List Row) (fit : AllFit rows) where
  -- non-empty exactly when some finite derivation accepts
  verdict_accepts : (verdict_of rows ≡ NonEmpty) ↔ Accepts (timelines rows)
  unfolding verdict_of
  verdict_accepts = by (rising? rows) (rising_decides rows fit)
    where
      by : (b : Bool) → Decides b (Accepts (timelines rows)) → (cond b NonEmpty Empty ≡ NonEmpty) ↔ Accepts (timelines rows)
      by true d = ((λ e. yes_decides d), λ a. refl)
      by false d = ((λ e. let z : ◌≡◌ {A = ℕ} 0 1 = cc in absurd (omega arith)), λ a. absurd (no_decides d a))

  -- the verdict that the demands name
  pub verdict_number : (v : Verdict) (k : ℕ) → Number rows v k → verdict_of rows ≡ v
  verdict_number NonEmpty k n = verdict_accepts.1 n.0
  verdict_number Empty k n = by (verdict_of rows) verdict_accepts.0
    where
      by : (v : Verdict) → (v ≡ NonEmpty → Accepts (timelines rows)) → v ≡ Empty
      by NonEmpty f = absurd (n.0 (f refl))
      by Empty f = refl

module _ (m : Machine) (w : WellFormed m) where
  answer_is : (call m verdict).answer ≡ decided (verdict_of m.rows)
  answer_is = ap (λ (x : Next). x.answer) (deciding m)

  -- the second machine settles with it
  second_settles : (second m.rows).phase ≡ Settled (verdict_of m.rows)
  second_settles = let s = (second_works m.rows w.table).works in
      s.settled ∙ ap Settled (sym (verdict_number m.rows w.table.fit s.verdict (second m.rows).rounds s.number))

  pub verdict_of_rounds : VerdictOfRounds m
  verdict_of_rounds = record {
    answers = (verdict_of m.rows, answer_is);
    kept = ap (λ (x : Next). x.machine) (deciding m);
    by_rounds = λ v. ((λ e. let i = answer_is in let s = second_settles in cc), λ e. let i = answer_is in let s = second_settles in cc);
    own = λ v e. answer_is ∙ ap decided (verdict_number m.rows w.table.fit v m.rounds (settled_number m w v e).0);
    meaning = (
      (λ e. (verdict_accepts m.rows w.table.fit).0 (let i = answer_is in cc)),
      λ a. answer_is ∙ ap decided ((verdict_accepts m.rows w.table.fit).1 a),
    );
  }

pub every_verdict : EveryVerdict
every_verdict cs b = verdict_of_rounds (after_calls cs) (calls_formed cs b)
