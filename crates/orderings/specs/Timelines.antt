-- Document 01's steps and claims, as a system.
use Rattle.std.specs.Prelude.{ℕ, ◌≡◌, List}
use Rattle.std.proofs.Math.Decide.{ℕ_discrete}
use Rattle.lists.specs.Tests.{◌among◌}
use Rattle.rows.specs.declared.Row.{Row}
use Rattle.rows.specs.declared.Row.TheVariants.{Initial, Final}
use Rattle.rows.specs.Rows.{SetOf}
use Rattle.orderings.specs.Steps.{Claim, Claim-discrete, set_of, Step, Struck, Possible, needs, Walk, Leads}
use Rattle.orderings.specs.Claims.{Says}
use Rattle.orderings.specs.Systems.{System}

abbrev pub same : (c d : Claim) → Dec (c ≡ d)
same c d = Claim-discrete ℕ_discrete c d

-- the state is initial; request C-18: a struck one is not
abbrev pub IsInitial : List Row → ℕ → Type 0
IsInitial rows s = Initial s among rows × ¬ Struck rows s

-- the state is final; nor is a struck one
abbrev pub IsFinal : List Row → ℕ → Type 0
IsFinal rows s = Final s among rows × ¬ Struck rows s

-- a walk of zero or more steps from an initial to a final state
abbrev pub Accepting : List Row → Walk → Type 0
Accepting rows w = (a : ℕ) × (b : ℕ) × IsInitial rows a × IsFinal rows b × Leads a w b

-- a claim is about a set of a standing row
abbrev pub timelines : List Row → System
timelines rows =
    record {
      Claim = Claim;
      Step = Step;
      same = same;
      Subject = λ c. SetOf rows (set_of c);
      Possible = λ t. Possible rows t.from t.label t.to;
      needs = λ t. needs t.label;
      IsWalk = λ w. (a : ℕ) × (b : ℕ) × Leads a w b;
      Accepting = Accepting rows;
      Says = Says rows;
    }
