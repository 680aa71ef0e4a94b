-- `ranged` meets its contract: foreign where a count is beyond its array, else in its phase.
use mathlib.Core.Path.{refl}
use native.Mathlib.Omega.{arith}
use Rattle.session.proofs.Session.ranged.Goals as goal

pub returns-then-self-gt-MOST_ROWS : goal.returns-then-self-gt-MOST_ROWS
returns-then-self-gt-MOST_ROWS c = (λ g. omega (arith, g.few), refl)

pub returns-then-self-gt-MOST_SETS : goal.returns-then-self-gt-MOST_SETS
returns-then-self-gt-MOST_SETS c = (λ g. omega (arith, g.few_sets), refl)

pub returns-then-self-gt-MOST_MARKS : goal.returns-then-self-gt-MOST_MARKS
returns-then-self-gt-MOST_MARKS c = (λ g. omega (arith, g.few_marks), refl)

pub returns-then-self-most_done : goal.returns-then-self-most_done
returns-then-self-most_done c = (λ g. omega (arith, g.few_rounds), refl)
