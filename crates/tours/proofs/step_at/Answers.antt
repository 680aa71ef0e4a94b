-- `tours::step_at` meets its contract.
use Prim.Native.Nat.{suc}
use mathlib.Core.Path.{◌≡◌}
use native.Mathlib.Omega.{arith}
use lib.ListN.{get_or}
use Rattle.walks.specs.Choices.{Way, SetsRise}
use Rattle.tours.proofs.Showing.{chosen_low, shows_none, shows_step}
use Rattle.tours.proofs.step_at.Goals as goal

pub returns-in_err-k-clause-shows : goal.returns-in_err-k-clause-shows
returns-in_err-k-clause-shows c frame e =
    let a = c.args in
    let z : a.cursor.steps ≡ 0 = omega (arith, c.in_err-k.ensures) in
    rw c.from_residual.ensures (shows_none a.letters.now.words.now a.letters.now.count a.back.now frame a.layers.now a.cursor z)

pub returns : goal.returns
returns c =
    let a = c.args in
    let l = a.letters.now in
    let k = c.in_ok-k.k in
    let e : a.cursor.steps ≡ suc k = omega (arith, c.in_ok-k.ensures.0, c.in_ok-k.ensures.1) in record {
      low = chosen_low (SetsRise a.back.now a.force) (get_or a.layers.now k 0) (Way l.words.now l.count a.back.now a.force a.cursor.state) c.first_step.result c.first_step.ensures;
      shows = λ frame is. shows_step l.words.now l.count a.back.now frame a.layers.now a.cursor c.first_step.result k e (rw is c.first_step.ensures);
    }
