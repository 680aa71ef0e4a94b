-- `tours::onward` meets its contract.
use native.Mathlib.Omega.{arith}
use Rattle.std.specs.Prelude.{Some}
use Rattle.tours.proofs.Coming.{comes_later, comes_none}
use Rattle.tours.proofs.onward.Goals as goal

pub returns-then-later-ne0 : goal.returns-then-later-ne0
returns-then-later-ne0 c =
    let a = c.args in
    let e = c.lead-then-later-ne0.ensures in
    record {
      fewer = omega (arith, e.fewer);
      comes = comes_later a.back.now a.frame _ a.before a.state a.rest a.later (Some c.lead-then-later-ne0.result) c.if-rest-ne0.false e.comes;
    }

pub returns : goal.returns
returns c =
    let a = c.args in
    record { fewer = omega arith; comes = comes_none a.back.now a.frame a.layers.now a.before a.state a.rest a.later c.if-rest-ne0.false c.if-later-ne0.false }
