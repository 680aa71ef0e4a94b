-- `tours::advance` meets its contract.
use mathlib.Core.Path.{refl}
use native.Mathlib.Omega.{arith}
use Rattle.tours.proofs.Standing.{advances_more, advances_last}
use Rattle.tours.proofs.advance.Goals as goal

pub returns-then-cursor-gt1 : goal.returns-then-cursor-gt1
returns-then-cursor-gt1 c =
    let a = c.args in
    record {
      fewer = omega (arith, c.if-cursor-gt1.true);
      advances = advances_more a.back.now a.frame _ a.cursor a.to _ (refl, refl, refl, refl, refl, refl) c.if-cursor-gt1.true;
    }

pub returns : goal.returns
returns c =
    let a = c.args in
    let e = c.onward.ensures in
    record {
      fewer = omega (arith, e.fewer);
      advances = advances_last a.back.now a.frame _ a.cursor a.to _ c.onward.result c.between_legs.result c.if-cursor-gt1.false c.between_legs.ensures e.comes;
    }
