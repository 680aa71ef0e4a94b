-- `tours::lead` meets its contract.
use Prim.Native.Nat.{◌^◌, ◌<◌}
use mathlib.Core.Path.{refl}
use native.Mathlib.Omega.{arith}
use Rattle.masks.proofs.Leaving.{taken_less}
use Rattle.tours.proofs.Coming.{comes_lead}
use Rattle.tours.proofs.lead.Goals as goal

pub returns : goal.returns
returns c =
    let a = c.args in
    let t = c.take_lowest-next in
    let leg = c.leg_of-leg in
    let fits : t.result.rest < 2 ^ 64 = omega arith in
    record {
      fewer = omega (arith, taken_less a.rest t.result.low t.result.rest fits t.ensures, leg.result.few);
      comes = comes_lead a.back.now a.frame _ a.before a.state a.rest a.later t.result.low t.result.rest leg.result _ (refl, refl, refl, refl, refl, refl) t.ensures fits leg.ensures;
    }
