-- `leave_out` meets its contract. The loop's invariant: struck states are left out of the first i masks.
use Prim.Native.Nat.{◌<◌}
use mathlib.Core.Path.{◌≡◌}
use native.Mathlib.Omega.{arith}
use Rattle.automaton.proofs.Striking.{leave_none, leave_more}
use Rattle.automaton.proofs.leave_out.Goals as goal

pub loop-i-init : goal.loop-i-init
loop-i-init c = leave_none _ _ _ _

pub loop-i-preserved : goal.loop-i-preserved
loop-i-preserved c =
    let few : c.loop-i.i < 64 = omega (arith, c.requires.1) in
    leave_more c.args.graph.now c.args.base c.args.gone c.args.struck c.loop-i.i c.loop-i.graph c.remaining.result c.requires.0 few
    c.loop-i.invariant (rw c.has.ensures at c.remaining.ensures)

pub returns : goal.returns
returns c = let e : c.loop-i.i ≡ c.args.count = omega arith in rw e at c.loop-i.invariant
