-- `search::graphs::copy` meets its contract.
use Prim.Native.Nat.{◌+◌, ◌-◌}
use mathlib.Core.Path.{◌≡◌}
use lib.ListN.{drop, length-drop}
use lib.Seq.{length-take-le}
use native.Mathlib.Omega.{arith}
use Rattle.search.specs.Graph.{part}
use Rattle.search.proofs.Incidence.{fills}
use Rattle.search.proofs.graphs.copy.Goals as goal

pub returns : goal.returns
unfolding part
returns c =
    let a = c.args in
    let all : a.from + 64 - a.from ≡ 64 = omega arith in
    rw (c.write_over.ensures.after, all)
    (fills a.back.now a.base _ (part a.masks.now a.from) (omega arith) c.requires.0 (omega arith)
    (length-take-le 64 (drop a.from a.masks.now) (omega (arith, length-drop a.from a.masks.now))))
