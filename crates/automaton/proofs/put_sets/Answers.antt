-- `put_sets` meets its contract: the sets are copied into their part.
use native.Mathlib.Omega.{arith}
use Rattle.automaton.proofs.Adding.{sets_put}
use Rattle.automaton.proofs.put_sets.Goals as goal

pub returns : goal.returns
returns c e = rw c.write_over.ensures.after (sets_put c.args.graph.now c.args.sets.now _ e (omega arith) c.requires)
