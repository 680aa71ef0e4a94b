-- `finish` meets its contract: where the first round opens nothing, and else phase by phase.
use mathlib.Core.Path.{refl}
use lib.ListN.{length}
use Rattle.causes.specs.declared.Cause.TheVariants.{StillOpen, StillRunning}
use Rattle.machine.specs.declared.Phase.TheVariants.{Open, Running}
use Rattle.machine.specs.declared.Verdict.TheVariants.{Empty}
use Rattle.machine.specs.Calls.{print}
use Rattle.machine.specs.Causes.{printing, to_print}
use Rattle.machine.proofs.Phases.{open_refuses, running_refuses}
use Rattle.rounds.specs.Promises.{vain}
use Rattle.checker.proofs.Finishing.{not_settled, is_printed}
use Rattle.checker.proofs.Loaded.finish.Goals as goal

pub returns-then-is_vain : goal.returns-then-is_vain
returns-then-is_vain c rows h =
    let s = c.args.self.now in
    is_printed h vain (c.is_vain.ensures.vain c.if-is_vain.true) Empty refl c.args.buffer.now c.print_vain.new.buffer c.print_vain.result
    (c.print_vain.ensures s.letters.now s.parts.letter_count s.parts.set_count s.graph.now s.parts.points s.few_sets)

pub returns-in-Open : goal.returns-in-Open
returns-in-Open c rows h =
    let old = c.args.buffer.now in
    rw c.refused.ensures
    (not_settled h c.settle-done.result c.settle-done.ensures Open StillOpen (print (length old)) old c.in-Open.is (open_refuses (printing (length old))))

pub returns-in-Running : goal.returns-in-Running
returns-in-Running c rows h =
    let old = c.args.buffer.now in
    rw c.refused-in-Running.ensures
    (not_settled h c.settle-done.result c.settle-done.ensures Running StillRunning (print (length old)) old c.in-Running.is (running_refuses (to_print (length old))))

pub returns-in-Settled : goal.returns-in-Settled
returns-in-Settled c rows h =
    is_printed h c.settle-done.result c.settle-done.ensures c.in-Settled.v c.in-Settled.is c.args.buffer.now c.print.new.buffer c.print.result
    (rw c.new-both.ensures at c.print.ensures)
