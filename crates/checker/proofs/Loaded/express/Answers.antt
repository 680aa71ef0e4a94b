-- `express` meets its contract: where the first round opens nothing, and else phase by phase and by verdict.
use mathlib.Core.Path.{refl, ap, ◌∙◌}
use lib.ListN.{length}
use Rattle.causes.specs.declared.Cause.TheVariants.{StillOpen, StillRunning}
use Rattle.machine.specs.declared.Phase.TheVariants.{Open, Running, Settled}
use Rattle.machine.specs.Calls.{expression}
use Rattle.machine.specs.Causes.{expressing, to_express}
use Rattle.machine.proofs.Phases.{open_refuses, running_refuses}
use Rattle.rounds.specs.Promises.{vain}
use Rattle.checker.proofs.Finishing.{not_settled, is_expressed, none_expressed}
use Rattle.checker.proofs.Loaded.express.Goals as goal

pub returns-then-is_vain : goal.returns-then-is_vain
returns-then-is_vain c rows h = rw c.refused.ensures (none_expressed h vain (c.is_vain.ensures.vain c.if-is_vain.true) refl c.args.buffer.now)

pub returns-in-Open : goal.returns-in-Open
returns-in-Open c rows h =
    let old = c.args.buffer.now in
    rw c.refused-in-Open.ensures
    (not_settled h c.settle-done.result c.settle-done.ensures Open StillOpen (expression (length old)) old c.in-Open.is (open_refuses (expressing (length old))))

pub returns-in-Running : goal.returns-in-Running
returns-in-Running c rows h =
    let old = c.args.buffer.now in
    rw c.refused-in-Running.ensures
    (not_settled h c.settle-done.result c.settle-done.ensures Running StillRunning (expression (length old)) old c.in-Running.is (running_refuses (to_express (length old))))

pub returns-in-Settled-Empty : goal.returns-in-Settled-Empty
returns-in-Settled-Empty c rows h =
    rw c.refused-in-Settled-Empty.ensures (none_expressed h c.settle-done.result c.settle-done.ensures (c.in-Settled-Empty.is ∙ ap Settled (rw c.in-Settled-Empty.is at c.in-Settled-Empty.field-0-is)) c.args.buffer.now)

pub returns-in-Settled-NonEmpty : goal.returns-in-Settled-NonEmpty
returns-in-Settled-NonEmpty c rows h =
    is_expressed h c.settle-done.result c.settle-done.ensures (c.in-Settled-NonEmpty.is ∙ ap Settled (rw c.in-Settled-NonEmpty.is at c.in-Settled-NonEmpty.field-0-is))
    c.args.buffer.now c.express.new.buffer c.express.result (rw c.new-both.ensures at c.express.ensures.expresses)
