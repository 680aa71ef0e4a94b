-- `rounds_until` meets its contract. The loop's invariant: after calls that left the machine not open, k rounds were done.
use Prim.Native.Nat.{◌<◌}
use mathlib.Core.Path.{◌≡◌}
use native.Mathlib.Omega.{arith}
use Rattle.std.specs.Prelude.{Ok}
use Rattle.machine.specs.declared.Success.TheVariants.{Done}
use Rattle.callers.specs.Handed.{DoesRounds}
use Rattle.callers.proofs.Handed.{told_as, wrote_not_done, decided_not_done, refused_no_success, rounding_start, rounding_more, rounding_stop, rounding_full}
use Rattle.callers.proofs.sequences.rounds_until.Goals.{After-call_round-r}
use Rattle.callers.proofs.sequences.rounds_until.Goals as goal

-- a round that is not done ends the rounds
stopped : (r : After-call_round-r) → (r.call_round-r.result.answer ≡ Ok Done → ⊥) → DoesRounds r.args.session r.call_round-r.result.session
stopped r not_done cs h n =
    let l : r.loop-done._done < 129 = omega arith in
    rounding_stop cs r.loop-done._done r.loop-done.s (r.loop-done.invariant cs h n) r.call_round-r.result r.call_round-r.ensures l not_done

pub loop-done-init : goal.loop-done-init
loop-done-init c = λ cs h n. rounding_start cs _ h n

pub loop-done-preserved : goal.loop-done-preserved
loop-done-preserved c = λ cs h n.
    rounding_more cs c.loop-done._done c.loop-done.s (c.loop-done.invariant cs h n) c.call_round-r.result c.call_round-r.ensures (told_as c.in-Ok-Done.is (rw c.in-Ok-Done.is at c.in-Ok-Done.field-0-is))

pub returns : goal.returns
returns c = λ cs h n. rounding_full cs c.loop-done._done c.loop-done.s (c.loop-done.invariant cs h n) c.loop-done.auto._done-end c.loop-done-test.false

pub returns-in-Ok-Wrote : goal.returns-in-Ok-Wrote
returns-in-Ok-Wrote c = stopped (goal.at.returns-in-Ok-Wrote c).After-call_round-r
    (wrote_not_done (told_as c.in-Ok-Wrote.is (rw c.in-Ok-Wrote.is at c.in-Ok-Wrote.field-0-is)))

pub returns-in-Ok-Decided : goal.returns-in-Ok-Decided
returns-in-Ok-Decided c = stopped (goal.at.returns-in-Ok-Decided c).After-call_round-r
    (decided_not_done (told_as c.in-Ok-Decided.is (rw c.in-Ok-Decided.is at c.in-Ok-Decided.field-0-is)))

pub returns-in-Err : goal.returns-in-Err
returns-in-Err c = stopped (goal.at.returns-in-Err c).After-call_round-r (refused_no_success c.in-Err.is)
