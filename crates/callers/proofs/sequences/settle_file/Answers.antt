-- `settle_file` meets its contract: the bytes that were written are within the buffer.
use mathlib.Core.Path.{◌≡◌, sym}
use lib.ListN.{length}
use lib.Seq.{length-take-le}
use Prim.Native.Nat.{◌≤◌}
use Rattle.std.specs.Prelude.{Ok}
use Rattle.machine.specs.declared.Success.TheVariants.{Wrote}
use Rattle.callers.proofs.Handed.{told_as, wrote_not_done, decided_not_wrote, refused_no_success}
use Rattle.callers.proofs.Files.{converted_fits, settles_file, file_refused}
use Rattle.callers.proofs.sequences.settle_file.Goals.{In-Ok-Wrote}
use Rattle.callers.proofs.sequences.settle_file.Goals as goal

-- bytes were written
wrote_is : (c : In-Ok-Wrote) → c.convert-converted.result ≡ Ok (Wrote c.in-Ok-Wrote.n)
wrote_is c = told_as c.in-Ok-Wrote.is (rw c.in-Ok-Wrote.is at c.in-Ok-Wrote.field-0-is)

within : (c : In-Ok-Wrote) → c.in-Ok-Wrote.n ≤ length c.convert-converted.new.batch
within c = converted_fits _ _ _ _ c.convert-converted.ensures _ (wrote_is c)

pub slice_bounds-settled-end : goal.slice_bounds-settled-end
slice_bounds-settled-end c = within (goal.at.slice_bounds-settled-end c).In-Ok-Wrote

pub slice_bounds-settled-end-in-Ok-Wrote : goal.slice_bounds-settled-end-in-Ok-Wrote
slice_bounds-settled-end-in-Ok-Wrote c = sym (length-take-le _ _ (within (goal.at.slice_bounds-settled-end-in-Ok-Wrote c).In-Ok-Wrote))

pub returns-in-Ok-Done : goal.returns-in-Ok-Done
returns-in-Ok-Done c = file_refused _ _ _ _ _ c.convert-converted.ensures (λ n e. wrote_not_done e (told_as c.in-Ok-Done.is (rw c.in-Ok-Done.is at c.in-Ok-Done.field-0-is)))

pub returns-in-Ok-Wrote : goal.returns-in-Ok-Wrote
returns-in-Ok-Wrote c =
    let a = c.args in
    settles_file a.file.now a.batch.now c.convert-converted.new.batch c.convert-converted.result c.in-Ok-Wrote.n c.settled-session.result c.convert-converted.ensures
    (wrote_is (goal.at.returns-in-Ok-Wrote c).In-Ok-Wrote) c.settled-session.ensures

pub returns-in-Ok-Decided : goal.returns-in-Ok-Decided
returns-in-Ok-Decided c = file_refused _ _ _ _ _ c.convert-converted.ensures (λ n e. decided_not_wrote (told_as c.in-Ok-Decided.is (rw c.in-Ok-Decided.is at c.in-Ok-Decided.field-0-is)) e)

pub returns-in-Err : goal.returns-in-Err
returns-in-Err c = file_refused _ _ _ _ _ c.convert-converted.ensures (λ n e. refused_no_success c.in-Err.is e)
