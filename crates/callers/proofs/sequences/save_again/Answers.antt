-- `save_again` meets its contract: the bytes that were saved are within the buffer.
use mathlib.Core.Path.{◌≡◌, sym}
use Prim.Native.Nat.{ℕ, ◌≤◌}
use lib.ListN.{length}
use lib.Seq.{length-take-le}
use Rattle.std.specs.Prelude.{Ok}
use Rattle.machine.specs.declared.Success.TheVariants.{Wrote}
use Rattle.callers.specs.Handed.{SavedAgain}
use Rattle.callers.proofs.Handed.{told_as, wrote_not_done, decided_not_wrote, refused_no_success, count_fits, saves_again, saves_short}
use Rattle.callers.proofs.sequences.save_again.Goals.{After-call_save-kept, In-Ok-Wrote}
use Rattle.callers.proofs.sequences.save_again.Goals as goal

-- bytes were written
wrote_is : (c : In-Ok-Wrote) → c.call_save-kept.result.answer ≡ Ok (Wrote c.in-Ok-Wrote.n)
wrote_is c = told_as c.in-Ok-Wrote.is (rw c.in-Ok-Wrote.is at c.in-Ok-Wrote.field-0-is)

-- the bytes are within the buffer
within : (c : In-Ok-Wrote) → c.in-Ok-Wrote.n ≤ length c.call_save-kept.new.buffer
within c =
    let a = c.args in
    count_fits a.batch.now a.buffer.now c.call_save-kept.new.buffer c.loaded-r.result c.call_save-kept.result c.loaded-r.ensures c.call_save-kept.ensures c.in-Ok-Wrote.n (wrote_is c)

-- the save wrote nothing
unsaved : (k : After-call_save-kept) → ((n : ℕ) → k.call_save-kept.result.answer ≡ Ok (Wrote n) → ⊥)
    → let a = k.args in SavedAgain a.batch.now a.buffer.now k.call_save-kept.new.buffer k.call_save-kept.result
unsaved k n =
    let a = k.args in
    saves_short a.batch.now a.buffer.now k.call_save-kept.new.buffer k.loaded-r.result k.call_save-kept.result k.loaded-r.ensures k.call_save-kept.ensures n

pub slice_bounds-loaded-end : goal.slice_bounds-loaded-end
slice_bounds-loaded-end c = within (goal.at.slice_bounds-loaded-end c).In-Ok-Wrote

pub slice_bounds-loaded-end-in-Ok-Wrote : goal.slice_bounds-loaded-end-in-Ok-Wrote
slice_bounds-loaded-end-in-Ok-Wrote c = sym (length-take-le _ _ (within (goal.at.slice_bounds-loaded-end-in-Ok-Wrote c).In-Ok-Wrote))

pub returns-in-Ok-Done : goal.returns-in-Ok-Done
returns-in-Ok-Done c = unsaved (goal.at.returns-in-Ok-Done c).After-call_save-kept (λ n e. wrote_not_done e (told_as c.in-Ok-Done.is (rw c.in-Ok-Done.is at c.in-Ok-Done.field-0-is)))

pub returns-in-Ok-Wrote : goal.returns-in-Ok-Wrote
returns-in-Ok-Wrote c =
    let a = c.args in
    saves_again a.batch.now a.buffer.now c.call_save-kept.new.buffer c.loaded-r.result c.call_save-kept.result c.loaded-r.ensures c.call_save-kept.ensures
    c.in-Ok-Wrote.n (wrote_is (goal.at.returns-in-Ok-Wrote c).In-Ok-Wrote) c.loaded.result c.loaded.ensures

pub returns-in-Ok-Decided : goal.returns-in-Ok-Decided
returns-in-Ok-Decided c = unsaved (goal.at.returns-in-Ok-Decided c).After-call_save-kept (λ n e. decided_not_wrote (told_as c.in-Ok-Decided.is (rw c.in-Ok-Decided.is at c.in-Ok-Decided.field-0-is)) e)

pub returns-in-Err : goal.returns-in-Err
returns-in-Err c = unsaved (goal.at.returns-in-Err c).After-call_save-kept (λ n e. refused_no_success c.in-Err.is e)
