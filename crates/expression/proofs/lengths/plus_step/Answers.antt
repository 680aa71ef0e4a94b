-- `expression::lengths::plus_step` meets its contract.
use Rattle.expression.proofs.Measuring.{omega_adds, back_adds, mix_adds, no_omega_adds, no_back_adds, no_mix_adds}
use Rattle.expression.proofs.lengths.plus_step.Goals as goal

pub returns-in-Letter : goal.returns-in-Letter
returns-in-Letter c = rw (c.in-Some.is, c.in-Letter.is) (rw c.number_len.ensures.is at c.plus-in-Letter.ensures)

pub returns-in_err-i-in-Omega : goal.returns-in_err-i-in-Omega
returns-in_err-i-in-Omega c = let a = c.args in
    rw (c.in-Some.is, c.in-Omega.is) (no_omega_adds a.back.now a.set_count a.bytes.now a.most c.in-Omega.p _ (rw (c.in_err-i-in-Omega.was, c.sets.ensures.are) at c.place_of.ensures.finds) a.length _)

pub returns-in_ok-i-in-Omega : goal.returns-in_ok-i-in-Omega
returns-in_ok-i-in-Omega c = let a = c.args in
    rw (c.in-Some.is, c.in-Omega.is) (omega_adds a.back.now a.set_count a.bytes.now a.most c.in-Omega.p c.in-Some.step.to c.in_ok-i-in-Omega.i (rw c.sets.ensures.are at c.in_ok-i-in-Omega.ensures.finds) a.length c.plus-in-Omega.result c.plus_text.result c.plus-in-Omega.ensures c.plus_text.ensures)

pub returns-in_err-i-in-Back : goal.returns-in_err-i-in-Back
returns-in_err-i-in-Back c = let a = c.args in
    rw (c.in-Some.is, c.in-Back.is) (no_back_adds a.back.now a.set_count a.bytes.now a.most c.in-Back.p _ (rw (c.in_err-i-in-Back.was, c.sets-in-Back.ensures.are) at c.place_of-in-Back.ensures.finds) a.length _)

pub returns-in_ok-i-in-Back : goal.returns-in_ok-i-in-Back
returns-in_ok-i-in-Back c = let a = c.args in
    rw (c.in-Some.is, c.in-Back.is) (back_adds a.back.now a.set_count a.bytes.now a.most c.in-Back.p c.in-Some.step.to c.in_ok-i-in-Back.i (rw c.sets-in-Back.ensures.are at c.in_ok-i-in-Back.ensures.finds) a.length c.plus-in-Back.result c.plus_text-in-Back.result c.plus-in-Back.ensures c.plus_text-in-Back.ensures)

pub returns-in_err-i-in-Mix : goal.returns-in_err-i-in-Mix
returns-in_err-i-in-Mix c = let a = c.args in
    rw (c.in-Some.is, c.in-Mix.is) (no_mix_adds a.back.now a.set_count a.bytes.now a.most c.in-Mix.p _ (rw (c.in_err-i-in-Mix.was, c.sets-in-Mix.ensures.are) at c.place_of-in-Mix.ensures.finds) a.length _)

pub returns-in_ok-i-in-Mix : goal.returns-in_ok-i-in-Mix
returns-in_ok-i-in-Mix c = let a = c.args in
    rw (c.in-Some.is, c.in-Mix.is) (mix_adds a.back.now a.set_count a.bytes.now a.most c.in-Mix.p c.in-Some.step.to c.in_ok-i-in-Mix.i (rw c.sets-in-Mix.ensures.are at c.in_ok-i-in-Mix.ensures.finds) a.length c.plus-in-Mix.result c.plus_text-in-Mix.result c.plus-in-Mix.ensures c.plus_text-in-Mix.ensures)
