-- `is_told` has room for the line of any refusal.
use Rattle.std.proofs.Common.{◌≤◌, length, arith}
use Rattle.machine.specs.Program.{refusal_line}
use Rattle.texts.proofs.Digits.{refusal_short}
use Rattle.cases.proofs.asking.is_told.Goals as goal

pub put-n-requires : goal.put-n-requires
put-n-requires c =
    let r = c.args.refused in
    let h : length (refusal_line r.number r.place) ≤ 53 = refusal_short r.number r.place (omega arith) (omega arith) in
    let g : length (refusal_line r.number r.place) ≤ 64 = omega arith in
    omega (arith, g)
