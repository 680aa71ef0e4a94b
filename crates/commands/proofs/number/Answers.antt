-- `number` meets its contract: the number that goes on with what is left, cut at `most`.
use Prim.Native.Nat.{◌+◌, ◌*◌}
use mathlib.Core.Path.{◌≡◌, ap, sym, ◌∙◌}
use lib.ListN.{get_or}
use native.Mathlib.Numerals.{add-one}
use native.Mathlib.Omega.{arith}
use Rattle.commands.specs.Digits.{digit_value, at_most}
use Rattle.commands.proofs.Values.{at_most_small, number_more, number_end}
use Rattle.commands.proofs.number.Goals as goal

pub loop-c-preserved : goal.loop-c-preserved
loop-c-preserved c =
    let a = c.args in
    let l = c.loop-c in
    let v = digit_value (get_or a.text.now l.c-index 0) in
    let r : c.at_most-n.result ≡ at_most a.most (l.n * 10 + v) = c.at_most-n.ensures ∙ ap (λ x. at_most a.most (l.n * 10 + x)) (omega arith) in
    record {
      small = omega (arith, r, at_most_small a.most (l.n * 10 + v));
      reads = rw (add-one, r) (l.invariant.reads ∙ number_more a.most l.n a.text.now l.c-index (omega arith));
    }

pub returns : goal.returns
returns c =
    let a = c.args in
    sym (c.loop-c.invariant.reads ∙ number_end a.most c.loop-c.n a.text.now c.loop-c.c-index (omega arith) (omega arith))
