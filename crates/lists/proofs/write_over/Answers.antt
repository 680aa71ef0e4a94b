-- `lists::write_over` meets its contract: the elements below i are written.
use Rattle.std.proofs.Common.{length, ◌<◌, ◌≤◌, ◌++◌, ◌∷◌, [], refl, sym, ◌∙◌, ap, take}
use Rattle.std.proofs.lemmas.List.{take_more_set, take_more, take_all}
use native.Mathlib.Omega.{arith}
use Rattle.lists.proofs.write_over.Goals as goal

pub loop-i-init : goal.loop-i-init
loop-i-init g c = refl

pub loop-i-preserved : goal.loop-i-preserved
loop-i-preserved g c =
    let v = c.index-from-i.result in
    let within : c.loop-i.i < length c.loop-i.to = omega (arith, c.loop-i-test.true, c.loop-i.auto.to, c.requires) in
    take_more_set c.loop-i.to c.loop-i.i v within ∙ ap (λ l. l ++ v ∷ []) c.loop-i.invariant
    ∙ ap (λ x. take c.loop-i.i c.args.from.now ++ x ∷ []) c.index-from-i.is ∙ sym (take_more c.args.from.now c.loop-i.i v c.loop-i-test.true)

pub returns-clause-after : goal.returns-clause-after
returns-clause-after g c =
    let all : length c.loop-i.to ≤ c.loop-i.i = omega (arith, c.loop-i-test.false, c.loop-i.auto.to, c.requires) in
    sym (take_all c.loop-i.i c.loop-i.to all) ∙ c.loop-i.invariant ∙ take_all c.loop-i.i c.args.from.now c.loop-i-test.false
