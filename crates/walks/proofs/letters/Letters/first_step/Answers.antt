-- `Letters::first_step` meets its contract: kind after kind.
use Rattle.std.specs.Prelude.{None, Some}
use Rattle.walks.proofs.Choices.{with_letters, with_omegas, with_backs, with_mixes, is_first}
use Rattle.walks.proofs.letters.Letters.first_step.Goals as goal

pub returns-in-Some : goal.returns-in-Some
returns-in-Some c =
    let a = c.args in
    let l = a.self.now in
    let t = c.in-Some.step in
    is_first l.words.now l.count a.back.now a.force a.a a.layer 1 t (with_letters l.words.now l.count a.back.now a.force a.a a.layer (Some t) c.in-Some.ensures)

pub returns-in-Some-first_pass : goal.returns-in-Some-first_pass
returns-in-Some-first_pass c =
    let a = c.args in
    let l = a.self.now in
    let t = c.in-Some-first_pass.step in
    is_first l.words.now l.count a.back.now a.force a.a a.layer 2 t
    (with_omegas l.words.now l.count a.back.now a.force a.a a.layer (Some t) (with_letters l.words.now l.count a.back.now a.force a.a a.layer None c.in_default.ensures) (simp (c.sets-sets.ensures.are, c.rights-rights.ensures.are) at c.in-Some-first_pass.ensures))

pub returns-in-Some-first_pass-2 : goal.returns-in-Some-first_pass-2
returns-in-Some-first_pass-2 c =
    let a = c.args in
    let l = a.self.now in
    let t = c.in-Some-first_pass-2.step in
    is_first l.words.now l.count a.back.now a.force a.a a.layer 3 t
    (with_backs l.words.now l.count a.back.now a.force a.a a.layer (Some t)
    (with_omegas l.words.now l.count a.back.now a.force a.a a.layer None (with_letters l.words.now l.count a.back.now a.force a.a a.layer None c.in_default.ensures) (simp (c.sets-sets.ensures.are, c.rights-rights.ensures.are) at c.in_default-first_pass.ensures))
    (simp (c.sets-sets.ensures.are, c.lefts-lefts.ensures.are) at c.in-Some-first_pass-2.ensures))

pub returns : goal.returns
returns c =
    let a = c.args in
    let l = a.self.now in
    with_mixes l.words.now l.count a.back.now a.force a.a a.layer c.first_pass-3.result
    (with_backs l.words.now l.count a.back.now a.force a.a a.layer None
    (with_omegas l.words.now l.count a.back.now a.force a.a a.layer None (with_letters l.words.now l.count a.back.now a.force a.a a.layer None c.in_default.ensures) (simp (c.sets-sets.ensures.are, c.rights-rights.ensures.are) at c.in_default-first_pass.ensures))
    (simp (c.sets-sets.ensures.are, c.lefts-lefts.ensures.are) at c.in_default-first_pass-2.ensures))
    (simp (c.sets-sets.ensures.are, c.lefts-lefts.ensures.are, c.rights-rights.ensures.are) at c.first_pass-3.ensures)
