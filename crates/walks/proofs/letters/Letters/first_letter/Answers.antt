-- `Letters::first_letter` meets its contract. The loop's invariant is `Looked`.
use mathlib.Core.Path.{subst}
use native.Mathlib.Omega.{arith}
use Rattle.walks.proofs.Chained.{Looked, few_of, heads_of, falls_of, looked_more, looked_none, looked_some}
use Rattle.walks.proofs.letters.Letters.first_letter.Goals as goal

pub each-at-items-requires : goal.each-at-items-requires
each-at-items-requires c =
    let s = c.args.self.now in
    (omega (arith, few_of s.words.now s.first s.next s.count s.chained, heads_of s.words.now s.first s.next s.count s.chained c.args.a), falls_of s.words.now s.first s.next s.count s.chained c.args.a)

pub loop-at-preserved : goal.loop-at-preserved
loop-at-preserved c =
    let s = c.args.self.now in
    looked_more c.in-Some.ensures.steps (heads_of s.words.now s.first s.next s.count s.chained c.args.a) c.loop-at.invariant c.better-best.ensures

pub returns-in_err-best : goal.returns-in_err-best
returns-in_err-best c =
    let s = c.args.self.now in
    let a = c.args in
    rw c.from_residual.ensures (looked_none s.words.now s.first s.next a.a a.layer s.count c.requires s.chained c.in-None.ensures.steps.0
    (subst (Looked s.words.now s.next a.a a.layer _ s.count c.loop-at.at-iterator) c.in_err-best.was c.loop-at.invariant))

pub returns : goal.returns
returns c =
    let s = c.args.self.now in
    let a = c.args in
    rw (c.letter_of.ensures, c.row_of.ensures) (looked_some s.words.now s.first s.next a.a a.layer s.count c.requires s.chained c.in_ok-best.field-0 c.in-None.ensures.steps.0
    (subst (Looked s.words.now s.next a.a a.layer _ s.count c.loop-at.at-iterator) c.in_ok-best.was c.loop-at.invariant))
