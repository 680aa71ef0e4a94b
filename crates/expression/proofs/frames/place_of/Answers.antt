-- `expression::frames::place_of` meets its contract.
use native.Mathlib.Omega.{arith}
use lib.ListN.{take}
use Rattle.std.specs.Prelude.{Ok, Err}
use Rattle.sorted_keys.proofs.Keys.{word_searched, front_word}
use Rattle.expression.proofs.Finding.{finds_at, finds_none}
use Rattle.expression.proofs.frames.place_of.Goals as goal

pub returns-in-Ok-clause-finds : goal.returns-in-Ok-clause-finds
returns-in-Ok-clause-finds c =
    let a = c.args in
    let i = c.in-Ok.i in
    finds_at a.sets.now a.set_count a.p i (front_word (omega (arith, c.requires.1)) (word_searched (take a.set_count a.sets.now) a.p (Ok i) c.in-Ok.ensures.bound c.in-Ok.ensures.position))

pub returns-in-Err-clause-finds : goal.returns-in-Err-clause-finds
returns-in-Err-clause-finds c =
    let a = c.args in
    let i = c.in-Err.field-0 in
    finds_none a.sets.now a.set_count a.p i (front_word (omega (arith, c.requires.1)) (word_searched (take a.set_count a.sets.now) a.p (Err i) c.in-Err.ensures.bound c.in-Err.ensures.position))
