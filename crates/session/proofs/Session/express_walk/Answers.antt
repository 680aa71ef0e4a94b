-- `express_walk` meets its contract.
use mathlib.Core.Path.{refl}
use Rattle.machine.specs.declared.Verdict.TheVariants.{NonEmpty}
use Rattle.automaton.specs.Promise.{automaton_of}
use Rattle.session.proofs.Rounded.{given_of}
use Rattle.session.proofs.Written.{reads_keyed, expresses_settled}
use Rattle.session.proofs.Session.express_walk.Goals as goal

pub returns : goal.returns
returns c =
    let s = c.args.self in
    let keys = c.keys-keys in
    let sets = c.row_sets in
    let fill = c.fill-ends in
    let a = automaton_of fill.new.graph fill.result.initials fill.result.finals in
    let reads = reads_keyed s keys.result keys.ensures.keyed sets.result sets.ensures.sets sets.ensures.count a (fill.ensures.gives refl) in
    rw c.answered.ensures (expresses_settled s NonEmpty c.requires keys.result keys.ensures.keyed c.words_of-words.result c.words_of-words.ensures
    c.new-both.result fill.result (λ x p. rw (c.new-both.ensures, c.new-graph.ensures) (given_of x s p a reads)) _ _ c.express-answer.auto.buffer
    c.express-answer.result c.progress-progress.result c.progress-progress.ensures refl c.express-answer.ensures.expresses)
