-- `put` meets its contract, at the place of a new mark and at that of one that is replaced.
use mathlib.Core.Path.{refl}
use Rattle.marks.proofs.Placing.{put_marks}
use Rattle.marks.proofs.Marks.put.Goals as goal

pub returns-then-at-self : goal.returns-then-at-self
returns-then-at-self c l m st place kept =
    put_marks c.args.name.now m c.args.self.now l _ _ _ _ st c.requires.0 place c.name_number-name.ensures kept (λ e. refl) (λ e. absurd (e c.if-at-self.true))

pub returns-else-at-self : goal.returns-else-at-self
returns-else-at-self c l m st place kept =
    put_marks c.args.name.now m c.args.self.now l _ _ _ _ st c.requires.0 place c.name_number-name.ensures kept (λ e. absurd (c.if-at-self.false e)) (λ e. refl)
