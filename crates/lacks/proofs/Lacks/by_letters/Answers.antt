-- `lacks::Lacks::by_letters` meets its contract.
use Rattle.lacks.proofs.Lacks.by_letters.Goals as goal

pub returns : goal.returns
returns c =
    let none = c.none-lacks.ensures in
    let lacks = c.fill.ensures in
    record { forward = lacks.forward.lacks none.to; backward = λ back turned. (lacks.backward back turned).lacks none.from }
