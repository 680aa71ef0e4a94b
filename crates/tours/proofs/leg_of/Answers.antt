-- `tours::leg_of` meets its contract.
use Rattle.tours.specs.declared.frames.Shape.TheVariants.{Tour}
use Rattle.tours.proofs.Coming.{lays_of}
use Rattle.tours.proofs.leg_of.Goals as goal

pub returns-in-Tour : goal.returns-in-Tour
returns-in-Tour c = let a = c.args in let t = c.in-Tour in
    lays_of a.back.now a.frame a.state a.s _ c.between.result (Tour t.field-0) t.is (λ w. c.between.ensures t.field-0 w.0 w.1)
