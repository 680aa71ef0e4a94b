-- `return_under` meets its contract: no name, a name without a mark, or what is kept at its place.
use native.Mathlib.Omega.{arith}
use Rattle.machine.specs.Marks.{returning}
use Rattle.marks.specs.Promise.{PlaceFound}
use Rattle.session.proofs.Marked.{misnamed_refused, found_at, unmarked_refused, returns_done}
use Rattle.session.proofs.Session.return_under.Goals.{In-Some}
use Rattle.session.proofs.Session.return_under.Goals as goal

-- the place of the name
found : (c : In-Some) → let a = c.args in PlaceFound a.self.marks a.name.now c.in-Some.at
found c = found_at c.args.self c.requires c.place.ensures c.in-Some.is

pub returns-then-at-self : goal.returns-then-at-self
returns-then-at-self c = unmarked_refused c.args.self c.requires c.args.name.now c.in-Some.at (found (goal.at.returns-then-at-self c).In-Some) c.if-at-self.true c.refuse-then-at-self.ensures

pub kept_at-requires : goal.kept_at-requires
kept_at-requires c = omega (arith, (found (goal.at.kept_at-requires c).In-Some).within, c.requires.few_marks, c.if-at-self.false)

pub returns-in_default : goal.returns-in_default
returns-in_default c = misnamed_refused c.args.self c.requires c.place.ensures c.in_default.is c.refuse.ensures (returning c.args.name.now)

pub returns : goal.returns
returns c = returns_done c.args.self c.requires c.args.name.now c.in-Some.at (found (goal.at.returns c).In-Some) c.if-at-self.false c.kept_at.result c.kept_at.ensures c.bring_back.ensures
