-- `mark_under` meets its contract: no name, a fifth name, or a mark at its place.
use native.Mathlib.Omega.{arith}
use Rattle.machine.specs.Marks.{marking}
use Rattle.marks.specs.Promise.{PlaceFound}
use Rattle.session.proofs.Marked.{misnamed_refused, found_at, fifth_refused, marks_done}
use Rattle.session.proofs.Session.mark_under.Goals.{In-Some}
use Rattle.session.proofs.Session.mark_under.Goals as goal

-- the place of the name
found : (c : In-Some) → let a = c.args in PlaceFound a.self.marks a.name.now c.in-Some.at
found c = found_at c.args.self c.requires c.place.ensures c.in-Some.is

pub returns-then-at-ge-MOST_MARKS : goal.returns-then-at-ge-MOST_MARKS
returns-then-at-ge-MOST_MARKS c = fifth_refused c.args.self c.requires c.args.name.now c.in-Some.at (found (goal.at.returns-then-at-ge-MOST_MARKS c).In-Some) (omega arith) c.refuse-then-at-ge-MOST_MARKS.ensures

pub put-requires : goal.put-requires
put-requires c = (omega arith, (found (goal.at.put-requires c).In-Some).is_name)

pub returns-in_default : goal.returns-in_default
returns-in_default c = misnamed_refused c.args.self c.requires c.place.ensures c.in_default.is c.refuse.ensures (marking c.args.name.now)

pub returns : goal.returns
returns c = rw c.done.ensures
    (marks_done c.args.self c.requires c.args.name.now c.in-Some.at (found (goal.at.returns c).In-Some) (omega arith) c.contents-kept.result c.contents-kept.ensures c.put.new.self c.put.ensures)
