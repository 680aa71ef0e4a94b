-- `take_row` meets its contract, by the kind of the row.
use lib.ListN.{length}
use Rattle.automaton.proofs.Passing.{grown_last, pass_initial, pass_final, pass_step, pass_left, pass_right, pass_strike}
use Rattle.automaton.proofs.take_row.Goals as goal

pub returns-in-Initial-clause-takes : goal.returns-in-Initial-clause-takes
returns-in-Initial-clause-takes c l h = let sets = c.args.sets.now in pass_initial _ sets (length sets) c.requires h (grown_last l _) c.in-Initial.is c.add.ensures

pub returns-in-Final-clause-takes : goal.returns-in-Final-clause-takes
returns-in-Final-clause-takes c l h = let sets = c.args.sets.now in pass_final _ sets (length sets) c.requires h (grown_last l _) c.in-Final.is c.add-in-Final.ensures

pub returns-in-Strike-clause-takes : goal.returns-in-Strike-clause-takes
returns-in-Strike-clause-takes c l h = let sets = c.args.sets.now in pass_strike _ sets (length sets) c.requires h (grown_last l _) c.in-Strike.is c.add-in-Strike.ensures

pub returns-in-Successor-clause-takes : goal.returns-in-Successor-clause-takes
returns-in-Successor-clause-takes c l h = let sets = c.args.sets.now in pass_step _ sets (length sets) c.requires h (grown_last l _) c.in-Successor.is (rw c.from.ensures at c.put.ensures)

pub returns-in-LeftLimit-clause-takes : goal.returns-in-LeftLimit-clause-takes
returns-in-LeftLimit-clause-takes c l h = let sets = c.args.sets.now in let put = c.put_limit.ensures in
    pass_left _ sets (length sets) c.requires h (grown_last l _) put.place c.in-LeftLimit.is put.is put.adds

pub returns-in-RightLimit-clause-takes : goal.returns-in-RightLimit-clause-takes
returns-in-RightLimit-clause-takes c l h = let sets = c.args.sets.now in let put = c.put_limit-in-RightLimit.ensures in
    pass_right _ sets (length sets) c.requires h (grown_last l _) put.place c.in-RightLimit.is put.is put.adds
