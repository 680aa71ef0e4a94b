-- `is_name` meets its contract: a name has so many bytes, and all of them are letters.
use Rattle.marks.proofs.Naming.{name_tested}
use Rattle.marks.proofs.is_name.Goals as goal

pub returns-then-name-le-LONGEST_NAME : goal.returns-then-name-le-LONGEST_NAME
returns-then-name-le-LONGEST_NAME c =
    let counted = c.if-name-le-LONGEST_NAME.true in name_tested c.args.name.now counted.0 counted.1 c.all_letters.ensures
