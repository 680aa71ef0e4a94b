-- `print_vain` meets its contract.
use Rattle.whole_sheet.proofs.Printing.{prints_vain}
use Rattle.whole_sheet.proofs.print_vain.Goals as goal

pub returns : goal.returns
returns c = prints_vain _ _ _ c.tell.ensures
