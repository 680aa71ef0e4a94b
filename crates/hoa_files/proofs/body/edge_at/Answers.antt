-- `edge_at` meets its contract: a line with one digit, and what `numbered` tells of any other.
use mathlib.Core.Path.{refl}
use native.Mathlib.Omega.{arith}
use Rattle.hoa_files.proofs.Numerals.{edge_found}
use Rattle.hoa_files.proofs.body.edge_at.Goals as goal

pub returns-in-91 : goal.returns-in-91
returns-in-91 c =
    edge_found c.args.rest.now _ c.in-91.len_at_least (omega arith) (omega arith) (omega arith) (omega arith) (omega arith, omega arith) (omega arith) refl (omega arith)
