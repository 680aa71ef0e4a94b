-- `label_len` meets its contract: a set has 16 digits.
use native.Mathlib.Omega.{arith}
use Rattle.machine.proofs.Text.{hex_length}
use Rattle.sheet_lines.proofs.label_len.Goals as goal

pub returns-in-Omega : goal.returns-in-Omega
returns-in-Omega c = (rw c.in-Omega.is (simp hex_length (omega arith)), omega arith)

pub returns-in-Back : goal.returns-in-Back
returns-in-Back c = (rw c.in-Back.is (simp hex_length (omega arith)), omega arith)

pub returns-in-Mix : goal.returns-in-Mix
returns-in-Mix c = (rw c.in-Mix.is (simp hex_length (omega arith)), omega arith)
