-- `Hex::put` meets its contract: the first digits of its bytes in turn with the last are its text.
use native.Mathlib.Omega.{arith}
use Rattle.machine.proofs.Text.{hex_length}
use Rattle.texts.proofs.Digits.{turn_hex}
use Rattle.texts.proofs.HexWritten.put.Goals as goal

pub put_in_turn-requires : goal.put_in_turn-requires
put_in_turn-requires c = omega (arith, hex_length 16 c.args.self.now.0)

pub returns : goal.returns
returns c = rw (← turn_hex 8 c.args.self.now.0, ← c.last_digits.ensures, ← c.last_digits-2.ensures) c.put_in_turn.ensures
