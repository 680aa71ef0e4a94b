-- `call_withdraw` meets its contract: the batch holds bytes.
use mathlib.Core.Path.{refl}
use native.Mathlib.Omega.{arith}
use Rattle.rows.proofs.Reading.{all_bytes}
use Rattle.callers.proofs.calls.call_withdraw.Goals as goal

pub returns : goal.returns
returns c = record { brings = all_bytes c.args.batch.now (λ i. omega (arith, c.type_inv.batch i)); lends = refl; keeps = c.withdraw.ensures.keeps }
