-- `rows::set_at` meets its contract: the number of eight bytes.
use Prim.Native.Nat.{◌+◌, ◌-◌}
use mathlib.Core.Path.{◌≡◌, ◌∙◌}
use native.Mathlib.Omega.{arith}
use Rattle.rows.specs.Reading.{set_at}
use Rattle.rows.proofs.Reading.{number_of_eight}
use Rattle.rows.proofs.set_at.Goals as goal

pub returns : goal.returns
unfolding set_at
returns c = let e : c.args.at + 8 - c.args.at ≡ 8 = omega arith in
    c.from_be_bytes.ensures ∙ (number_of_eight _ c.copy_from_slice.ensures.len ∙ rw (c.copy_from_slice.ensures.after, e))
