-- Of a buffer for an expression, all up to 2^32 - 1 bytes is lent.
use Prim.Native.Nat.{◌^◌, ◌-◌}
use mathlib.Core.Path.{◌≡◌, refl}
use Rattle.ffi.specs.Promise.{lent}

pub lendings : (lent 0 ≡ 0) × (lent 6400 ≡ 6400) × (lent (2 ^ 32 - 1) ≡ 2 ^ 32 - 1) × (lent (2 ^ 32) ≡ 2 ^ 32 - 1) × (lent (2 ^ 64 - 1) ≡ 2 ^ 32 - 1)
lendings = (refl, refl, refl, refl, refl)
