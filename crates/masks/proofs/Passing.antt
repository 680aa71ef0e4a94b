-- A loop over a set begins with all of it.
use Prim.Native.Nat.{ℕ}
use mathlib.Core.Path.{◌≡◌, ap, ◌∙◌}
use Rattle.masks.specs.declared.Members.{Members}

pub begun : {m : ℕ} {a b : Members} → a ≡ b → b.rest ≡ m → a.rest ≡ m
begun same is = ap (λ (x : Members). x.rest) same ∙ is
