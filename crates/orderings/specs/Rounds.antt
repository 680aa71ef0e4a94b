-- Document 01, "Rounds", as propositions.
use Rattle.std.specs.Prelude.{ℕ, zero, suc, ◌⊎◌, List}
use Rattle.orderings.specs.Systems.{System, Holds, Allowed}

-- the claim is open after k rounds
unfoldable pub OpenBy : (S : System) → ℕ → S.Claim → Type 0
OpenBy S zero c = ⊥
OpenBy S (suc k) c = OpenBy S k c ⊎ Holds S (OpenBy S k) c

-- round k opens the claim: it holds with the claims opened in rounds before k, and isn't open yet
abbrev pub Opens : (S : System) → ℕ → S.Claim → Type 0
Opens S zero c = ⊥
Opens S (suc k) c = Holds S (OpenBy S k) c × ¬ OpenBy S k c

-- after k rounds a walk leads from an initial to a final state
abbrev pub AcceptedBy : (S : System) → ℕ → List S.Step → Type 0
AcceptedBy S k w = S.Accepting w × Allowed S (OpenBy S k) w
