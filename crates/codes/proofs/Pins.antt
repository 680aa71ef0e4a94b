-- The codes of answers, in the words of the header: 1 non-empty, 0 empty, a refusal 2^32 times its number; only a refusal writes its place.
use Prim.Native.Nat.{◌*◌, ◌^◌}
use mathlib.Core.Path.{◌≡◌, refl}
use mathlib.Core.List.{[], ◌∷◌}
use Rattle.machine.specs.declared.Verdict.TheVariants.{NonEmpty, Empty}
use Rattle.machine.specs.Calls.{wrote, decided, refused}
use Rattle.codes.specs.Coding.{code_of, place_after}

pub codes : (code_of (decided NonEmpty) ≡ 1) × (code_of (decided Empty) ≡ 0) × (code_of (refused 7 20) ≡ 7 * 2 ^ 32) × (code_of (wrote (98 ∷ 99 ∷ [])) ≡ 2)
codes = (refl, refl, refl, refl)

pub places : (place_after (refused 7 20) 5 ≡ 20) × (place_after (decided NonEmpty) 5 ≡ 5) × (place_after (wrote []) 5 ≡ 5)
places = (refl, refl, refl)
