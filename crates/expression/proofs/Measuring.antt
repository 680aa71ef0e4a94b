-- How long the text of a step by a claim is (`omega_adds`, `back_adds`, `mix_adds`), where the texts of claims are known (`tour_known`, `pieces_known`).
use Rattle.std.specs.Prelude.{Option, None, Some}
use Prim.Native.Nat.{ℕ, ◌+◌, ◌<◌}
use mathlib.Core.Path.{◌≡◌, refl, ap, sym, ◌∙◌, subst}
use mathlib.Core.List.{List, ◌++◌}
use lib.ListN.{length, get_or, length-append}
use native.Mathlib.Omega.{arith}
use Rattle.lists.specs.Tests.{◌among◌}
use Rattle.masks.specs.Mask.{◌∈◌}
use Rattle.orderings.specs.Steps.{loops, mixes, ω, back, mix}
use Rattle.machine.specs.Machine.{Machine, open_claims}
use Rattle.machine.specs.Text.{text}
use Rattle.machine.specs.Expression.{round_of}
use Rattle.search.specs.Graph.{Graph}
use Rattle.tours.specs.declared.frames.Shape.TheVariants.{Tour, Pieces}
use Rattle.tours.specs.Frames.{Held}
use Rattle.expression.specs.Texts.{shape_text}
use Rattle.expression.specs.Frames.{Noted, FindsSet}
use Rattle.expression.specs.Lengths.{Measured, Known, Adds, AddsLimit}
use Rattle.expression.proofs.Framing.{loop_round, mix_round, open_iff, found_at, found_none}
use Rattle.expression.proofs.Texts.{omega_spelled, back_spelled, mix_spelled}

-- ---- the text of a claim

module _ {m : Machine} {g : Graph} {words : List ℕ} {n : ℕ} {b : Graph} {k : ℕ} (held : Held m g words n b k) {opened : List ℕ} (noted : Noted m opened)
    {round most : ℕ} {bytes : List (Option ℕ)} (known : Known m g k opened round most bytes) (P i : ℕ) (f : FindsSet b.sets k P (Some i)) where
  -- of a tour, from a state of the set
  tour_known : (q : ℕ) → q ∈ P → loops P among open_claims m → round_of m.openings (loops P) < round → Measured most (length (shape_text m (Tour q) P)) (get_or bytes i None)
  tour_known q h o l =
      let p = found_at held noted (loops P) o i f in
      let e = loop_round held noted i p.0 ∙ ap (λ Q. round_of m.openings (loops Q)) p.1 in
      subst (λ Q. Measured most (length (shape_text m (Tour q) Q)) (get_or bytes i None)) p.1
      (known.tours i q p.0 (omega (arith, e, (open_iff held noted (loops P)).1 o)) (omega (arith, e, l)) (subst (λ Q. q ∈ Q) (sym p.1) h))

  pieces_known : mixes P among open_claims m → round_of m.openings (mixes P) < round → Measured most (length (shape_text m Pieces P)) (get_or bytes (64 + i) None)
  pieces_known o l =
      let p = found_at held noted (mixes P) o i f in
      let e = mix_round held noted i p.0 ∙ ap (λ Q. round_of m.openings (mixes Q)) p.1 in
      subst (λ Q. Measured most (length (shape_text m Pieces Q)) (get_or bytes (64 + i) None)) p.1
      (known.pieces i p.0 (omega (arith, e, (open_iff held noted (mixes P)).1 o)) (omega (arith, e, l)))

-- ---- a step by a claim

-- a text between two others
between : (a t z : List ℕ) → length (a ++ (t ++ z)) ≡ length a + length z + length t
between a t z = omega (arith, length-append a (t ++ z), length-append t z)

module _ (b : Graph) (k : ℕ) (bytes : List (Option ℕ)) (most P to i : ℕ) (f : FindsSet b.sets k P (Some i)) (old mid new : Option ℕ) where
  -- what opens and closes the text of a claim, and the text
  adds : (s a t z : List ℕ) (n : ℕ) → s ≡ a ++ (t ++ z) → length a + length z ≡ n → ((x : ℕ) → Measured most x old → Measured most (x + n) mid)
      → ((x : ℕ) → Measured most x mid → Measured most (x + length t) new) → Adds most s old new
  adds s a t z n e c first then x h =
      let r : x + n + length t ≡ x + length s = omega (arith, ap (length {A = ℕ}) e, between a t z, c) in
      subst (λ j. Measured most j new) r (then (x + n) (first x h))

  -- the length of the text at a place of the array
  abbrev Then : ℕ → Type 0
  Then j = (x y : ℕ) → Measured most x mid → Measured most y (get_or bytes j None) → Measured most (x + y) new

  pub omega_adds : ((x : ℕ) → Measured most x old → Measured most (x + 3) mid) → Then i → AddsLimit b k bytes most (ω P) to old new
  omega_adds first then m g words opened n round a held noted known goes earlier =
      adds _ (text "(") (shape_text m (Tour a) P) (text ")w") 3 (omega_spelled m held.formed a P to goes) refl first
      (λ x d. then x _ d (tour_known held noted known P i f a goes.0.0.1 goes.1 earlier))

  pub back_adds : ((x : ℕ) → Measured most x old → Measured most (x + 3) mid) → Then i → AddsLimit b k bytes most (back P) to old new
  back_adds first then m g words opened n round a held noted known goes earlier =
      adds _ (text "(") (shape_text m (Tour to) P) (text ")v") 3 (back_spelled m held.formed a P to goes) refl first
      (λ x d. then x _ d (tour_known held noted known P i f to goes.0.0.1 goes.1 earlier))

  pub mix_adds : ((x : ℕ) → Measured most x old → Measured most (x + 4) mid) → Then (64 + i) → AddsLimit b k bytes most (mix P) to old new
  mix_adds first then m g words opened n round a held noted known goes earlier =
      adds _ (text "sh(") (shape_text m Pieces P) (text ")") 4 (mix_spelled m held.formed a P to goes) refl first
      (λ x d. then x _ d (pieces_known held noted known P i f goes.1 earlier))

-- the set of a claim is one of the machine's
module _ (b : Graph) (k : ℕ) (bytes : List (Option ℕ)) (most P to : ℕ) (f : FindsSet b.sets k P None) (old new : Option ℕ) where
  pub no_omega_adds : AddsLimit b k bytes most (ω P) to old new
  no_omega_adds m g words opened n round a held noted known goes earlier = absurd (found_none held noted (loops P) goes.1 f)

  pub no_back_adds : AddsLimit b k bytes most (back P) to old new
  no_back_adds m g words opened n round a held noted known goes earlier = absurd (found_none held noted (loops P) goes.1 f)

  pub no_mix_adds : AddsLimit b k bytes most (mix P) to old new
  no_mix_adds m g words opened n round a held noted known goes earlier = absurd (found_none held noted (mixes P) goes.1 f)
