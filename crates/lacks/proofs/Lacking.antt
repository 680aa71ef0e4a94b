-- A set in which a state is lacking does not loop (`lacking_joined`), and does not mix (`lacking_covered`). `lacking_joined_back` and
-- `lacking_covered_back` say the same of a state that no step leads from; `lacking_same` of any graph turned round.
use Prim.Native.Nat.{ℕ}
use mathlib.Core.Path.{◌≡◌, subst, sym, ◌∙◌}
use mathlib.Core.Logic.{⊎_elim}
use lib.ListN.{get_or}
use Rattle.masks.specs.Mask.{◌∈◌, ◌⊆◌}
use Rattle.search.specs.declared.Claims.{Claims}
use Rattle.search.specs.Graph.{Graph, TurnedGraph}
use Rattle.search.specs.Hops.{Hop, InnerClaims, Joined, Covered}
use Rattle.search.proofs.Chains.{chain_back, chain_last, covered_turn}
use Rattle.search.proofs.Hops.{hop_back, hop_turn, inner_back}
use Rattle.search.proofs.Parts.{turn_back}
use Rattle.lacks.specs.Lacks.{Lacking}

-- a state that no step leads to
module _ {E : ℕ → ℕ → Type 0} (p q : ℕ) (in_p : q ∈ p) (unled : (a : ℕ) → ¬ E a q) where
  not_joined : ¬ Joined E p
  not_joined j = let e = chain_last (j q q in_p in_p) in unled e.0 e.1

  not_covered : {m n : ℕ} → ¬ (q ∈ m) → ¬ Covered E m n p
  not_covered {m} out c = ⊎_elim
      (λ o. ⊎_elim (λ k. out (subst (λ (x : ℕ). x ∈ m) (sym k.0) o.2)) (λ k. let e = chain_last k.0 in unled e.0 e.1) o.4)
      (λ k. out k.0) (c.states q in_p)

module _ {g : Graph} {force : Claims} {pieces i q : ℕ} (is : Lacking g force pieces i q) {inner : Claims} (is_inner : InnerClaims g force (get_or g.sets i 0) inner) where
  pub lacking_joined : ¬ Joined (Hop g inner (get_or g.sets i 0)) (get_or g.sets i 0)
  lacking_joined = not_joined _ q is.has (is.unled inner is_inner)

  -- the states m are entrances
  pub lacking_covered : i ∈ pieces → (m n : ℕ) → m ⊆ get_or g.lefts i 0 → ¬ Covered (Hop g inner (get_or g.sets i 0)) m n (get_or g.sets i 0)
  lacking_covered piece m n entrances = not_covered _ q is.has (is.unled inner is_inner) (λ h. is.unspared piece (entrances q h))

module _ {g back : Graph} (turned : TurnedGraph g back) {force : Claims} {pieces i q : ℕ} (is : Lacking back force pieces i q) {inner : Claims}
    (is_inner : InnerClaims g force (get_or g.sets i 0) inner) where
  has_back : q ∈ get_or g.sets i 0
  has_back = subst (λ (p : ℕ). q ∈ p) (turned.sets_are i) is.has

  unled_back : (a : ℕ) → ¬ Hop back inner (get_or g.sets i 0) a q
  unled_back = subst (λ (p : ℕ). (c : Claims) → InnerClaims back force p c → (a : ℕ) → ¬ Hop back c p a q) (turned.sets_are i) is.unled inner (inner_back turned is_inner)

  pub lacking_joined_back : ¬ Joined (Hop g inner (get_or g.sets i 0)) (get_or g.sets i 0)
  lacking_joined_back j = not_joined _ q has_back unled_back (λ a b ha hb. chain_back (hop_turn turned) (j b a hb ha))

  -- the states n are exits
  pub lacking_covered_back : i ∈ pieces → (m n : ℕ) → n ⊆ get_or g.rights i 0 → ¬ Covered (Hop g inner (get_or g.sets i 0)) m n (get_or g.sets i 0)
  lacking_covered_back piece m n exits c =
      not_covered _ q has_back unled_back (λ h. is.unspared piece (subst (λ (x : ℕ). q ∈ x) (sym (turned.lefts_are i)) (exits q h))) (covered_turn (hop_turn turned) c)

-- of two graphs that are one turned round
pub lacking_same : {g a b : Graph} → TurnedGraph g a → TurnedGraph g b → {force : Claims} {pieces i q : ℕ} → Lacking a force pieces i q → Lacking b force pieces i q
lacking_same {g} {a} {b} to_a to_b {force} {pieces} {i} {q} is = record {
  has = subst (λ (p : ℕ). q ∈ p) same is.has;
  unled = subst (λ (p : ℕ). (inner : Claims) → InnerClaims b force p inner → (s : ℕ) → ¬ Hop b inner p s q) same
      (λ inner j s h. is.unled inner (inner_back to_a (inner_back (turn_back to_b) j)) s (hop_turn to_a q s (hop_back to_b s q h)));
  unspared = λ k h. is.unspared k (subst (λ (m : ℕ). q ∈ m) (to_b.lefts_are i ∙ sym (to_a.lefts_are i)) h);
}
  where
    same : get_or a.sets i 0 ≡ get_or b.sets i 0
    same = to_a.sets_are i ∙ sym (to_b.sets_are i)
