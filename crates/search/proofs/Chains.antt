-- Chains of steps.
use Prim.Native.Nat.{ℕ}
use mathlib.Core.Logic.{◌⊎◌, inl, inr, ⊎_elim}
use Rattle.masks.specs.Mask.{◌∈◌, ◌⊆◌}
use Rattle.search.specs.Hops.{Chain, one, more, Between, Covered}

pub chain_append : {E : ℕ → ℕ → Type 0} {a b c : ℕ} → Chain E a b → Chain E b c → Chain E a c
chain_append v (one e) = more v e
chain_append v (more w e) = more (chain_append v w) e

-- where each step is one of another kind, or one turned round, so is a chain
pub chain_map : {E F : ℕ → ℕ → Type 0} → ((a b : ℕ) → E a b → F a b) → {a b : ℕ} → Chain E a b → Chain F a b
chain_map f (one e) = one (f _ _ e)
chain_map f (more w e) = more (chain_map f w) (f _ _ e)

pub chain_back : {E F : ℕ → ℕ → Type 0} → ((a b : ℕ) → E a b → F b a) → {a b : ℕ} → Chain E a b → Chain F b a
chain_back f (one e) = one (f _ _ e)
chain_back f (more w e) = chain_append (one (f _ _ e)) (chain_back f w)

pub chain_end : {E : ℕ → ℕ → Type 0} (p : ℕ) → ((a b : ℕ) → E a b → b ∈ p) → {a b : ℕ} → Chain E a b → b ∈ p
chain_end p f (one e) = f _ _ e
chain_end p f (more w e) = f _ _ e

-- a chain from a state of m whose steps stay in r
pub chain_in : {E : ℕ → ℕ → Type 0} (m r : ℕ) → ((a b : ℕ) → (a ∈ m) ⊎ (a ∈ r) → E a b → b ∈ r) → {a b : ℕ} → a ∈ m → Chain E a b → b ∈ r
chain_in m r f {a} {b} h (one e) = f a b (inl h) e
chain_in m r f {a} {b} h (more {b = k} w e) = f k b (inr (chain_in m r f h w)) e

-- a chain begins with a step, and ends with one
pub chain_first : {E : ℕ → ℕ → Type 0} {a b : ℕ} → Chain E a b → (k : ℕ) × E a k
chain_first (one e) = (_, e)
chain_first (more c e) = chain_first c

pub chain_last : {E : ℕ → ℕ → Type 0} {a b : ℕ} → Chain E a b → (k : ℕ) × E k b
chain_last (one e) = (_, e)
chain_last (more c e) = (_, e)

-- where each step is one of another kind, what lies between on chains does so on those, and so is what they cover
module _ {E F : ℕ → ℕ → Type 0} (f : (a b : ℕ) → E a b → F a b) where
  pub between_map : (a b s : ℕ) → Between E a b s → Between F a b s
  between_map a b s = ⊎_elim (λ k. inl (k.0, chain_map f k.1)) (λ k. inr (chain_map f k.0, ⊎_elim inl (λ c. inr (chain_map f c)) k.1))

  pub covered_map : (m n m' n' p : ℕ) → m ⊆ m' → n ⊆ n' → Covered E m n p → Covered F m' n' p
  covered_map m n m' n' p g h c = record {
    states = λ s i. ⊎_elim (λ (a, b, ha, hb, o). inl (a, b, g a ha, h b hb, between_map a b s o)) (λ x. inr (g s x.0, h s x.1)) (c.states s i);
    chain = let x = c.chain in (x.0, x.1, g x.0 x.2, h x.1 x.3, chain_map f x.4);
  }

-- where each step is one turned round, what lies between on chains, and what they cover, does so the other way round
module _ {E F : ℕ → ℕ → Type 0} (f : (a b : ℕ) → E a b → F b a) where
  between_turn : (a b s : ℕ) → Between E a b s → Between F b a s
  between_turn a b s (inl (e, c)) = inr (chain_back f c, inl e)
  between_turn a b s (inr (c, inl e)) = inl (e, chain_back f c)
  between_turn a b s (inr (c, inr d)) = inr (chain_back f d, inr (chain_back f c))

  pub covered_turn : {m n p : ℕ} → Covered E m n p → Covered F n m p
  covered_turn h = record {
    states = λ s i. ⊎_elim (λ o. inl (o.1, o.0, o.3, o.2, between_turn o.0 o.1 s o.4)) (λ g. inr (g.1, g.0)) (h.states s i);
    chain = let c = h.chain in (c.1, c.0, c.3, c.2, chain_back f c.4);
  }
