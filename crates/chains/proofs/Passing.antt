-- A loop over a chain: the places that are left, and what holds of those that are passed.
use Prim.Native.Nat.{ℕ, ◌≤◌}
use mathlib.Core.Path.{◌≡◌, ap, sym, subst, ◌∙◌}
use mathlib.Core.Logic.{◌⊎◌, inl, inr, ⊎_elim}
use mathlib.Core.List.{List}
use native.Mathlib.Omega.{arith}
use lib.ListN.{get_or}
use Rattle.std.specs.Prelude.{Some}
use Rattle.chains.specs.declared.Links.{Links}
use Rattle.chains.specs.Chains.{Chained, on}
use Rattle.chains.specs.Passing.{GivesPlace}
use Rattle.chains.proofs.Linking.{chained_none, chained_cases}

-- `left` are the places of the chain that are left; P holds at each that is not
pub record Passed (P : ℕ → Type 0) (next : List ℕ) (first : ℕ) (left : Links) : Type 0 where
  pub same : left.next.now ≡ next
  pub within : left.link ≤ first
  pub inside : (i : ℕ) → Chained next left.link i → Chained next first i
  pub passed : (i : ℕ) → Chained next first i → Chained next left.link i ⊎ P i

pub passed_from : {P : ℕ → Type 0} {next : List ℕ} {first : ℕ} {a b : Links} → a ≡ b → (b.link ≡ first) × (b.next.now ≡ next) → Passed P next first a
passed_from {next} {first} {a} same is = let link : a.link ≡ first = ap (λ (x : Links). x.link) same ∙ is.0 in record {
  same = ap (λ (x : Links). x.next.now) same ∙ is.1;
  within = omega arith;
  inside = λ i c. subst (λ (l : ℕ). Chained next l i) link c;
  passed = λ i c. inl (subst (λ (l : ℕ). Chained next l i) (sym link) c);
}

pub passed_more : {P Q : ℕ → Type 0} {next : List ℕ} {first at : ℕ} {left left' : Links} → GivesPlace left (Some at) left' → Passed P next first left
    → ((i : ℕ) → P i → Q i) → Q at → Passed Q next first left'
passed_more {Q} {next} {at} {left} {left'} gives now keeps gains =
    let rest : left'.link ≡ get_or next at 0 = gives.1 ∙ ap (λ (l : List ℕ). get_or l at 0) now.same in
    let less : get_or left.next.now at 0 ≤ at = left.falls at (omega (arith, gives.0)) in record {
      same = gives.2 ∙ now.same;
      within = omega (arith, gives.0, gives.1, now.within);
      inside = λ i c. now.inside i (subst (λ (l : ℕ). Chained next l i) (sym gives.0) (on (subst (λ (l : ℕ). Chained next l i) rest c)));
      passed = λ i c. ⊎_elim
          (λ d. ⊎_elim (λ e. inr (subst Q (sym e) gains)) (λ f. inl (subst (λ (l : ℕ). Chained next l i) (sym rest) f)) (chained_cases (subst (λ (l : ℕ). Chained next l i) gives.0 d)))
          (λ p. inr (keeps i p)) (now.passed i c);
    }

pub passed_end : {P : ℕ → Type 0} {next : List ℕ} {first : ℕ} {left : Links} → left.link ≡ 0 → Passed P next first left → (i : ℕ) → Chained next first i → P i
passed_end {next} none now i c = ⊎_elim (λ d. absurd (chained_none (subst (λ (l : ℕ). Chained next l i) none d))) (λ p. p) (now.passed i c)
