-- A walk written step by step: what is written, and then any steps that follow the layers further down (`take_more`); each step leads to a state
-- (`lead_low`), and its letter, if it has one, is a byte (`byte_letters`).
use Prim.Native.Nat.{ℕ, zero, suc, ◌+◌, ◌-◌, ◌<◌}
use mathlib.Core.Path.{◌≡◌, refl, subst}
use mathlib.Core.Logic.{⊎_elim}
use mathlib.Core.List.Memᴰ
use mathlib.Core.List.{List, [], ◌∷◌, ◌++◌}
use native.Mathlib.Omega.{arith}
use lib.ListN.{length, get_or, set, take}
use Rattle.std.specs.Prelude.{None, Some}
use Rattle.std.proofs.Common.{append_assoc, append-nil}
use Rattle.std.proofs.lemmas.List.{take_more_set}
use Rattle.lists.specs.Tests.{◌among◌}
use Rattle.masks.proofs.Member.{member_lt}
use Rattle.rows.proofs.Keys.{letter_bytes}
use Rattle.orderings.specs.Steps.{Label, letter}
use Rattle.machine.specs.declared.StepLabel.{StepLabel}
use Rattle.machine.specs.declared.StepLabel.TheVariants.{Letter}
use Rattle.machine.specs.declared.Step.{Step}
use Rattle.machine.specs.Labels.{label_of}
use Rattle.search.specs.declared.Claims.{Claims}
use Rattle.search.specs.Graph.{Graph}
use Rattle.walks.specs.Found.{LeadLow, ByteLetters}
use Rattle.walks.specs.Choices.{Way, Chooses}
use Rattle.walks.specs.Walks.{Follows}

module _ (W : ℕ → Label → ℕ → Type 0) (Ordered : Type 0) (layers : List ℕ) (start d : ℕ) where
  -- the first i of d steps are written and lead to a
  abbrev pub Taking : List Step → ℕ → ℕ → Type 0
  Taking steps a i = (l : List Step) → Follows W Ordered layers a (d - i) l → Follows W Ordered layers start d (take i steps ++ l)

  pub take_start : (l : List Step) → Follows W Ordered layers start (d - 0) l → Follows W Ordered layers start d l
  take_start l f = let z : d - 0 ≡ d = omega arith in rw z at f

  pub take_more : (steps : List Step) (a i : ℕ) (t : Step) → i < d → i < length steps → Taking steps a i → Chooses (get_or layers (d - 1 - i) 0) (W a) Ordered (Some t)
      → Taking (set steps i t) t.to (i + 1)
  take_more steps a i t h long now c l f =
      let left : d - i ≡ suc (d - (i + 1)) = omega arith in
      let layer : d - 1 - i ≡ d - (i + 1) = omega arith in
      rw (take_more_set steps i t long, append_assoc) (now (t ∷ l) (rw left (subst (λ (k : ℕ). Chooses (get_or layers k 0) (W a) Ordered (Some t)) layer c, f)))

  -- nothing more is needed after d steps, and nothing more is there where no step leads into the next layer
  pub take_end : (steps : List Step) (a : ℕ) → Taking steps a d → Follows W Ordered layers start d (take d steps)
  take_end steps a now = let z : d - d ≡ 0 = omega arith in rw (← append-nil (take d steps)) (now [] (rw z refl))

  pub take_stop : (steps : List Step) (a i : ℕ) → i < d → Taking steps a i → Chooses (get_or layers (d - 1 - i) 0) (W a) Ordered None → Follows W Ordered layers start d (take i steps)
  take_stop steps a i h now c =
      let left : d - i ≡ suc (d - 1 - i) = omega arith in
      rw (← append-nil (take i steps)) (now [] (rw left c))

-- what holds of each step that is chosen holds of each step of the walk
module _ (W : ℕ → Label → ℕ → Type 0) (Ordered : Type 0) (layers : List ℕ) (P : Step → Type 0)
    (chosen : (k a : ℕ) (t : Step) → Chooses (get_or layers k 0) (W a) Ordered (Some t) → P t) where
  each_step : (k a : ℕ) (l : List Step) → Follows W Ordered layers a k l → (t : Step) → t among l → P t
  each_step zero a l f t m = absurd (Memᴰ.not-nil (subst (λ (x : List Step). t among x) f m))
  each_step (suc k) a [] f t m = absurd (Memᴰ.not-nil m)
  each_step (suc k) a (s ∷ l) f t m = ⊎_elim (λ e. rw e (chosen k a s f.0)) (λ n. each_step k s.to l f.1 t n) (Memᴰ.cases_cons m)

-- each step leads into a layer
pub lead_low : (W : ℕ → Label → ℕ → Type 0) (Ordered : Type 0) (layers : List ℕ) (k a : ℕ) (l : List Step) → Follows W Ordered layers a k l → LeadLow l
lead_low W Ordered layers = each_step W Ordered layers (λ t. t.to < 64) (λ k a t c. member_lt t.to (get_or layers k 0) c.1)

-- the letter of a letter row is a byte
pub way_low : (words : List ℕ) (n : ℕ) (b : Graph) (force : Claims) (a x t : ℕ) → Way words n b force a (letter x) t → x < 256
way_low words n b force a x t (j, h, e) = (letter_bytes (get_or words j 0) e).0

module _ (W : ℕ → Label → ℕ → Type 0) (low : (a x t : ℕ) → W a (letter x) t → x < 256) (Ordered : Type 0) (layers : List ℕ) where
  pub byte_letters : (k a : ℕ) (l : List Step) → Follows W Ordered layers a k l → ByteLetters l
  byte_letters = each_step W Ordered layers (λ t. (x : ℕ) → t.label ≡ Letter x → x < 256)
      (λ k a t c x q. low a x t.to (subst (λ (v : StepLabel). W a (label_of v) t.to) q c.0))
