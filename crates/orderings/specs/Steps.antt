-- Document 01, "Steps and claims", with request C-18 of struck states: claims, steps with their contents, and walks.
use Rattle.std.specs.Prelude.{ℕ, ◌≡◌, ◌⊎◌, List, [], ◌∷◌}
use Rattle.std.proofs.Math.Option.{Option, none, some}
use Rattle.lists.specs.Tests.{◌among◌, keep, range}
use Rattle.masks.specs.Mask.{member, ◌∈◌}
use Rattle.rows.specs.declared.Row.{Row}
use Rattle.rows.specs.declared.Row.TheVariants.{Successor, LeftLimit, RightLimit, Strike}

-- "P loops", "P mixes"
pub data Claim : Type 0 where
  loops mixes : ℕ → Claim
  deriving Discrete as Claim-discrete

-- the set that a claim is about
abbrev pub set_of : Claim → ℕ
set_of (loops P) = P
set_of (mixes P) = P

-- letter, omega, back and mix, with the letter or the set
pub data Label : Type 0 where
  letter ω back mix : ℕ → Label

-- a step goes from a state to a state
pub record Step : Type 0 where
  pub from : ℕ
  pub label : Label
  pub to : ℕ

-- what a step from p to q asks of the standing rows
abbrev pub HasRows : List Row → ℕ → Label → ℕ → Type 0
HasRows rows p (letter a) q = Successor p a q among rows
HasRows rows p (ω P) q = LeftLimit P q among rows × (p ∈ P)
HasRows rows p (back P) q = RightLimit p P among rows × (q ∈ P)
HasRows rows p (mix P) q = RightLimit p P among rows × LeftLimit P q among rows

-- the claim that a step needs
abbrev pub needs : Label → Option Claim
needs (letter a) = none
needs (ω P) = some (loops P)
needs (back P) = some (loops P)
needs (mix P) = some (mixes P)

-- the states of P
unfoldable pub members : ℕ → List ℕ
members P = keep (λ s. member s P) (range 0 64)

-- the content of a step from p to q
abbrev pub content : ℕ → Label → ℕ → List ℕ
content p (letter a) q = p ∷ q ∷ []
content p (ω P) q = q ∷ members P
content p (back P) q = p ∷ members P
content p (mix P) q = q ∷ p ∷ members P

-- request C-18: a row of kind 6 with a state strikes it
abbrev pub Struck : List Row → ℕ → Type 0
Struck rows s = Strike s among rows

-- none of the states is struck
abbrev pub Unstruck : List Row → List ℕ → Type 0
Unstruck rows l = (s : ℕ) → s among l → ¬ Struck rows s

-- the step exists: a step whose content holds a struck state doesn't
abbrev pub Possible : List Row → ℕ → Label → ℕ → Type 0
Possible rows p l q = HasRows rows p l q × Unstruck rows (content p l q)

-- a walk is a list of steps
abbrev pub Walk : Type 0
Walk = List Step

-- each starting where the one before ended: the walk leads from a to b
abbrev pub Leads : ℕ → Walk → ℕ → Type 0
Leads a [] b = a ≡ b
Leads a (t ∷ w) b = (t.from ≡ a) × Leads t.to w b

-- inside P: every content is a subset of P
abbrev pub Inside : ℕ → Walk → Type 0
Inside P [] = Unit {0}
Inside P (t ∷ w) = ((s : ℕ) → s among content t.from t.label t.to → s ∈ P) × Inside P w

-- s lies on the walk from a, ends included
abbrev pub On : ℕ → ℕ → Walk → Type 0
On s a [] = s ≡ a
On s a (t ∷ w) = (s ≡ a) ⊎ On s t.to w
