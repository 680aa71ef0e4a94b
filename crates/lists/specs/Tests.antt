-- Tests over lists.
use Rattle.std.specs.Prelude.{ℕ, zero, suc, ◌≡◌, Bool, true, false, ◌&&◌, ◌||◌}
use mathlib.Core.List.{List, [], ◌∷◌, ◌++◌, Memᴰ}

-- the test b decides the statement A
pub record Decides (b : Bool) (A : Type 0) : Type 0 where
  pub to : b ≡ true → A
  pub of : A → b ≡ true

-- x is an element of the list
infix 50 ◌among◌
abbrev pub ◌among◌ : {A : Type 0} → A → List A → Type 0
x among l = Memᴰ x l

-- every element of one list is one of the other
infix 50 ◌part_of◌
abbrev pub ◌part_of◌ : {A : Type 0} → List A → List A → Type 0
◌part_of◌ {A} l m = (x : A) → x among l → x among m

-- no element twice
abbrev pub Once : {A : Type 0} → List A → Type 0
Once [] = Unit {0}
Once (x ∷ l) = ¬ (x among l) × Once l

-- some element passes the test
abbrev pub any : {A : Type 0} → (A → Bool) → List A → Bool
any f [] = false
any f (x ∷ l) = f x || any f l

-- every element passes the test
abbrev pub all : {A : Type 0} → (A → Bool) → List A → Bool
all f [] = true
all f (x ∷ l) = f x && all f l

abbrev pub put : {A : Type 0} → Bool → A → List A → List A
put true x l = x ∷ l
put false x l = l

-- the elements that pass the test
abbrev pub keep : {A : Type 0} → (A → Bool) → List A → List A
keep f [] = []
keep f (x ∷ l) = put (f x) x (keep f l)

-- the lists of all elements, one after another
abbrev pub gather : {A B : Type 0} → (A → List B) → List A → List B
gather f [] = []
gather f (x ∷ l) = f x ++ gather f l

-- n numbers from a on
abbrev pub range : ℕ → ℕ → List ℕ
range a zero = []
range a (suc n) = a ∷ range (suc a) n
