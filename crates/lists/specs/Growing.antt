-- A list that grows by the candidates that pass a test on what the list has.
use Rattle.std.specs.Prelude.{ℕ, zero, suc, Bool, ◌||◌, List, []}
use Rattle.lists.specs.Tests.{any, keep}

abbrev pub grow : {A : Type 0} → (A → A → Bool) → List A → (List A → A → Bool) → List A → List A
grow eq all test l = keep (λ x. any (eq x) l || test l x) all

-- after n rounds, from nothing
abbrev pub grown : {A : Type 0} → (A → A → Bool) → List A → (List A → A → Bool) → ℕ → List A
grown eq all test zero = []
grown eq all test (suc n) = grow eq all test (grown eq all test n)
