-- `pass_fixed` meets its contract: line by line.
use mathlib.Core.Path.{refl}
use mathlib.Core.List.{List, [], ◌∷◌}
use Prim.Native.Nat.{ℕ}
use Rattle.std.specs.Prelude.{Result, Ok, Err}
use Rattle.std.proofs.lemmas.Result.{err_from_is_err_and}
use Rattle.machine.specs.declared.Refusal.{Refusal}
use Rattle.machine.specs.Text.{text}
use Rattle.machine.specs.Sheet.{line}
use Rattle.hoa_files.specs.Reading.{PassesLine, TellsFixed}
use Rattle.hoa_files.proofs.HeadRead.{Passed, passed_none, passed_more, passed_up_to}
use Rattle.hoa_files.proofs.heads.pass_fixed.Goals as goal

abbrev first : List ℕ
first = text "AP: 0"

abbrev second : List ℕ
second = text "acc-name: Buchi"

abbrev third : List ℕ
third = text "Acceptance: 1 Inf(0)"

abbrev fourth : List ℕ
fourth = text "--BODY--"

module _ (l : List ℕ) (at : ℕ) where
  one : (n : ℕ) → PassesLine l at (line first) (Ok n) → Passed l at (first ∷ []) n
  one n q = passed_more l at [] first (passed_none l at) n q

  two : (k n : ℕ) → PassesLine l at (line first) (Ok k) → PassesLine l k (line second) (Ok n) → Passed l at (first ∷ second ∷ []) n
  two k n p q = passed_more l at (first ∷ []) second (one k p) n q

  three : (j k n : ℕ) → PassesLine l at (line first) (Ok j) → PassesLine l j (line second) (Ok k) → PassesLine l k (line third) (Ok n) → Passed l at (first ∷ second ∷ third ∷ []) n
  three j k n o p q = passed_more l at (first ∷ second ∷ []) third (two j k o p) n q

  last : (n : ℕ) → Passed l at (first ∷ second ∷ third ∷ []) n → (r : Result ℕ Refusal) → PassesLine l n (line fourth) r → TellsFixed l at r
  last n p (Ok next) q = passed_more l at (first ∷ second ∷ third ∷ []) fourth p next q
  last n p (Err r) q = passed_up_to l at (first ∷ second ∷ third ∷ []) fourth p [] r refl q

pub returns-in_err-name : goal.returns-in_err-name
returns-in_err-name c =
    let a = c.args in
    let p = err_from_is_err_and c.from_residual.result c.from_residual.ensures.1 in
    rw (p.1, p.2) (passed_up_to a.file.now a.at [] first (passed_none a.file.now a.at) (second ∷ third ∷ fourth ∷ []) _ refl c.in_err-name.ensures)

pub returns-in_err-acceptance : goal.returns-in_err-acceptance
returns-in_err-acceptance c =
    let a = c.args in
    let p = err_from_is_err_and c.from_residual-in_err-acceptance.result c.from_residual-in_err-acceptance.ensures.1 in
    rw (p.1, p.2)
    (passed_up_to a.file.now a.at (first ∷ []) second (one a.file.now a.at _ c.in_ok-name.ensures) (third ∷ fourth ∷ []) _ refl c.in_err-acceptance.ensures)

pub returns-in_err-body : goal.returns-in_err-body
returns-in_err-body c =
    let a = c.args in
    let p = err_from_is_err_and c.from_residual-in_err-body.result c.from_residual-in_err-body.ensures.1 in
    rw (p.1, p.2)
    (passed_up_to a.file.now a.at (first ∷ second ∷ []) third (two a.file.now a.at _ _ c.in_ok-name.ensures c.in_ok-acceptance.ensures) (fourth ∷ []) _ refl c.in_err-body.ensures)

pub returns : goal.returns
returns c =
    let a = c.args in
    last a.file.now a.at _ (three a.file.now a.at _ _ _ c.in_ok-name.ensures c.in_ok-acceptance.ensures c.in_ok-body.ensures) c.pass-4.result c.pass-4.ensures
