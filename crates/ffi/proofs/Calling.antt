-- Calls coded: of a batch, of an HOA file, of a verdict, and of an expression in the front of its buffer.
use Prim.Native.Nat.{ℕ, ◌≤◌}
use mathlib.Core.Path.{◌≡◌, ap, sym, ◌∙◌}
use mathlib.Core.List.{List, ◌++◌}
use lib.ListN.{length, take, drop}
use lib.Seq.{length-take-le}
use Rattle.rows.specs.Rows.{batch_of}
use Rattle.machine.specs.Calls.{Answer}
use Rattle.machine.specs.Calls.{Outcome, refused, written, buffer_after}
use Rattle.machine.proofs.Answers.{front_after}
use Rattle.machine.specs.Program.{outcome, batch_verdict, batch_expression}
use Rattle.codes.specs.Coding.{code_of, place_after, Codes}
use Rattle.codes.proofs.Coding.{coded_in}
use Rattle.checker.specs.Promise.{Checks, GivesVerdict, GivesExpression}
use Rattle.hoa_files.specs.Promise.{Converts}
use Rattle.ffi.specs.Promise.{Called, CalledVerdict, lent, CalledExpression, CalledHoa}

-- of the check of a batch
pub called : (batch old new : List ℕ) (a : Answer) → Checks batch old new a → (before after r : ℕ) → Codes a before after r → Called batch old new before after r
called batch old new a k before after r h = coded_in (outcome batch (length old)) old new a k before after r h

-- of an HOA file
pub called_hoa : (file old new : List ℕ) (a : Answer) → Converts file old new a → (before after r : ℕ) → Codes a before after r → CalledHoa file old new before after r
called_hoa file old new a k before after r h =
    record {
      some_outcome = k.some_outcome;
      accepted = λ rows t. coded_in (written (length old) (batch_of rows)) old new a (k.accepted rows t) before after r h;
      refuses = λ n place t. coded_in (refused n place) old new a (k.refuses n place t) before after r h;
    }

-- of its verdict
pub called_verdict : (batch : List ℕ) (a : Answer) → GivesVerdict batch a → (before after r : ℕ) → Codes a before after r → CalledVerdict batch before after r
called_verdict batch a k before after r h = h (batch_verdict batch) k.answer_is

-- of its expression, which is written into the front of the buffer
pub called_expression : (batch old part : List ℕ) (n : ℕ) → n ≡ lent (length old) → n ≤ length old → length part ≡ length (take n old)
    → (a : Answer) → GivesExpression batch (take n old) part a → (before after r : ℕ) → Codes a before after r → CalledExpression batch old (part ++ drop n old) before after r
called_expression batch old part n e f same a k before after r h =
    let size : length (take n old) ≡ lent (length old) = length-take-le n old f ∙ e in
    let o = batch_expression batch (length (take n old)) in
    let is : o ≡ batch_expression batch (lent (length old)) = ap (batch_expression batch) size in
    let d = h o k.answer_is in
    record {
      code_is = d.code_is ∙ ap code_of is;
      buffer_is =
          ap (λ (l : List ℕ). l ++ drop n old) k.buffer_is ∙ front_after o old n (ap length (sym k.buffer_is) ∙ same) ∙ ap (λ (x : Outcome). buffer_after x old) is;
      place_is = d.place_is ∙ ap (λ (x : Outcome). place_after x before) is;
    }
