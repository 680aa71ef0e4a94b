-- An answer as a number and a place, of the outcome that it tells: `codes_done`, `codes_wrote`, `codes_decided`, `codes_refused`; a refusal of any
-- number (`coded_refusal`).
use Prim.Native.Nat.{ℕ, ◌*◌}
use mathlib.Core.Path.{◌≡◌, refl, ap, sym, ◌∙◌}
use mathlib.Core.List.{List}
use native.Mathlib.Omega.{arith}
use Rattle.std.specs.Prelude.{Ok, Err}
use Rattle.causes.specs.Numbers.{number_of}
use Rattle.machine.specs.declared.Success.TheVariants.{Done, Wrote, Decided}
use Rattle.machine.specs.declared.Refusal.{Refusal}
use Rattle.machine.specs.declared.Verdict.{Verdict}
use Rattle.machine.specs.Calls.{Answer, Outcome, done, wrote, decided, refused, Returned, returned, due, Tells}
use Rattle.machine.proofs.Answers.{done_by, wrote_by, decided_by}
use Rattle.codes.specs.Coding.{code_of, place_after, Coded, Codes, CodesRefusal, CodedIn}

-- an outcome is a refusal, where what is due for it is due for one
refused_due : (o : Outcome) (n place : ℕ) → due (refused n place) ≡ due o → o ≡ refused n place
refused_due done n place e = let v = ap (λ (x : Returned). x.number) e in let z : ◌≡◌ {A = ℕ} 0 1 = cc in absurd (omega arith)
refused_due (wrote l) n place e = let v = ap (λ (x : Returned). x.number) e in let z : ◌≡◌ {A = ℕ} 0 1 = cc in absurd (omega arith)
refused_due (decided v) n place e = let w = ap (λ (x : Returned). x.number) e in let z : ◌≡◌ {A = ℕ} 0 1 = cc in absurd (omega arith)
refused_due (refused k at) n place e =
    let v = ap (λ (x : Returned). x.number) e in let w = ap (λ (x : Returned). x.values) e in let i : k ≡ n = cc in let j : at ≡ place = cc in cc

module _ (before : ℕ) where
  coded : {o : Outcome} (q : Outcome) (after r : ℕ) → o ≡ q → r ≡ code_of q → after ≡ place_after q before → Coded o before after r
  coded q after r e i j = rw e (record { code_is = i; place_is = j })

  -- a refusal of any number
  pub coded_refusal : (n place : ℕ) → CodesRefusal n place before place (n * 4294967296)
  coded_refusal n place o h = coded (refused n place) place (n * 4294967296) (refused_due o n place h) refl refl

  module _ (a : Answer) where
    pub codes_done : a ≡ Ok Done → Codes a before before 0
    codes_done e o h = coded done before 0 (done_by o (sym h ∙ ap returned e)) refl refl

    pub codes_wrote : (n : ℕ) → a ≡ Ok (Wrote n) → Codes a before before n
    codes_wrote n e o h = let w = wrote_by o n (sym h ∙ ap returned e) in coded (wrote w.0) before n w.1 w.2 refl

    pub codes_decided : (v : Verdict) → a ≡ Ok (Decided v) → Codes a before before (code_of (decided v))
    codes_decided v e o h = coded (decided v) before (code_of (decided v)) (decided_by o v (sym h ∙ ap returned e)) refl refl

    pub codes_refused : (r : Refusal) → a ≡ Err r → Codes a before r.place (number_of r.cause * 4294967296)
    codes_refused r e o h = coded_refusal (number_of r.cause) r.place o (sym (ap returned e) ∙ h)

-- an outcome that is told, with its buffer
pub coded_in : (o : Outcome) (old new : List ℕ) (a : Answer) → Tells o old new a → (before after r : ℕ) → Codes a before after r → CodedIn o old new before after r
coded_in o old new a k before after r h = let d = h o k.answer_is in record { code_is = d.code_is; buffer_is = k.buffer_is; place_is = d.place_is }
