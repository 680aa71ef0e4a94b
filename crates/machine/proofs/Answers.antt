-- What the machine came to, from what the engine answered; and a text that is written, or for which the buffer is too short.
use Prim.Native.Nat.{ℕ, ◌<◌, ◌≤◌}
use mathlib.Core.Path.{◌≡◌, refl, ap, sym, ◌∙◌}
use mathlib.Core.List.{List, [], ◌∷◌, ◌++◌, append_assoc}
use lib.ListN.{length, take, drop, length-append, length-drop, take-append-drop}
use lib.Seq.{take_at, drop-append-le}
use native.Mathlib.Omega.{arith}
use borrow.Author.Tests.{lt-ltb, le-ltb}
use types.Run.{OneOf, miss}
use denote.Enum.Declared.{tag_of}
use Rattle.std.specs.Prelude.{Ok, Err}
use Rattle.causes.specs.declared.Cause.{Cause}
use Rattle.causes.specs.declared.Cause.TheVariants.{ShortBuffer}
use Rattle.causes.specs.Numbers.{number_of}
use Rattle.causes.proofs.Numbers.{cause_of, cause_back}
use Rattle.lists.specs.Writing as Writing
use Rattle.machine.specs.declared.Verdict.{Verdict}
use Rattle.machine.specs.declared.Success.TheVariants.{Done, Wrote, Decided}
use Rattle.machine.specs.declared.Refusal.{Refusal}
use Rattle.machine.specs.contracts.Success.{the_type}
use Rattle.machine.specs.Calls.{Outcome, done, wrote, decided, refused, Returned, Answer, returned, due, buffer_after, Tells, TellsText}

-- ---- an outcome from the number and values that are due for it

number_is : {a b : Returned} → a ≡ b → a.number ≡ b.number
number_is e = ap (λ (x : Returned). x.number) e

values_are : {a b : Returned} → a ≡ b → a.values ≡ b.values
values_are e = ap (λ (x : Returned). x.values) e

verdict_is : {a b : Returned} → a ≡ b → a.verdict ≡ b.verdict
verdict_is e = ap (λ (x : Returned). x.verdict) e

pub done_by : (o : Outcome) → due o ≡ returned (Ok Done) → o ≡ done
done_by done e = refl
done_by (wrote l) e = let v = values_are e in let z : ◌≡◌ {A = ℕ} 0 1 = cc in absurd (omega arith)
done_by (decided w) e = let v = verdict_is e in let z : ◌≡◌ {A = ℕ} 0 1 = cc in absurd (omega arith)
done_by (refused n place) e = let v = values_are e in let z : ◌≡◌ {A = ℕ} 0 1 = cc in absurd (omega arith)

pub wrote_by : (o : Outcome) (n : ℕ) → due o ≡ returned (Ok (Wrote n)) → (l : List ℕ) × (o ≡ wrote l) × (n ≡ length l)
wrote_by done n e = let v = values_are e in let z : ◌≡◌ {A = ℕ} 0 1 = cc in absurd (omega arith)
wrote_by (wrote l) n e = let v = values_are e in (l, refl, cc)
wrote_by (decided w) n e = let v = values_are e in let z : ◌≡◌ {A = ℕ} 0 1 = cc in absurd (omega arith)
wrote_by (refused k place) n e = let v = number_is e in let z : ◌≡◌ {A = ℕ} 0 1 = cc in absurd (omega arith)

pub decided_by : (o : Outcome) (v : Verdict) → due o ≡ returned (Ok (Decided v)) → o ≡ decided v
decided_by done v e = let w = verdict_is e in let z : ◌≡◌ {A = ℕ} 0 1 = cc in absurd (omega arith)
decided_by (wrote l) v e = let w = verdict_is e in let z : ◌≡◌ {A = ℕ} 0 1 = cc in absurd (omega arith)
decided_by (decided u) v e = let w = verdict_is e in let i : u ≡ v = cc in cc
decided_by (refused n place) v e = let w = number_is e in let z : ◌≡◌ {A = ℕ} 0 1 = cc in absurd (omega arith)

abbrev pub refusal : Cause → ℕ → Refusal
refusal cause place = record { cause = cause; place = place }

pub refused_by : (o : Outcome) (r : Refusal) → due o ≡ returned (Err r) → o ≡ refused (number_of r.cause) r.place
refused_by done r e = let v = number_is e in let z : ◌≡◌ {A = ℕ} 0 1 = cc in absurd (omega arith)
refused_by (wrote l) r e = let v = number_is e in let z : ◌≡◌ {A = ℕ} 0 1 = cc in absurd (omega arith)
refused_by (decided w) r e = let v = number_is e in let z : ◌≡◌ {A = ℕ} 0 1 = cc in absurd (omega arith)
refused_by (refused k at) r e = let v = number_is e in let w = values_are e in let i : k ≡ number_of r.cause = cc in let j : at ≡ r.place = cc in cc

-- ---- the answer of an outcome: the only one with the number and values that are due

abbrev pub answer_of : Outcome → Answer
answer_of done = Ok Done
answer_of (wrote l) = Ok (Wrote (length l))
answer_of (decided v) = Ok (Decided v)
answer_of (refused n place) = Err (refusal (cause_of n) place)

-- a number is that of a cause, and so is the number of an outcome, if it has one
abbrev pub Numbered : ℕ → Type 0
Numbered n = number_of (cause_of n) ≡ n

abbrev pub Known : Outcome → Type 0
Known done = Unit {0}
Known (wrote l) = Unit {0}
Known (decided v) = Unit {0}
Known (refused n place) = Numbered n

pub answer_returns : (o : Outcome) → Known o → returned (answer_of o) ≡ due o
answer_returns done k = refl
answer_returns (wrote l) k = refl
answer_returns (decided v) k = refl
answer_returns (refused n place) k = rw k

pub answer_due : (o : Outcome) (r : Answer) → returned r ≡ due o → r ≡ answer_of o
answer_due o r h = by r (sym h)
  where
    by : (r : Answer) → due o ≡ returned r → r ≡ answer_of o
    by (Ok Done) e = ap answer_of (sym (done_by o e))
    by (Ok (Wrote n)) e = let w = wrote_by o n e in ap (λ (n : ℕ). Ok (Wrote n)) w.2 ∙ ap answer_of (sym w.1)
    by (Ok (Decided v)) e = ap answer_of (sym (decided_by o v e))
    by (Err r) e = ap (λ (c : Cause). Err (refusal c r.place)) (sym (cause_back r.cause)) ∙ ap answer_of (sym (refused_by o r e))

pub answer_by : {o : Outcome} {old new : List ℕ} {r : Answer} → Tells o old new r → r ≡ answer_of o
answer_by {o} {old} {new} {r} t = answer_due o r t.answer_is

-- the text of a call that wrote, at the front of the buffer
pub text_by : {o : Outcome} {old new : List ℕ} {r : Answer} → Tells o old new r → (n : ℕ) → r ≡ Ok (Wrote n) → (l : List ℕ) × (o ≡ wrote l) × (n ≡ length l) × (take n new ≡ l)
text_by {o} {old} {new} t n e = let w = wrote_by o n (sym t.answer_is ∙ ap returned e) in
    (w.0, w.1, w.2, ap (take n) (t.buffer_is ∙ ap (λ (x : Outcome). buffer_after x old) w.1) ∙ take_at w.0 (drop (length w.0) old) n (sym w.2))

-- answers that are not done
pub wrote_not_done : {r : Answer} {n : ℕ} → r ≡ Ok (Wrote n) → r ≡ Ok Done → ⊥
wrote_not_done e d = let z : ◌≡◌ {A = ℕ} 0 1 = cc in omega arith

pub decided_not_done : {r : Answer} {v : Verdict} → r ≡ Ok (Decided v) → r ≡ Ok Done → ⊥
decided_not_done e d = let z : ◌≡◌ {A = ℕ} 0 1 = cc in omega arith

pub refused_not_done : {r : Answer} {refused : Refusal} → r ≡ Err refused → r ≡ Ok Done → ⊥
refused_not_done e d = let z : ◌≡◌ {A = ℕ} 0 1 = cc in omega arith

-- nor is one of any other case: a success of another tag, or a refusal
abbrev pub IsOther : Answer → Type 0
IsOther (Ok s) = OneOf (1 ∷ 2 ∷ []) (tag_of the_type s)
IsOther (Err r) = Unit {0}

pub other_not_done : {a : Answer} → IsOther a → a ≡ Ok Done → ⊥
other_not_done k e = miss (1 ∷ 2 ∷ []) 0 tt (rw e at k)

-- an outcome, told in other words
pub tells_as : {o q : Outcome} {old new : List ℕ} {r : Answer} → o ≡ q → Tells o old new r → Tells q old new r
tells_as e t = rw e at t

-- a refusal, with the buffer as it was
pub tells_refused : (cause : Cause) (place : ℕ) (old : List ℕ) → Tells (refused (number_of cause) place) old old (Err (refusal cause place))
tells_refused cause place old = record { answer_is = refl; buffer_is = refl }

-- a verdict, which leaves the buffer too
pub tells_decided : (v : Verdict) (old : List ℕ) → Tells (decided v) old old (Ok (Decided v))
tells_decided v old = record { answer_is = refl; buffer_is = refl }

-- what is left where the front of a buffer is lent, said of the whole buffer
pub front_after : (o : Outcome) (old : List ℕ) (n : ℕ) → length (buffer_after o (take n old)) ≡ length (take n old) → buffer_after o (take n old) ++ drop n old ≡ buffer_after o old
front_after done old n h = take-append-drop n old
front_after (wrote l) old n h =
    let e = simp (length-append, length-drop) at h in
    append_assoc l (drop (length l) (take n old)) (drop n old)
    ∙ ap (λ (r : List ℕ). l ++ r) (sym (drop-append-le (length l) (take n old) (drop n old) (omega arith)) ∙ ap (drop (length l)) (take-append-drop n old))
front_after (decided v) old n h = take-append-drop n old
front_after (refused k place) old n h = take-append-drop n old

-- a text that fits, and one for which the buffer is too short
module _ (text old : List ℕ) where
  pub tells_text : {new : List ℕ} {n : ℕ} → length text ≤ length old → Writing.Wrote text old new n → TellsText text old new (Ok (Wrote n))
  tells_text h w = rw (le-ltb (length old) (length text) h) (record { answer_is = ap (λ (n : ℕ). returned (Ok (Wrote n))) w.length_is; buffer_is = w.bytes_are })

  pub tells_short : length old < length text → TellsText text old old (Err (refusal ShortBuffer 0))
  tells_short h = rw (lt-ltb (length old) (length text) h) (tells_refused ShortBuffer 0 old)
